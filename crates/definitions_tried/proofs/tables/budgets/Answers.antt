use Rattle.std.proofs.Common.{refl, inl}
use Rattle.filter_table.specs.Tables.{table, after, Allowed}
use Rattle.definitions_tried.proofs.Verdicts.{arp-sound}
use Rattle.definitions_tried.proofs.tables.budgets.Goals as goal

pub returns-clause-within : goal.returns-clause-within
unfolding table after Allowed
returns-clause-within c = inl (arp-sound, refl)

pub returns-clause-one_too_few : goal.returns-clause-one_too_few
unfolding table after Allowed
returns-clause-one_too_few c = refl

pub returns-clause-second_within : goal.returns-clause-second_within
unfolding table after Allowed
returns-clause-second_within c = inl (arp-sound, refl)

pub returns-clause-second_one_too_few : goal.returns-clause-second_one_too_few
unfolding table after Allowed
returns-clause-second_one_too_few c = refl

pub returns-clause-in_place_of_the_old : goal.returns-clause-in_place_of_the_old
unfolding table after Allowed
returns-clause-in_place_of_the_old c = inl (arp-sound, refl)

pub returns-clause-in_place_one_too_few : goal.returns-clause-in_place_one_too_few
unfolding table after Allowed
returns-clause-in_place_one_too_few c = refl
