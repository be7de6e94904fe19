use Rattle.std.proofs.Common.{refl, inl}
use Rattle.filter_table.specs.Tables.{table, after, Allowed}
use Rattle.definitions_tried.proofs.Verdicts.{arp-sound}
use Rattle.definitions_tried.proofs.tables.bounds.Goals as goal

pub returns-clause-one_more_of_1024 : goal.returns-clause-one_more_of_1024
unfolding table after Allowed
returns-clause-one_more_of_1024 c = inl (arp-sound, refl)

pub returns-clause-none_more_than_1024 : goal.returns-clause-none_more_than_1024
unfolding table after Allowed
returns-clause-none_more_than_1024 c = refl

pub returns-clause-the_last_version : goal.returns-clause-the_last_version
unfolding table after Allowed
returns-clause-the_last_version c = refl

pub returns-clause-no_version_after_it : goal.returns-clause-no_version_after_it
unfolding table after Allowed
returns-clause-no_version_after_it c = refl

pub returns-clause-not_replaced_without_its_capability : goal.returns-clause-not_replaced_without_its_capability
unfolding table after Allowed
returns-clause-not_replaced_without_its_capability c = refl

pub returns-clause-removed_alone : goal.returns-clause-removed_alone
unfolding table after Allowed
returns-clause-removed_alone c = refl
