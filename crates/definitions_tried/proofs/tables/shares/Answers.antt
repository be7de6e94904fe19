use Rattle.std.proofs.Common.{refl, inl}
use Rattle.filter_table.specs.Tables.{table, after, Allowed}
use Rattle.definitions_tried.proofs.Verdicts.{arp-sound}
use Rattle.definitions_tried.proofs.tables.shares.Goals as goal

pub returns-clause-share_of_capabilities : goal.returns-clause-share_of_capabilities
unfolding table after Allowed
returns-clause-share_of_capabilities c = refl

pub returns-clause-another_domain : goal.returns-clause-another_domain
unfolding table after Allowed
returns-clause-another_domain c = refl

pub returns-clause-again_after_a_drop : goal.returns-clause-again_after_a_drop
unfolding table after Allowed
returns-clause-again_after_a_drop c = refl

pub returns-clause-full_for_all : goal.returns-clause-full_for_all
unfolding table after Allowed
returns-clause-full_for_all c = refl

pub returns-clause-counts_for_its_maker : goal.returns-clause-counts_for_its_maker
unfolding table after Allowed
returns-clause-counts_for_its_maker c = refl

pub returns-clause-not_minted_further : goal.returns-clause-not_minted_further
unfolding table after Allowed
returns-clause-not_minted_further c = refl

pub returns-clause-not_for_its_holder : goal.returns-clause-not_for_its_holder
unfolding table after Allowed
returns-clause-not_for_its_holder c = refl

pub returns-clause-minted_from_a_held_one : goal.returns-clause-minted_from_a_held_one
unfolding table after Allowed
returns-clause-minted_from_a_held_one c = refl

pub returns-clause-share_of_filters : goal.returns-clause-share_of_filters
unfolding table after Allowed
returns-clause-share_of_filters c = refl

pub returns-clause-again_after_a_removal : goal.returns-clause-again_after_a_removal
unfolding table after Allowed
returns-clause-again_after_a_removal c = inl (arp-sound, refl)

pub returns-clause-share_of_instructions : goal.returns-clause-share_of_instructions
unfolding table after Allowed
returns-clause-share_of_instructions c = refl

pub returns-clause-replaced_within : goal.returns-clause-replaced_within
unfolding table after Allowed
returns-clause-replaced_within c = inl (arp-sound, refl)

pub returns-clause-share_before_the_budget : goal.returns-clause-share_before_the_budget
unfolding table after Allowed
returns-clause-share_before_the_budget c = refl

pub returns-clause-instructions_of_another : goal.returns-clause-instructions_of_another
unfolding table after Allowed
returns-clause-instructions_of_another c = inl (arp-sound, refl)
