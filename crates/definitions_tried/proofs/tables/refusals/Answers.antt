use Rattle.std.proofs.Common.{refl}
use Rattle.filter_table.specs.Tables.{table, after, Allowed}
use Rattle.definitions_tried.proofs.tables.refusals.Goals as goal

pub returns-clause-endpoint_taken : goal.returns-clause-endpoint_taken
unfolding table after Allowed
returns-clause-endpoint_taken c = refl

pub returns-clause-no_cap_to_revoke : goal.returns-clause-no_cap_to_revoke
unfolding table after Allowed
returns-clause-no_cap_to_revoke c = refl

pub returns-clause-not_held_to_revoke : goal.returns-clause-not_held_to_revoke
unfolding table after Allowed
returns-clause-not_held_to_revoke c = refl

pub returns-clause-no_cap_to_drop : goal.returns-clause-no_cap_to_drop
unfolding table after Allowed
returns-clause-no_cap_to_drop c = refl

pub returns-clause-not_held_to_drop : goal.returns-clause-not_held_to_drop
unfolding table after Allowed
returns-clause-not_held_to_drop c = refl

pub returns-clause-no_cap_to_install : goal.returns-clause-no_cap_to_install
unfolding table after Allowed
returns-clause-no_cap_to_install c = refl

pub returns-clause-not_held_to_install : goal.returns-clause-not_held_to_install
unfolding table after Allowed
returns-clause-not_held_to_install c = refl

pub returns-clause-no_filter_to_remove : goal.returns-clause-no_filter_to_remove
unfolding table after Allowed
returns-clause-no_filter_to_remove c = refl

pub returns-clause-not_owned_to_remove : goal.returns-clause-not_owned_to_remove
unfolding table after Allowed
returns-clause-not_owned_to_remove c = refl

pub returns-clause-no_filter_to_replace : goal.returns-clause-no_filter_to_replace
unfolding table after Allowed
returns-clause-no_filter_to_replace c = refl

pub returns-clause-not_owned_to_replace : goal.returns-clause-not_owned_to_replace
unfolding table after Allowed
returns-clause-not_owned_to_replace c = refl

pub returns-clause-last_id_of_a_cap : goal.returns-clause-last_id_of_a_cap
returns-clause-last_id_of_a_cap c = refl

pub returns-clause-no_id_of_a_cap : goal.returns-clause-no_id_of_a_cap
returns-clause-no_id_of_a_cap c = refl

pub returns-clause-no_id_of_a_filter : goal.returns-clause-no_id_of_a_filter
unfolding table after Allowed
returns-clause-no_id_of_a_filter c = refl
