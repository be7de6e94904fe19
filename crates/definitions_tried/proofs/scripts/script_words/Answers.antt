use Rattle.std.proofs.Common.{refl}
use Rattle.mk_script.specs.Rows.{command_of, event_of}
use Rattle.definitions_tried.proofs.scripts.script_words.Goals as goal

pub returns-clause-most_cores : goal.returns-clause-most_cores
unfolding command_of event_of
returns-clause-most_cores c = refl

pub returns-clause-no_65_cores : goal.returns-clause-no_65_cores
unfolding command_of event_of
returns-clause-no_65_cores c = refl

pub returns-clause-of_limits : goal.returns-clause-of_limits
unfolding command_of event_of
returns-clause-of_limits c = refl

pub returns-clause-of_a_mint : goal.returns-clause-of_a_mint
unfolding command_of event_of
returns-clause-of_a_mint c = refl

pub returns-clause-no_such_rights : goal.returns-clause-no_such_rights
unfolding command_of event_of
returns-clause-no_such_rights c = refl

pub returns-clause-too_few_words : goal.returns-clause-too_few_words
unfolding command_of event_of
returns-clause-too_few_words c = refl

pub returns-clause-of_a_short_take : goal.returns-clause-of_a_short_take
unfolding command_of event_of
returns-clause-of_a_short_take c = refl

pub returns-clause-not_for_threads : goal.returns-clause-not_for_threads
unfolding command_of event_of
returns-clause-not_for_threads c = refl

pub returns-clause-of_a_trace : goal.returns-clause-of_a_trace
unfolding command_of event_of
returns-clause-of_a_trace c = refl

pub returns-clause-no_request_in_a_trace : goal.returns-clause-no_request_in_a_trace
unfolding command_of event_of
returns-clause-no_request_in_a_trace c = refl

pub returns-clause-longest_name : goal.returns-clause-longest_name
unfolding command_of event_of
returns-clause-longest_name c = refl

pub returns-clause-too_long_a_name : goal.returns-clause-too_long_a_name
unfolding command_of event_of
returns-clause-too_long_a_name c = refl

pub returns-clause-no_name_by_a_digit : goal.returns-clause-no_name_by_a_digit
unfolding command_of event_of
returns-clause-no_name_by_a_digit c = refl

pub returns-clause-greatest_domain : goal.returns-clause-greatest_domain
unfolding command_of event_of
returns-clause-greatest_domain c = refl

pub returns-clause-no_greater_domain : goal.returns-clause-no_greater_domain
unfolding command_of event_of
returns-clause-no_greater_domain c = refl
