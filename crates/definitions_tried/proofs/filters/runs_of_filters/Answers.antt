use Rattle.definitions_tried.proofs.Runs.{arp_is_kept, another_is_not, past_the_end, not_65_bytes, not_in_4}
use Rattle.definitions_tried.proofs.filters.runs_of_filters.Goals as goal

pub returns-clause-arp_is_kept : goal.returns-clause-arp_is_kept
returns-clause-arp_is_kept c = arp_is_kept

pub returns-clause-another_is_not : goal.returns-clause-another_is_not
returns-clause-another_is_not c = another_is_not

pub returns-clause-a_load_past_the_end_ends_with_0 : goal.returns-clause-a_load_past_the_end_ends_with_0
returns-clause-a_load_past_the_end_ends_with_0 c = past_the_end

pub returns-clause-not_65_bytes : goal.returns-clause-not_65_bytes
returns-clause-not_65_bytes c = not_65_bytes

pub returns-clause-not_in_4_instructions : goal.returns-clause-not_in_4_instructions
returns-clause-not_in_4_instructions c = not_in_4
