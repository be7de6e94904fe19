use Rattle.std.proofs.Common.{refl}
use Rattle.definitions_tried.proofs.messages.lines_of_messages.Goals as goal

pub returns-clause-of_three_bytes : goal.returns-clause-of_three_bytes
returns-clause-of_three_bytes c = refl

pub returns-clause-of_more_than_a_line : goal.returns-clause-of_more_than_a_line
returns-clause-of_more_than_a_line c = refl

pub returns-clause-three_read : goal.returns-clause-three_read
returns-clause-three_read c = refl

pub returns-clause-both_read : goal.returns-clause-both_read
returns-clause-both_read c = refl

pub returns-clause-none_of_a_part : goal.returns-clause-none_of_a_part
returns-clause-none_of_a_part c = refl

pub returns-clause-next_in_sequence : goal.returns-clause-next_in_sequence
returns-clause-next_in_sequence c = refl

pub returns-clause-out_of_sequence : goal.returns-clause-out_of_sequence
returns-clause-out_of_sequence c = refl

pub returns-clause-no_length_of_0 : goal.returns-clause-no_length_of_0
returns-clause-no_length_of_0 c = refl

pub returns-clause-no_length_past_the_most : goal.returns-clause-no_length_past_the_most
returns-clause-no_length_past_the_most c = refl

pub returns-clause-most_length : goal.returns-clause-most_length
returns-clause-most_length c = refl

pub returns-clause-padding_of_zeros : goal.returns-clause-padding_of_zeros
returns-clause-padding_of_zeros c = refl
