use Rattle.definitions_tried.proofs.Refused.{no_instruction, too_many, no_code, no_return_of_x, division, remainder, shift_left, shift_right, word_stored, word_loaded, jump, arm, ancillary, first_ancillary, no_return, unwritten, on_one_path, not_sound_without_return, not_sound_with_a_jump_to_the_end, not_sound_on_one_path, other_path}
use Rattle.definitions_tried.proofs.verifier.refused_programs.Goals as goal

pub returns-clause-no_instruction : goal.returns-clause-no_instruction
returns-clause-no_instruction c = no_instruction

pub returns-clause-one_instruction_too_many : goal.returns-clause-one_instruction_too_many
returns-clause-one_instruction_too_many c = too_many

pub returns-clause-no_such_code : goal.returns-clause-no_such_code
returns-clause-no_such_code c = no_code

pub returns-clause-no_return_of_x : goal.returns-clause-no_return_of_x
returns-clause-no_return_of_x c = no_return_of_x

pub returns-clause-division_by_0 : goal.returns-clause-division_by_0
returns-clause-division_by_0 c = division

pub returns-clause-remainder_by_0 : goal.returns-clause-remainder_by_0
returns-clause-remainder_by_0 c = remainder

pub returns-clause-shift_left_by_32 : goal.returns-clause-shift_left_by_32
returns-clause-shift_left_by_32 c = shift_left

pub returns-clause-shift_right_by_32 : goal.returns-clause-shift_right_by_32
returns-clause-shift_right_by_32 c = shift_right

pub returns-clause-word_16_is_stored : goal.returns-clause-word_16_is_stored
returns-clause-word_16_is_stored c = word_stored

pub returns-clause-word_16_is_loaded : goal.returns-clause-word_16_is_loaded
returns-clause-word_16_is_loaded c = word_loaded

pub returns-clause-jump_to_the_end : goal.returns-clause-jump_to_the_end
returns-clause-jump_to_the_end c = jump

pub returns-clause-other_arm_to_the_end : goal.returns-clause-other_arm_to_the_end
returns-clause-other_arm_to_the_end c = arm

pub returns-clause-ancillary_load : goal.returns-clause-ancillary_load
returns-clause-ancillary_load c = ancillary

pub returns-clause-first_ancillary_place : goal.returns-clause-first_ancillary_place
returns-clause-first_ancillary_place c = first_ancillary

pub returns-clause-no_return : goal.returns-clause-no_return
returns-clause-no_return c = no_return

pub returns-clause-unwritten_word : goal.returns-clause-unwritten_word
returns-clause-unwritten_word c = unwritten

pub returns-clause-unwritten_on_one_path : goal.returns-clause-unwritten_on_one_path
returns-clause-unwritten_on_one_path c = on_one_path

pub returns-clause-not_sound_without_return : goal.returns-clause-not_sound_without_return
returns-clause-not_sound_without_return c = not_sound_without_return

pub returns-clause-not_sound_with_a_jump_to_the_end : goal.returns-clause-not_sound_with_a_jump_to_the_end
returns-clause-not_sound_with_a_jump_to_the_end c = not_sound_with_a_jump_to_the_end

pub returns-clause-not_sound_on_one_path : goal.returns-clause-not_sound_on_one_path
returns-clause-not_sound_on_one_path c = not_sound_on_one_path

pub returns-clause-not_all_on_the_other_path : goal.returns-clause-not_all_on_the_other_path
returns-clause-not_all_on_the_other_path c = other_path
