use Rattle.std.proofs.Common.{refl}
use Rattle.filter_asm.specs.Mnemonics.{mnemonic_of}
use Rattle.filter_asm.specs.Number.{magnitude, number}
use Rattle.filter_asm.specs.Operands.{operands_at}
use Rattle.filter_asm.specs.Program.{instruction}
use Rattle.definitions_tried.proofs.texts.refused_texts.Goals as goal

pub returns-clause-mnemonic : goal.returns-clause-mnemonic
unfolding instruction operands_at number magnitude mnemonic_of
returns-clause-mnemonic c = refl

pub returns-clause-operand : goal.returns-clause-operand
unfolding instruction operands_at number magnitude mnemonic_of
returns-clause-operand c = refl

pub returns-clause-number : goal.returns-clause-number
unfolding instruction operands_at number magnitude mnemonic_of
returns-clause-number c = refl

pub returns-clause-second_label : goal.returns-clause-second_label
unfolding instruction operands_at number magnitude mnemonic_of
returns-clause-second_label c = refl

pub returns-clause-no_label : goal.returns-clause-no_label
unfolding instruction operands_at number magnitude mnemonic_of
returns-clause-no_label c = refl

pub returns-clause-backward : goal.returns-clause-backward
unfolding instruction operands_at number magnitude mnemonic_of
returns-clause-backward c = refl

pub returns-clause-to_itself : goal.returns-clause-to_itself
unfolding instruction operands_at number magnitude mnemonic_of
returns-clause-to_itself c = refl

pub returns-clause-over_255 : goal.returns-clause-over_255
unfolding instruction operands_at number magnitude mnemonic_of
returns-clause-over_255 c = refl

pub returns-clause-over_256 : goal.returns-clause-over_256
unfolding instruction operands_at number magnitude mnemonic_of
returns-clause-over_256 c = refl

pub returns-clause-most_instructions : goal.returns-clause-most_instructions
unfolding instruction operands_at number magnitude mnemonic_of
returns-clause-most_instructions c = refl

pub returns-clause-one_more : goal.returns-clause-one_more
unfolding instruction operands_at number magnitude mnemonic_of
returns-clause-one_more c = refl
