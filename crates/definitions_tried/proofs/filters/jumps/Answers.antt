use Rattle.std.proofs.Common.{refl}
use Rattle.bpf_insn.specs.declared.form.Form.TheVariants.{Ja, JmpK, JmpX, RetK, RetA}
use Rattle.bpf_insn.specs.declared.form.Test.TheVariants.{Equal, Greater, GreaterOrEqual, AnyBit}
use Rattle.bpf_insn.specs.Program.{form_at}
use Rattle.bpf_insn.specs.Table.{form_of}
use Rattle.definitions_tried.proofs.filters.jumps.Goals as goal

pub returns-clause-ja_by_0 : goal.returns-clause-ja_by_0
unfolding form_at form_of
returns-clause-ja_by_0 c = (Ja 0, refl, refl)

pub returns-clause-ja_passes_over : goal.returns-clause-ja_passes_over
unfolding form_at form_of
returns-clause-ja_passes_over c = (Ja 5, refl, refl)

pub returns-clause-jeq_k : goal.returns-clause-jeq_k
unfolding form_at form_of
returns-clause-jeq_k c = (JmpK Equal 7 255 1, refl, refl)

pub returns-clause-jeq_k_not : goal.returns-clause-jeq_k_not
unfolding form_at form_of
returns-clause-jeq_k_not c = (JmpK Equal 9 1 255, refl, refl)

pub returns-clause-jeq_x : goal.returns-clause-jeq_x
unfolding form_at form_of
returns-clause-jeq_x c = (JmpX Equal 2 3, refl, refl)

pub returns-clause-jeq_x_not : goal.returns-clause-jeq_x_not
unfolding form_at form_of
returns-clause-jeq_x_not c = (JmpX Equal 2 3, refl, refl)

pub returns-clause-jgt_k_is_unsigned : goal.returns-clause-jgt_k_is_unsigned
unfolding form_at form_of
returns-clause-jgt_k_is_unsigned c = (JmpK Greater 1 2 3, refl, refl)

pub returns-clause-jgt_k_not_of_the_same : goal.returns-clause-jgt_k_not_of_the_same
unfolding form_at form_of
returns-clause-jgt_k_not_of_the_same c = (JmpK Greater 7 2 3, refl, refl)

pub returns-clause-jgt_x : goal.returns-clause-jgt_x
unfolding form_at form_of
returns-clause-jgt_x c = (JmpX Greater 2 3, refl, refl)

pub returns-clause-jgt_x_not_of_the_same : goal.returns-clause-jgt_x_not_of_the_same
unfolding form_at form_of
returns-clause-jgt_x_not_of_the_same c = (JmpX Greater 2 3, refl, refl)

pub returns-clause-jge_k_of_the_same : goal.returns-clause-jge_k_of_the_same
unfolding form_at form_of
returns-clause-jge_k_of_the_same c = (JmpK GreaterOrEqual 7 2 3, refl, refl)

pub returns-clause-jge_k_not : goal.returns-clause-jge_k_not
unfolding form_at form_of
returns-clause-jge_k_not c = (JmpK GreaterOrEqual 8 2 3, refl, refl)

pub returns-clause-jge_x_of_the_same : goal.returns-clause-jge_x_of_the_same
unfolding form_at form_of
returns-clause-jge_x_of_the_same c = (JmpX GreaterOrEqual 2 3, refl, refl)

pub returns-clause-jge_x_not : goal.returns-clause-jge_x_not
unfolding form_at form_of
returns-clause-jge_x_not c = (JmpX GreaterOrEqual 2 3, refl, refl)

pub returns-clause-jset_k : goal.returns-clause-jset_k
unfolding form_at form_of
returns-clause-jset_k c = (JmpK AnyBit 2147483649 2 3, refl, refl)

pub returns-clause-jset_k_not : goal.returns-clause-jset_k_not
unfolding form_at form_of
returns-clause-jset_k_not c = (JmpK AnyBit 2147483647 2 3, refl, refl)

pub returns-clause-jset_x : goal.returns-clause-jset_x
unfolding form_at form_of
returns-clause-jset_x c = (JmpX AnyBit 2 3, refl, refl)

pub returns-clause-jset_x_not : goal.returns-clause-jset_x_not
unfolding form_at form_of
returns-clause-jset_x_not c = (JmpX AnyBit 2 3, refl, refl)

pub returns-clause-ret_k : goal.returns-clause-ret_k
unfolding form_at form_of
returns-clause-ret_k c = (RetK 4294967295, refl, refl)

pub returns-clause-ret_a : goal.returns-clause-ret_a
unfolding form_at form_of
returns-clause-ret_a c = (RetA, refl, refl)
