-- The instruction that the tokens of a printed one give.
use Rattle.std.proofs.Common.{◌≡◌, ℕ, ◌<◌, ◌^◌, true, Ok, refl, arith}
use Rattle.std.specs.Prelude.{nat_lt}
use Rattle.std.specs.Fmt.{decimal}
use Rattle.std.proofs.lemmas.Bool.Decides.{nat_tests}
use Rattle.filter_asm.specs.Mnemonics.{mnemonic_of}
use Rattle.filter_asm.specs.Operands.{operands_at}
use Rattle.filter_asm.specs.Program.{instruction}
use Rattle.filter_asm.specs.Token.{is_digits}
use Rattle.filter_asm.proofs.DecimalLemmas.{digits-decimal, number-decimal}
use Rattle.filter_asm.proofs.PrintedForms.{word_of, operands_of, drafted, Bounded}
use Rattle.bpf_insn.specs.declared.form.Size.TheVariants.{Word, Half, Byte}
use Rattle.bpf_insn.specs.declared.form.AluOp.TheVariants.{Add, Sub, Mul, Div, Or, And, Lsh, Rsh, Mod, Xor}
use Rattle.bpf_insn.specs.declared.form.Test.TheVariants.{Equal, Greater, GreaterOrEqual, AnyBit}
use Rattle.bpf_insn.specs.declared.form.Form.{Form}
use Rattle.bpf_insn.specs.declared.form.Form.TheVariants.{LdImm, LdAbs, LdInd, LdMem, LdLen, LdxImm, LdxMem, LdxLen, LdxMsh, St, Stx, AluK, AluX, Neg, Ja, JmpK, JmpX, RetK, RetA, Tax, Txa}

has_room : (count : ℕ) → count < 4096 → nat_lt count 4096 ≡ true
has_room count room = grind (arith, nat_tests)

digits_of : (k : ℕ) → k < 2 ^ 32 → is_digits (decimal k) ≡ true
digits_of k small = (digits-decimal k (omega arith)).first

pub gives : (line count pc : ℕ) (form : Form) → count < 4096 → Bounded form → instruction line count (word_of form) (operands_of pc form) ≡ Ok (drafted line pc form)
unfolding instruction mnemonic_of operands_at
gives line count pc (LdImm k) room bounds = rw (has_room count room, digits_of k bounds.k, number-decimal k bounds.k) refl
gives line count pc (LdAbs Word k) room bounds = rw (has_room count room, digits_of k bounds.k, number-decimal k bounds.k) refl
gives line count pc (LdAbs Half k) room bounds = rw (has_room count room, digits_of k bounds.k, number-decimal k bounds.k) refl
gives line count pc (LdAbs Byte k) room bounds = rw (has_room count room, digits_of k bounds.k, number-decimal k bounds.k) refl
gives line count pc (LdInd Word k) room bounds = rw (has_room count room, digits_of k bounds.k, number-decimal k bounds.k) refl
gives line count pc (LdInd Half k) room bounds = rw (has_room count room, digits_of k bounds.k, number-decimal k bounds.k) refl
gives line count pc (LdInd Byte k) room bounds = rw (has_room count room, digits_of k bounds.k, number-decimal k bounds.k) refl
gives line count pc (LdMem k) room bounds = rw (has_room count room, digits_of k bounds.k, number-decimal k bounds.k) refl
gives line count pc LdLen room bounds = rw (has_room count room) refl
gives line count pc (LdxImm k) room bounds = rw (has_room count room, digits_of k bounds.k, number-decimal k bounds.k) refl
gives line count pc (LdxMem k) room bounds = rw (has_room count room, digits_of k bounds.k, number-decimal k bounds.k) refl
gives line count pc LdxLen room bounds = rw (has_room count room) refl
gives line count pc (LdxMsh k) room bounds = rw (has_room count room, digits_of k bounds.k, number-decimal k bounds.k) refl
gives line count pc (St k) room bounds = rw (has_room count room, digits_of k bounds.k, number-decimal k bounds.k) refl
gives line count pc (Stx k) room bounds = rw (has_room count room, digits_of k bounds.k, number-decimal k bounds.k) refl
gives line count pc (AluK Add k) room bounds = rw (has_room count room, digits_of k bounds.k, number-decimal k bounds.k) refl
gives line count pc (AluK Sub k) room bounds = rw (has_room count room, digits_of k bounds.k, number-decimal k bounds.k) refl
gives line count pc (AluK Mul k) room bounds = rw (has_room count room, digits_of k bounds.k, number-decimal k bounds.k) refl
gives line count pc (AluK Div k) room bounds = rw (has_room count room, digits_of k bounds.k, number-decimal k bounds.k) refl
gives line count pc (AluK Or k) room bounds = rw (has_room count room, digits_of k bounds.k, number-decimal k bounds.k) refl
gives line count pc (AluK And k) room bounds = rw (has_room count room, digits_of k bounds.k, number-decimal k bounds.k) refl
gives line count pc (AluK Lsh k) room bounds = rw (has_room count room, digits_of k bounds.k, number-decimal k bounds.k) refl
gives line count pc (AluK Rsh k) room bounds = rw (has_room count room, digits_of k bounds.k, number-decimal k bounds.k) refl
gives line count pc (AluK Mod k) room bounds = rw (has_room count room, digits_of k bounds.k, number-decimal k bounds.k) refl
gives line count pc (AluK Xor k) room bounds = rw (has_room count room, digits_of k bounds.k, number-decimal k bounds.k) refl
gives line count pc (AluX Add) room bounds = rw (has_room count room) refl
gives line count pc (AluX Sub) room bounds = rw (has_room count room) refl
gives line count pc (AluX Mul) room bounds = rw (has_room count room) refl
gives line count pc (AluX Div) room bounds = rw (has_room count room) refl
gives line count pc (AluX Or) room bounds = rw (has_room count room) refl
gives line count pc (AluX And) room bounds = rw (has_room count room) refl
gives line count pc (AluX Lsh) room bounds = rw (has_room count room) refl
gives line count pc (AluX Rsh) room bounds = rw (has_room count room) refl
gives line count pc (AluX Mod) room bounds = rw (has_room count room) refl
gives line count pc (AluX Xor) room bounds = rw (has_room count room) refl
gives line count pc Neg room bounds = rw (has_room count room) refl
gives line count pc (Ja k) room bounds = rw (has_room count room) refl
gives line count pc (JmpK Equal k jt jf) room bounds = rw (has_room count room, digits_of k bounds.k, number-decimal k bounds.k) refl
gives line count pc (JmpK Greater k jt jf) room bounds = rw (has_room count room, digits_of k bounds.k, number-decimal k bounds.k) refl
gives line count pc (JmpK GreaterOrEqual k jt jf) room bounds = rw (has_room count room, digits_of k bounds.k, number-decimal k bounds.k) refl
gives line count pc (JmpK AnyBit k jt jf) room bounds = rw (has_room count room, digits_of k bounds.k, number-decimal k bounds.k) refl
gives line count pc (JmpX Equal jt jf) room bounds = rw (has_room count room) refl
gives line count pc (JmpX Greater jt jf) room bounds = rw (has_room count room) refl
gives line count pc (JmpX GreaterOrEqual jt jf) room bounds = rw (has_room count room) refl
gives line count pc (JmpX AnyBit jt jf) room bounds = rw (has_room count room) refl
gives line count pc (RetK k) room bounds = rw (has_room count room, digits_of k bounds.k, number-decimal k bounds.k) refl
gives line count pc RetA room bounds = rw (has_room count room) refl
gives line count pc Tax room bounds = rw (has_room count room) refl
gives line count pc Txa room bounds = rw (has_room count room) refl
