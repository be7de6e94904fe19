-- Programs that grow at their front.
-- No public clause cites these.
use Rattle.std.specs.Prelude.{◌≡◌, ℕ, ◌<◌, ◌≤◌, List, [], ◌∷◌, ◌++◌, length, Some}
use Rattle.bpf_insn.specs.declared.insn.TheConstants.{MAX_INSNS}
use Rattle.bpf_insn.specs.declared.insn.Insn.{Insn}
use Rattle.bpf_insn.specs.declared.form.AluOp.TheVariants.{And}
use Rattle.bpf_insn.specs.declared.form.Form.{Form}
use Rattle.bpf_insn.specs.declared.form.Form.TheVariants.{LdAbs, LdInd, LdLen, LdxImm, LdxMsh, AluK, Ja, JmpK, RetK}
use Rattle.bpf_insn.specs.Table.{form_of}
use Rattle.filter_codegen.specs.declared.fault.CompileFault.{CompileFault}
use Rattle.filter_codegen.specs.declared.fault.CompileFault.TheVariants.{TooLong, TooHard, NoMemory}

-- a program of so many instructions, or fewer, is refused: TooLong only where so many are too many
abbrev pub Refuses : ℕ → CompileFault → Type 0
Refuses most TooLong = MAX_INSNS < most
Refuses most TooHard = ⊥
Refuses most NoMemory = Unit {0}

-- the forms that conditions need, before so many more instructions: they break no rule, and lead to one of those
abbrev pub IsPlainForm : Form → ℕ → Type 0
IsPlainForm (LdAbs size k) after = (k < 2147483648) × (0 < after)
IsPlainForm (LdInd size k) after = 0 < after
IsPlainForm LdLen after = 0 < after
IsPlainForm (LdxImm k) after = 0 < after
IsPlainForm (LdxMsh k) after = 0 < after
IsPlainForm (AluK And k) after = 0 < after
IsPlainForm (Ja k) after = k < after
IsPlainForm (JmpK test k jt jf) after = (jt < after) × (jf < after)
IsPlainForm (RetK k) after = Unit {0}
IsPlainForm _ after = ⊥

abbrev pub IsPlain : Insn → ℕ → Type 0
IsPlain insn after = (form : Form) × (form_of insn ≡ Some form) × IsPlainForm form after

-- each instruction is such a one
abbrev pub ArePlain : List Insn → Type 0
ArePlain [] = Unit {0}
ArePlain (insn ∷ insns) = IsPlain insn (length insns) × ArePlain insns

-- the new program is the old one with at most so many instructions before it
pub record Adds (old new : List Insn) (most : ℕ) : Type 0 where
  pub front : List Insn
  pub whole : new ≡ front ++ old
  pub few : length front ≤ most
  pub plain : ArePlain old → ArePlain new
