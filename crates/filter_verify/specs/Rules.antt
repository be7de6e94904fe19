-- What the verifier accepts, and why it refuses the rest.
-- Linux, net/core/filter.c: bpf_check_classic (size, codes, constants, words, jumps, the end) and check_load_and_stores
-- (unwritten words), with two rules that differ. The kernel takes absolute loads at places of 2 ^ 31 and above, as its
-- ancillary data or offsets from its headers: here all of them are refused. The kernel finds unwritten words by one pass,
-- in which the words of a return flow on to the next instruction: here the rule is about paths, and a return ends them.
use Rattle.std.specs.Prelude.{◌≡◌, ℕ, ◌-◌, ◌<◌, ◌≤◌, ◌⊎◌, List, length, None}
use Rattle.bpf_insn.specs.declared.insn.TheConstants.{MAX_INSNS}
use Rattle.bpf_insn.specs.declared.insn.Insn.{Insn}
use Rattle.bpf_insn.specs.declared.form.Size.{Size}
use Rattle.bpf_insn.specs.declared.form.AluOp.TheVariants.{Div, Lsh, Rsh, Mod}
use Rattle.bpf_insn.specs.declared.form.Form.{Form}
use Rattle.bpf_insn.specs.declared.form.Form.TheVariants.{LdAbs, AluK, RetK, RetA}
use Rattle.bpf_insn.specs.Program.{FormAt, form_at, JumpsOut}
use Rattle.filter_verify.specs.declared.rules.Refusal.{Refusal}
use Rattle.filter_verify.specs.declared.rules.Refusal.TheVariants.{Empty, TooLong, BadCode, ZeroDivisor, BadShift, BadWord, JumpOut, Ancillary, NoReturn, Unwritten, NoMemory}
use Rattle.filter_verify.specs.Paths.{LoadsWord, StoresWord, IsUnwritten, LoadsOnlyWritten}

-- the instruction at a place breaks a rule: an instruction breaks one at most
abbrev pub BreaksAt : List Insn → ℕ → Refusal → Type 0
BreaksAt program pc (BadCode at) = (at ≡ pc) × (form_at program pc ≡ None)
BreaksAt program pc (ZeroDivisor at) = (at ≡ pc) × (FormAt program pc (AluK Div 0) ⊎ FormAt program pc (AluK Mod 0))
BreaksAt program pc (BadShift at) = (at ≡ pc) × ((k : ℕ) × (32 ≤ k) × (FormAt program pc (AluK Lsh k) ⊎ FormAt program pc (AluK Rsh k)))
BreaksAt program pc (BadWord at) = (at ≡ pc) × ((word : ℕ) × (16 ≤ word) × (LoadsWord program pc word ⊎ StoresWord program pc word))
BreaksAt program pc (JumpOut at) = (at ≡ pc) × JumpsOut program pc
BreaksAt program pc (Ancillary at) = (at ≡ pc) × ((size : Size) × (k : ℕ) × (2147483648 ≤ k) × FormAt program pc (LdAbs size k))
BreaksAt program pc _ = ⊥

-- the instruction at a place breaks no rule
abbrev pub IsFine : List Insn → ℕ → Type 0
IsFine program pc = (refusal : Refusal) → BreaksAt program pc refusal → ⊥

-- a form is a return
abbrev pub IsReturn : Form → Type 0
IsReturn (RetK k) = Unit {0}
IsReturn RetA = Unit {0}
IsReturn _ = ⊥

-- the last instruction is a return
abbrev pub EndsInReturn : List Insn → Type 0
EndsInReturn program = (form : Form) × FormAt program (length program - 1) form × IsReturn form

-- from 1 to MAX_INSNS instructions
abbrev pub IsSized : List Insn → Type 0
IsSized program = (0 < length program) × (length program ≤ MAX_INSNS)

-- each rule on single instructions is kept
pub record IsWellShaped (program : List Insn) : Type 0 where
  pub sized : IsSized program
  pub fine : (pc : ℕ) → pc < length program → IsFine program pc
  pub ends : EndsInReturn program

-- a program that the verifier accepts
pub record Sound (program : List Insn) : Type 0 where
  pub shaped : IsWellShaped program
  pub written : LoadsOnlyWritten program

-- no earlier instruction breaks a rule
abbrev pub IsFirst : List Insn → ℕ → Type 0
IsFirst program pc = IsSized program × (pc < length program) × ((q : ℕ) → q < pc → IsFine program q)

-- the first reason for which a program is refused: its size, its instructions in order, its end, and then the first
-- place at which a path ends at a load of a word that nothing on it stores
abbrev pub Refuses : List Insn → Refusal → Type 0
Refuses program Empty = length program ≡ 0
Refuses program TooLong = MAX_INSNS < length program
Refuses program NoReturn = IsSized program × ((q : ℕ) → q < length program → IsFine program q) × (EndsInReturn program → ⊥)
Refuses program (Unwritten pc word path) =
    IsWellShaped program × IsUnwritten program pc word path
    × ((q other : ℕ) (places : List ℕ) → q < pc → IsUnwritten program q other places → ⊥)
Refuses program NoMemory = ⊥
Refuses program (BadCode pc) = IsFirst program pc × BreaksAt program pc (BadCode pc)
Refuses program (ZeroDivisor pc) = IsFirst program pc × BreaksAt program pc (ZeroDivisor pc)
Refuses program (BadShift pc) = IsFirst program pc × BreaksAt program pc (BadShift pc)
Refuses program (BadWord pc) = IsFirst program pc × BreaksAt program pc (BadWord pc)
Refuses program (JumpOut pc) = IsFirst program pc × BreaksAt program pc (JumpOut pc)
Refuses program (Ancillary pc) = IsFirst program pc × BreaksAt program pc (Ancillary pc)

-- the program is accepted, or refused for a reason
unfoldable pub IsDecided : List Insn → Type 0
IsDecided program = Sound program ⊎ ((refusal : Refusal) × Refuses program refusal)
