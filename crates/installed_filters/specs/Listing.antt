-- The programs that run and those that rest.
-- No public clause cites these.
use Rattle.std.specs.Prelude.{◌≡◌, ◌<◌, ◌↔◌, ◌⊎◌, ℕ, List, Option, Some}
use Rattle.bpf_insn.specs.declared.insn.Insn.{Insn}
use Rattle.installed_filters.specs.Numbering.{Numbering, Has}
use Rattle.installed_filters.specs.declared.slots.Slot.{Slot}

-- the programs and one more
abbrev pub IsWith : Numbering → ℕ → List Insn → Numbering → Type 0
IsWith old number program new = (other : ℕ) (listed : List Insn) → Has new other listed ↔ (Has old other listed ⊎ ((other ≡ number) × (listed ≡ program)))

-- the programs without one
abbrev pub IsWithout : Numbering → List Insn → Numbering → Type 0
IsWithout old program new = (number : ℕ) (other : List Insn) → Has new number other ↔ (Has old number other × (other ≡ program → ⊥))

-- the program of a number that has filters whose capability is held
abbrev pub Runs : (ℕ → Option Slot) → ℕ → List Insn → Type 0
Runs slots number program = (s : Slot) × (slots number ≡ Some s) × (s.program ≡ program) × (0 < s.held)

-- or of one that has none
abbrev pub Rests : (ℕ → Option Slot) → ℕ → List Insn → Type 0
Rests slots number program = (s : Slot) × (slots number ≡ Some s) × (s.program ≡ program) × (s.held ≡ 0)

-- the programs with these numbers are listed, and no others
abbrev pub AreThose : Numbering → (ℕ → List Insn → Type 0) → Type 0
AreThose n those = (number : ℕ) (program : List Insn) → Has n number program ↔ those number program

-- these run, and these rest
pub record AreListed (slots : ℕ → Option Slot) (running resting : Numbering) : Type 0 where
  pub run : AreThose running (Runs slots)
  pub rest : AreThose resting (Rests slots)

-- these run before a change or after it, and these rest before it or after it
pub record AreListedFor (now next : ℕ → Option Slot) (running resting : Numbering) : Type 0 where
  pub run : AreThose running (λ number program. Runs now number program ⊎ Runs next number program)
  pub rest : AreThose resting (λ number program. Rests now number program ⊎ Rests next number program)
