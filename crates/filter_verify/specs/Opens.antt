-- Places that a path leads to with a scratch word unwritten, as one pass over the program for one word finds them.
-- No public clause cites these.
use Rattle.std.specs.Prelude.{◌≡◌, ℕ, ◌<◌, ◌≤◌, ◌⊎◌, ◌↔◌, List, [], ◌∷◌, ◌++◌, length}
use Rattle.bpf_insn.specs.declared.insn.Insn.{Insn}
use Rattle.bpf_insn.specs.declared.form.Form.{Form}
use Rattle.bpf_insn.specs.Program.{LeadsTo}
use Rattle.filter_verify.specs.Paths.{Successor, StoresWord, IsStoredOn, Path, IsUnwritten}
use Rattle.filter_verify.specs.Places.{HasPlace}

-- a path leads to a place, and no earlier place on it stores the word
abbrev pub IsOpen : List Insn → ℕ → ℕ → Type 0
IsOpen program word pc = (earlier : List ℕ) × Path program (earlier ++ pc ∷ []) × (IsStoredOn program word earlier → ⊥)

-- a load at a place to which a path leads with its word unwritten
abbrev pub LoadsOpen : List Insn → ℕ → ℕ → Type 0
LoadsOpen program word pc = (path : List ℕ) × IsUnwritten program pc word path

-- the new set has the places that an instruction leads to, and those of the old one
abbrev pub Spreads : ℕ → Form → List ℕ → List ℕ → Type 0
Spreads pc form old new = (to : ℕ) → HasPlace new to ↔ (HasPlace old to ⊎ LeadsTo pc form to)

-- the set after a pass over the instructions below a place
pub record IsFollowed (program : List Insn) (word below : ℕ) (places : List ℕ) : Type 0 where
  pub first : HasPlace places 0
  pub onward : (pc to : ℕ) → pc < below → IsOpen program word pc → Successor program pc to → (StoresWord program pc word → ⊥) → HasPlace places to
  pub reasons : (to : ℕ) → HasPlace places to → IsOpen program word to
  pub none : (pc : ℕ) → pc < below → LoadsOpen program word pc → ⊥

-- the least place below an end that loads the word where a path leaves it unwritten, or else the end
pub record IsLeastOpen (program : List Insn) (word below place : ℕ) : Type 0 where
  pub within : place ≤ below
  pub found : (place ≡ below) ⊎ LoadsOpen program word place
  pub none : (pc : ℕ) → pc < place → LoadsOpen program word pc → ⊥

-- the same for all words below one
pub record IsLeastOfWords (program : List Insn) (words place : ℕ) : Type 0 where
  pub within : place ≤ length program
  pub found : (place ≡ length program) ⊎ ((word : ℕ) × LoadsOpen program word place)
  pub none : (pc word : ℕ) → pc < place → word < words → LoadsOpen program word pc → ⊥
