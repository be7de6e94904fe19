-- The paths that control may take through a program, whatever the packet, and the scratch words on them.
-- McCanne and Jacobson 1993, section 3.3: a jump's distance counts from the next instruction, and is never negative.
use Rattle.std.specs.Prelude.{◌≡◌, ℕ, ◌⊎◌, List, [], ◌∷◌, ◌++◌}
use Rattle.bpf_insn.specs.declared.insn.Insn.{Insn}
use Rattle.bpf_insn.specs.declared.form.Form.{Form}
use Rattle.bpf_insn.specs.declared.form.Form.TheVariants.{LdMem, LdxMem, St, Stx}
use Rattle.bpf_insn.specs.Program.{FormAt, LeadsTo}

-- the second place is a successor of the first
abbrev pub Successor : List Insn → ℕ → ℕ → Type 0
Successor program pc to = (form : Form) × FormAt program pc form × LeadsTo pc form to

-- the instruction at a place loads a scratch word
abbrev pub LoadsWord : List Insn → ℕ → ℕ → Type 0
LoadsWord program pc word = FormAt program pc (LdMem word) ⊎ FormAt program pc (LdxMem word)

-- the instruction at a place stores a scratch word
abbrev pub StoresWord : List Insn → ℕ → ℕ → Type 0
StoresWord program pc word = FormAt program pc (St word) ⊎ FormAt program pc (Stx word)

-- each place is followed by a successor
abbrev pub IsWalk : List Insn → List ℕ → Type 0
IsWalk program [] = Unit {0}
IsWalk program (pc ∷ []) = Unit {0}
IsWalk program (pc ∷ to ∷ places) = Successor program pc to × IsWalk program (to ∷ places)

-- a walk that begins at the first instruction
abbrev pub Path : List Insn → List ℕ → Type 0
Path program [] = ⊥
Path program (pc ∷ places) = (pc ≡ 0) × IsWalk program (pc ∷ places)

-- an instruction at one of the places stores a scratch word
abbrev pub IsStoredOn : List Insn → ℕ → List ℕ → Type 0
IsStoredOn program word [] = ⊥
IsStoredOn program word (pc ∷ places) = StoresWord program pc word ⊎ IsStoredOn program word places

-- a path that ends at a load of a word which no earlier place on it stores
pub record IsUnwritten (program : List Insn) (pc word : ℕ) (path : List ℕ) : Type 0 where
  pub earlier : List ℕ
  pub ends : path ≡ earlier ++ pc ∷ []
  pub is_path : Path program path
  pub loads : LoadsWord program pc word
  pub unwritten : IsStoredOn program word earlier → ⊥

-- each path that ends at a load of a scratch word has an earlier place that stores the word
abbrev pub LoadsOnlyWritten : List Insn → Type 0
LoadsOnlyWritten program =
    (earlier : List ℕ) (pc word : ℕ) → Path program (earlier ++ pc ∷ []) → LoadsWord program pc word → IsStoredOn program word earlier
