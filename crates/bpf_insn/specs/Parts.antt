-- The pieces of a decimal text that are still to be read, in the clauses of the reader's inner functions. No public
-- clause cites these.
use Rattle.std.specs.Prelude.{◌≡◌, ℕ, ◌+◌, ◌≤◌, List, [], ◌∷◌, ◌++◌, length, All, Option, Some, None}
use Rattle.std.specs.List.{AllZip}
use Rattle.bpf_insn.specs.declared.insn.Insn.{Insn}
use Rattle.bpf_insn.specs.Texts.{number_of}
use Rattle.bpf_insn.specs.Ddd.{cuts, IsPieces, IsCounted, SpellsInsn, IsInsn}

-- the pieces of the rest of a text, where there is a rest
abbrev pub parts_of : Option (List ℕ) → List (List (List ℕ))
parts_of None = []
parts_of (Some text) = cuts text

-- the count n of the text is right, and these are its pieces after the first, the empty ones at the end too
pub record IsCountedText (text : List ℕ) (n : ℕ) (rest : List (List (List ℕ))) : Type 0 where
  pub first : List (List ℕ)
  pub pieces : List (List (List ℕ))
  pub trimmed : IsPieces text pieces
  pub counted : IsCounted pieces n
  pub begins : cuts text ≡ first ∷ rest

-- the first so many of these pieces spell a program
pub record SpellsFirst (all : List (List (List ℕ))) (count : ℕ) (program : List Insn) : Type 0 where
  pub good : List (List (List ℕ))
  pub left : List (List (List ℕ))
  pub parts : all ≡ good ++ left
  pub at : length good ≡ count
  pub each : AllZip SpellsInsn good program

-- one of the first so many of these pieces is the first that spells no instruction
pub record IsBadAt (all : List (List (List ℕ))) (count place : ℕ) : Type 0 where
  pub good : List (List (List ℕ))
  pub bad : List (List ℕ)
  pub more : List (List (List ℕ))
  pub parts : all ≡ good ++ bad ∷ more
  pub at : length good + 1 ≡ place
  pub within : place ≤ count
  pub before : All IsInsn good
  pub here : ¬ (IsInsn bad)

-- the first word is a number
abbrev pub StartsWithNumber : List (List ℕ) → Type 0
StartsWithNumber [] = ⊥
StartsWithNumber (word ∷ rest) = (n : ℕ) × (number_of word ≡ Some n)
