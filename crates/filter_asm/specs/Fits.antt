-- How tokens fit the parts of a shape: group by group, with no word of the order in which they are read. The clauses that
-- cite this say that a mnemonic's operands fit one of its shapes at most, so that "first" says nothing there.
use Rattle.std.specs.Prelude.{◌≡◌, ℕ, true, if◌then◌else◌, List, [], ◌∷◌, codes, Some, slice_get}
use Rattle.std.specs.List.{AllZip, Contains, flat_map}
use Rattle.filter_asm.specs.Token.{is_name, is_digits}
use Rattle.filter_asm.specs.Operands.{Part, Exactly, Number, Label, Numeral, Operands}
use Rattle.filter_asm.specs.Mnemonics.{Shape, Mnemonic, mnemonic_of, first_fit}

-- the tokens of a number: a digit token, after a `-` or not
abbrev pub spelled_number : Numeral → List (List ℕ)
spelled_number n = if n.negative then codes "-" ∷ n.digits ∷ [] else n.digits ∷ []

-- the tokens that stand at a part, and the number or label that they are
pub record Group : Type 0 where
  pub tokens : List (List ℕ)
  pub numbers : List Numeral
  pub labels : List (List ℕ)

abbrev pub PartIs : Part → Group → Type 0
PartIs (Exactly text) group = group ≡ record { tokens = text ∷ []; numbers = []; labels = [] }
PartIs Number group = (n : Numeral) × (is_digits n.digits ≡ true) × (group ≡ record { tokens = spelled_number n; numbers = n ∷ []; labels = [] })
PartIs Label group = (name : List ℕ) × (is_name name ≡ true) × (group ≡ record { tokens = name ∷ []; numbers = []; labels = name ∷ [] })

-- the tokens are a group for each part, and these are their number and their labels
pub record Fits (parts : List Part) (tokens : List (List ℕ)) (operands : Operands) : Type 0 where
  pub groups : List Group
  pub each : AllZip PartIs parts groups
  pub spelled : tokens ≡ flat_map (λ g. g.tokens) groups
  pub number : operands.number ≡ slice_get (flat_map (λ g. g.numbers) groups) 0
  pub first : operands.first ≡ slice_get (flat_map (λ g. g.labels) groups) 0
  pub second : operands.second ≡ slice_get (flat_map (λ g. g.labels) groups) 1

-- operands that are read fit a shape of the mnemonic, which gives the code
abbrev pub ReadOperandsFit : Type 0
ReadOperandsFit = (shapes : List Shape) (tokens : List (List ℕ)) (code : ℕ) (operands : Operands) → first_fit shapes tokens ≡ Some (code, operands)
    → (shape : Shape) × Contains shapes shape × (shape.code ≡ code) × Fits shape.parts tokens operands

-- and any shape of a mnemonic that tokens fit is the one by which they are read
abbrev pub FittingOperandsAreRead : Type 0
FittingOperandsAreRead = (word : List ℕ) (mnemonic : Mnemonic) → mnemonic_of word ≡ Some mnemonic → (shape : Shape) → Contains mnemonic.shapes shape → (tokens : List (List ℕ)) (operands : Operands)
    → Fits shape.parts tokens operands → first_fit mnemonic.shapes tokens ≡ Some (shape.code, operands)
