-- What the labels at the front of a line come to. No public clause cites these.
use Rattle.std.specs.Prelude.{◌≡◌, ℕ, ◌++◌, List, map, false, true, ◌⊎◌}
use Rattle.filter_asm.specs.declared.labels.Labels.{Labels}
use Rattle.filter_asm.specs.declared.fault.AsmFaultKind.{AsmFaultKind}
use Rattle.filter_asm.specs.declared.fault.AsmFaultKind.TheVariants as kind
use Rattle.filter_asm.specs.Program.{labels_of, body_of, repeats}
use Rattle.filter_asm.specs.Knows.{Knows}

-- the names that have places
abbrev pub names_of : List (List ℕ × ℕ) → List (List ℕ)
names_of places = map (λ d. d.0) places

-- these names at one place
abbrev pub at_place : ℕ → List (List ℕ) → List (List ℕ × ℕ)
at_place place names = map (λ name. (name, place)) names

-- each label at the front of the tokens is new, and the labels have them now; the body is left
pub record Defines (old new : Labels) (place : ℕ) (tokens body : List (List ℕ)) : Type 0 where
  pub is_body : body ≡ body_of tokens
  pub all_new : (places : List (List ℕ × ℕ)) → Knows old places → repeats (names_of places) (labels_of tokens) ≡ false
  pub known : (places : List (List ℕ × ℕ)) → Knows old places → Knows new (places ++ at_place place (labels_of tokens))

-- a label is defined a second time, or memory ran out
abbrev pub DefinesTwice : Labels → List (List ℕ) → AsmFaultKind → Type 0
DefinesTwice old tokens refusal = (refusal ≡ kind.NoMemory) ⊎ ((refusal ≡ kind.TwiceLabel) × ((places : List (List ℕ × ℕ)) → Knows old places → repeats (names_of places) (labels_of tokens) ≡ true))
