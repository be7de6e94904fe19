-- The labels as a finite map. No public clause cites these.
use Rattle.std.specs.Prelude.{◌≡◌, ℕ, List}
use Rattle.filter_asm.specs.declared.labels.Labels.{Labels}
use Rattle.filter_asm.specs.Labels.{place_in}
use Rattle.filter_asm.specs.Program.{place_of}

-- the labels have these places and no others
abbrev pub Knows : Labels → List (List ℕ × ℕ) → Type 0
Knows labels places = (name : List ℕ) → place_in labels name ≡ place_of places name
