-- Operands that are found part by part. No public clause cites these.
use Rattle.std.specs.Prelude.{ℕ, List, Option, Some, None}
use Rattle.filter_asm.specs.Operands.{Operands}

-- the first of two that is there
abbrev pub first_of : {T : Type 0} → Option T → Option T → Option T
first_of (Some one) other = Some one
first_of None other = other

-- the second label, where these two stand before others
abbrev pub second_of : Option (List ℕ) → Option (List ℕ) → Operands → Option (List ℕ)
second_of None None later = later.second
second_of (Some one) None later = later.first
second_of None (Some other) later = Some other
second_of (Some one) (Some other) later = Some other

-- what stands at some parts, and at those after them
abbrev pub joined : Operands → Operands → Operands
joined found later = record { number = first_of found.number later.number; first = first_of found.first later.first; second = second_of found.first found.second later }
