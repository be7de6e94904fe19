-- The value that contracts see of a map in the order of its keys.
use Rattle.std.specs.Prelude.{List, Bool, Option, ℕ, nat_eq}
use Rattle.std.specs.Map.{lookup}

-- its entries in the order of their keys, and whether one more insert takes no memory
pub record SortedMap (V : Type 0) : Type 0 where
  pub entries : List (ℕ × V)
  pub ready : Bool

-- the value at a key
abbrev pub value_at : {V : Type 0} → List (ℕ × V) → ℕ → Option V
value_at entries key = lookup (nat_eq key) entries
