-- The value that contracts see of a list in tiers.
use Rattle.std.specs.Prelude.{List, Bool}

-- its items, and whether one more insert takes no memory
pub record TieredList (T : Type 0) : Type 0 where
  pub items : List T
  pub ready : Bool
