-- The value that contracts see of the chunks of a list.
-- No public clause cites these.
use Rattle.std.specs.Prelude.{List, Bool}

-- the chunks, and whether one more item takes no memory
pub record Chunking (T : Type 0) : Type 0 where
  pub chunks : List (List T)
  pub ready : Bool
