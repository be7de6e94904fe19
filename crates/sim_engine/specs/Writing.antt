-- Text that is kept back before it is written.
-- No public clause cites these.
use Rattle.std.specs.Prelude.{◌≡◌, ℕ, Option, List, ◌++◌}
use Rattle.engine_io.specs.declared.sink.Sink.{Sink}
use Rattle.engine_io.specs.Devices.{Writes}

-- of the text that was kept back a front was written, and the rest is still kept back
pub record Wrote {W : Type 0} (contents : W → Option (List ℕ)) (old new : Sink W) (kept kept' : List ℕ) : Type 0 where
  pub front : List ℕ
  pub appends : Writes contents old new front
  pub whole : kept ≡ front ++ kept'
