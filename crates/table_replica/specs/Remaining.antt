-- The capabilities that are held once some have gone.
-- No public clause cites these.
use Rattle.std.specs.Prelude.{ℕ, is_some, not, List, filter}
use Rattle.chunked.specs.Maps.{value_at}
use Rattle.endpoint_caps.specs.Capabilities.{CapTable}

-- the table without the capabilities of some ids
abbrev pub remaining : {V : Type 0} → CapTable → List (ℕ × V) → CapTable
remaining table gone = record { held = filter (λ c. not (is_some (value_at gone c.id))) table.held; next = table.next }
