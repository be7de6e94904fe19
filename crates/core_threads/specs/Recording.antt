-- Cores before their lists.
-- No public clause cites these.
use Rattle.std.specs.Prelude.{◌≡◌, ℕ, List, [], Some, slice_get}
use Rattle.core_machine.specs.Machines.{RingCore}

-- none of these cores has done anything
abbrev pub HaveNoHistories : List RingCore → Type 0
HaveNoHistories cores = (i : ℕ) (c : RingCore) → slice_get cores i ≡ Some c → c.history ≡ []
