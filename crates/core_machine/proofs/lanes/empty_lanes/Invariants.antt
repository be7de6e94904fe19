use Rattle.std.proofs.Common.{◌≡◌, [], All, length}
use Rattle.core_machine.proofs.lanes.empty_lanes.Given as goal

abbrev pub invariant-loop : goal.invariant-loop
invariant-loop g l = (length l.lanes.items ≡ l.counter) × All (λ lane. lane.items ≡ []) l.lanes.items
