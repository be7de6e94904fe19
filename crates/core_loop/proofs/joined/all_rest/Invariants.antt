use Rattle.std.proofs.Common.{◌<◌, ◌≤◌, ℕ, suc}
use Rattle.core_links.specs.Flows.{IsResting, ring_flow}
use Rattle.core_links.specs.RingSlots.{ring_view}
use Rattle.core_loop.proofs.joined.all_rest.Given as goal

abbrev pub invariant-loop-peer : goal.invariant-loop-peer
invariant-loop-peer l = (1 ≤ l.peer) × ((entry : ℕ) → suc entry < l.peer → IsResting (ring_view l.links (suc entry)) (ring_flow l.links (suc entry)))
