use Rattle.std.proofs.Common.{◌≡◌, ◌≢◌, ◌<◌, ◌⊎◌, ℕ, None}
use Rattle.std.specs.Int.{bit_at}
use Rattle.core_links.specs.RingSlots.{link_to}
use Rattle.core_links.proofs.ring_links.RingLinks.closed_below.Given as goal

abbrev pub invariant-loop-peer : goal.invariant-loop-peer
invariant-loop-peer l = (p : ℕ) → (bit_at l.closed p ≡ 0) ⊎ ((p < l.peer) × (link_to l.self p ≢ None))
