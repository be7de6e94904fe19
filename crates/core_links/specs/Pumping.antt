-- What a pump does to the links over rings.
-- No public clause cites these.
use Rattle.std.specs.Prelude.{◌≡◌, ◌≢◌, ◌<◌, ℕ, false, cond, List, Option, None, slice_index_or}
use Rattle.std.specs.Int.{bit_at}
use Rattle.core_links.specs.declared.marks.Marks.{Marks}
use Rattle.core_links.specs.declared.ring_links.Link.{Link}
use Rattle.core_links.specs.Views.{Pumped}
use Rattle.core_links.specs.Slots.{place_view}
use Rattle.core_links.specs.RingSlots.{SameSlot, link_view}
use Rattle.core_links.specs.Flows.{FlowsOut, place_flow}
use Rattle.core_links.specs.Marks.{has_moved, is_due}

-- the link, if there is one, is the same, and what waits there was moved on as far as there is room
pub record MovesOn (old new : Option Link) : Type 0 where
  pub same : SameSlot old new
  pub pumped : Pumped (place_view link_view old) (place_view link_view new)
  pub lines : FlowsOut (place_flow old) (place_flow new) (place_view link_view new).ready

-- so it is with the link to this peer, and no other has changed. Where the peer's bits were clear they say what is so now
pub record MovesOnAt (peer : ℕ) (old new : List (Option Link)) (marks marks' : Marks) : Type 0 where
  pub here : MovesOn (slice_index_or old peer None) (slice_index_or new peer None)
  pub others : (p : ℕ) → p ≢ peer → slice_index_or new p None ≡ slice_index_or old p None
  pub moved : peer < 64 → bit_at marks.moved peer ≡ 0 → bit_at marks'.moved peer ≡ cond (has_moved (slice_index_or new peer None)) 1 0
  pub due : peer < 64 → bit_at marks'.due peer ≡ 0 → is_due (slice_index_or new peer None) ≡ false
  pub other_bits : (p : ℕ) → p ≢ peer → (bit_at marks'.moved p ≡ bit_at marks.moved p) × (bit_at marks'.due p ≡ bit_at marks.due p)
