-- What contracts see of links over rings.
use Rattle.std.specs.Prelude.{◌≡◌, ℕ, false, List, Option, Some, None, is_none, slice_index_or, vec_len}
use Rattle.ump_ring.specs.Joiners.{shown_list}
use Rattle.ump_ring.specs.Senders.{current, messages_offered, SameSender}
use Rattle.ump_ring.specs.Receivers.{messages_taken, message_kept, message_last, stopped, SameReceiver}
use Rattle.ump_ring.specs.Ends.{AreEnds}
use Rattle.core_links.specs.declared.ring_links.Link.{Link}
use Rattle.core_links.specs.declared.ring_links.RingLinks.{RingLinks}
use Rattle.core_links.specs.Views.{LinkView}
use Rattle.core_links.specs.Slots.{SamePlace, place_view}

-- the core that has these links, and how many places there are: those of the peers from core 0 on
abbrev pub own_of : RingLinks → ℕ
own_of r = r.own

abbrev pub places_of : RingLinks → ℕ
places_of r = vec_len r.slots

-- the number of the core's machine: 0 until it is named
abbrev pub machine_of : RingLinks → ℕ
machine_of r = r.machine

-- the same links, of a core of the machine with this number
abbrev pub with_machine : ℕ → RingLinks → RingLinks
with_machine machine r = record r { machine = machine }

-- the link to a peer, if it was joined
abbrev pub link_to : RingLinks → ℕ → Option Link
link_to r peer = slice_index_or r.slots.items peer None

-- a ring may hold more than was seen
abbrev pub link_view : Link → LinkView
link_view l = record {
  sent = messages_offered l.sender;
  taken = messages_taken l.receiver;
  kept = shown_list (message_kept l.receiver);
  stopped = stopped l.receiver;
  ready = is_none (current l.sender);
  told = false;
}

abbrev pub ring_view : RingLinks → ℕ → LinkView
ring_view r peer = place_view link_view (link_to r peer)

-- the message that was read last from the peer
abbrev pub last_of : Option Link → Option (List ℕ)
last_of None = None
last_of (Some l) = message_last l.receiver

-- the same two ends of the same two rings, before and after a call
abbrev pub SameLink : Link → Link → Type 0
SameLink old new = SameSender old.sender new.sender × SameReceiver old.receiver new.receiver

abbrev pub SameSlot : Option Link → Option Link → Type 0
SameSlot old new = SamePlace SameLink old new

-- the same links of the same core of the same machine, before and after a call
pub record SameLinks (old new : RingLinks) : Type 0 where
  pub own : own_of new ≡ own_of old
  pub machine : machine_of new ≡ machine_of old
  pub count : places_of new ≡ places_of old
  pub each : (peer : ℕ) → SameSlot (link_to old peer) (link_to new peer)

-- the two links that one pair of rings joins
abbrev pub AreJoined : Link → Link → Type 0
AreJoined a b = AreEnds a.sender b.receiver × AreEnds b.sender a.receiver

abbrev pub AreJoinedSlots : Option Link → Option Link → Type 0
AreJoinedSlots None b = ⊥
AreJoinedSlots (Some a) None = ⊥
AreJoinedSlots (Some a) (Some b) = AreJoined a b

-- one pair of rings joins the two cores
abbrev pub AreJoinedLinks : RingLinks → RingLinks → Type 0
AreJoinedLinks a b = AreJoinedSlots (link_to a (own_of b)) (link_to b (own_of a))
