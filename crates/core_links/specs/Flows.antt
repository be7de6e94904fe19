-- How many lines a link has moved, and what its ends know of the rings. Contracts of turns speak of these alone where nothing is sent or taken.
use Rattle.std.specs.Prelude.{◌≡◌, ◌≢◌, ◌⊎◌, ◌+◌, ◌*◌, ◌<◌, ◌≤◌, ◌++◌, [], ℕ, Bool, true, false, List, length, Option, Some, None, Result, MatchResult}
use mathlib.Core.List.{IsPrefix}
use Rattle.core_links.specs.Views.{LinkView}
use Rattle.ump_ring.specs.declared.fault.LineFault.{LineFault}
use Rattle.ump_ring.specs.Lines.{lines_most}
use Rattle.ump_ring.specs.Senders.{lines_sent, room_known, sender_capacity}
use Rattle.ump_ring.specs.Receivers.{lines_received, lines_known}
use Rattle.core_links.specs.declared.ring_links.Link.{Link}
use Rattle.core_links.specs.declared.ring_links.RingLinks.{RingLinks}
use Rattle.core_links.specs.declared.list_links.ListLinks.{ListLinks}
use Rattle.core_links.specs.RingSlots.{own_of, link_to, ring_view}

-- the lines that went out, and the free places that its end knows of; the lines that came in, and those that its end knows of and has not received;
-- and whether it says that a line moved, either way, since the last pump began
pub record Flow : Type 0 where
  pub out : ℕ
  pub room : ℕ
  pub come : ℕ
  pub known : ℕ
  pub moved : Bool

abbrev pub no_flow : Flow
no_flow = record { out = 0; room = 0; come = 0; known = 0; moved = false }

-- lines went out as far as there is room: where the link still takes no message, no place is known to be free. It says whether one did
pub record FlowsOut (v w : Flow) (ready : Bool) : Type 0 where
  pub out : v.out ≤ w.out
  pub room : v.out + v.room ≤ w.out + w.room
  pub come : w.come ≡ v.come
  pub known : w.known ≡ v.known
  pub full : ready ≡ false → w.room ≡ 0
  pub still : w.moved ≡ false → w.out ≡ v.out
  pub moved : w.moved ≡ true → v.out < w.out

-- lines came in until a message was whole: where none is kept, no line is known that was not received. It says so where one did
pub record FlowsIn {A : Type 0} (v w : Flow) (kept : List (List ℕ)) (r : Result A LineFault) : Type 0 where
  pub out : w.out ≡ v.out
  pub room : w.room ≡ v.room
  pub come : v.come ≤ w.come
  pub known : v.come + v.known ≤ w.come + w.known
  pub dry : MatchResult r (λ u. kept ≡ [] → w.known ≡ 0) (λ fault. Unit {0})
  pub still : w.moved ≡ false → (v.moved ≡ false) × (w.come ≡ v.come)
  pub moved : w.moved ≡ true → (v.moved ≡ true) ⊎ (v.come < w.come)

-- the links at all places but this are as they were
abbrev pub FlowsAt : {L : Type 0} → (L → ℕ → Flow) → ℕ → (Flow → Flow → Type 0) → L → L → Type 0
FlowsAt flow peer R old new = R (flow old peer) (flow new peer) × ((p : ℕ) → p ≢ peer → flow new p ≡ flow old p)

abbrev pub link_flow : Link → Flow
link_flow l = record { out = length (lines_sent l.sender); room = room_known l.sender; come = length (lines_received l.receiver); known = length (lines_known l.receiver); moved = l.moved }

abbrev pub place_flow : Option Link → Flow
place_flow None = no_flow
place_flow (Some l) = link_flow l

abbrev pub ring_flow : RingLinks → ℕ → Flow
ring_flow r peer = place_flow (link_to r peer)

-- lists have no lines
abbrev pub list_flow : ListLinks → ℕ → Flow
list_flow l peer = no_flow

-- The two ends of a ring in one thread

-- once they were looked at beside each other, the ends of a ring that holds so many lines know all of it
pub record AreExact (capacity : ℕ) (sender receiver : Flow) : Type 0 where
  pub items : receiver.come + receiver.known ≡ sender.out
  pub places : capacity + receiver.come ≤ sender.room + sender.out

-- no line moved over the link, and what was known is known
pub record IsStill (v w : Flow) : Type 0 where
  pub out : w.out ≡ v.out
  pub come : w.come ≡ v.come
  pub room : v.room ≤ w.room
  pub known : v.known ≤ w.known

-- lines may have moved, and none was lost sight of
pub record FlowsOn (v w : Flow) : Type 0 where
  pub out : v.out ≤ w.out
  pub come : v.come ≤ w.come
  pub room : v.out + v.room ≤ w.out + w.room
  pub known : v.come + v.known ≤ w.come + w.known

-- of the ring from the one core to the other, of so many lines: its ends know all of it, what the other took and keeps begins what the one sent, and
-- a message that is going out is not among it
pub record IsExact (capacity : ℕ) (from to : LinkView) (out come : Flow) : Type 0 where
  pub ends : AreExact capacity out come
  pub front : IsPrefix (to.taken ++ to.kept) from.sent
  pub going : from.ready ≡ false → length (to.taken ++ to.kept) < length from.sent
  -- where nothing is going out and all lines were received, it is all
  pub all : from.ready ≡ true → out.out ≡ come.come → to.taken ++ to.kept ≡ from.sent
  -- no message is longer than the longest
  pub within : out.out ≤ lines_most * length from.sent
  pub sound : to.stopped ≡ None

-- no line moved
pub record IsLooked (v w : Flow) : Type 0 where
  pub out : w.out ≡ v.out
  pub come : w.come ≡ v.come

-- a line moved over the link
abbrev pub HasMoved : Flow → Flow → Type 0
HasMoved v w = (v.out < w.out) ⊎ (v.come < w.come)

-- the link says that lines moved where it said so before or one did, and only there
pub record SaysMoved (v w : Flow) : Type 0 where
  pub still : w.moved ≡ false → (v.moved ≡ false) × IsLooked v w
  pub moved : w.moved ≡ true → (v.moved ≡ true) ⊎ HasMoved v w

-- nothing goes over the link, as its end sees it, and it takes a message
pub record IsResting (v : LinkView) (f : Flow) : Type 0 where
  pub none_kept : v.kept ≡ []
  pub ready : v.ready ≡ true
  pub none_known : f.known ≡ 0

-- how many lines the ring to a peer holds
abbrev pub place_capacity : Option Link → ℕ
place_capacity None = 0
place_capacity (Some l) = sender_capacity l.sender

abbrev pub ring_capacity : RingLinks → ℕ → ℕ
ring_capacity r peer = place_capacity (link_to r peer)

-- the ring from the one core to the other is exact
abbrev pub IsExactAt : RingLinks → RingLinks → Type 0
IsExactAt a b = IsExact (ring_capacity a (own_of b)) (ring_view a (own_of b)) (ring_view b (own_of a)) (ring_flow a (own_of b)) (ring_flow b (own_of a))

-- no line moved over the link to this peer, and all others are as they were
abbrev pub LooksAt : ℕ → RingLinks → RingLinks → Type 0
LooksAt peer old new = FlowsAt ring_flow peer IsLooked old new

-- each of the two rings that join the two cores holds a line at least
abbrev pub HoldLines : RingLinks → RingLinks → Type 0
HoldLines a b = (1 ≤ ring_capacity a (own_of b)) × (1 ≤ ring_capacity b (own_of a))
