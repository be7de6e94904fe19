-- Cores of which only the links were looked at.
use Rattle.std.specs.Prelude.{◌≡◌, ◌≢◌, ℕ, List, [], ◌∷◌, length, Some, slice_get}
use mathlib.Core.List.{IsPrefix}
use Rattle.core_links.specs.RingSlots.{own_of, ring_view, SameLinks}
use Rattle.core_links.specs.Views.{LinkView, IsSameView}
use Rattle.core_links.specs.Flows.{Flow, IsExact, IsExactAt, IsLooked, ring_flow}
use Rattle.core_loop.specs.Cores.{Stands}
use Rattle.core_loop.specs.Turning.{HasStopped}
use Rattle.core_machine.specs.Machines.{RingCore}

-- only the links were looked at, and show what they showed; no line moved
pub record IsLookedAt (old new : RingCore) : Type 0 where
  pub core : new ≡ record old { links = new.links }
  pub links : SameLinks old.links new.links
  pub views : (p : ℕ) → IsSameView (ring_view old.links p) (ring_view new.links p)
  pub lines : (p : ℕ) → IsLooked (ring_flow old.links p) (ring_flow new.links p)

pub record AreLookedAt (old new : List RingCore) : Type 0 where
  pub all : length new ≡ length old
  pub each : (i : ℕ) (c d : RingCore) → slice_get old i ≡ Some c → slice_get new i ≡ Some d → IsLookedAt c d

-- the ring over which these two views are joined was looked at from both its ends
pub record IsExactRing (from to : LinkView) : Type 0 where
  pub capacity : ℕ
  pub out : Flow
  pub come : Flow
  pub exact : IsExact capacity from to out come

-- The other core stands where its history leads, what it and core 0 took from each other begins what the other sent, and what each keeps of the
-- other follows that. If the other has stopped, its links show why.
pub record TookInOrder (first other : RingCore) : Type 0 where
  pub up : IsPrefix (ring_view first.links (own_of other.links)).taken (ring_view other.links (own_of first.links)).sent
  pub down : IsPrefix (ring_view other.links (own_of first.links)).taken (ring_view first.links (own_of other.links)).sent
  pub exact_up : IsExactRing (ring_view other.links (own_of first.links)) (ring_view first.links (own_of other.links))
  pub exact_down : IsExactRing (ring_view first.links (own_of other.links)) (ring_view other.links (own_of first.links))
  pub stands : Stands ring_view other
  pub stopped : HasStopped other.cores other.clock other.part (ring_view other.links) other.stopped

abbrev pub EachTookInOrder : RingCore → List RingCore → Type 0
EachTookInOrder first others = (k : ℕ) (c : RingCore) → slice_get others k ≡ Some c → TookInOrder first c

-- core 0 and the other core were looked at beside each other, and so both rings that join them from both their ends
abbrev pub AreExactCores : RingCore → RingCore → Type 0
AreExactCores first other = IsExactAt first.links other.links × IsExactAt other.links first.links

abbrev pub EachIsExact : RingCore → List RingCore → Type 0
EachIsExact first others = (k : ℕ) (c : RingCore) → slice_get others k ≡ Some c → AreExactCores first c

-- of core 0 and the others in one list
abbrev pub AreExactMachine : List RingCore → Type 0
AreExactMachine [] = ⊥
AreExactMachine (first ∷ others) = EachIsExact first others

-- each of these cores has links of its own
abbrev pub HaveOwnLinks : List RingCore → Type 0
HaveOwnLinks cores = (j k : ℕ) (c d : RingCore) → slice_get cores j ≡ Some c → slice_get cores k ≡ Some d → own_of c.links ≡ own_of d.links → j ≡ k

-- no link to another core than these was looked at
abbrev pub LooksOnlyAt : List RingCore → RingCore → RingCore → Type 0
LooksOnlyAt others old new = (p : ℕ) → ((k : ℕ) (c : RingCore) → slice_get others k ≡ Some c → p ≢ own_of c.links) → ring_flow new.links p ≡ ring_flow old.links p
