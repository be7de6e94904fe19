-- The links between core 0 and each other core.
-- No public clause cites these.
use Rattle.std.specs.Prelude.{◌≡◌, ◌≤◌, ◌+◌, ℕ, suc, List, [], ◌∷◌, length, Some, None, slice_get}
use Rattle.core_links.specs.declared.ring_links.RingLinks.{RingLinks}
use Rattle.core_links.specs.RingSlots.{own_of, places_of, link_to, ring_view, AreJoinedLinks}
use Rattle.core_links.specs.Flows.{HoldLines}
use Rattle.core_loop.specs.Standing.{IsSilent}

-- links over which nothing has gone
abbrev pub AreSilent : RingLinks → Type 0
AreSilent links = (p : ℕ) → IsSilent (ring_view links p)

-- the links of the other core with this entry, joined to those of core 0 by rings that hold a line at least
pub record IsWired (entry : ℕ) (first other : RingLinks) : Type 0 where
  pub own : own_of other ≡ suc entry
  pub silent : AreSilent other
  pub joined : AreJoinedLinks first other
  pub holds : HoldLines first other
  pub no_other : (entry : ℕ) → link_to other (suc entry) ≡ None

-- the links of core 0 among so many cores, joined to those of the other cores below this number
pub record AreWired (cores peer : ℕ) (first : RingLinks) (others : List RingLinks) : Type 0 where
  pub own : own_of first ≡ 0
  pub room : places_of first ≡ cores
  pub count : length others + 1 ≡ peer
  pub silent : AreSilent first
  pub free : (p : ℕ) → peer ≤ p → link_to first p ≡ None
  pub no_itself : link_to first 0 ≡ None
  pub each : (i : ℕ) (l : RingLinks) → slice_get others i ≡ Some l → IsWired i first l

-- the links of so many cores, in the order of their numbers
abbrev pub IsWiring : ℕ → List RingLinks → Type 0
IsWiring cores [] = ⊥
IsWiring cores (first ∷ others) = AreWired cores cores first others
