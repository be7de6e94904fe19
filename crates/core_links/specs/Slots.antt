-- Links by the numbers of the peers: a place for each core, which is empty where there is no link.
use Rattle.std.specs.Prelude.{Option, Some, None, ⊤}
use Rattle.core_links.specs.Views.{LinkView, no_link}

-- neither is a link, or both are one
abbrev pub SamePlace : {K : Type 0} → (K → K → Type 0) → Option K → Option K → Type 0
SamePlace same None None = ⊤
SamePlace same None (Some b) = ⊥
SamePlace same (Some a) None = ⊥
SamePlace same (Some a) (Some b) = same a b

abbrev pub place_view : {K : Type 0} → (K → LinkView) → Option K → LinkView
place_view view None = no_link
place_view view (Some k) = view k

-- sameness of places is reflexive and transitive where that of links is
module _ {K : Type 0} (same : K → K → Type 0) where
  pub place-itself : ((k : K) → same k k) → (a : Option K) → SamePlace same a a
  place-itself itself None = tt
  place-itself itself (Some a) = itself a

  pub place-along : ((a b c : K) → same a b → same b c → same a c) → (a b c : Option K) → SamePlace same a b → SamePlace same b c → SamePlace same a c
  place-along along None None c h k = k
  place-along along None (Some b) c h k = absurd h
  place-along along (Some a) None c h k = absurd h
  place-along along (Some a) (Some b) None h k = k
  place-along along (Some a) (Some b) (Some c) h k = along a b c h k
