-- Sameness of links over lists is reflexive and transitive, and they tell all and never stop.
-- No public clause cites these.
use Rattle.std.specs.Prelude.{◌≡◌, ℕ, true, Option, Some, None, refl}
use Rattle.std.proofs.Common.{◌∙◌}
use Rattle.core_links.specs.declared.list_links.ListLink.{ListLink}
use Rattle.core_links.specs.declared.list_links.ListLinks.{ListLinks}
use Rattle.core_links.specs.Slots.{place_view, place-itself, place-along}
use Rattle.core_links.specs.ListSlots.{SameList, SameLists, list_to, list_link_view, list_view}

SameList-itself : (a : ListLink) → SameList a a
SameList-itself a = record { given = refl; collected = refl; send_capacity = refl; give_capacity = refl }

SameList-along : (a b c : ListLink) → SameList a b → SameList b c → SameList a c
SameList-along a b c h k = record {
  given = k.given ∙ h.given;
  collected = k.collected ∙ h.collected;
  send_capacity = k.send_capacity ∙ h.send_capacity;
  give_capacity = k.give_capacity ∙ h.give_capacity;
}

pub SameLists-itself : (a : ListLinks) → SameLists a a
SameLists-itself a = λ peer. place-itself SameList SameList-itself (list_to a peer)

pub SameLists-along : (a b c : ListLinks) → SameLists a b → SameLists b c → SameLists a c
SameLists-along a b c h k = λ peer. place-along SameList SameList-along (list_to a peer) (list_to b peer) (list_to c peer) (h peer) (k peer)

place_tells : (k : Option ListLink) → ((place_view list_link_view k).told ≡ true) × ((place_view list_link_view k).stopped ≡ None)
place_tells None = (refl, refl)
place_tells (Some k) = (refl, refl)

-- what is kept is all that there is, for every peer
pub told-list_view : (l : ListLinks) (p : ℕ) → (list_view l p).told ≡ true
told-list_view l p = (place_tells (list_to l p)).0

pub stopped-list_view : (l : ListLinks) (p : ℕ) → (list_view l p).stopped ≡ None
stopped-list_view l p = (place_tells (list_to l p)).1
