-- Links over rings that nothing has gone through.
use Rattle.std.proofs.Common.{◌≡◌, ◌⊎◌, inl, inr, ℕ, Option, None, Some, [], refl, sym, subst}
use Rattle.ump_ring.specs.Senders.{messages_offered}
use Rattle.ump_ring.specs.Receivers.{messages_taken}
use Rattle.core_links.specs.declared.ring_links.Link.{Link}
use Rattle.core_links.specs.declared.ring_links.RingLinks.{RingLinks}
use Rattle.core_links.specs.Slots.{place_view}
use Rattle.core_links.specs.RingSlots.{link_to, link_view, ring_view}
use Rattle.core_loop.specs.Standing.{IsSilent}
use Rattle.world_model.proofs.Lists.{same_or_not}

silent_slot : (a b : Option Link) → a ≡ b → IsSilent (place_view link_view b) → IsSilent (place_view link_view a)
silent_slot a b e s = subst (λ (x : Option Link). IsSilent (place_view link_view x)) (sym e) s

-- links to no peer are silent
pub silent_empty : (r : RingLinks) → ((p : ℕ) → link_to r p ≡ None) → (p : ℕ) → IsSilent (ring_view r p)
silent_empty r none p = silent_slot (link_to r p) None (none p) (refl, refl)

-- so they are with one more, by rings that nothing has gone through
pub silent_more : (old new : RingLinks) (peer : ℕ) (l : Link) → ((p : ℕ) → IsSilent (ring_view old p)) → link_to new peer ≡ Some l
    → ((p : ℕ) → (p ≡ peer → ⊥) → link_to new p ≡ link_to old p) → messages_offered l.sender ≡ [] → messages_taken l.receiver ≡ [] → (p : ℕ) → IsSilent (ring_view new p)
silent_more old new peer l silent here others sent taken p = by_place (same_or_not p peer)
  where
    by_place : ((p ≡ peer) ⊎ (p ≡ peer → ⊥)) → IsSilent (ring_view new p)
    by_place (inl e) = subst (λ (n : ℕ). IsSilent (ring_view new n)) (sym e) (silent_slot (link_to new peer) (Some l) here (sent, taken))
    by_place (inr ne) = silent_slot (link_to new p) (link_to old p) (others p ne) (silent p)
