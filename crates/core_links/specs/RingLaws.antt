-- Sameness of links over rings is reflexive and transitive.
use Rattle.std.specs.Prelude.{Option, refl}
use Rattle.std.proofs.Common.{rules, ◌∙◌}
use Rattle.core_links.specs.declared.ring_links.Link.{Link}
use Rattle.core_links.specs.declared.ring_links.RingLinks.{RingLinks}
use Rattle.core_links.specs.Slots.{place-itself, place-along}
use Rattle.core_links.specs.RingSlots.{SameLink, SameSlot, SameLinks, link_to}

pub SameLink-itself : (a : Link) → SameLink a a
SameLink-itself a = search rules

SameLink-along : (a b c : Link) → SameLink a b → SameLink b c → SameLink a c
SameLink-along a b c h k = search rules

pub SameSlot-itself : (a : Option Link) → SameSlot a a
SameSlot-itself a = place-itself SameLink SameLink-itself a

pub SameSlot-along : (a b c : Option Link) → SameSlot a b → SameSlot b c → SameSlot a c
SameSlot-along a b c h k = place-along SameLink SameLink-along a b c h k

pub SameLinks-itself : (a : RingLinks) → SameLinks a a
SameLinks-itself a = record { own = refl; machine = refl; count = refl; each = λ peer. SameSlot-itself (link_to a peer) }

pub SameLinks-along : (a b c : RingLinks) → SameLinks a b → SameLinks b c → SameLinks a c
SameLinks-along a b c h k = record {
  own = k.own ∙ h.own;
  machine = k.machine ∙ h.machine;
  count = k.count ∙ h.count;
  each = λ peer. SameSlot-along (link_to a peer) (link_to b peer) (link_to c peer) (h.each peer) (k.each peer);
}
