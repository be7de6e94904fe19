use Rattle.std.proofs.Common.{◌≡◌, List, Option, None, slice_index_or, sym, subst, rules}
use Rattle.core_links.specs.declared.ring_links.Link.{Link}
use Rattle.core_links.proofs.RingPlaces.{none_more}
use Rattle.core_links.proofs.ring_links.RingLinks.new.Goals as goal

pub loop-preserved : goal.loop-preserved
loop-preserved c = (
  search rules,
  λ p. subst (λ (xs : List (Option Link)). slice_index_or xs p None ≡ None) (sym c.in_ok-push.ensures.items) (none_more c.loop.slots.items c.loop.invariant.1 p),
)
