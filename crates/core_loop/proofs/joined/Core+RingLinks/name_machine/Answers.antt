use Rattle.std.proofs.Common.{sym, subst}
use Rattle.core_links.specs.declared.ring_links.RingLinks.{RingLinks}
use Rattle.core_links.specs.RingSlots.{ring_view}
use Rattle.core_loop.specs.Keeping.{IsStanding}
use Rattle.core_loop.specs.Turning.{HasStopped}
use Rattle.core_loop.proofs.joined.Core+RingLinks.name_machine.Goals as goal

pub invariant_of-self : goal.invariant_of-self
invariant_of-self c =
    let i = c.self.inside in
    let v = c.self.invariant in
    let named = sym c.name_machine.ensures in (
      v.0,
      v.1,
      subst (λ (l : RingLinks). IsStanding i.part i.number i.cores i.clock i.history.items (ring_view l)) named v.2,
      v.3,
      v.4,
      subst (λ (l : RingLinks). HasStopped i.cores i.clock i.part (ring_view l) i.stopped) named v.5,
      v.6,
    )
