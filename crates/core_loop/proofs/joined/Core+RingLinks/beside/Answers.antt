use Rattle.std.proofs.Common.{ℕ, subst}
use Rattle.core_links.specs.declared.ring_links.RingLinks.{RingLinks}
use Rattle.core_links.specs.Views.{IsSameView}
use Rattle.core_loop.specs.Cores.{CoreState}
use Rattle.core_links.specs.Flows.{LooksAt}
use Rattle.core_links.specs.RingSlots.{own_of, ring_view}
use Rattle.core_loop.proofs.Resting.{stands_same}
use Rattle.core_loop.proofs.Stopped.{seen_stopped}
use Rattle.core_loop.proofs.joined.Core+RingLinks.beside.Goals as goal

pub invariant_of-self : goal.invariant_of-self
invariant_of-self c =
    let i = c.self.inside in
    let v = c.self.invariant in
    let same = c.beside.ensures.here in (
      v.0,
      v.1,
      stands_same i.part i.number i.cores i.clock i.history.items (ring_view i.links) (ring_view c.beside.new.self) v.2 (λ p. ((same p).sent, (same p).taken)),
      v.3,
      v.4,
      seen_stopped i.cores i.clock i.part (ring_view i.links) (ring_view c.beside.new.self) i.stopped same v.5,
      v.6,
    )

pub invariant_of-other : goal.invariant_of-other
invariant_of-other c =
    let i = c.other.inside in
    let v = c.other.invariant in
    let same = c.beside.ensures.there in (
      v.0,
      v.1,
      stands_same i.part i.number i.cores i.clock i.history.items (ring_view i.links) (ring_view c.beside.new.other) v.2 (λ p. ((same p).sent, (same p).taken)),
      v.3,
      v.4,
      seen_stopped i.cores i.clock i.part (ring_view i.links) (ring_view c.beside.new.other) i.stopped same v.5,
      v.6,
    )

pub returns-clause-here : goal.returns-clause-here
returns-clause-here c = subst (λ (s : CoreState RingLinks). (p : ℕ) → IsSameView (ring_view s.links p) (ring_view c.beside.new.self p)) c.self.view_is c.beside.ensures.here

pub returns-clause-there : goal.returns-clause-there
returns-clause-there c = subst (λ (s : CoreState RingLinks). (p : ℕ) → IsSameView (ring_view s.links p) (ring_view c.beside.new.other p)) c.other.view_is c.beside.ensures.there

pub returns-clause-still : goal.returns-clause-still
returns-clause-still c =
    subst (λ (s : CoreState RingLinks). LooksAt (own_of c.args.other.now.links) s.links c.beside.new.self × LooksAt (own_of s.links) c.args.other.now.links c.beside.new.other) c.self.view_is
    (subst (λ (s : CoreState RingLinks). LooksAt (own_of s.links) c.self.inside.links c.beside.new.self × LooksAt (own_of c.self.inside.links) s.links c.beside.new.other) c.other.view_is c.beside.ensures.still)
