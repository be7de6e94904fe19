use Rattle.std.proofs.Common.{◌≡◌, ◌⊎◌, ℕ, List, Option, Some, slice_get, subst}
use Rattle.sim_engine.specs.declared.requests.PendingRequest.{PendingRequest}
use Rattle.sim_engine.specs.Keeping.{NoneBefore}
use Rattle.sim_engine.proofs.Places.{kept_from, kept_note, none_above}
use Rattle.sim_engine.proofs.requests.Requests.first_at.Goals as goal

pub next_at-place-requires : goal.next_at-place-requires
next_at-place-requires c = rw c.deref-2.ensures.value (kept_from c.self.inside.places.items c.self.inside.first c.self.inside.firsts.items c.args.home c.from_at-from.result c.self.invariant
    (subst (λ (fs : List ℕ). (c.from_at-from.result ≡ 0) ⊎ (slice_get fs c.args.home ≡ Some c.from_at-from.result)) c.deref.ensures.value c.from_at-from.ensures))

pub invariant_of-self : goal.invariant_of-self
invariant_of-self c = kept_note c.self.inside.places.items c.self.inside.first c.self.inside.firsts.items c.note.new.firsts.items c.args.home c.next_at-place.result c.self.invariant
    (subst (λ (ps : List (Option PendingRequest)). NoneBefore ps c.args.home c.next_at-place.result) c.deref-2.ensures.value c.next_at-place.ensures.none) c.note.ensures

pub returns-then-home-ge-MOST_CORES-clause-found : goal.returns-then-home-ge-MOST_CORES-clause-found
returns-then-home-ge-MOST_CORES-clause-found c = rw (← c.self.view_is) (none_above c.self.inside.places.items c.self.inside.first c.self.inside.firsts.items c.args.home c.self.invariant c.if-home-ge-MOST_CORES.true)
