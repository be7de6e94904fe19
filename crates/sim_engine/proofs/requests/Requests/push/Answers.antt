use Rattle.std.proofs.Common.{List, Option, subst, sym}
use Rattle.sim_engine.specs.declared.requests.PendingRequest.{PendingRequest}
use Rattle.sim_engine.specs.Keeping.{IsKept}
use Rattle.sim_engine.proofs.Places.{kept_push}
use Rattle.sim_engine.proofs.requests.Requests.push.Goals as goal

pub invariant_of-self-2 : goal.invariant_of-self-2
invariant_of-self-2 c = subst (λ (ps : List (Option PendingRequest)). IsKept ps c.self.inside.first c.self.inside.firsts.items) (sym c.in_ok-push.ensures.items)
    (kept_push c.self.inside.places.items c.self.inside.first c.self.inside.firsts.items c.self.invariant c.args.request (record { low = c.requires.low; short = c.requires.short }))
