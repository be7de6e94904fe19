use Rattle.std.proofs.Common.{◌≡◌, ◌+◌, ◌-◌, subst, arith}
use Rattle.filter_codegen.specs.Plans.{IsPlanning}
use Rattle.filter_codegen.proofs.Planning.{planned_all}
use Rattle.filter_codegen.proofs.plan.plan_places.Goals as goal

pub places-preserved : goal.places-preserved
places-preserved c =
    let below = c.places.invariant.below in
    let e : c.places.place ≡ c.places.place - 1 + 1 = omega arith in
    c.plan_place.ensures c.args.root (omega arith) (subst (λ n. IsPlanning c.args.graph.now c.args.root n c.places.plans.items) e c.places.invariant)

pub returns-clause-ok : goal.returns-clause-ok
returns-clause-ok c = planned_all c.args.graph.now c.args.root c.places.place c.places.plans.items (omega arith) c.places.invariant
