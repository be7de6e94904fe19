use Rattle.filter_codegen.specs.Plans.{IsPlanning}
use Rattle.filter_codegen.proofs.plan.plan_places.Given as goal

abbrev pub invariant-places : goal.invariant-places
invariant-places l = IsPlanning l.graph l.fn.root l.place l.plans.items

abbrev pub decreases-places : goal.decreases-places
decreases-places l = l.place
