use Rattle.std.proofs.Common.{[], refl, ap, sym, subst}
use Rattle.table_replica.specs.Shown.{ReplicaState}
use Rattle.two_phase.specs.Coordinators.{CoordinatorState}
use Rattle.core_loop.specs.declared.part.Part.{Part}
use Rattle.core_loop.specs.Keeping.{IsStanding}
use Rattle.core_loop.proofs.Standings.{first_stands}
use Rattle.core_loop.proofs.part.BoxedPart.core_0.Goals as goal

pub returns-in_ok-boxed-in-Ok-clause-stands : goal.returns-in_ok-boxed-in-Ok-clause-stands
returns-in_ok-boxed-in-Ok-clause-stands c = λ view silent.
    let core = c.in-Ok.core in
    let e = c.in-Ok.ensures in
    subst (λ (p : Part). IsStanding p 0 c.args.cores 0 [] view) (sym c.in_ok-boxed-in-Ok.ensures)
    (first_stands c.args.limits core c.args.cores view (ap (λ (r : ReplicaState). r.shown) e.replica) (rw (e.coordinator, e.replica) refl) (ap (λ (o : CoordinatorState). o.others) e.coordinator) (ap (λ (o : CoordinatorState). o.requests) e.coordinator) e.between silent)
