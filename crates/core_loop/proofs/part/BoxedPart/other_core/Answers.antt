use Rattle.std.proofs.Common.{◌≡◌, ◌-◌, ℕ, suc, [], refl, ap, sym, subst, arith}
use Rattle.table_replica.specs.Shown.{ReplicaState}
use Rattle.core_loop.specs.declared.part.Part.{Part}
use Rattle.core_loop.specs.declared.part.Part.TheVariants as part
use Rattle.core_loop.specs.Keeping.{IsStanding}
use Rattle.core_loop.proofs.Standings.{other_stands}
use Rattle.core_loop.proofs.part.BoxedPart.other_core.Goals as goal

pub returns-in_ok-boxed-in-Ok-clause-stands : goal.returns-in_ok-boxed-in-Ok-clause-stands
returns-in_ok-boxed-in-Ok-clause-stands c = λ view silent.
    let core = c.in-Ok.core in
    let e = c.in-Ok.ensures in
    let number : c.args.number ≡ suc (c.args.number - 1) = omega (arith, c.requires.other) in
    subst (λ (p : Part). IsStanding p c.args.number c.args.cores 0 [] view) (sym c.in_ok-boxed-in-Ok.ensures)
    (subst (λ (n : ℕ). IsStanding (part.OtherCore core) n c.args.cores 0 [] view) (sym number) (other_stands c.args.limits core (c.args.number - 1) c.args.cores view (ap (λ (r : ReplicaState). r.shown) e.replica) (rw (e.participant, e.replica) refl) (rw e.participant refl) e.between silent))
