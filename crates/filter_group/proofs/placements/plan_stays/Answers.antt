use Rattle.std.proofs.Common.{◌≡◌, ◌++◌, ◌∷◌, [], List, Option, ℕ, IfSome, sym, subst}
use Rattle.std.specs.Box.{box_value}
use Rattle.filter_group.specs.Placed.{Placed}
use Rattle.filter_group.specs.Planning.{HaveJoined, IsPlan}
use Rattle.filter_group.proofs.Fewer.{if_there, plan_pushed}
use Rattle.filter_group.proofs.placements.plan_stays.Goals as goal

pub returns-in-None : goal.returns-in-None
returns-in-None c = λ full before joined is.
    let parts = c.args.parts.now in
    let plan = c.args.plan.now in
    let alone : (part : Placed) × (parts ≡ before ++ part ∷ []) = subst (λ (j : Option ℕ). HaveJoined before parts j) c.in-None.is joined in
    subst (λ (ps : List Placed). IfSome plan (λ p. IsPlan ps (box_value p))) (sym alone.1) (if_there plan (λ p. plan_pushed before alone.0 (box_value p)) is)
