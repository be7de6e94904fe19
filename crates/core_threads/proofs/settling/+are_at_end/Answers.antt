use Rattle.std.proofs.Common.{◌≡◌, ◌∙◌, ◌∷◌, sym, subst, rules}
use Rattle.std.proofs.lemmas.Bool.{false≢true}
use Rattle.core_machine.specs.Machines.{RingCore}
use Rattle.core_machine.specs.Lanes.{items_for}
use Rattle.core_threads.specs.Ending.{IsAtEnd}
use Rattle.core_threads.proofs.Resting.{at_end_more, at_end_first}
use Rattle.core_threads.proofs.settling.+are_at_end.Goals as goal

pub returns-then-is_at_end : goal.returns-then-is_at_end
returns-then-is_at_end t c =
    let whole : c.args.cores.now ≡ c.in-Some.core.now ∷ c.in-Some.rest.now = search rules in
    at_end_more c.args.cores.now c.in-Some.core.now c.in-Some.rest.now c.args.left.now c.are_at_end.result whole (search rules) c.are_at_end.ensures

pub returns-else-is_at_end : goal.returns-else-is_at_end
returns-else-is_at_end t c =
    let whole : c.args.cores.now ≡ c.in-Some.core.now ∷ c.in-Some.rest.now = search rules in (
      λ is. absurd (false≢true (sym c.if-is_at_end.false ∙ is)),
      λ each. c.is_at_end.ensures.at_end.1 (subst (λ (x : RingCore). IsAtEnd (items_for x.number c.args.left.now) x) (sym c.core.ensures) (at_end_first c.args.cores.now c.in-Some.core.now c.in-Some.rest.now c.args.left.now whole each)),
    )
