use Rattle.std.proofs.Common.{sym, subst}
use Rattle.expr_lower.specs.Walks.{Flushes}
use Rattle.expr_lower.proofs.Walking.{flush_asks}
use Rattle.expr_lower.proofs.walk.flush.Goals as goal

pub returns-in_ok-push-in-Some : goal.returns-in_ok-push-in-Some
returns-in_ok-push-in-Some c =
    subst (λ b. Flushes b c.args.tests.now c.args.draft.now.parts.items c.push.new.self.parts.items) (sym c.in-Some.is)
    (flush_asks c.in-Some.place c.args.tests.now _ _ _ c.in_ok-ask-in-Some.ensures c.in_ok-push-in-Some.ensures)
