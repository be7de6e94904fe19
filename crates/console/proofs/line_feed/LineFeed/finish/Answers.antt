use Rattle.std.proofs.Common.{arith, refl}
use Rattle.console.proofs.LineFeedLemmas.{lines_last_good, lines_last_bad, some_left}
use Rattle.console.proofs.line_feed.LineFeed.finish.Goals as goal

pub returns-in_ok-push-in-Ok-clause-runs : goal.returns-in_ok-push-in-Ok-clause-runs
returns-in_ok-push-in-Ok-clause-runs c =
    let some = some_left _ c.is_empty.result c.is_empty.ensures c.if-is_empty.false in
    lines_last_good _ c.args.self.now _ _ _ c.in-Ok.outcome (omega (arith, some, c.args.self.now.part.ok.0)) refl (rw (c.in-Ok.is, c.as_slice.ensures.value) at c.in_ok-outcome.ensures) c.in_ok-push-in-Ok.ensures.items

pub returns-in-Err-clause-runs : goal.returns-in-Err-clause-runs
returns-in-Err-clause-runs c =
    let some = some_left _ c.is_empty.result c.is_empty.ensures c.if-is_empty.false in
    lines_last_bad _ c.args.self.now _ _ (omega (arith, some, c.args.self.now.part.ok.0)) refl (rw (c.in-Err.is, c.as_slice.ensures.value) at c.in_ok-outcome.ensures) refl
