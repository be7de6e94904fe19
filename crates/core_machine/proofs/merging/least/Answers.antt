use Rattle.std.proofs.Common.{◌≡◌, List, length, arith}
use Rattle.std.proofs.lemmas.List.{length-map}
use Rattle.std.specs.Borrow.{Bor}
use Rattle.world_histories.specs.declared.history.Stamped.{Stamped}
use Rattle.core_machine.specs.Merges.{shown_histories}
use Rattle.core_machine.proofs.Least.{shown_first, shown_none, found_none, found_kept, found_next, earlier, not_found, found_all}
use Rattle.core_machine.proofs.merging.least.Goals as goal
use Rattle.core_machine.proofs.merging.least.Goals.{in-Some-least, in_default-least, in_default-least-via-in-Some-least+else-stamp-event, in_default-least-via-in_default-least}

pub loop-core-preserved-in_default : goal.loop-core-preserved-in_default
loop-core-preserved-in_default c = found_none (shown_histories c.args.left.now) c.loop-core.core c.loop-core.least
    (shown_none c.args.left.now c.loop-core.core c.index-left-core.result c.index-left-core.is c.loop-core-test.true c.in_default.ensures.value) c.loop-core.invariant

pub loop-core-preserved : goal.loop-core-preserved
loop-core-preserved c =
    let left = shown_histories c.args.left.now in
    let first = shown_first c.args.left.now c.loop-core.core c.index-left-core.result c.in-Some.event.now c.index-left-core.is c.loop-core-test.true c.in-Some.ensures.value in
    elim c.match-least.branch [
      | in-Some-least w ↦ rw (w.least-is, w.in-Some-least.is) (found_kept left c.loop-core.core w.in-Some-least.field-0-0 w.in-Some-least.stamp c.in-Some.event.now first.0 first.1 w.if-stamp-event.true (rw w.in-Some-least.is at c.loop-core.invariant))
      | in_default-least w ↦ rw w.least-is (found_next left c.loop-core.core c.loop-core.least c.in-Some.event.now first.0 first.1 c.loop-core.invariant (elim w.in_default-least.branch [
        | in_default-least-via-in-Some-least+else-stamp-event v ↦ earlier c.loop-core.least v.in-Some-least.field-0-0 v.in-Some-least.stamp c.in-Some.event.now.stamp v.in-Some-least.is v.if-stamp-event.false
        | in_default-least-via-in_default-least v ↦ not_found c.loop-core.least c.in-Some.event.now.stamp v.in_default-least.is
      ]))
    ]

pub returns-clause-some : goal.returns-clause-some
returns-clause-some c =
    let left = shown_histories c.args.left.now in
    let long : length left ≡ length c.args.left.now = length-map c.args.left.now (λ (h : Bor (List Stamped)). h.now) in
    found_all left c.loop-core.core c.in_ok-core.core c.in_ok-core.field-0-1 (omega (arith, long)) (rw c.in_ok-core.was at c.loop-core.invariant)
