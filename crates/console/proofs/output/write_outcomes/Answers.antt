use Rattle.std.proofs.Common.{ap, ap₂, arith, length, sym, ◌∙◌, ◌+◌, ◌++◌}
use Rattle.console.specs.Views.{shown_at_once, shown_line}
use Rattle.console.proofs.PrintingLemmas.{on_err, printing_front, printing_next, printing_written}
use Rattle.console.proofs.output.write_outcomes.Goals as goal

pub returns-in_err-write_text-clause-front : goal.returns-in_err-write_text-clause-front
returns-in_err-write_text-clause-front g c =
    on_err _ _ (printing_front _ _ _ _ _ _
    (printing_next _ _ _ _ _ _ _ _ c.loop-outcome.invariant.printing
    (ap (λ t. shown_at_once c.args.view c.loop-outcome.number c.loop-outcome.times.now t) c.in-Some.ensures.cases.0
    ∙ ap₂ (λ s t. shown_line c.args.view (c.loop-outcome.number + 1) s c.in-Some.outcome.now ++ shown_at_once c.args.view (c.loop-outcome.number + 1) t c.in-Some.more.now) (sym c.next_stamp-stamp.ensures.taken) (sym c.next_stamp-stamp.ensures.left))
    c.in_ok-push_line.ensures)
    (rw c.as_str.ensures.value at c.in_err-write_text.ensures.front))

pub loop-outcome-preserved-then-len-ge-BLOCK : goal.loop-outcome-preserved-then-len-ge-BLOCK
loop-outcome-preserved-then-len-ge-BLOCK g c = record {
  few = omega (arith, c.loop-outcome.invariant.few, ap length c.in-Some.ensures.cases.0);
  good = c.in_ok-write_text.ensures.good;
  printing = printing_written _ _ _ _ _ _ _
      (printing_next _ _ _ _ _ _ _ _ c.loop-outcome.invariant.printing
      (ap (λ t. shown_at_once c.args.view c.loop-outcome.number c.loop-outcome.times.now t) c.in-Some.ensures.cases.0
      ∙ ap₂ (λ s t. shown_line c.args.view (c.loop-outcome.number + 1) s c.in-Some.outcome.now ++ shown_at_once c.args.view (c.loop-outcome.number + 1) t c.in-Some.more.now) (sym c.next_stamp-stamp.ensures.taken) (sym c.next_stamp-stamp.ensures.left))
      c.in_ok-push_line.ensures)
      (rw c.as_str.ensures.value at c.in_ok-write_text.ensures.written) c.clear.ensures.bytes;
}

pub loop-outcome-preserved : goal.loop-outcome-preserved
loop-outcome-preserved g c = record {
  few = omega (arith, c.loop-outcome.invariant.few, ap length c.in-Some.ensures.cases.0);
  good = c.loop-outcome.invariant.good;
  printing = printing_next _ _ _ _ _ _ _ _ c.loop-outcome.invariant.printing
      (ap (λ t. shown_at_once c.args.view c.loop-outcome.number c.loop-outcome.times.now t) c.in-Some.ensures.cases.0
      ∙ ap₂ (λ s t. shown_line c.args.view (c.loop-outcome.number + 1) s c.in-Some.outcome.now ++ shown_at_once c.args.view (c.loop-outcome.number + 1) t c.in-Some.more.now) (sym c.next_stamp-stamp.ensures.taken) (sym c.next_stamp-stamp.ensures.left))
      c.in_ok-push_line.ensures;
}

pub returns-in_err-write_text-2-clause-front : goal.returns-in_err-write_text-2-clause-front
returns-in_err-write_text-2-clause-front g c =
    on_err _ _ (printing_front _ _ _ _ _ _ c.loop-outcome.invariant.printing (rw c.as_str-2.ensures.value at c.in_err-write_text-2.ensures.front))
