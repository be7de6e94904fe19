use Rattle.std.proofs.Common.{[], sym, append-nil, inr}
use Rattle.console.specs.declared.view.View.TheVariants.{Lines}
use Rattle.console.specs.Views.{shown_at_once}
use Rattle.console.proofs.CaptureLemmas.{capture_shown, capture_part}
use Rattle.console.proofs.match_capture.show_capture.Goals as goal

pub returns-in_err-write_outcomes-clause-part : goal.returns-in_err-write_outcomes-clause-part
returns-in_err-write_outcomes-clause-part g c = λ _.
    let front = c.in_err-write_outcomes.ensures.front in
    (front.0, front.2, inr (capture_part c.args.run.now c.args.outcomes.now c.in_ok-ending.ending c.in_ok-ending.ensures.ends front.0 front.1))

pub returns-clause-shown : goal.returns-clause-shown
returns-clause-shown g c =
    capture_shown c.args.run.now c.args.outcomes.now c.in_ok-ending.ending c.in_ok-ending.ensures.ends c.write_last.result _ _ _ _ _ _ _ c.in_ok-write_outcomes.ensures.written c.in_ok-write_outcomes.ensures.empty c.write_last.ensures.shown c.write_last.ensures.explained

pub returns-clause-part : goal.returns-clause-part
returns-clause-part g c = λ memory. (
  shown_at_once Lines 0 [] c.args.outcomes.now,
  rw (c.write_last.ensures.part memory) c.in_ok-write_outcomes.ensures.written,
  inr (capture_part c.args.run.now c.args.outcomes.now c.in_ok-ending.ending c.in_ok-ending.ensures.ends _ ([], sym (append-nil _))),
)
