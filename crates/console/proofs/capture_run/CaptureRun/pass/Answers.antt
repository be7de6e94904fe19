use Rattle.std.proofs.Common.{refl, ◌∙◌}
use Rattle.console.proofs.LineFeedLemmas.{none_left}
use Rattle.console.proofs.RunningLemmas.{pass_none, pass_then}
use Rattle.console.proofs.capture_run.CaptureRun.pass.Goals as goal

pub loop-rest-init : goal.loop-rest-init
loop-rest-init c = record { passes = pass_none _ _; link = refl; stamped = refl; refused = refl }

pub loop-rest-preserved : goal.loop-rest-preserved
loop-rest-preserved c = record {
  passes = pass_then c.args.piece.now c.loop-rest.rest.now c.pass_next.new.rest.now c.args.self.now c.loop-rest.self c.pass_next.new.self c.loop-rest.invariant.passes c.in_ok-pass_next.ensures.passes;
  link = c.pass_next.ensures.same.0 ∙ c.loop-rest.invariant.link;
  stamped = c.pass_next.ensures.same.1 ∙ c.loop-rest.invariant.stamped;
  refused = c.pass_next.ensures.same.2 ∙ c.loop-rest.invariant.refused;
}

pub returns-clause-passes : goal.returns-clause-passes
returns-clause-passes c = rw (none_left _ c.loop-rest.rest.now c.is_empty.result c.is_empty.ensures c.loop-rest-test.false refl) at c.loop-rest.invariant.passes
