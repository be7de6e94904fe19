use Rattle.std.proofs.Common.{None, Some, sym, ◌∙◌}
use Rattle.console.proofs.CapturedLemmas.{ends_told}
use Rattle.console.proofs.StreamingLemmas.{goes_ends, refused_ends}
use Rattle.console.proofs.capture_run.CaptureRun.ending.Goals as goal

pub returns-in-Some-clause-ends : goal.returns-in-Some-clause-ends
returns-in-Some-clause-ends c = λ programs fed outcomes stamps has. refused_ends programs fed c.args.self.now outcomes stamps c.in-Some.fault has c.in-Some.is

pub returns-in-Ok-clause-ends : goal.returns-in-Ok-clause-ends
returns-in-Ok-clause-ends c = λ programs fed outcomes stamps has. goes_ends programs fed c.args.self.now outcomes stamps None has c.in_default.is (c.in-Ok.ensures.ends has.entries fed has.holds)

pub returns-else-is_refusal-clause-ends : goal.returns-else-is_refusal-clause-ends
returns-else-is_refusal-clause-ends c = λ programs fed outcomes stamps has.
    goes_ends programs fed c.args.self.now outcomes stamps (Some c.in-Err.fault) has c.in_default.is
    (ends_told has.entries fed c.in-Err.fault (sym c.is_refusal.ensures ∙ c.if-is_refusal.false) (c.in-Err.ensures.ends has.entries fed has.holds))
