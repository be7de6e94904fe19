use Rattle.std.proofs.Common.{◌≡◌, length}
use Rattle.console.specs.Running.{PassesOn}
use Rattle.console.proofs.capture_run.CaptureRun.pass.Given as goal

abbrev pub invariant-loop-rest : goal.invariant-loop-rest
invariant-loop-rest l = record {
  passes : PassesOn l.piece l.rest l.fn.self l.self;
  link : l.self.link ≡ l.fn.self.link;
  stamped : l.self.stamped ≡ l.fn.self.stamped;
  refused : l.self.refused ≡ l.fn.self.refused;
}

abbrev pub decreases-loop-rest : goal.decreases-loop-rest
decreases-loop-rest l = length l.rest
