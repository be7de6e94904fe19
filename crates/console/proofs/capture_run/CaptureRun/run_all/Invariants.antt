use Rattle.std.proofs.Common.{◌≡◌, None, false, length}
use Rattle.console.specs.Running.{RunsOn}
use Rattle.console.specs.Programs.{programs_of}
use Rattle.console.proofs.capture_run.CaptureRun.run_all.Given as goal

abbrev pub invariant-loop-rest : goal.invariant-loop-rest
invariant-loop-rest l = record {
  runs : RunsOn (programs_of l.filter) l.piece l.rest l.fn.self l.self l.initial.outcomes.items l.outcomes.items l.initial.stamps.items l.stamps.items;
  link : l.self.link ≡ l.fn.self.link;
  stamped : l.self.stamped ≡ l.fn.self.stamped;
  goes_on : l.self.refused ≡ None;
  plain : l.fn.self.stamped ≡ false → l.stamps.items ≡ l.initial.stamps.items;
}

abbrev pub decreases-loop-rest : goal.decreases-loop-rest
decreases-loop-rest l = length l.rest
