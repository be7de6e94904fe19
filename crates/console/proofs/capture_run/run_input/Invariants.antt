use Rattle.std.proofs.Common.{◌≡◌, ◌≤◌, false}
use Rattle.engine_io.specs.declared.input.TheConstants.{INPUT_BYTES}
use Rattle.console.proofs.RunningLemmas.{SoRun}
use Rattle.console.specs.Programs.{programs_of}
use Rattle.console.proofs.capture_run.run_input.Given as goal

abbrev pub invariant-loop-block : goal.invariant-loop-block
invariant-loop-block g l = record {
  good : l.reader.failed ≡ false;
  open_end : l.reader.ended ≡ false;
  so : SoRun (programs_of l.filter) g.R.Read.remaining l.initial.reader l.reader l.run l.outcomes.items l.stamps.items l.reader.taken;
  link : l.run.link ≡ l.initial.run.link;
  within : l.reader.taken ≤ INPUT_BYTES;
}

abbrev pub decreases-loop-block : goal.decreases-loop-block
decreases-loop-block g l = l.reader.left
