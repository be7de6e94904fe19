use Rattle.std.proofs.Common.{◌≡◌, ◌≤◌, false}
use Rattle.engine_io.specs.declared.input.TheConstants.{INPUT_BYTES}
use Rattle.console.proofs.CapturedLemmas.{SoKept}
use Rattle.console.proofs.captured.read_entries.Given as goal

abbrev pub invariant-loop-alloc : goal.invariant-loop-alloc
invariant-loop-alloc g l = record {
  good : l.reader.failed ≡ false;
  open_end : l.reader.ended ≡ false;
  so : SoKept g.R.Read.remaining l.initial.reader l.reader l.feed l.entries.items l.reader.taken;
  within : l.reader.taken ≤ INPUT_BYTES;
}

abbrev pub decreases-loop-alloc : goal.decreases-loop-alloc
decreases-loop-alloc g l = l.reader.left
