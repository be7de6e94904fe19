use Rattle.std.proofs.Common.{◌≡◌, ◌≤◌, length, false}
use Rattle.engine_io.specs.Devices.{Gets}
use Rattle.engine_io.proofs.input.read_bounded.Given as goal

abbrev pub invariant-loop-block : goal.invariant-loop-block
invariant-loop-block g l = record {
  good : l.reader.failed ≡ false;
  open_end : l.reader.ended ≡ false;
  count : l.reader.taken ≡ length l.held.items;
  within : length l.held.items ≤ l.bytes;
  taken : Gets g.R.Read.remaining l.initial.reader l.reader l.held.items;
}

abbrev pub decreases-loop-block : goal.decreases-loop-block
decreases-loop-block g l = l.reader.left
