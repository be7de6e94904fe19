use Rattle.std.proofs.Common.{◌≡◌, ◌≤◌, length, deque_capacity}
use Rattle.std.specs.VecDeque.{deque_len}
use Rattle.ump_ring.specs.Lines.{lines_below}
use Rattle.world_core.proofs.lines.cut.Given as goal

abbrev pub invariant-loop-place : goal.invariant-loop-place
invariant-loop-place l = record {
  lines : l.lines.items ≡ lines_below (length l.bytes) l.bytes 0 l.place;
  len : deque_len l.lines ≡ l.place;
  room : l.count ≤ deque_capacity l.lines;
}
