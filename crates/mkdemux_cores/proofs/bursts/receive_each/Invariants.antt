use Rattle.std.proofs.Common.{◌≡◌}
use Rattle.mkdemux_cores.proofs.InTurn.{SoFar}
use Rattle.mkdemux_cores.proofs.bursts.receive_each.Given as goal

abbrev pub invariant-loop-packet : goal.invariant-loop-packet
invariant-loop-packet l = record {
  so_far : SoFar l.initial.core l.core l.packets l.done l.used l.initial.room l.room l.initial.counts l.counts;
  done_is : l.done ≡ l.packet-index;
}
