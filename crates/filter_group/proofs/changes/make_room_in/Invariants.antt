use Rattle.filter_group.specs.Changes.{AreSame}
use Rattle.filter_group.proofs.InTurn.{HaveRoomBelow}
use Rattle.filter_group.proofs.changes.make_room_in.Given as goal

abbrev pub invariant-loop-n : goal.invariant-loop-n
invariant-loop-n l = record {
  same : AreSame l.initial.slots l.slots;
  room : HaveRoomBelow l.n l.slots l.member l.code;
}
