use Rattle.std.proofs.Common.{map}
use Rattle.core_machine.proofs.Seeing.{Looking}
use Rattle.core_machine.proofs.looking.look_at_all.Given as goal

abbrev pub invariant-loop-other : goal.invariant-loop-other
invariant-loop-other g l = let core = g.T.Member.core in Looking l.other-index (core l.initial.first) (core l.first) (map core l.initial.others) (map core l.others)
