use Rattle.std.proofs.Common.{map}
use Rattle.core_machine.specs.Ahead.{work_ahead}
use Rattle.core_machine.proofs.Ending.{Settling}
use Rattle.core_machine.proofs.settling.settle.Given as goal

abbrev pub invariant-loop-settled : goal.invariant-loop-settled
invariant-loop-settled g l = let core = g.T.Member.core in Settling (map core l.fn.cores) (map core l.cores)

abbrev pub decreases-loop-settled : goal.decreases-loop-settled
decreases-loop-settled g l = work_ahead (map g.T.Member.core l.cores)
