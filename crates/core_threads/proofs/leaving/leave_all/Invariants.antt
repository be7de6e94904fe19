use Rattle.core_threads.proofs.Emptying.{Emptying}
use Rattle.core_threads.proofs.leaving.leave_all.Given as goal

abbrev pub invariant-loop-place : goal.invariant-loop-place
invariant-loop-place l = Emptying l.place l.initial.ran l.ran l.initial.outlets l.outlets l.left.items
