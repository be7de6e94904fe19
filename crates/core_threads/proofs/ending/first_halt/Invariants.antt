use Rattle.core_threads.specs.Searching.{NoneHaltedBelow}
use Rattle.core_threads.proofs.ending.first_halt.Given as goal

abbrev pub invariant-loop-ran : goal.invariant-loop-ran
invariant-loop-ran l = NoneHaltedBelow l.ran l.ran-index
