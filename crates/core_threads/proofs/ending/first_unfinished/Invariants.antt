use Rattle.core_threads.specs.Searching.{AreDoneBelow}
use Rattle.core_threads.proofs.ending.first_unfinished.Given as goal

abbrev pub invariant-loop-ran : goal.invariant-loop-ran
invariant-loop-ran l = AreDoneBelow l.ran l.left l.ran-index
