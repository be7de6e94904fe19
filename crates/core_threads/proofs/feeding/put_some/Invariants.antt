use Rattle.std.specs.List.{AllZip}
use Rattle.core_threads.specs.Feeding.{SameOutlet}
use Rattle.core_threads.proofs.feeding.put_some.Given as goal

abbrev pub invariant-loop-core : goal.invariant-loop-core
invariant-loop-core l = AllZip SameOutlet l.initial.outlets l.outlets
