use Rattle.std.specs.List.{AllZip}
use Rattle.core_threads.specs.Feeding.{SameOutlet}
use Rattle.core_threads.proofs.feeding.put_jobs.Given as goal

abbrev pub invariant-loop : goal.invariant-loop
invariant-loop g l = AllZip SameOutlet l.initial.outlets l.outlets
