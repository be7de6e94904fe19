use Rattle.core_threads.specs.Feeding.{SameOutlet}
use Rattle.core_threads.proofs.feeding.put_batch.Given as goal

abbrev pub invariant-loop : goal.invariant-loop
invariant-loop l = SameOutlet l.initial.outlet l.outlet
