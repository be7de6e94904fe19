use Rattle.std.proofs.Common.{◌≡◌, ◌-◌, length}
use Rattle.rx_queue.specs.Queue.{jobs_put, jobs_taken, AreEnds}
use Rattle.core_threads.specs.Leaving.{Leaves, SameButTaken}
use Rattle.core_threads.proofs.leaving.leave_put.Given as goal

abbrev pub invariant-loop-job : goal.invariant-loop-job
invariant-loop-job l = record {
  ends : AreEnds l.port l.core.intake;
  put : jobs_put l.port ≡ jobs_put l.initial.port;
  core : SameButTaken l.initial.core l.core;
  left : Leaves l.number (jobs_taken l.initial.core.intake) (jobs_taken l.core.intake) l.initial.left.items l.left.items;
}

abbrev pub decreases-loop-job : goal.decreases-loop-job
decreases-loop-job l = length (jobs_put l.port) - length (jobs_taken l.core.intake)
