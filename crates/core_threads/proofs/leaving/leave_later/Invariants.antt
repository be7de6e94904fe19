use Rattle.std.proofs.Common.{◌≡◌, ◌++◌, [], length, List}
use Rattle.rx_queue.specs.declared.job.Job.{Job}
use Rattle.core_threads.specs.Leaving.{Leaves}
use Rattle.core_threads.proofs.leaving.leave_later.Given as goal

abbrev pub invariant-loop-job : goal.invariant-loop-job
invariant-loop-job l = (gone : List Job) × (gone ++ l.later.items ≡ l.initial.later.items) × Leaves l.number [] gone l.initial.left.items l.left.items

abbrev pub decreases-loop-job : goal.decreases-loop-job
decreases-loop-job l = length l.later.items
