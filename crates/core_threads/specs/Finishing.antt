-- What the joined threads come to.
-- No public clause cites these.
use Rattle.std.specs.Prelude.{◌≡◌, ◌<◌, ◌++◌, ℕ, All, List, map, length, Option, Some, slice_get}
use Rattle.rx_queue.specs.declared.job.Job.{Job}
use Rattle.rx_queue.specs.Queue.{jobs_taken}
use Rattle.core_links.specs.RingSlots.{ring_view}
use Rattle.core_machine.specs.Machines.{RingCore, IsMachine}
use Rattle.core_machine.specs.Conclusions.{AreRunning}
use Rattle.core_threads.specs.declared.feeding.Outlet.{Outlet}
use Rattle.core_threads.specs.declared.halt.Halt.{Halt}
use Rattle.core_threads.specs.declared.threads.Ran.{Ran}
use Rattle.core_threads.specs.Ending.{HaltsRightly}
use Rattle.core_threads.specs.Feeding.{jobs_through}
use Rattle.core_machine.specs.Lanes.{items_for}
use Rattle.core_threads.specs.Leaving.{AreFedBy, IsLeft}
use Rattle.filter_table.specs.Limits.{TableLimits}
use Rattle.core_threads.specs.Runs.{StandsSo}

-- the cores are those of a machine, each beside the outlet of its queue, and why it halted stands
pub record CanFinish (ran : List Ran) (outlets : List Outlet) : Type 0 where
  pub limits : TableLimits
  pub budget : ℕ
  pub budgets : List ℕ
  pub machine : IsMachine limits budget budgets (map (λ r. r.core) ran)
  pub fed : AreFedBy ran outlets
  pub stands : (i : ℕ) (r : Ran) → slice_get ran i ≡ Some r → StandsSo ring_view r.halted r.core

-- the cores are those that ran, and what the queues and the outlets had is left: for each core, the jobs taken and then those left are the
-- jobs of its outlet
pub record Finishes (ran : List Ran) (outlets : List Outlet) (cores : List RingCore) (left : List (ℕ × Job)) (halted : Option (ℕ × Halt)) : Type 0 where
  pub all : length cores ≡ length ran
  pub same : (i : ℕ) (r : Ran) (c : RingCore) → slice_get ran i ≡ Some r → slice_get cores i ≡ Some c → IsLeft r.core c
  pub each : (i : ℕ) (r : Ran) (o : Outlet) → slice_get ran i ≡ Some r → slice_get outlets i ≡ Some o → jobs_taken r.core.intake ++ items_for i left ≡ jobs_through o
  pub inside : All (λ j. j.0 < length cores) left
  pub why : HaltsRightly cores left halted
  pub running : AreRunning cores
