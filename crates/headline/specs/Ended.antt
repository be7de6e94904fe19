-- Cores that were threads, were settled, and have done their work.
-- No public clause cites these.
use Rattle.std.specs.Prelude.{◌≡◌, ◌<◌, ◌++◌, ℕ, All, List, Some, length, slice_get}
use Rattle.filter_table.specs.Limits.{TableLimits}
use Rattle.filter_table.specs.declared.operation.Op.{Op}
use Rattle.rx_queue.specs.declared.job.Job.{Job}
use Rattle.core_loop.specs.Cores.{begun, receipts}
use Rattle.core_machine.specs.Machines.{RingCore}
use Rattle.core_threads.specs.Ending.{AreAllDone}
use Rattle.core_machine.specs.Lanes.{items_for}
use Rattle.core_machine.specs.Booting.{IsMachineOf}

-- the cores of a machine with these limits and budgets have begun these requests, and received these jobs but for those left
pub record HaveEnded (limits : TableLimits) (budgets : List ℕ) (requests : List (ℕ × Op)) (jobs : List (ℕ × Job)) (cores : List RingCore) (left : List (ℕ × Job)) : Type 0 where
  pub count : length cores ≡ length budgets
  pub machine : IsMachineOf limits budgets cores
  pub begun_all : (i : ℕ) (c : RingCore) → slice_get cores i ≡ Some c → begun c.history ≡ items_for i requests
  pub received_all : (i : ℕ) (c : RingCore) → slice_get cores i ≡ Some c → receipts c.history ++ items_for i left ≡ items_for i jobs
  pub left_inside : All (λ j. j.0 < length budgets) left
  pub done : AreAllDone cores left
