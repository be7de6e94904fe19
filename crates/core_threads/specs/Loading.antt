-- The outlets before a run.
-- No public clause cites these.
use Rattle.std.specs.Prelude.{◌≡◌, ℕ, List, length, Some, slice_get}
use Rattle.rx_queue.specs.declared.job.Job.{Job}
use Rattle.rx_queue.specs.declared.port.Port.{Port}
use Rattle.core_threads.specs.declared.feeding.Outlet.{Outlet}
use Rattle.core_threads.specs.Feeding.{jobs_unput}
use Rattle.core_machine.specs.Lanes.{items_for}

-- the outlet in this place has this port, and all jobs of its core
pub record IsLoaded (place : ℕ) (port : Port) (jobs : List (ℕ × Job)) (outlet : Outlet) : Type 0 where
  pub same_port : outlet.port ≡ port
  pub unput : jobs_unput outlet ≡ items_for place jobs

pub record AreLoaded (ports : List Port) (jobs : List (ℕ × Job)) (outlets : List Outlet) : Type 0 where
  pub all : length outlets ≡ length ports
  pub each : (i : ℕ) (p : Port) (o : Outlet) → slice_get ports i ≡ Some p → slice_get outlets i ≡ Some o → IsLoaded i p jobs o
