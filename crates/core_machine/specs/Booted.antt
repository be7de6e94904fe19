-- Cores that have come up and have done nothing.
use Rattle.std.specs.Prelude.{◌≡◌, ℕ, List, [], length, Some, None, slice_get}
use Rattle.rx_queue.specs.declared.port.Port.{Port}
use Rattle.rx_queue.specs.Queue.{jobs_put, jobs_taken, AreEnds}
use Rattle.core_machine.specs.Machines.{RingCore}

-- a core in its place that has done nothing, and the port of its queue, in which nothing was put
pub record IsBooted (place : ℕ) (core : RingCore) (port : Port) : Type 0 where
  pub number : core.number ≡ place
  pub history : core.history ≡ []
  pub running : core.stopped ≡ None
  pub taken : jobs_taken core.intake ≡ []
  pub put : jobs_put port ≡ []
  pub queue : AreEnds port core.intake

pub record AreBooted (cores : List RingCore) (ports : List Port) : Type 0 where
  pub all : length ports ≡ length cores
  pub each : (i : ℕ) (c : RingCore) (p : Port) → slice_get cores i ≡ Some c → slice_get ports i ≡ Some p → IsBooted i c p

-- a core that has done nothing and has nothing to do
pub record HasDoneNothing (core : RingCore) : Type 0 where
  pub history : core.history ≡ []
  pub pending : core.pending ≡ []
  pub running : core.stopped ≡ None
  pub taken : jobs_taken core.intake ≡ []
