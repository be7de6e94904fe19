-- A machine that was booted and has not run.
use Rattle.std.specs.Prelude.{ℕ, List}
use Rattle.rx_queue.specs.declared.port.Port.{Port}
use Rattle.core_machine.specs.Machines.{RingCore, IsMachine}
use Rattle.filter_table.specs.Limits.{TableLimits}
use Rattle.core_machine.specs.Booted.{AreBooted}

-- its cores, and the port of each one's queue
pub record MachineState : Type 0 where
  pub cores : List RingCore
  pub ports : List Port

-- the cores are those of one machine, have come up, and have done nothing
pub record IsBootedMachine (cores : List RingCore) (ports : List Port) : Type 0 where
  pub limits : TableLimits
  pub budget : ℕ
  pub budgets : List ℕ
  pub machine : IsMachine limits budget budgets cores
  pub booted : AreBooted cores ports
