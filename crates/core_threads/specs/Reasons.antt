-- What stands of a core that halted for something else than what a link brought.
use Rattle.std.specs.Prelude.{◌≡◌, ℕ, Bool, None}
use Rattle.rx_queue.specs.declared.intake.Intake.{Intake}
use Rattle.rx_queue.specs.Queue.{SameIntake}
use Rattle.core_links.specs.Views.{LinkView}
use Rattle.core_loop.specs.Beginning.{CanBeginNext}
use Rattle.core_loop.specs.Choosing.{NoMessageNow}
use Rattle.core_loop.specs.Cores.{CoreState}
use Rattle.core_loop.specs.Turning.{IsSpent, LacksMemory}

-- the number or the stamp of what comes next would be too great; the queue is as the core saw it, before its jobs were left
pub record IsSpentNow {L : Type 0} (view : L → ℕ → LinkView) (c : CoreState L) : Type 0 where
  pub running : c.stopped ≡ None
  pub rx : Bool
  pub intake : Intake
  pub queue : SameIntake intake c.intake
  pub spent : IsSpent c.cores c.clock c.part c.pending (view c.links) rx intake

-- memory was refused to what comes next: a message, a request, or a job in the queue as the core saw it
pub record LacksMemoryNow {L : Type 0} (view : L → ℕ → LinkView) (c : CoreState L) : Type 0 where
  pub running : c.stopped ≡ None
  pub rx : Bool
  pub intake : Intake
  pub queue : SameIntake intake c.intake
  pub lacks : LacksMemory c.cores c.clock c.part c.pending (view c.links) rx intake

-- it can take no message and begin no request
pub record RestsNow {L : Type 0} (view : L → ℕ → LinkView) (c : CoreState L) : Type 0 where
  pub running : c.stopped ≡ None
  pub no_message : NoMessageNow c.cores c.part (view c.links)
  pub no_request : CanBeginNext c.cores c.part c.pending (view c.links) → ⊥
