-- What one turn comes to.
use Rattle.std.specs.Prelude.{◌≡◌, ◌≢◌, ◌⊎◌, ◌<◌, ◌≤◌, ◌-◌, [], ℕ, Bool, true, false, Option, None, Some, List}
use Rattle.filter_table.specs.declared.operation.Op.{Op}
use Rattle.rx_queue.specs.declared.job.Job.{Job}
use Rattle.rx_queue.specs.declared.intake.Intake.{Intake}
use Rattle.world_events.specs.declared.event.Event.{Event}
use Rattle.world_events.specs.declared.event.Event.TheVariants.{Take}
use Rattle.world_histories.specs.declared.history.Stamped.{Stamped}
use Rattle.core_links.specs.Views.{LinkView}
use Rattle.core_loop.specs.declared.part.Part.{Part}
use Rattle.core_loop.specs.declared.part.Part.TheVariants as part
use Rattle.core_loop.specs.declared.cause.Cause.{Cause}
use Rattle.core_loop.specs.declared.refusal.Refusal.TheVariants as refusal
use Rattle.core_loop.specs.declared.refusal.Halt.{Halt}
use Rattle.core_loop.specs.declared.refusal.Halt.TheVariants as halt
use Rattle.core_loop.specs.Carrying.{Quiet}
use Rattle.core_loop.specs.Keeping.{replica_of}
use Rattle.core_loop.specs.Events.{Acts}
use Rattle.core_loop.specs.Receipts.{IsReceivable}
use Rattle.core_loop.specs.Beginning.{SomeWaits, CanBeginNext, CannotBegin}
use Rattle.core_loop.specs.Taking.{TakeHalts, StopsAt}
use Rattle.core_loop.specs.Choosing.{ShowsNothing, IsLeastShowing, NoMessageNow, IsNext}

-- a message is taken with the memory that there is
abbrev pub IsUnshortened : Event → Type 0
IsUnshortened (Take to from short) = short ≡ false
IsUnshortened event = Unit {0}

-- the core looked at its links, and did the first event that can be done by what they showed
pub record ActsFirst (number cores clock last : ℕ) (requests : List Op) (old new : ℕ → LinkView) (x y : Part) (s : Stamped) : Type 0 where
  pub seen : ℕ → LinkView
  pub looks : (p : ℕ) → Quiet (old p) (seen p)
  pub next : IsNext cores last x requests seen s.done.event
  pub acts : Acts number cores clock seen new x y s

-- a job may be received, and can be
abbrev pub MayReceive : Part → Bool → Intake → Type 0
MayReceive x rx intake = (rx ≡ true) × (job : Job) × IsReceivable (replica_of x).shown.version intake job

-- the core has a request of its own, or core 0 has one waiting
abbrev pub HasRequest : ℕ → Part → List Op → Type 0
HasRequest cores (part.Core0 core) requests = (requests ≢ []) ⊎ SomeWaits (cores - 1) core
HasRequest cores (part.OtherCore core) requests = requests ≢ []

-- there is a message, a request, or a job that can be received
abbrev pub HasWork : ℕ → Part → List Op → (ℕ → LinkView) → Bool → Intake → Type 0
HasWork cores x requests seen rx intake = ((peer : ℕ) × IsLeastShowing cores seen peer) ⊎ (HasRequest cores x requests ⊎ MayReceive x rx intake)

-- the number or the stamp of what comes next would be too great: of the message of the least peer that shows one, else of the next request, else
-- of the front job
abbrev pub IsSpent : ℕ → ℕ → Part → List Op → (ℕ → LinkView) → Bool → Intake → Type 0
IsSpent cores clock x requests seen rx intake =
    ((peer : ℕ) × IsLeastShowing cores seen peer × TakeHalts cores clock peer x seen halt.Spent)
    ⊎ ((NoMessageNow cores x seen × CannotBegin cores clock x requests seen refusal.Spent)
    ⊎ (NoMessageNow cores x seen × (CanBeginNext cores x requests seen → ⊥) × MayReceive x rx intake × (18446744073709551615 ≤ clock)))

-- memory was refused to what comes next: the message of the least peer that shows one, else the next request, else the front job
abbrev pub LacksMemory : ℕ → ℕ → Part → List Op → (ℕ → LinkView) → Bool → Intake → Type 0
LacksMemory cores clock x requests seen rx intake =
    ((peer : ℕ) × IsLeastShowing cores seen peer × TakeHalts cores clock peer x seen halt.NoMemory)
    ⊎ ((NoMessageNow cores x seen × CannotBegin cores clock x requests seen refusal.NoMemory)
    ⊎ (NoMessageNow cores x seen × (CanBeginNext cores x requests seen → ⊥) × MayReceive x rx intake × (clock < 18446744073709551615)))

-- the core stops at the first peer that shows more than nothing: its link has stopped so, or its first message is bad
pub record StopsFirst (cores clock : ℕ) (x : Part) (seen : ℕ → LinkView) (cause : Cause) : Type 0 where
  pub peer : ℕ
  pub inside : peer < cores
  pub before : (p : ℕ) → p < peer → ShowsNothing (seen p)
  pub stops : StopsAt cores clock peer x seen cause

-- what a core that has stopped stopped for, by what its links show
abbrev pub HasStopped : ℕ → ℕ → Part → (ℕ → LinkView) → Option Cause → Type 0
HasStopped cores clock x view None = Unit {0}
HasStopped cores clock x view (Some cause) = (peer : ℕ) × (peer < cores) × StopsAt cores clock peer x view cause

-- why a turn with something to do ends without an event
abbrev pub HaltsFor : ℕ → ℕ → Part → List Op → (ℕ → LinkView) → Bool → Intake → Halt → Type 0
HaltsFor cores clock x requests seen rx intake halt.Spent = IsSpent cores clock x requests seen rx intake
HaltsFor cores clock x requests seen rx intake halt.NoMemory = LacksMemory cores clock x requests seen rx intake
HaltsFor cores clock x requests seen rx intake (halt.Stopped cause) = StopsFirst cores clock x seen cause
