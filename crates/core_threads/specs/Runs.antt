-- What a core's thread leaves.
use Rattle.std.specs.Prelude.{◌≡◌, ◌<◌, ◌++◌, ℕ, List, [], ◌∷◌, Option, Some, None}
use Rattle.rx_queue.specs.declared.job.Job.{Job}
use Rattle.rx_queue.specs.Queue.{jobs_seen, jobs_taken}
use Rattle.core_links.specs.RingSlots.{SameLinks, ring_view}
use Rattle.core_links.specs.Views.{LinkView}
use Rattle.core_loop.specs.Beginning.{HasNothingUnderWay}
use Rattle.core_loop.specs.Keeping.{replica_of}
use Rattle.core_loop.specs.Cores.{CoreState, SameCore, begun, receipts}
use Rattle.core_machine.specs.declared.recorded.RecordedTurn.{RecordedTurn}
use Rattle.core_machine.specs.declared.recorded.RecordedTurn.TheVariants.{Idle, Stopped, Spent, NoMemory}
use Rattle.core_machine.specs.Machines.{RingCore}
use Rattle.core_threads.specs.declared.halt.Halt.{Halt}
use Rattle.core_threads.specs.declared.halt.Halt.TheVariants as halt
use Rattle.core_threads.specs.Reasons.{IsSpentNow, LacksMemoryNow, RestsNow}

-- each job that the core took was received
abbrev pub HasReceived : {L : Type 0} → CoreState L → Type 0
HasReceived c = jobs_taken c.intake ≡ receipts c.history

-- the same core after some turns
pub record CoreRan {L : Type 0} (same : L → L → Type 0) (old new : CoreState L) : Type 0 where
  pub core : SameCore same old new
  -- the requests begun, and then those pending, are as before
  pub requests : begun new.history ++ new.pending ≡ begun old.history ++ old.pending
  -- each job that was taken meanwhile was received
  pub received : HasReceived old → HasReceived new

-- after a turn that answers this, the core is stopped with the cause that it gives, and else not stopped; and what the answer says stands
abbrev pub AfterTurn : {L : Type 0} → (L → ℕ → LinkView) → RecordedTurn → CoreState L → Type 0
AfterTurn view (Stopped cause) c = c.stopped ≡ Some cause
AfterTurn view Spent c = IsSpentNow view c
AfterTurn view NoMemory c = LacksMemoryNow view c
AfterTurn view Idle c = RestsNow view c
AfterTurn view turn c = c.stopped ≡ None

-- why a core halted stands: a cause is the one that it is stopped with, and for all else it is not stopped, and what halted it shows. That work
-- is left, no core says of itself
abbrev pub StandsFor : {L : Type 0} → (L → ℕ → LinkView) → Halt → CoreState L → Type 0
StandsFor view (halt.Cause cause) c = c.stopped ≡ Some cause
StandsFor view halt.Spent c = IsSpentNow view c
StandsFor view halt.NoMemory c = LacksMemoryNow view c
StandsFor view halt.NoRoom c = c.stopped ≡ None
StandsFor view halt.Limit c = RestsNow view c
StandsFor view halt.Early c = ⊥

-- the core stands so where its thread ends, which halted for this, if it halted
abbrev pub StandsSo : {L : Type 0} → (L → ℕ → LinkView) → Option Halt → CoreState L → Type 0
StandsSo view None c = c.stopped ≡ None
StandsSo view (Some why) c = StandsFor view why c

-- each request that the core was given is begun, and nothing is under way
pub record HasSettled {L : Type 0} (view : L → ℕ → LinkView) (c : CoreState L) : Type 0 where
  pub pending : c.pending ≡ []
  pub idle : HasNothingUnderWay c.cores c.part (view c.links)

-- the first of these jobs, if there is one, waits for a later version
abbrev pub FrontWaits : ℕ → List Job → Type 0
FrontWaits version [] = Unit {0}
FrontWaits version (job ∷ later) = version < job.floor

-- nothing is under way, and the job that the core saw in front waits for a later version
pub record HasDone {L : Type 0} (view : L → ℕ → LinkView) (c : CoreState L) : Type 0 where
  pub idle : HasNothingUnderWay c.cores c.part (view c.links)
  pub front : FrontWaits (replica_of c.part).shown.version (jobs_seen c.intake)

-- the core ran in a thread of its own, and halted for this, if it halted
pub record ThreadRan (old new : RingCore) (halted : Option Halt) : Type 0 where
  pub ran : CoreRan SameLinks old new
  pub stands : old.stopped ≡ None → StandsSo ring_view halted new
