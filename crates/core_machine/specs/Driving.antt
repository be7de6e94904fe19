-- The cores of a machine before and after a list of steps.
use Rattle.std.specs.Prelude.{◌≡◌, ◌++◌, ◌<◌, ℕ, Bool, true, List, [], ◌∷◌, length, Some, slice_get, slice_set}
use Rattle.std.specs.List.{AllZip}
use Rattle.filter_table.specs.declared.operation.Op.{Op}
use Rattle.filter_table.specs.declared.decision.Decision.{Decision}
use Rattle.world_events.specs.declared.event.Done.{Done}
use Rattle.world_histories.specs.Histories.{unstamped}
use Rattle.rx_queue.specs.declared.job.Job.{Job}
use Rattle.core_links.specs.RingSlots.{SameLinks, ring_view}
use Rattle.core_loop.specs.declared.cause.Turn.{Turn}
use Rattle.core_loop.specs.declared.cause.Turn.TheVariants as turn
use Rattle.core_loop.specs.declared.live.NotReceived.TheVariants as no
use Rattle.core_loop.specs.Beginning.{CanBeginNext}
use Rattle.core_loop.specs.Choosing.{NoMessageNow}
use Rattle.core_loop.specs.Cores.{SameCore, DidOne, CanReceive, AreShort, begun}
use Rattle.core_loop.specs.Keeping.{replica_of}
use Rattle.core_loop.specs.Turning.{IsSpent, LacksMemory}
use Rattle.core_loop.specs.Receiving.{HasReceived, IsRefused, version_now}
use Rattle.core_loop.specs.Answering.{decisions}
use Rattle.core_machine.specs.Machines.{RingCore}
use Rattle.core_machine.specs.Looking.{AreLookedAt}
use Rattle.core_machine.specs.declared.step.CoreStep.{CoreStep}
use Rattle.core_machine.specs.declared.step.Task.{Task}
use Rattle.core_machine.specs.declared.step.Task.TheVariants.{Ask, Receive}
use Rattle.core_machine.specs.declared.step.Task.TheVariants as tasks
use Rattle.core_machine.specs.declared.step.StepOutcome.{StepOutcome}
use Rattle.core_machine.specs.declared.step.StepOutcome.TheVariants.{Turned, Asked, Received, NotReceived, NoMemory}
use Rattle.core_machine.specs.Steps.{IsOf, did, asked_op, decided, of_core}

-- a request can be given to its core: that of a core other than 0 can be sent
abbrev pub IsGivable : ℕ → Task → Type 0
IsGivable core (Ask op) = AreShort core (op ∷ [])
IsGivable core task = Unit {0}

-- a step of one of so many cores
abbrev pub IsStep : ℕ → CoreStep → Type 0
IsStep cores s = (s.core < cores) × IsGivable s.core s.task

-- A core before and after some steps: its history has grown by these events, what it was asked by these requests, and the decisions on its requests
-- by these.
pub record CoreDrives (events : List Done) (requests : List Op) (told : List Decision) (old new : RingCore) : Type 0 where
  pub same : SameCore SameLinks old new
  pub history : unstamped new.history ≡ unstamped old.history ++ events
  pub requests_are : begun new.history ++ new.pending ≡ (begun old.history ++ old.pending) ++ requests
  pub decisions_are : decisions new.history ≡ decisions old.history ++ told

-- each core by the steps of its own
abbrev pub DrivesAt : List CoreStep → List StepOutcome → ℕ → RingCore → RingCore → Type 0
DrivesAt steps outcomes core old new = CoreDrives (of_core (did core) core steps outcomes) (of_core asked_op core steps outcomes) (of_core (λ task. decided) core steps outcomes) old new

pub record AreDriven (steps : List CoreStep) (outcomes : List StepOutcome) (old new : List RingCore) : Type 0 where
  pub answered : AllZip (λ (s : CoreStep) (o : StepOutcome). IsOf s.task o) steps outcomes
  pub all : length new ≡ length old
  pub each : (i : ℕ) (c d : RingCore) → slice_get old i ≡ Some c → slice_get new i ≡ Some d → DrivesAt steps outcomes i c d

-- no message can be taken, no request begun, and, where the turn may, no job received
pub record HasNothingToDo (rx : Bool) (c : RingCore) : Type 0 where
  pub no_message : NoMessageNow c.cores c.part (ring_view c.links)
  pub no_request : CanBeginNext c.cores c.part c.pending (ring_view c.links) → ⊥
  pub no_job : rx ≡ true → (job : Job) → CanReceive c job → ⊥

-- what a turn answers is right of its core before and after it
abbrev pub TurnsRightly : Bool → Turn → RingCore → RingCore → Type 0
TurnsRightly rx (turn.Did s decision) old new = DidOne ring_view old new s
TurnsRightly rx turn.Idle old new = HasNothingToDo rx new
TurnsRightly rx (turn.Stopped cause) old new = new.stopped ≡ Some cause
TurnsRightly rx turn.Spent old new = IsSpent old.cores old.clock old.part old.pending (ring_view new.links) rx new.intake
TurnsRightly rx turn.NoMemory old new = LacksMemory old.cores old.clock old.part old.pending (ring_view new.links) rx new.intake

-- an answer of a core that has not stopped
abbrev pub IsRunning : StepOutcome → Type 0
IsRunning (Turned (turn.Stopped cause)) = ⊥
IsRunning (NotReceived (no.Stopped cause)) = ⊥
IsRunning outcome = Unit {0}

-- a packet has room for so many endpoints: as many as there can be capabilities
abbrev pub most_kept : RingCore → ℕ
most_kept core = (replica_of core.part).shown.limits.caps.total

-- what came of a task is right of its core before and after it
abbrev pub IsRight : Task → StepOutcome → RingCore → RingCore → Type 0
IsRight (tasks.Turn rx) (Turned answer) old new = TurnsRightly rx answer old new
IsRight (Ask op) Asked old new = new ≡ record old { pending = old.pending ++ op ∷ [] }
IsRight (Receive packet) (Received version kept) old new = (version ≡ version_now old) × HasReceived old new packet.bytes packet.original kept.items
IsRight (Receive packet) (NotReceived why) old new = IsRefused old packet.bytes packet.original (most_kept old) why × (new ≡ old)
IsRight task NoMemory old new = new ≡ old
IsRight task outcome old new = ⊥

-- a step on the core of its number, which alone has changed
pub record IsDone (s : CoreStep) (o : StepOutcome) (old new : List RingCore) : Type 0 where
  pub core : RingCore
  pub becomes : RingCore
  pub there : slice_get old s.core ≡ Some core
  pub new_is : new ≡ slice_set old s.core becomes
  pub right : IsRight s.task o core becomes

-- the steps were done one after another, each on the cores as those before it left them
abbrev pub AreDoneInTurn : List CoreStep → List StepOutcome → List RingCore → List RingCore → Type 0
AreDoneInTurn [] [] old new = new ≡ old
AreDoneInTurn (s ∷ steps) (o ∷ outcomes) old new = (next : List RingCore) × IsDone s o old next × AreDoneInTurn steps outcomes next new
AreDoneInTurn steps outcomes old new = ⊥

-- and then the cores were looked at
pub record AreDoneAndLookedAt (steps : List CoreStep) (outcomes : List StepOutcome) (old new : List RingCore) : Type 0 where
  pub last : List RingCore
  pub done : AreDoneInTurn steps outcomes old last
  pub looked : AreLookedAt last new
