-- What contracts see of a core.
use Rattle.std.specs.Prelude.{◌≡◌, ◌++◌, ℕ, zero, suc, All, List, Option, flat_map, [], ◌∷◌}
use Rattle.filter_table.specs.declared.operation.Op.{Op}
use Rattle.filter_table.specs.Tables.{HasShortProgram}
use Rattle.rx_queue.specs.declared.job.Job.{Job}
use Rattle.rx_queue.specs.declared.intake.Intake.{Intake}
use mathlib.Core.List.{IsPrefix}
use Rattle.rx_queue.specs.Queue.{jobs_seen, jobs_taken, SameIntake}
use Rattle.world_events.specs.declared.event.Event.{Event}
use Rattle.world_events.specs.declared.event.Event.TheVariants.{Start, Submit}
use Rattle.world_histories.specs.declared.history.Stamped.{Stamped}
use Rattle.core_links.specs.Views.{LinkView}
use Rattle.core_loop.specs.declared.part.Part.{Part}
use Rattle.core_loop.specs.declared.cause.Cause.{Cause}
use Rattle.core_loop.specs.Receipts.{receives, IsReceivable}
use Rattle.core_loop.specs.Carrying.{Quiet}
use Rattle.core_loop.specs.InTurn.{last_begun}
use Rattle.core_loop.specs.Turning.{IsUnshortened, ActsFirst}
use Rattle.core_loop.specs.Keeping.{IsStanding, replica_of}

-- a core over links of one kind
pub record CoreState (L : Type 0) : Type 0 where
  pub number : ℕ
  pub cores : ℕ
  pub links : L
  pub part : Part
  pub clock : ℕ
  -- the requests that it has not begun, in order
  pub pending : List Op
  pub intake : Intake
  pub history : List Stamped
  pub stopped : Option Cause

-- the request of a core's own that an event begins, if it begins one
abbrev pub begins : Event → List Op
begins (Start op) = op ∷ []
begins (Submit core op) = op ∷ []
begins event = []

-- the requests that a history begins, in order
abbrev pub begun : List Stamped → List Op
begun history = flat_map (λ s. begins s.done.event) history

-- the jobs that a history receives, in order
abbrev pub receipts : List Stamped → List Job
receipts history = flat_map (λ s. receives s.done.event) history

-- the requests of a core other than 0 can be sent
abbrev pub AreShort : ℕ → List Op → Type 0
AreShort zero ops = Unit {0}
AreShort (suc entry) ops = All HasShortProgram ops

-- the core's history leads to where it stands, and its links carried what the history says
abbrev pub Stands : {L : Type 0} → (L → ℕ → LinkView) → CoreState L → Type 0
Stands view c = IsStanding c.part c.number c.cores c.clock c.history (view c.links)

-- what every call keeps: the core's number, the count of cores, its machine's limits, its budget, its links and its queue
pub record SameCore {L : Type 0} (same : L → L → Type 0) (old new : CoreState L) : Type 0 where
  pub number : new.number ≡ old.number
  pub cores : new.cores ≡ old.cores
  pub limits : (replica_of new.part).shown.limits ≡ (replica_of old.part).shown.limits
  pub budget : (replica_of new.part).budget ≡ (replica_of old.part).budget
  pub links : same old.links new.links
  pub intake : SameIntake old.intake new.intake

-- what an event changes is as it was; what was seen is seen still, and a link that took messages takes them still
pub record NothingDone {L : Type 0} (view : L → ℕ → LinkView) (old new : CoreState L) : Type 0 where
  pub history : new.history ≡ old.history
  pub part : new.part ≡ old.part
  pub clock : new.clock ≡ old.clock
  pub pending : new.pending ≡ old.pending
  pub links : (p : ℕ) → Quiet (view old.links p) (view new.links p)
  pub jobs : jobs_taken new.intake ≡ jobs_taken old.intake
  pub seen : IsPrefix (jobs_seen old.intake) (jobs_seen new.intake)

-- the turn did this event, which is the last of the history: the first that could be done, by Event's case for this core, on its replica and the
-- next message, request or job
pub record DidOne {L : Type 0} (view : L → ℕ → LinkView) (old new : CoreState L) (s : Stamped) : Type 0 where
  pub history : new.history ≡ old.history ++ s ∷ []
  pub clock : new.clock ≡ s.stamp
  pub acts : ActsFirst old.number old.cores old.clock (last_begun old.history) old.pending (view old.links) (view new.links) old.part new.part s
  pub pending : old.pending ≡ begins s.done.event ++ new.pending
  pub jobs : jobs_taken new.intake ≡ jobs_taken old.intake ++ receives s.done.event
  -- a job that was seen before is the one received, or seen still
  pub seen : IsPrefix (jobs_seen old.intake) (receives s.done.event ++ jobs_seen new.intake)
  pub unshortened : IsUnshortened s.done.event

-- the job that the queue showed can be received
abbrev pub CanReceive : {L : Type 0} → CoreState L → Job → Type 0
CanReceive c job = IsReceivable (replica_of c.part).shown.version c.intake job
