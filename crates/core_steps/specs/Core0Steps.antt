-- The steps of core 0, in the words of the cases of an event: the coordinator's part of two-phase commit, and what it sends
-- (Gray 1978, "Notes on data base operating systems", section 5.8.3; Baumann et al. 2009, "The Multikernel", section 4.4).
use Rattle.std.specs.Prelude.{◌≡◌, ◌+◌, ℕ, zero, suc, Option, None, Some, slice_get}
use Rattle.filter_table.specs.declared.operation.Op.{Op}
use Rattle.filter_table.specs.declared.operation.StageFault.{StageFault}
use Rattle.monitor_messages.specs.declared.message.Message.{Message}
use Rattle.monitor_messages.specs.declared.message.Message.TheVariants as message
use Rattle.filter_table.specs.declared.decision.Decision.{Decision}
use Rattle.filter_table.specs.declared.decision.Decision.TheVariants.{Refused}
use Rattle.monitor_messages.specs.Coding.{IsShort, IsNumbered}
use Rattle.monitor_messages.specs.Carrying.{BringsOp}
use Rattle.monitor_2pc.specs.Places.{after_commit}
use Rattle.two_phase.specs.Coordinators.{CoordinatorPlace, CanStart, StagedByPhase, coordinator_place, veto_of}
use Rattle.world_model.specs.Cases.{Outgoing, nothing, to_all, to_one, StartsAt, StartsForAt, TakesUpAt}
use Rattle.core_steps.specs.declared.core0.Core0.{Core0}
use Rattle.core_steps.specs.declared.core0.Told.{Told}
use Rattle.core_steps.specs.declared.outgoing.Outgoing.{Outgoing as Sends}
use Rattle.core_steps.specs.declared.outgoing.Outgoing.TheVariants as sends

-- core 0's place in the protocol
abbrev pub core0_place : Core0 → CoordinatorPlace
core0_place core = coordinator_place core.coordinator core.replica.staged

-- a decision that can be sent, if there is one
abbrev pub CanBeSent : Option Decision → Type 0
CanBeSent None = Unit {0}
CanBeSent (Some decision) = IsNumbered (message.Reply decision)

-- Between its steps core 0 has staged just the operation that votes are on, and what it has decided can be sent.
pub record BetweenSteps (core : Core0) : Type 0 where
  pub staged : StagedByPhase core.coordinator.phase core.replica.staged
  pub sendable : CanBeSent core.coordinator.requests.decided

-- it is idle and has a number left; its replica may have been asked to stage a request
pub record CanBegin (core : Core0) : Type 0 where
  pub can : CanStart (coordinator_place core.coordinator None)
  pub sendable : CanBeSent core.coordinator.requests.decided

-- the core with this number and entry has the operation waiting
pub record HasWaiting (core0 : Core0) (core entry : ℕ) (op : Op) : Type 0 where
  pub is_core : core ≡ suc entry
  pub is_waiting : slice_get core0.coordinator.requests.waiting entry ≡ Some (Some op)

-- Its steps

-- it has committed the operation, or nothing, and is between steps
pub record Moves (core : Core0) (committed : Option Op) (core' : Core0) : Type 0 where
  pub shown_next : core'.replica.shown ≡ after_commit core.replica.shown committed
  pub same_budget : core'.replica.budget ≡ core.replica.budget
  pub same_others : core'.coordinator.others ≡ core.coordinator.others
  pub between : BetweenSteps core'

-- it starts a request of its own, which its replica was asked to stage
pub record Starts (core : Core0) (op : Op) (core' : Core0) (told : Told) : Type 0 where
  pub committed : Option Op
  pub here : StartsAt core.coordinator.others core.replica.shown core.replica.budget (coordinator_place core.coordinator None) op (core0_place core') committed told.step told.answer
  pub same_requests : core'.coordinator.requests ≡ core.coordinator.requests
  pub moves : Moves core committed core'

-- it starts the request that the core with this entry has waiting
pub record StartsForCore (core : Core0) (entry : ℕ) (core' : Core0) (told : Told) : Type 0 where
  pub committed : Option Op
  pub here : StartsForAt core.coordinator.others core.replica.shown core.replica.budget (coordinator_place core.coordinator None) core.coordinator.requests entry (core0_place core') core'.coordinator.requests committed told.step told.answer
  pub moves : Moves core committed core'

-- it takes a message of the core with this number
pub record TakesUp (core : Core0) (from : ℕ) (m : Message) (core' : Core0) (told : Told) : Type 0 where
  pub entry : ℕ
  pub is_core : from ≡ suc entry
  pub committed : Option Op
  pub here : TakesUpAt core.replica.shown (core0_place core) core.coordinator.requests entry m (core0_place core') core'.coordinator.requests committed told.step told.answer
  pub moves : Moves core committed core'

-- What it sends

-- as the cases have it
abbrev pub sent : Sends → Outgoing
sent sends.Nothing = nothing
sent (sends.ToAll m) = to_all m
sent (sends.ToOne entry m) = to_one entry m

-- bytes stand for the messages
abbrev pub CanBeCoded : Sends → Type 0
CanBeCoded sends.Nothing = Unit {0}
CanBeCoded (sends.ToAll m) = IsShort m × IsNumbered m
CanBeCoded (sends.ToOne entry m) = IsShort m × IsNumbered m

-- no message of these brings an operation
abbrev pub BringNoOp : Sends → Type 0
BringNoOp sends.Nothing = Unit {0}
BringNoOp (sends.ToAll m) = BringsOp m → ⊥
BringNoOp (sends.ToOne entry m) = BringsOp m → ⊥

-- one that goes to a single core brings none
abbrev pub RepliesAlone : Sends → Type 0
RepliesAlone (sends.ToOne entry m) = BringsOp m → ⊥
RepliesAlone sends = Unit {0}

-- Prepare to every other core, if there is one, where the request was staged
abbrev pub asks : ℕ → ℕ → Op → Outgoing
asks zero last op = nothing
asks (suc others) last op = to_all (message.Prepare (last + 1) op)

abbrev pub start_sends : Core0 → Op → Option StageFault → Outgoing
start_sends core op None = asks core.coordinator.others core.coordinator.last op
start_sends core op (Some fault) = nothing

-- else the refusal to the core that asked
abbrev pub start_for_sends : ℕ → Core0 → Op → Option StageFault → Outgoing
start_for_sends entry core op None = asks core.coordinator.others core.coordinator.last op
start_for_sends entry core op (Some fault) = to_one entry (message.Reply (Refused 0 (veto_of fault)))
