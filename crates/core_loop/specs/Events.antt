-- One event of one core: Event's case from each state of its history that it stands in, and what its links carry with it.
use Rattle.std.specs.Prelude.{◌≡◌, ◌⊎◌, ◌<◌, ◌≤◌, ◌-◌, ℕ, suc, max, false, Option}
use Rattle.monitor_messages.specs.declared.message.Message.{Message}
use Rattle.monitor_messages.specs.declared.message.Message.TheVariants as message
use Rattle.world_model.specs.Cases.{Outgoing, outgoing}
use Rattle.world_model.specs.Agreement.{Expects}
use Rattle.world_histories.specs.declared.history.Stamped.{Stamped}
use Rattle.world_histories.specs.Histories.{Stamping, Core0State, Step0, OtherState, StepOther}
use Rattle.core_links.specs.Views.{LinkView}
use Rattle.core_steps.specs.declared.core0.Core0.{Core0}
use Rattle.core_steps.specs.declared.core0.Told.{Told}
use Rattle.core_steps.specs.declared.other_core.OtherCore.{OtherCore}
use Rattle.core_steps.specs.Core0Steps.{core0_place, TakesUp}
use Rattle.core_steps.specs.OtherCoreSteps.{AwaitsHere}
use Rattle.core_loop.specs.declared.part.Part.{Part}
use Rattle.core_loop.specs.declared.part.Part.TheVariants as part
use Rattle.core_loop.specs.declared.refusal.Refusal.{Refusal}
use Rattle.core_loop.specs.declared.refusal.Refusal.TheVariants as refusal
use Rattle.core_loop.specs.declared.sending.Ready.{Ready}
use Rattle.core_loop.specs.Carrying.{Carries0, CarriesOther, CanCarry}
use Rattle.core_loop.specs.Sending.{IsMade}
use Rattle.core_loop.specs.Keeping.{IsCore0, IsOtherCore}

-- Event's case leads from this state of core 0's history to one in which core 0 stands
pub record Leads0 (others budget : ℕ) (core : Core0) (before : Core0State) (s : Stamped) (m : Option Stamping) (out : Outgoing) : Type 0 where
  pub after : Core0State
  pub stands : IsCore0 others core s.stamp after
  pub step : Step0 others budget before s.stamp s.done.event m after s.done.answer out

-- core 0, with so many others, does one event
pub record Acts0 (others clock : ℕ) (old new : ℕ → LinkView) (core core' : Core0) (s : Stamped) : Type 0 where
  pub m : Option Stamping
  pub out : Outgoing
  pub leads : (before : Core0State) → IsCore0 others core clock before → Leads0 others core.replica.budget core' before s m out
  pub carries : Carries0 others s m out old new
  pub same_budget : core'.replica.budget ≡ core.replica.budget

-- the same of the core with this entry
pub record LeadsOther (entry budget : ℕ) (core : OtherCore) (before : OtherState) (s : Stamped) (m : Option Stamping) : Type 0 where
  pub after : OtherState
  pub stands : IsOtherCore core s.stamp after
  pub step : StepOther entry budget before s.stamp s.done.event m after s.done.answer

pub record ActsOther (entry clock : ℕ) (old new : ℕ → LinkView) (core core' : OtherCore) (s : Stamped) : Type 0 where
  pub m : Option Stamping
  pub leads : (before : OtherState) → IsOtherCore core clock before → LeadsOther entry core.replica.budget core' before s m
  pub carries : CarriesOther s m old new
  pub same_budget : core'.replica.budget ≡ core.replica.budget

-- a core of this number does one event
abbrev pub Acts : ℕ → ℕ → ℕ → (ℕ → LinkView) → (ℕ → LinkView) → Part → Part → Stamped → Type 0
Acts number cores clock old new (part.Core0 core) (part.Core0 core') s = Acts0 (cores - 1) clock old new core core' s
Acts number cores clock old new (part.OtherCore core) (part.OtherCore core') s = (entry : ℕ) × (number ≡ suc entry) × ActsOther entry clock old new core core' s
Acts number cores clock old new x y s = ⊥

-- what is ready stands for what core 0 sends once it has taken this message, over links that take messages
abbrev pub SendsTaken : ℕ → Core0 → ℕ → Message → (ℕ → LinkView) → ℕ → Ready → Type 0
SendsTaken others core from m view stamp r =
    (out : Outgoing)
    × IsMade others stamp out r
    × CanCarry others out view
    × ((core' : Core0) (told : Told) → TakesUp core from m core' told → outgoing told.step (core0_place core') ≡ out)

-- the link of core 0 to one of so many others takes no message
pub record IsBlocked (others : ℕ) (view : ℕ → LinkView) : Type 0 where
  pub entry : ℕ
  pub inside : entry < others
  pub not_ready : (view (suc entry)).ready ≡ false

-- why core 0 doesn't take a message of this core now: never for lack of memory
abbrev pub CannotTake0 : ℕ → ℕ → ℕ → Core0 → Stamping → (ℕ → LinkView) → Refusal → Type 0
CannotTake0 others clock from core m view refusal.NotReady = IsBlocked others view × ((core' : Core0) (told : Told) → TakesUp core from m.message core' told → CanCarry others (outgoing told.step (core0_place core')) view → ⊥)
CannotTake0 others clock from core m view refusal.Spent = 18446744073709551615 ≤ max clock m.stamp
CannotTake0 others clock from core m view refusal.NoMemory = ⊥
CannotTake0 others clock from core m view refusal.Stranger = (entry : ℕ) → from ≡ suc entry → Expects (core0_place core) core.coordinator.requests entry m.message → ⊥

-- why core 0, which is idle and whose links take messages, doesn't start a request now
abbrev pub CannotStart0 : ℕ → Core0 → Refusal → Type 0
CannotStart0 clock core refusal.NotReady = ⊥
CannotStart0 clock core refusal.Spent = (core.coordinator.last ≡ 18446744073709551615) ⊎ (18446744073709551615 ≤ clock)
CannotStart0 clock core refusal.NoMemory = (core.coordinator.last < 18446744073709551615) × (clock < 18446744073709551615)
CannotStart0 clock core refusal.Stranger = ⊥

-- a message that another core answers to core 0 at once
abbrev pub IsAnswered : Message → Type 0
IsAnswered (message.Prepare txn op) = Unit {0}
IsAnswered (message.Commit txn) = Unit {0}
IsAnswered (message.Abort txn) = Unit {0}
IsAnswered m = ⊥

-- why another core doesn't take a message of core 0 now: never for lack of memory, since its vote says so
abbrev pub CannotTakeOther : ℕ → OtherCore → Stamping → (ℕ → LinkView) → Refusal → Type 0
CannotTakeOther clock core m view refusal.NotReady = ((view 0).ready ≡ false) × IsAnswered m.message
CannotTakeOther clock core m view refusal.Spent = 18446744073709551615 ≤ max clock m.stamp
CannotTakeOther clock core m view refusal.NoMemory = ⊥
CannotTakeOther clock core m view refusal.Stranger = AwaitsHere core m.message → ⊥

-- why it, with nothing outstanding and a link that takes messages, doesn't submit a request now
abbrev pub CannotSubmit : ℕ → Refusal → Type 0
CannotSubmit clock refusal.NotReady = ⊥
CannotSubmit clock refusal.Spent = 18446744073709551615 ≤ clock
CannotSubmit clock refusal.NoMemory = clock < 18446744073709551615
CannotSubmit clock refusal.Stranger = ⊥
