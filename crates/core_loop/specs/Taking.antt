-- What a core does with a message that it doesn't take.
use Rattle.std.specs.Prelude.{◌≡◌, ◌≤◌, ◌-◌, ℕ, max, List, Some}
use Rattle.monitor_messages.specs.declared.message.Message.{Message}
use Rattle.monitor_messages.specs.Coding.{Coded}
use Rattle.monitor_messages.specs.Carrying.{CarriesProgram}
use Rattle.world_histories.specs.Histories.{Stamping}
use Rattle.core_links.specs.Views.{LinkView, first_of}
use Rattle.core_steps.specs.OtherCoreSteps.{AwaitsHere}
use Rattle.core_loop.specs.declared.part.Part.{Part}
use Rattle.core_loop.specs.declared.part.Part.TheVariants as part
use Rattle.core_loop.specs.declared.cause.Cause.{Cause}
use Rattle.core_loop.specs.declared.cause.Cause.TheVariants as cause
use Rattle.core_loop.specs.declared.refusal.Refusal.{Refusal}
use Rattle.core_loop.specs.declared.refusal.Refusal.TheVariants as refusal
use Rattle.core_loop.specs.declared.refusal.Halt.{Halt}
use Rattle.core_loop.specs.declared.refusal.Halt.TheVariants as halt
use Rattle.core_loop.specs.Carrying.{IsFirst}
use Rattle.core_loop.specs.Events.{CannotTake0, CannotTakeOther}

-- why a core doesn't take this message of a peer now
abbrev pub CannotTake : ℕ → ℕ → ℕ → Part → Stamping → (ℕ → LinkView) → Refusal → Type 0
CannotTake cores clock peer (part.Core0 core) m view r = CannotTake0 (cores - 1) clock peer core m view r
CannotTake cores clock peer (part.OtherCore core) m view refusal.Stranger = peer ≡ 0 → AwaitsHere core m.message → ⊥
CannotTake cores clock peer (part.OtherCore core) m view r = CannotTakeOther clock core m view r

-- why a core stops at a peer: its link has stopped so, or its first message is none that is coded, or one that fits no phase
abbrev pub StopsAt : ℕ → ℕ → ℕ → Part → (ℕ → LinkView) → Cause → Type 0
StopsAt cores clock peer x view (cause.Line fault) = (view peer).stopped ≡ Some fault
StopsAt cores clock peer x view cause.BadMessage = (bytes : List ℕ) × (first_of (view peer).kept ≡ Some bytes) × ((stamp : ℕ) (m : Message) → Coded bytes stamp m → ⊥)
StopsAt cores clock peer x view cause.Stranger = (m : Stamping) × IsFirst (view peer) m × CannotTake cores clock peer x m view refusal.Stranger

-- the first message of a peer brings a program
abbrev pub IsUnread : LinkView → Type 0
IsUnread v = (bytes : List ℕ) × (first_of v.kept ≡ Some bytes) × CarriesProgram bytes

-- Memory was refused to the program of the message that core 0 takes. Another core takes a message without memory: its vote says that there
-- was none.
abbrev pub TakeLacksMemory : ℕ → ℕ → ℕ → Part → (ℕ → LinkView) → Type 0
TakeLacksMemory cores clock peer (part.Core0 core) view = IsUnread (view peer)
TakeLacksMemory cores clock peer (part.OtherCore core) view = ⊥

-- why a core that looks at a peer's first message can't go on now
abbrev pub TakeHalts : ℕ → ℕ → ℕ → Part → (ℕ → LinkView) → Halt → Type 0
TakeHalts cores clock peer x view halt.Spent = (m : Stamping) × IsFirst (view peer) m × (18446744073709551615 ≤ max clock m.stamp)
TakeHalts cores clock peer x view halt.NoMemory = TakeLacksMemory cores clock peer x view
TakeHalts cores clock peer x view (halt.Stopped cause) = StopsAt cores clock peer x view cause
