-- Which requests a core can begin.
use Rattle.std.specs.Prelude.{◌≡◌, ◌≢◌, ◌⊎◌, ◌<◌, ◌-◌, ℕ, suc, true, false, Some, List, [], slice_get}
use Rattle.filter_table.specs.declared.operation.Op.{Op}
use Rattle.two_phase.specs.Coordinators.{Idle}
use Rattle.core_links.specs.Views.{LinkView}
use Rattle.core_steps.specs.declared.core0.Core0.{Core0}
use Rattle.core_steps.specs.declared.other_core.OtherCore.{OtherCore}
use Rattle.core_steps.specs.Core0Steps.{BetweenSteps}
use Rattle.core_steps.specs.OtherCoreSteps.{IsBetweenSteps}
use Rattle.core_loop.specs.declared.part.Part.{Part}
use Rattle.core_loop.specs.declared.part.Part.TheVariants as part
use Rattle.core_loop.specs.declared.refusal.Refusal.{Refusal}
use Rattle.core_loop.specs.Events.{CannotStart0, CannotSubmit}

-- one of the others has a request waiting at core 0
pub record SomeWaits (others : ℕ) (core : Core0) : Type 0 where
  pub entry : ℕ
  pub op : Op
  pub inside : entry < others
  pub is_waiting : slice_get core.coordinator.requests.waiting entry ≡ Some (Some op)

-- core 0 is idle, has a request, its own or a waiting one, and all its links take messages
pub record CanBegin0 (others : ℕ) (core : Core0) (requests : List Op) (view : ℕ → LinkView) : Type 0 where
  pub idle : core.coordinator.phase ≡ Idle
  pub some : (requests ≢ []) ⊎ SomeWaits others core
  pub ready : (entry : ℕ) → entry < others → (view (suc entry)).ready ≡ true

-- another core has a request and nothing outstanding, and its link takes messages
pub record CanBeginOther (core : OtherCore) (requests : List Op) (view : ℕ → LinkView) : Type 0 where
  pub some : requests ≢ []
  pub free : core.participant.outstanding ≡ false
  pub ready : (view 0).ready ≡ true

abbrev pub CanBeginNext : ℕ → Part → List Op → (ℕ → LinkView) → Type 0
CanBeginNext cores (part.Core0 core) requests view = CanBegin0 (cores - 1) core requests view
CanBeginNext cores (part.OtherCore core) requests view = CanBeginOther core requests view

-- it can, but for this
abbrev pub CannotBegin : ℕ → ℕ → Part → List Op → (ℕ → LinkView) → Refusal → Type 0
CannotBegin cores clock (part.Core0 core) requests view r = CanBegin0 (cores - 1) core requests view × CannotStart0 clock core r
CannotBegin cores clock (part.OtherCore core) requests view r = CanBeginOther core requests view × CannotSubmit clock r

-- the part is that of a core of this number, between its steps
abbrev pub IsFitting : ℕ → ℕ → Part → Type 0
IsFitting number cores (part.Core0 core) = (number ≡ 0) × (core.coordinator.others ≡ cores - 1) × BetweenSteps core
IsFitting number cores (part.OtherCore core) = (entry : ℕ) × (number ≡ suc entry) × IsBetweenSteps core

-- core 0 has no request under way and all its links take messages; another core has nothing outstanding
abbrev pub HasNothingUnderWay : ℕ → Part → (ℕ → LinkView) → Type 0
HasNothingUnderWay cores (part.Core0 core) view = (core.coordinator.phase ≡ Idle) × ((entry : ℕ) → entry < cores - 1 → (view (suc entry)).ready ≡ true)
HasNothingUnderWay cores (part.OtherCore core) view = core.participant.outstanding ≡ false
