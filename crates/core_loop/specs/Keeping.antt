-- What a core's fields say of where its history leads.
use Rattle.std.specs.Prelude.{◌≡◌, ◌-◌, ℕ, suc, List, length}
use Rattle.table_replica.specs.Shown.{ReplicaState}
use Rattle.filter_table.specs.Tables.{table}
use Rattle.world_histories.specs.declared.history.Stamped.{Stamped}
use Rattle.world_histories.specs.Histories.{Core0State, OtherState}
use Rattle.core_links.specs.Views.{LinkView}
use Rattle.core_steps.specs.declared.core0.Core0.{Core0}
use Rattle.core_steps.specs.declared.other_core.OtherCore.{OtherCore}
use Rattle.core_steps.specs.Core0Steps.{core0_place, BetweenSteps}
use Rattle.core_steps.specs.OtherCoreSteps.{other_place, IsBetweenSteps}
use Rattle.core_loop.specs.declared.part.Part.{Part}
use Rattle.core_loop.specs.declared.part.Part.TheVariants as part
use Rattle.core_loop.specs.Standing.{Stands0, StandsOther}

-- the replica of a core
abbrev pub replica_of : Part → ReplicaState
replica_of (part.Core0 core) = core.replica
replica_of (part.OtherCore core) = core.replica

-- core 0 and its clock are those of this state of a history
pub record IsCore0 (others : ℕ) (core : Core0) (clock : ℕ) (c : Core0State) : Type 0 where
  pub clock_is : c.clock ≡ clock
  pub place_is : c.place ≡ core0_place core
  pub requests_are : c.requests ≡ core.coordinator.requests
  pub shown_is : core.replica.shown ≡ table c.limits c.log (length c.log)
  pub others_are : core.coordinator.others ≡ others
  pub between : BetweenSteps core

-- another core and its clock are those of this state
pub record IsOtherCore (core : OtherCore) (clock : ℕ) (c : OtherState) : Type 0 where
  pub clock_is : c.clock ≡ clock
  pub place_is : c.place ≡ other_place core
  pub outstanding_is : c.outstanding ≡ core.participant.outstanding
  pub shown_is : core.replica.shown ≡ table c.limits c.log (length c.log)
  pub between : IsBetweenSteps core

-- the history leads to a state, which the core stands in, and the links carried what the history says
abbrev pub IsStanding : Part → ℕ → ℕ → ℕ → List Stamped → (ℕ → LinkView) → Type 0
IsStanding (part.Core0 core) number cores clock history view =
    (c : Core0State) × (number ≡ 0) × IsCore0 (cores - 1) core clock c × Stands0 core.replica.shown.limits (cores - 1) core.replica.budget history view c
IsStanding (part.OtherCore core) number cores clock history view =
    (entry : ℕ) × (c : OtherState) × (number ≡ suc entry) × IsOtherCore core clock c × StandsOther entry core.replica.shown.limits core.replica.budget history view c
