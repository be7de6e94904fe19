-- Steps that were done, each by itself, and the turns that bring cores to rest.
-- No public clause cites these.
use Rattle.std.specs.Prelude.{◌≡◌, ◌<◌, ℕ, Bool, true, false, List, slice_index_or}
use Rattle.core_loop.specs.declared.cause.Turn.{Turn as Answer}
use Rattle.core_loop.specs.declared.cause.Turn.TheVariants as answer
use Rattle.core_machine.specs.Machines.{RingCore, IsMachine}
use Rattle.core_machine.specs.Conclusions.{Conclude}
use Rattle.core_machine.specs.declared.step.CoreStep.{CoreStep}
use Rattle.core_machine.specs.declared.step.StepOutcome.{StepOutcome}
use Rattle.core_machine.specs.declared.step.Task.TheVariants.{Turn}
use Rattle.core_machine.specs.Driving.{AreDriven}
use Rattle.core_machine.specs.Naming.{Awake}
use Rattle.headline.specs.Served.{events_of}
use Rattle.headline.specs.Starts.{StartOneByOne}
use Rattle.filter_table.specs.Limits.{TableLimits}

-- the cores of a machine with these limits did these steps, and were looked at after each
pub record AreDone (limits : TableLimits) (steps : List CoreStep) (outcomes : List StepOutcome) (old new : List RingCore) : Type 0 where
  pub budget : ℕ
  pub budgets : List ℕ
  pub machine : IsMachine limits budget budgets new
  pub con : Conclude limits budget budgets new
  pub driven : AreDriven steps outcomes old new
  pub order : StartOneByOne (events_of steps outcomes)

-- a turn of this core that receives no packet
abbrev pub turn_of_core : ℕ → CoreStep
turn_of_core core = record { core = core; task = Turn false }

-- such a turn of one of so many cores
pub record IsTurnOf (cores : ℕ) (step : CoreStep) : Type 0 where
  pub inside : step.core < cores
  pub is_turn : step.task ≡ Turn false

-- which cores have something to do, by a list with an entry for each; of other cores nothing is known
abbrev pub awake_of : List Bool → Awake
awake_of list core = slice_index_or list core true

-- the turn did no event, though the core isn't idle
abbrev pub Halts : Answer → Type 0
Halts (answer.Did s d) = ⊥
Halts answer.Idle = ⊥
Halts halt = Unit {0}
