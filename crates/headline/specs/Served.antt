-- What the cores of a machine did by steps, read off the outcomes of the steps.
use Rattle.std.specs.Prelude.{◌≡◌, ◌⊎◌, ◌++◌, ℕ, List, [], ◌∷◌, false}
use Rattle.world_events.specs.declared.event.Done.{Done}
use Rattle.core_loop.specs.declared.cause.Turn.{Turn}
use Rattle.core_loop.specs.declared.cause.Turn.TheVariants as turn
use Rattle.core_machine.specs.declared.step.CoreStep.{CoreStep}
use Rattle.core_machine.specs.declared.step.Task.TheVariants as task
use Rattle.core_machine.specs.declared.step.StepOutcome.{StepOutcome}
use Rattle.core_machine.specs.declared.step.StepOutcome.TheVariants.{Turned}
use Rattle.core_machine.specs.Steps.{did}

-- the events that the outcomes tell, with their answers, in the order of the steps
abbrev pub events_of : List CoreStep → List StepOutcome → List Done
events_of (s ∷ steps) (o ∷ outcomes) = did s.core s.task o ++ events_of steps outcomes
events_of steps outcomes = []

-- the last turn is one of this core, which has no number or no memory for what it would do next
pub record EndsHalted (turns : List CoreStep) (outcomes : List StepOutcome) (core : ℕ) : Type 0 where
  pub earlier_turns : List CoreStep
  pub earlier : List StepOutcome
  pub answer : Turn
  pub last_turn : turns ≡ earlier_turns ++ record { core = core; task = task.Turn false } ∷ []
  pub last : outcomes ≡ earlier ++ Turned answer ∷ []
  pub halts : (answer ≡ turn.Spent) ⊎ (answer ≡ turn.NoMemory)
