-- What a list of steps does at each core of a machine.
use Rattle.std.specs.Prelude.{◌==◌, ◌++◌, ℕ, List, [], ◌∷◌, option_to_list, if◌then◌else◌}
use Rattle.filter_table.specs.declared.operation.Op.{Op}
use Rattle.filter_table.specs.declared.decision.Decision.{Decision}
use Rattle.world_events.specs.declared.event.Event.TheVariants.{Rx}
use Rattle.world_events.specs.declared.event.Answer.TheVariants.{Delivered}
use Rattle.world_events.specs.declared.event.Done.{Done}
use Rattle.core_loop.specs.declared.cause.Turn.TheVariants.{Did}
use Rattle.core_machine.specs.declared.step.CoreStep.{CoreStep}
use Rattle.core_machine.specs.declared.step.Task.{Task}
use Rattle.core_machine.specs.declared.step.Task.TheVariants.{Turn, Ask, Receive}
use Rattle.core_machine.specs.declared.step.StepOutcome.{StepOutcome}
use Rattle.core_machine.specs.declared.step.StepOutcome.TheVariants.{Turned, Asked, Received, NotReceived, NoMemory}

-- the outcome is one of such a task
abbrev pub IsOf : Task → StepOutcome → Type 0
IsOf (Turn rx) (Turned turn) = Unit {0}
IsOf (Ask op) Asked = Unit {0}
IsOf (Ask op) NoMemory = Unit {0}
IsOf (Receive packet) (Received version kept) = Unit {0}
IsOf (Receive packet) (NotReceived why) = Unit {0}
IsOf (Receive packet) NoMemory = Unit {0}
IsOf task outcome = ⊥

-- the event that it did, with its answer
abbrev pub did : ℕ → Task → StepOutcome → List Done
did core task (Turned (Did s decision)) = s.done ∷ []
did core (Receive packet) (Received version kept) = record { event = Rx core 0 packet 0; answer = Delivered version kept.items } ∷ []
did core task outcome = []

-- the request that was added to those of the core
abbrev pub asked_op : Task → StepOutcome → List Op
asked_op (Ask op) Asked = op ∷ []
asked_op task outcome = []

-- the decision on a request of the core's own
abbrev pub decided : StepOutcome → List Decision
decided (Turned (Did s decision)) = option_to_list decision
decided outcome = []

-- of the steps with these outcomes, what those of one core did, in order
abbrev pub of_core : {T : Type 0} → (Task → StepOutcome → List T) → ℕ → List CoreStep → List StepOutcome → List T
of_core found core (s ∷ steps) (o ∷ outcomes) = (if s.core == core then found s.task o else []) ++ of_core found core steps outcomes
of_core found core steps outcomes = []
