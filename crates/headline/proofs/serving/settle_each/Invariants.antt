use Rattle.std.proofs.Common.{All, ◌≡◌, ◌++◌, ℕ, List, length}
use Rattle.core_machine.specs.Machines.{RingCore, IsMachine}
use Rattle.core_machine.specs.Booted.{HasDoneNothing}
use Rattle.core_machine.specs.declared.step.CoreStep.{CoreStep}
use Rattle.core_machine.specs.Driving.{IsStep, IsRunning}
use Rattle.core_machine.specs.Naming.{turns_ahead}
use Rattle.headline.specs.Waking.{AreDone, IsTurnOf, awake_of}
use Rattle.headline.proofs.Waking.{Named}
use Rattle.headline.proofs.serving.settle_each.Given as goal
use Rattle.filter_table.specs.Limits.{TableLimits}

abbrev pub invariant-loop-awake : goal.invariant-loop-awake
invariant-loop-awake l = record {
  done : (limits : TableLimits) (steps : List CoreStep) (first : List RingCore) → All (IsStep (length first)) steps → All HasDoneNothing first → AreDone limits steps l.fn.given.items first l.fn.cores → AreDone limits (steps ++ l.turns.items) l.outcomes.items first l.cores;
  turns : All (IsTurnOf (length l.fn.cores)) l.turns.items;
  running : All IsRunning l.outcomes.items;
  machine : (limits : TableLimits) × (budget : ℕ) × (budgets : List ℕ) × IsMachine limits budget budgets l.cores;
  named : (limits : TableLimits) × (budget : ℕ) × (budgets : List ℕ) × Named limits budget budgets (awake_of l.awake.items) l.cores;
  each : length l.awake.items ≡ length l.cores;
  long : length l.cores ≡ length l.fn.cores;
}

abbrev pub decreases-loop-awake : goal.decreases-loop-awake
decreases-loop-awake l = turns_ahead (awake_of l.awake.items) l.cores
