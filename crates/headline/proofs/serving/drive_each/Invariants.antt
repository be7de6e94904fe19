use Rattle.std.proofs.Common.{All, ◌≡◌, ◌++◌, ℕ, List}
use Rattle.std.specs.Vec.Iter.{into_iter_items}
use Rattle.filter_table.specs.Limits.{TableLimits}
use Rattle.core_machine.specs.Machines.{IsMachine}
use Rattle.core_machine.specs.Driving.{IsRunning}
use Rattle.headline.specs.Waking.{AreDone}
use Rattle.headline.proofs.serving.drive_each.Given as goal

abbrev pub invariant-loop-step : goal.invariant-loop-step
invariant-loop-step l = record {
  done : (limits : TableLimits) (budget : ℕ) (budgets : List ℕ) → IsMachine limits budget budgets l.fn.cores → AreDone limits l.yielded l.outcomes.items l.initial.cores l.cores;
  whole : l.fn.steps.items ≡ l.yielded ++ into_iter_items l.step-iterator;
  running : All IsRunning l.outcomes.items;
}
