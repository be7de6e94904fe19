use Rattle.std.proofs.Common.{◌≡◌, ◌+◌, ◌++◌, ◌≤◌, length}
use Rattle.std.specs.Prelude.{vec_len, vec_capacity}
use Rattle.std.specs.Vec.Iter.{into_iter_items}
use Rattle.std.specs.List.{All}
use Rattle.core_machine.specs.Conclusions.{AreRunning}
use Rattle.core_machine.specs.Driving.{AreDriven, AreDoneInTurn, IsRunning}
use Rattle.core_machine.proofs.driving.drive.Given as goal

abbrev pub invariant-loop-step : goal.invariant-loop-step
invariant-loop-step l =
    AreDriven l.yielded l.outcomes.items l.initial.cores l.cores
    × (vec_len l.outcomes + length (into_iter_items l.step-iterator) ≤ vec_capacity l.outcomes)
    × (l.fn.steps.items ≡ l.yielded ++ into_iter_items l.step-iterator)
    × AreDoneInTurn l.yielded l.outcomes.items l.initial.cores l.cores
    × (AreRunning l.cores → All IsRunning l.outcomes.items)
