use Rattle.std.proofs.Common.{◌≡◌, ◌-◌, ◌<◌, ◌≤◌}
use Rattle.filter_group.proofs.InTurn.{AreDone}
use Rattle.filter_group.proofs.falls.lower.Given as goal

abbrev pub invariant-loop-i : goal.invariant-loop-i
invariant-loop-i l = AreDone (λ i place now. (place ≤ l.past → now ≡ place) × (l.past < place → now ≡ place - 1)) l.i l.initial.places l.places
