use Rattle.std.proofs.Common.{◌-◌, ◌≤◌, length}
use Rattle.filter_group.specs.Answers.{AreAbove, AreAtMost}
use Rattle.filter_group.proofs.falls.count_to.Given as goal

abbrev pub invariant-loop-low : goal.invariant-loop-low
invariant-loop-low l = record {
  order : l.low ≤ l.high;
  within : l.high ≤ length l.places;
  at_most : AreAtMost l.places l.most 0 l.low;
  above : AreAbove l.places l.most l.high (length l.places);
}

abbrev pub decreases-loop-low : goal.decreases-loop-low
decreases-loop-low l = l.high - l.low
