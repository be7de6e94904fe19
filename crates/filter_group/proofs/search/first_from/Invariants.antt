use Rattle.std.proofs.Common.{◌-◌, ◌≤◌}
use Rattle.filter_group.proofs.search.first_from.Given as goal

abbrev pub invariant-loop-low : goal.invariant-loop-low
invariant-loop-low l = record {
  first : l.first ≤ l.low;
  order : l.low ≤ l.high;
  within : l.high ≤ l.end;
}

abbrev pub decreases-loop-low : goal.decreases-loop-low
decreases-loop-low l = l.high - l.low
