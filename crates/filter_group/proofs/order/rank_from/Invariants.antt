use Rattle.std.proofs.Common.{◌-◌}
use Rattle.filter_group.proofs.Sorting.{IsBetween}
use Rattle.filter_group.proofs.order.rank_from.Given as goal

abbrev pub invariant-loop-low : goal.invariant-loop-low
invariant-loop-low l = IsBetween l.placed l.order.items l.program l.low l.high

abbrev pub decreases-loop-low : goal.decreases-loop-low
decreases-loop-low l = l.high - l.low
