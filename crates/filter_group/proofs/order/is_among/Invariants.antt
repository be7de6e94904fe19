use Rattle.filter_group.proofs.Sorting.{IsFound}
use Rattle.filter_group.proofs.order.is_among.Given as goal

abbrev pub invariant-loop-rank : goal.invariant-loop-rank
invariant-loop-rank l = IsFound l.order l.place l.first l.rank l.found
