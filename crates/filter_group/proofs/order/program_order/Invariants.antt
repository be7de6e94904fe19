use Rattle.filter_group.proofs.Sorting.{Compared}
use Rattle.filter_group.proofs.order.program_order.Given as goal

abbrev pub invariant-loop-place : goal.invariant-loop-place
invariant-loop-place l = Compared l.a l.b l.place l.place-end l.constants
