use Rattle.std.proofs.Common.{◌≡◌, ◌≤◌, ℕ, Some, slice_get}
use Rattle.filter_group.proofs.order.rank_past.Given as goal

abbrev pub invariant-loop-rank : goal.invariant-loop-rank
invariant-loop-rank l = (i : ℕ) × (l.rank ≤ i) × (slice_get l.order.items i ≡ Some l.place)
