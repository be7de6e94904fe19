use Rattle.std.proofs.Common.{◌≡◌, ◌<◌, ◌≤◌, ◌-◌, ℕ, length, Some, slice_get}
use Rattle.filter_group.proofs.order.rank_among.Given as goal

abbrev pub invariant-loop-end : goal.invariant-loop-end
invariant-loop-end l = record { within : l.end ≤ length l.order; at : (rank : ℕ) × (rank < l.end) × (l.first ≤ rank) × (slice_get l.order rank ≡ Some l.place) }

abbrev pub decreases-loop-end : goal.decreases-loop-end
decreases-loop-end l = l.end - l.first
