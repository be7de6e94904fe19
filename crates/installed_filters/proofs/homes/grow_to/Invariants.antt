use Rattle.std.proofs.Common.{◌≡◌, ◌≤◌, ◌+◌, ◌-◌, ℕ, length}
use Rattle.installed_filters.specs.Counts.{reach_at}
use Rattle.installed_filters.proofs.homes.grow_to.Given as goal

abbrev pub invariant-loop-reaches : goal.invariant-loop-reaches
invariant-loop-reaches l = record {
  counts : (m q : ℕ) → reach_at l.reaches.ends m q ≡ reach_at l.initial.reaches.ends m q;
  more : length l.initial.reaches.ends ≤ length l.reaches.ends;
}

abbrev pub decreases-loop-reaches : goal.decreases-loop-reaches
decreases-loop-reaches l = (l.number + 1) - length l.reaches.ends
