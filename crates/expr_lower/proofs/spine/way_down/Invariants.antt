use Rattle.std.proofs.Common.{◌≡◌, ◌<◌, ◌≤◌, length, take}
use Rattle.std.specs.Prelude.{All, reverse}
use Rattle.expr_tree.specs.Expr.{expr_at}
use Rattle.expr_lower.specs.Spines.{joined}
use Rattle.expr_lower.proofs.spine.way_down.Given as goal

abbrev pub invariant-down : goal.invariant-down
invariant-down l = record {
  limit : l.limit ≤ length l.nodes;
  within : All (λ join. join < length l.nodes) l.joins.items;
  is : expr_at l.nodes l.place ≡ joined l.nodes (reverse l.joins.items) (expr_at (take l.limit l.nodes) l.at);
}

abbrev pub decreases-down : goal.decreases-down
decreases-down l = l.limit
