use Rattle.std.proofs.Common.{◌+◌, ◌*◌, length}
use Rattle.expr_lower.specs.Walks.{IsRising}
use Rattle.expr_lower.proofs.walk.+walk.Given as goal

abbrev pub decreases-lower_join : goal.decreases-lower_join
decreases-lower_join l = 2 * length l.below.now + 1

abbrev pub decreases-lower_at : goal.decreases-lower_at
decreases-lower_at l = 2 * length l.nodes.now

abbrev pub invariant-lower_at-up : goal.invariant-lower_at-up
invariant-lower_at-up l = IsRising l.nodes l.place l.joins.items l.count l.before l.behind l.tests.items l.fn.draft.parts.items l.draft.parts.items

abbrev pub decreases-lower_at-up : goal.decreases-lower_at-up
decreases-lower_at-up l = l.count
