use Rattle.std.proofs.Common.{◌+◌, ◌*◌, length}
use Rattle.expr_lower.proofs.constant.+constants.Given as goal

abbrev pub decreases-constant_calc : goal.decreases-constant_calc
decreases-constant_calc l = 2 * length l.nodes.now + 1

abbrev pub decreases-constant : goal.decreases-constant
decreases-constant l = 2 * length l.nodes.now
