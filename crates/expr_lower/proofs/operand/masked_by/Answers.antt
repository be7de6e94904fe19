use Rattle.expr_tree.specs.Expr.{value_at}
use Rattle.expr_lower.proofs.Comparing.{masked_loads}
use Rattle.expr_lower.proofs.operand.masked_by.Goals as goal

pub returns-in-Some-2 : goal.returns-in-Some-2
returns-in-Some-2 c =
    rw c.with_mask.ensures
    (masked_loads (value_at c.args.nodes.now c.args.first) (value_at c.args.nodes.now c.args.second) c.args.before c.in-Some-2.loading c.in-Some.mask
    (rw c.in-Some-2.is at c.in_ok-loading-in-Some.ensures) (rw c.in-Some.is at c.in_ok-mask.ensures))
