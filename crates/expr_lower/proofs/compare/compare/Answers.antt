use Rattle.expr_tree.specs.Expr.{value_at}
use Rattle.expr_lower.proofs.Comparing.{loads_lower, turned_lower}
use Rattle.expr_lower.proofs.compare.compare.Goals as goal

pub returns-in_ok-relate-in-Loading-right : goal.returns-in_ok-relate-in-Loading-right
returns-in_ok-relate-in-Loading-right c =
    turned_lower c.args.related.relation (value_at c.args.nodes.now c.args.related.first) (value_at c.args.nodes.now c.args.related.second) c.args.before c.in-Loading-right.loading c.in-Constant.a _ _
    (rw (c.in-Some.is, c.in-Constant.is) at c.in_ok-left.ensures) (rw (c.in-Some-2.is, c.in-Loading-right.is) at c.in_ok-right.ensures) (rw c.turned.ensures at c.in_ok-relate-in-Loading-right.ensures)

pub returns-in_ok-relate-in-Constant-right-2 : goal.returns-in_ok-relate-in-Constant-right-2
returns-in_ok-relate-in-Constant-right-2 c =
    loads_lower c.args.related.relation (value_at c.args.nodes.now c.args.related.first) (value_at c.args.nodes.now c.args.related.second) c.args.before c.in-Loading.loading c.in-Constant-right-2.b _ _
    (rw (c.in-Some.is, c.in-Loading.is) at c.in_ok-left.ensures) (rw (c.in-Some-2.is, c.in-Constant-right-2.is) at c.in_ok-right.ensures) c.in_ok-relate-in-Constant-right-2.ensures
