use Rattle.std.proofs.Common.{sym, subst}
use Rattle.std.specs.Prelude.{IfOk, IfSome}
use Rattle.expr_tree.specs.Expr.{Value, Bytes, calc_by, value_at}
use Rattle.expr_lower.specs.Operands.{IsConstant, LoadsAll}
use Rattle.expr_lower.proofs.Comparing.{found}
use Rattle.expr_lower.proofs.operand.load_calc.Goals as goal

pub returns-in-Some : goal.returns-in-Some
returns-in-Some c =
    subst (λ k. IfOk c.bytes.result (λ found. IfSome found (λ loading. LoadsAll (calc_by (value_at c.args.nodes.now) k) c.args.before loading))) (sym c.in-Bytes.is)
    (found c.bytes.result
    (λ loading. (v : Value) → IsConstant v c.in-Some.index → LoadsAll (Bytes c.in-Bytes.protocol v c.in-Bytes.size) c.args.before loading)
    (λ loading. LoadsAll (Bytes c.in-Bytes.protocol (value_at c.args.nodes.now c.in-Bytes.index) c.in-Bytes.size) c.args.before loading)
    (λ loading h. h (value_at c.args.nodes.now c.in-Bytes.index) (rw c.in-Some.is at c.in_ok-index-in-Bytes.ensures))
    c.bytes.ensures)
