use Rattle.std.proofs.Common.{sym, subst, arith}
use Rattle.std.specs.Prelude.{IfOk, IfSome}
use Rattle.expr_lower.specs.Operands.{IsConstant}
use Rattle.expr_lower.proofs.Spining.{value_is, value_beyond}
use Rattle.expr_lower.proofs.Comparing.{number_constant}
use Rattle.expr_lower.proofs.constant.+constants.Goals as goal

pub constant-returns-then-place-nodes : goal.constant-returns-then-place-nodes
constant-returns-then-place-nodes t c = subst (λ v. IsConstant v 0) (sym (value_beyond c.args.nodes.now c.args.place c.if-place-nodes.true)) (number_constant 0)

pub constant-returns : goal.constant-returns
constant-returns t c =
    subst (λ v. IfOk c.constant_calc.result (λ known. IfSome known (λ k. IsConstant v k)))
    (sym (value_is c.args.nodes.now c.args.place _ c.calc_of.result (omega arith) c.calc_of.ensures)) c.constant_calc.ensures
