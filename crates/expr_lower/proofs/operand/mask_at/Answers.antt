use Rattle.std.proofs.Common.{sym, subst, arith}
use Rattle.std.specs.Prelude.{IfOk, IfSome}
use Rattle.expr_lower.specs.Operands.{Loads}
use Rattle.expr_lower.proofs.Spining.{value_is}
use Rattle.expr_lower.proofs.operand.mask_at.Goals as goal

pub returns : goal.returns
returns c =
    subst (λ v. IfOk c.mask_calc.result (λ found. IfSome found (λ loading. Loads v c.args.before loading)))
    (sym (value_is c.args.nodes.now c.args.place _ c.calc_of.result (omega arith) c.calc_of.ensures)) c.mask_calc.ensures
