use Rattle.std.proofs.Common.{rules, sym, ◌∙◌}
use denote.Enum.Bare.{same_true}
use Rattle.expr_tree.specs.contracts.calc.Operator.{the_type}
use Rattle.expr_print.proofs.same.same_operator.Goals as goal

pub returns : goal.returns
returns c is = same_true the_type (search rules) _ _ (sym c.eq.ensures ∙ is)
