use Rattle.std.proofs.Common.{◌≡◌, subst}
use Rattle.std.proofs.lemmas.Result.{IfOk-weaker}
use Rattle.std.specs.Prelude.{IfErr}
use Rattle.expr_tree.specs.Expr.{expr_of}
use Rattle.filter_expr.specs.Selects.{IsOfMeaning}
use Rattle.filter_expr.proofs.compiler.compile.Goals as goal

pub returns-in-Err-clause-none : goal.returns-in-Err-clause-none
returns-in-Err-clause-none c = λ fault is expr spells. c.in-Err.ensures.none (λ memory. (let none = c.of_text.ensures.memory memory in cc)) expr spells

pub returns-clause-compiles : goal.returns-clause-compiles
returns-clause-compiles c =
    IfOk-weaker c.compile_tree.result _ _ (λ program selects. record { expr = expr_of c.in-Ok.tree; spells = c.in-Ok.ensures.reads; only = c.in-Ok.ensures.only; selects = selects }) c.compile_tree.ensures.selects

pub returns-clause-none : goal.returns-clause-none
returns-clause-none c = λ fault is expr spells. absurd (subst (λ result. IfErr result IsOfMeaning) is c.compile_tree.ensures.fault)
