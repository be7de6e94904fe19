use Rattle.std.proofs.Common.{◌≡◌, ◌∙◌, subst}
use Rattle.expr_tree.specs.Expr.{Expr, expr_of}
use Rattle.expr_parse.specs.Parsing.{Spells}
use Rattle.expr_print.proofs.printer.checked.Goals as goal

pub returns-then-same_tree-clause-only : goal.returns-then-same_tree-clause-only
returns-then-same_tree-clause-only c = λ e s.
    let only = subst (λ bytes. (f : Expr) → Spells bytes f → f ≡ expr_of c.in-Ok.read) c.as_bytes.ensures.value c.in-Ok.ensures.only in
    only e s ∙ c.same_tree.ensures c.if-same_tree.true
