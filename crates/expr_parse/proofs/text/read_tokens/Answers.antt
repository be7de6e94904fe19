use Rattle.std.proofs.Common.{◌≡◌, ◌==◌, true, false, length, Some, sym, ap, ◌∙◌}
use Rattle.std.proofs.lemmas.Result.{err_from_is_err_and}
use Rattle.expr_parse.proofs.WholeLemmas.{of_none, of_no_expr, of_more, of_all, at_last}
use Rattle.expr_parse.proofs.text.read_tokens.Goals as goal

pub returns-then-is_empty : goal.returns-then-is_empty
returns-then-is_empty c =
    let none : (length c.args.tokens.now == 0) ≡ true = cc in
    let nodes = c.push.new.self.tree.nodes.items in
    rw c.finish.ensures (of_none c.args.tokens.now none ∙ ap Some (sym (at_last nodes c.in_ok-push.field-0 c.in_ok-push.ensures.placed ∙ c.in_ok-push.ensures.expr)))

pub returns-in_err-expr : goal.returns-in_err-expr
returns-in_err-expr c =
    let p = err_from_is_err_and c.from_residual-in_err-expr.result c.from_residual-in_err-expr.ensures.1 in
    let some : (length c.args.tokens.now == 0) ≡ false = cc in
    rw (p.1, p.2) (λ h. of_no_expr c.args.tokens.now some (rw c.in_ok-new.ensures at (c.in_err-expr.ensures.reads h)))

pub returns-then-not-is_empty : goal.returns-then-not-is_empty
returns-then-not-is_empty c =
    let some : (length c.args.tokens.now == 0) ≡ false = cc in
    let more : (length c.expr.new.self.cursor == 0) ≡ false = cc in
    λ h. of_more c.args.tokens.now c.expr.new.self.cursor _ some (rw c.in_ok-new.ensures at c.in_ok-expr.ensures.reads.0) more

pub returns : goal.returns
returns c =
    let some : (length c.args.tokens.now == 0) ≡ false = cc in
    let all : (length c.expr.new.self.cursor == 0) ≡ true = cc in
    let nodes = c.expr.new.self.tree.nodes.items in
    rw c.finish-2.ensures (of_all c.args.tokens.now c.expr.new.self.cursor _ some (rw c.in_ok-new.ensures at c.in_ok-expr.ensures.reads.0) all
    ∙ ap Some (sym (at_last nodes c.in_ok-expr.field-0.node c.in_ok-expr.ensures.reads.1)))
