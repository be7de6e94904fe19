use Rattle.std.proofs.Common.{is_ok, ap, ◌≡◌, length, arith}
use Rattle.std.proofs.ResultArms.{chosen}
use Rattle.expr_tree.proofs.ExprLemmas.{expr_at_new, value_at_new, expr_at_old, value_at_old}
use Rattle.expr_tree.proofs.tree.Tree.push.Goals as goal

pub returns-clause-expr : goal.returns-clause-expr
returns-clause-expr c =
    let pushed = chosen _ _ _ _ c.push.ensures.items (ap is_ok c.in_ok-push.was) in
    let place : c.len-place.result ≡ length c.args.self.now.nodes.items = omega (arith, c.args.self.now.nodes.ok.0, c.len-place.ensures) in
    rw (pushed, place) (expr_at_new c.args.self.now.nodes.items (record { kind = c.args.kind; column = c.args.column }))

pub returns-clause-value : goal.returns-clause-value
returns-clause-value c =
    let pushed = chosen _ _ _ _ c.push.ensures.items (ap is_ok c.in_ok-push.was) in
    let place : c.len-place.result ≡ length c.args.self.now.nodes.items = omega (arith, c.args.self.now.nodes.ok.0, c.len-place.ensures) in
    rw (pushed, place) (value_at_new c.args.self.now.nodes.items (record { kind = c.args.kind; column = c.args.column }))

pub returns-clause-exprs : goal.returns-clause-exprs
returns-clause-exprs c =
    let pushed = chosen _ _ _ _ c.push.ensures.items (ap is_ok c.in_ok-push.was) in
    λ p below. rw pushed (expr_at_old c.args.self.now.nodes.items (record { kind = c.args.kind; column = c.args.column }) p below)

pub returns-clause-values : goal.returns-clause-values
returns-clause-values c =
    let pushed = chosen _ _ _ _ c.push.ensures.items (ap is_ok c.in_ok-push.was) in
    λ p below. rw pushed (value_at_old c.args.self.now.nodes.items (record { kind = c.args.kind; column = c.args.column }) p below)
