use Rattle.std.proofs.Common.{◌≡◌, ◌<◌, ◌≤◌, ℕ, ◌+◌, ◌*◌, length, true}
use Rattle.expr_tree.specs.Expr.{expr_at}
use Rattle.expr_parse.specs.Grammar as spec
use Rattle.expr_parse.specs.Operators.{join_at}
use Rattle.expr_parse.specs.Readers.{chain}
use Rattle.expr_parse.specs.ParserViews.{Grows}
use Rattle.expr_parse.proofs.parser.Parser.+parser.Given as goal

abbrev pub decreases-expr : goal.decreases-expr
decreases-expr l = 10 * l.level + 1

abbrev pub decreases-group : goal.decreases-group
decreases-group l = 10 * l.level + 2

abbrev pub decreases-term : goal.decreases-term
decreases-term l = 10 * l.level

abbrev pub decreases-term_not : goal.decreases-term_not
decreases-term_not l = 10 * l.level + 1

-- what the terms so far are, and what is left, make the whole
abbrev pub invariant-expr-terms : goal.invariant-expr-terms
invariant-expr-terms l = record {
  reads : (n : ℕ) × (length l.self.cursor < n) × (spec.expr (spec.term l.level) l.fn.quals l.fn.self.cursor ≡ chain join_at (λ left. spec.term l.level left.1 true) spec.joined_reads n (expr_at l.self.tree.nodes.items l.left.node, l.left.quals) l.self.cursor);
  last : l.left.node + 1 ≡ length l.self.tree.nodes.items;
  grows : Grows l.fn.self.tree.nodes.items l.self.tree.nodes.items;
  shorter : length l.self.cursor ≤ length l.fn.self.cursor;
}

abbrev pub decreases-expr-terms : goal.decreases-expr-terms
decreases-expr-terms l = length l.self.cursor
