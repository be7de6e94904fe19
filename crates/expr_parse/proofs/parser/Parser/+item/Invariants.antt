use Rattle.std.proofs.Common.{◌≡◌, ◌<◌, ◌≤◌, ℕ, ◌+◌, ◌*◌, length, option_and_then}
use Rattle.expr_words.specs.declared.word.Sign.TheVariants as signs
use Rattle.expr_tree.specs.Expr.{expr_at}
use Rattle.expr_parse.specs.Grammar as spec
use Rattle.expr_parse.specs.Operators.{join_at}
use Rattle.expr_parse.specs.Readers.{chain, expect, ◌>>=◌, pure}
use Rattle.expr_parse.specs.ParserViews.{Grows}
use Rattle.expr_parse.proofs.parser.Parser.+item.Given as goal

abbrev pub decreases-item : goal.decreases-item
decreases-item l = 10 * l.level

abbrev pub decreases-item_list : goal.decreases-item_list
decreases-item_list l = 10 * l.level + 1

abbrev pub decreases-item_not : goal.decreases-item_not
decreases-item_not l = 10 * l.level + 1

-- what the items so far are, and what is left, make the whole
abbrev pub invariant-item_list-items : goal.invariant-item_list-items
invariant-item_list-items l = record {
  reads : (n : ℕ) × (length l.self.cursor < n) × (spec.item_list (spec.item l.level l.quals) l.fn.self.cursor ≡ option_and_then (λ r. (expect signs.Close >>= (λ taken. pure r.0)) r.1) (chain join_at (λ left. spec.item l.level l.quals) spec.joined n (expr_at l.self.tree.nodes.items l.left) l.self.cursor));
  last : l.left + 1 ≡ length l.self.tree.nodes.items;
  grows : Grows l.fn.self.tree.nodes.items l.self.tree.nodes.items;
  shorter : length l.self.cursor ≤ length l.fn.self.cursor;
}

abbrev pub decreases-item_list-items : goal.decreases-item_list-items
decreases-item_list-items l = length l.self.cursor
