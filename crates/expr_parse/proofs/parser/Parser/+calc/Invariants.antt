use Rattle.std.proofs.Common.{◌≡◌, ◌<◌, ◌≤◌, ℕ, ◌+◌, ◌-◌, ◌*◌, length}
use Rattle.expr_tree.specs.Expr.{value_at, Operation}
use Rattle.expr_parse.specs.Calculations as spec
use Rattle.expr_parse.specs.Operators.{operator_in}
use Rattle.expr_parse.specs.Readers.{chain}
use Rattle.expr_parse.specs.ParserViews.{Grows}
use Rattle.expr_parse.proofs.parser.Parser.+calc.Given as goal

abbrev pub decreases-factor : goal.decreases-factor
decreases-factor l = 20 * l.level

abbrev pub decreases-layers : goal.decreases-layers
decreases-layers l = 20 * l.level + 2 * l.layers + 1

abbrev pub decreases-operand : goal.decreases-operand
decreases-operand l = 20 * l.level + 2 * l.layers + 2

abbrev pub decreases-calc : goal.decreases-calc
decreases-calc l = 20 * l.level + 16

abbrev pub decreases-operation : goal.decreases-operation
decreases-operation l = 20 * l.level + 15

abbrev pub decreases-bytes : goal.decreases-bytes
decreases-bytes l = 20 * l.level + 17

abbrev pub decreases-negative : goal.decreases-negative
decreases-negative l = 20 * l.level + 16

abbrev pub decreases-parenthesized : goal.decreases-parenthesized
decreases-parenthesized l = 20 * l.level + 17

-- what the operands so far are, and what is left, make the whole
abbrev pub invariant-layers-operands : goal.invariant-layers-operands
invariant-layers-operands l = record {
  reads : (n : ℕ) × (length l.self.cursor < n) × (spec.layers (spec.factor l.level) l.layers (value_at l.fn.self.tree.nodes.items l.operand) l.fn.self.cursor ≡ chain (operator_in l.layers) (λ so_far. spec.operand (spec.factor l.level) (spec.layers (spec.factor l.level) (l.layers - 1))) Operation n (value_at l.self.tree.nodes.items l.left) l.self.cursor);
  last : l.left + 1 ≡ length l.self.tree.nodes.items;
  grows : Grows l.fn.self.tree.nodes.items l.self.tree.nodes.items;
  shorter : length l.self.cursor ≤ length l.fn.self.cursor;
}

abbrev pub decreases-layers-operands : goal.decreases-layers-operands
decreases-layers-operands l = length l.self.cursor
