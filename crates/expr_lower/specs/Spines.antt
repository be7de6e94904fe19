-- Expressions along their first operands.
-- No public clause cites these.
use Rattle.std.specs.Prelude.{ℕ, List, [], ◌∷◌, take, Option, Some, None, slice_get}
use Rattle.expr_tree.specs.declared.test.Test.{Test}
use Rattle.expr_tree.specs.declared.tree.Kind.{Kind}
use Rattle.expr_tree.specs.declared.tree.Kind.TheVariants as kind
use Rattle.expr_tree.specs.declared.tree.Node.{Node}
use Rattle.expr_tree.specs.Expr.{Expr, Value, Every, Is, Compare, Not, And, Or, expr_at}
use Rattle.expr_lower.specs.declared.spine.Leaf.{Leaf}
use Rattle.expr_lower.specs.declared.spine.Leaf.TheVariants as leaf

-- what a leaf is, by the calculations before it
abbrev pub leaf_expr : (ℕ → Value) → Leaf → Expr
leaf_expr at leaf.Every = Every
leaf_expr at (leaf.Test test column) = Is test
leaf_expr at (leaf.Compare related) = Compare related.relation (at related.first) (at related.second)

-- a node whose first operand is this
abbrev pub joined_by : (ℕ → Expr) → Kind → Expr → Expr
joined_by at (kind.Not of) first = Not first
joined_by at (kind.And of second) first = And first (at second)
joined_by at (kind.Or of second) first = Or first (at second)
joined_by at kind.Every first = first
joined_by at (kind.Test test) first = first
joined_by at (kind.Compare relation left right) first = first
joined_by at (kind.Calc calc) first = first

abbrev pub joined_at : List Node → ℕ → Option Node → Expr → Expr
joined_at nodes place None first = first
joined_at nodes place (Some node) first = joined_by (expr_at (take place nodes)) node.kind first

-- the nodes at these places, the innermost first, each with what stands below as its first operand
abbrev pub joined : List Node → List ℕ → Expr → Expr
joined nodes [] first = first
joined nodes (place ∷ places) first = joined nodes places (joined_at nodes place (slice_get nodes place) first)

-- what a node is, where it joins none
abbrev pub leaf_by : ℕ → Kind → Leaf
leaf_by column (kind.Test test) = leaf.Test test column
leaf_by column (kind.Compare relation first second) = leaf.Compare (record { relation = relation; first = first; second = second; column = column })
leaf_by column kind.Every = leaf.Every
leaf_by column (kind.Not of) = leaf.Every
leaf_by column (kind.And first second) = leaf.Every
leaf_by column (kind.Or first second) = leaf.Every
leaf_by column (kind.Calc calc) = leaf.Every

abbrev pub leaf_of : Node → Leaf
leaf_of node = leaf_by node.column node.kind

-- the first operand of a node that joins
abbrev pub first_of : Kind → Option ℕ
first_of (kind.Not of) = Some of
first_of (kind.And first second) = Some first
first_of (kind.Or first second) = Some first
first_of kind.Every = None
first_of (kind.Test test) = None
first_of (kind.Compare relation first second) = None
first_of (kind.Calc calc) = None

-- the test that a node is
abbrev pub test_of : Kind → Option Test
test_of (kind.Test test) = Some test
test_of kind.Every = None
test_of (kind.Compare relation first second) = None
test_of (kind.Not of) = None
test_of (kind.And first second) = None
test_of (kind.Or first second) = None
test_of (kind.Calc calc) = None
