-- Filter expressions (pcap-filter(7)), apart from where they lie in memory and in a text.
use Rattle.std.specs.Prelude.{ℕ, ◌-◌, ◌==◌, if◌then◌else◌, List, [], ◌∷◌, length, reverse}
use Rattle.expr_words.specs.declared.protocol.Protocol.{Protocol}
use Rattle.expr_tree.specs.declared.calc.Operator.{Operator}
use Rattle.expr_tree.specs.declared.calc.Relation.{Relation}
use Rattle.expr_tree.specs.declared.calc.Size.{Size}
use Rattle.expr_tree.specs.declared.calc.Calc.TheVariants as calc
use Rattle.expr_tree.specs.declared.calc.Calc.{Calc}
use Rattle.expr_tree.specs.declared.test.Test.{Test}
use Rattle.expr_tree.specs.declared.tree.Kind.{Kind}
use Rattle.expr_tree.specs.declared.tree.Kind.TheVariants as kind
use Rattle.expr_tree.specs.declared.tree.Node.{Node}
use Rattle.expr_tree.specs.declared.tree.Tree.{Tree}

-- a calculation of 32 bits
pub data Value : Type 0 where
  Number : ℕ → Value
  Len : Value
  Bytes : Protocol → Value → Size → Value
  Operation : Operator → Value → Value → Value
  Negate : Value → Value

pub data Expr : Type 0 where
  Every : Expr
  Is : Test → Expr
  Compare : Relation → Value → Value → Expr
  Not : Expr → Expr
  And : Expr → Expr → Expr
  Or : Expr → Expr → Expr

-- what a part of a calculation is, by what stands at the places before it
abbrev pub calc_by : (ℕ → Value) → Calc → Value
calc_by at (calc.Number n) = Number n
calc_by at calc.Len = Len
calc_by at (calc.Bytes protocol place size) = Bytes protocol (at place) size
calc_by at (calc.Operation operator first second) = Operation operator (at first) (at second)
calc_by at (calc.Negate of) = Negate (at of)

-- what a node is: a calculation, where it is a part of one, else the number 0
abbrev pub value_by : (ℕ → Value) → Kind → Value
value_by at (kind.Calc c) = calc_by at c
value_by at kind.Every = Number 0
value_by at (kind.Test test) = Number 0
value_by at (kind.Compare relation first second) = Number 0
value_by at (kind.Not of) = Number 0
value_by at (kind.And first second) = Number 0
value_by at (kind.Or first second) = Number 0

-- and an expression, where it is no part of a calculation
abbrev pub expr_by : (ℕ → Value) → (ℕ → Expr) → Kind → Expr
expr_by value at kind.Every = Every
expr_by value at (kind.Test test) = Is test
expr_by value at (kind.Compare relation first second) = Compare relation (value first) (value second)
expr_by value at (kind.Not of) = Not (at of)
expr_by value at (kind.And first second) = And (at first) (at second)
expr_by value at (kind.Or first second) = Or (at first) (at second)
expr_by value at (kind.Calc c) = Every

-- the calculation at a place of a list, the last one first
abbrev pub value_in : List Node → ℕ → Value
value_in [] place = Number 0
value_in (node ∷ before) place = if place == length before then value_by (value_in before) node.kind else value_in before place

-- the expression at a place of a list, the last one first
abbrev pub expr_in : List Node → ℕ → Expr
expr_in [] place = Every
expr_in (node ∷ before) place = if place == length before then expr_by (value_in before) (expr_in before) node.kind else expr_in before place

unfoldable pub value_at : List Node → ℕ → Value
value_at nodes place = value_in (reverse nodes) place

unfoldable pub expr_at : List Node → ℕ → Expr
expr_at nodes place = expr_in (reverse nodes) place

-- the expression that a tree is: its last node
abbrev pub expr_of : Tree → Expr
expr_of tree = expr_at tree.nodes.items (length tree.nodes.items - 1)
