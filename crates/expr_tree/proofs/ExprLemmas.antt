-- A node more.
use Rattle.std.proofs.Common.{◌≡◌, ℕ, ◌<◌, true, false, List, [], ◌∷◌, ◌++◌, length, reverse, refl, arith}
use Rattle.std.specs.Prelude.{◌==◌}
use Rattle.std.proofs.lemmas.List.{reverse-append, length-reverse}
use Rattle.std.proofs.lemmas.Bool.Decides.{nat_tests}
use Rattle.expr_tree.specs.declared.tree.Node.{Node}
use Rattle.expr_tree.specs.Expr.{expr_by, value_by, expr_at, value_at}

same : (n : ℕ) → (n == n) ≡ true
same n = grind (arith, nat_tests)

apart : (p n : ℕ) → p < n → (p == n) ≡ false
apart p n h = grind (arith, nat_tests)

backward : (nodes : List Node) (node : Node) → reverse (nodes ++ node ∷ []) ≡ node ∷ reverse nodes
backward nodes node = reverse-append nodes (node ∷ [])

pub expr_at_new : (nodes : List Node) (node : Node) → expr_at (nodes ++ node ∷ []) (length nodes) ≡ expr_by (value_at nodes) (expr_at nodes) node.kind
unfolding expr_at value_at
expr_at_new nodes node = rw (backward nodes node, length-reverse nodes, same (length nodes)) refl

pub value_at_new : (nodes : List Node) (node : Node) → value_at (nodes ++ node ∷ []) (length nodes) ≡ value_by (value_at nodes) node.kind
unfolding value_at
value_at_new nodes node = rw (backward nodes node, length-reverse nodes, same (length nodes)) refl

pub expr_at_old : (nodes : List Node) (node : Node) (p : ℕ) → p < length nodes → expr_at (nodes ++ node ∷ []) p ≡ expr_at nodes p
unfolding expr_at
expr_at_old nodes node p h = rw (backward nodes node, length-reverse nodes, apart p (length nodes) h) refl

pub value_at_old : (nodes : List Node) (node : Node) (p : ℕ) → p < length nodes → value_at (nodes ++ node ∷ []) p ≡ value_at nodes p
unfolding value_at
value_at_old nodes node p h = rw (backward nodes node, length-reverse nodes, apart p (length nodes) h) refl
