-- Tokens of which all are read.
use Rattle.std.proofs.Common.{◌≡◌, ℕ, ◌+◌, ◌-◌, ◌==◌, true, false, List, length, Some, None, refl, ap, arith}
use Rattle.expr_words.specs.declared.token.Token.{Token}
use Rattle.expr_tree.specs.declared.tree.Node.{Node}
use Rattle.expr_tree.specs.Expr.{Every, expr_at}
use Rattle.expr_parse.specs.declared.text.TheConstants.{MAX_LEVELS}
use Rattle.expr_parse.specs.Grammar.{Read, expr, term, expression}

pub of_none : (ts : List Token) → (length ts == 0) ≡ true → expression ts ≡ Some Every
unfolding expression
of_none ts h = rw h refl

pub of_no_expr : (ts : List Token) → (length ts == 0) ≡ false → expr (term (MAX_LEVELS + 1)) None ts ≡ None → expression ts ≡ None
unfolding expression
of_no_expr ts h e = rw (h, e) refl

pub of_more : (ts rest : List Token) (r : Read) → (length ts == 0) ≡ false → expr (term (MAX_LEVELS + 1)) None ts ≡ Some (r, rest) → (length rest == 0) ≡ false → expression ts ≡ None
unfolding expression
of_more ts rest r h e m = rw (h, e, m) refl

pub of_all : (ts rest : List Token) (r : Read) → (length ts == 0) ≡ false → expr (term (MAX_LEVELS + 1)) None ts ≡ Some (r, rest) → (length rest == 0) ≡ true → expression ts ≡ Some r.0
unfolding expression
of_all ts rest r h e m = rw (h, e, m) refl

-- the last node
pub at_last : (nodes : List Node) (place : ℕ) → place + 1 ≡ length nodes → expr_at nodes (length nodes - 1) ≡ expr_at nodes place
at_last nodes place h = let same : length nodes - 1 ≡ place = omega arith in ap (expr_at nodes) same
