-- Chains, turn by turn.
use Rattle.std.proofs.Common.{◌≡◌, ℕ, zero, suc, ◌<◌, ◌≤◌, List, [], ◌∷◌, length, drop, Option, Some, None, refl, sym, ◌∙◌, arith, length-drop}
use Rattle.expr_words.specs.declared.token.Token.{Token}
use Rattle.expr_tree.specs.declared.calc.Operator.{Operator}
use Rattle.expr_tree.specs.declared.tree.Node.{Node}
use Rattle.expr_tree.specs.Expr.{expr_at, value_at, expr_by}
use Rattle.expr_parse.specs.declared.operators.Join.{Join}
use Rattle.expr_parse.specs.declared.operators.Join.TheVariants as joins
use Rattle.expr_parse.specs.Words.{sign, keyword}
use Rattle.expr_parse.specs.Operators.{join_at, operator, operator_in}
use Rattle.expr_parse.specs.Readers.{Reader, chain}
use Rattle.expr_parse.specs.Grammar.{joined}
use Rattle.expr_parse.specs.ParserViews.{Grows, join_kind}

-- the chain ends where no sign comes
pub chain_end : {A B S : Type 0} (says : List Token → Option S) (operand : A → Reader B) (join : S → A → B → A) (n : ℕ) (left : A) (rest : List Token) → says rest ≡ None → chain says operand join n left rest ≡ Some (left, rest)
unfolding chain
chain_end says operand join zero left rest h = refl
chain_end says operand join (suc n) left rest h = rw h refl

-- it is none where no operand comes after a sign
pub chain_none : {A B S : Type 0} (says : List Token → Option S) (operand : A → Reader B) (join : S → A → B → A) (n : ℕ) (left : A) (rest : List Token) (s : S) → length rest < n → says rest ≡ Some s → operand left (drop 1 rest) ≡ None → chain says operand join n left rest ≡ None
unfolding chain
chain_none says operand join zero left rest s below h e = absurd (omega arith)
chain_none says operand join (suc n) left rest s below h e = rw (h, e) refl

-- and goes on behind an operand
pub chain_turn : {A B S : Type 0} (says : List Token → Option S) (operand : A → Reader B) (join : S → A → B → A) (n : ℕ) (left : A) (rest : List Token) (s : S) (right : B) (more : List Token) → length rest < n → 0 < length rest → length more ≤ length (drop 1 rest) → says rest ≡ Some s → operand left (drop 1 rest) ≡ Some (right, more) → (m : ℕ) × (length more < m) × (chain says operand join n left rest ≡ chain says operand join m (join s left right) more)
unfolding chain
chain_turn says operand join zero left rest s right more below some less h e = absurd (omega arith)
chain_turn says operand join (suc n) left rest s right more below some less h e = (n, omega (arith, length-drop 1 rest), rw (h, e) refl)

no_join : join_at [] ≡ None
unfolding join_at keyword
no_join = refl

pub join_some : (rest : List Token) (join : Join) → join_at rest ≡ Some join → 0 < length rest
join_some [] join h = let none : Some join ≡ None = sym h ∙ no_join in absurd cc
join_some (t ∷ ts) join h = omega arith

no_operator : (layer : ℕ) → operator_in layer [] ≡ None
unfolding operator_in operator sign
no_operator layer = refl

pub operator_some : (rest : List Token) (layer : ℕ) (operator : Operator) → operator_in layer rest ≡ Some operator → 0 < length rest
operator_some [] layer operator h = let none : Some operator ≡ None = sym h ∙ no_operator layer in absurd cc
operator_some (t ∷ ts) layer operator h = omega arith

-- the node of two that are joined
pub join_expr : (join : Join) (nodes : List Node) (left right : ℕ) → expr_by (value_at nodes) (expr_at nodes) (join_kind join left right) ≡ joined join (expr_at nodes left) (expr_at nodes right)
join_expr joins.And nodes left right = refl
join_expr joins.Or nodes left right = refl

pub grows_on : (a b c : List Node) → Grows a b → Grows b c → Grows a c
grows_on a b c g h = record {
  longer = let first = g.longer in let second = h.longer in omega arith;
  exprs = λ place below. let first = g.longer in h.exprs place (omega arith) ∙ g.exprs place below;
  values = λ place below. let first = g.longer in h.values place (omega arith) ∙ g.values place below;
}
