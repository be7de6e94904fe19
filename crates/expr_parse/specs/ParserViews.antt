-- What a reader of the program gives, beside the grammar's. No public clause cites these.
use Rattle.std.specs.Prelude.{◌≡◌, ◌≢◌, ℕ, ◌+◌, ◌<◌, ◌≤◌, List, [], ◌∷◌, length, Option, Some, None, Result, Ok, Err}
use Rattle.expr_words.specs.declared.token.Token.{Token}
use Rattle.expr_tree.specs.declared.tree.Kind.{Kind}
use Rattle.expr_tree.specs.declared.tree.Kind.TheVariants as kinds
use Rattle.expr_parse.specs.declared.operators.Join.{Join}
use Rattle.expr_parse.specs.declared.operators.Join.TheVariants as joins
use Rattle.expr_tree.specs.declared.tree.Node.{Node}
use Rattle.expr_tree.specs.declared.tree.Tree.{Tree}
use Rattle.expr_tree.specs.Expr.{Expr, Value, expr_at, value_at, expr_of}
use Rattle.expr_values.specs.declared.kinds.Quals.{Quals}
use Rattle.expr_parse.specs.declared.fault.ExprFaultKind.TheVariants.{NoMemory}
use Rattle.expr_parse.specs.declared.fault.Stop.{Stop}
use Rattle.expr_parse.specs.declared.parser.Read.{Read}
use Rattle.expr_parse.specs.Grammar.{expression}

-- nodes that were there are what they were
pub record Grows (old new : List Node) : Type 0 where
  pub longer : length old ≤ length new
  pub exprs : (place : ℕ) → place < length old → expr_at new place ≡ expr_at old place
  pub values : (place : ℕ) → place < length old → value_at new place ≡ value_at old place

-- what the grammar reads is the node that is given, the last one, with the tokens that are left; where none is given, the grammar reads nothing,
-- but where memory ran out
abbrev pub ReadsExpr : Option (Expr × List Token) → Result ℕ Stop → List Node → List Token → Type 0
ReadsExpr spec (Ok node) nodes rest = (spec ≡ Some (expr_at nodes node, rest)) × (node + 1 ≡ length nodes)
ReadsExpr spec (Err stop) nodes rest = stop.kind ≢ NoMemory → spec ≡ None

abbrev pub ReadsValue : Option (Value × List Token) → Result ℕ Stop → List Node → List Token → Type 0
ReadsValue spec (Ok node) nodes rest = (spec ≡ Some (value_at nodes node, rest)) × (node + 1 ≡ length nodes)
ReadsValue spec (Err stop) nodes rest = stop.kind ≢ NoMemory → spec ≡ None

-- with the qualifiers in force after it
abbrev pub ReadsTerm : Option ((Expr × Option Quals) × List Token) → Result Read Stop → List Node → List Token → Type 0
ReadsTerm spec (Ok r) nodes rest = (spec ≡ Some ((expr_at nodes r.node, r.quals), rest)) × (r.node + 1 ≡ length nodes)
ReadsTerm spec (Err stop) nodes rest = stop.kind ≢ NoMemory → spec ≡ None

-- no node
abbrev pub Reads : {A : Type 0} → Option (A × List Token) → Result A Stop → List Token → Type 0
Reads spec (Ok a) rest = spec ≡ Some (a, rest)
Reads spec (Err stop) rest = stop.kind ≢ NoMemory → spec ≡ None

-- the node of two that are joined
abbrev pub join_kind : Join → ℕ → ℕ → Kind
join_kind joins.And left right = kinds.And left right
join_kind joins.Or left right = kinds.Or left right

-- all of the tokens are the tree, or they are none
abbrev pub ReadsTree : List Token → Result Tree Stop → Type 0
ReadsTree tokens (Ok tree) = expression tokens ≡ Some (expr_of tree)
ReadsTree tokens (Err stop) = stop.kind ≢ NoMemory → expression tokens ≡ None

-- the columns of tokens: from 1, and before one
abbrev pub LieBefore : ℕ → List Token → Type 0
LieBefore end [] = Unit {0}
LieBefore end (t ∷ ts) = (0 < t.column) × (t.column < end) × LieBefore end ts
