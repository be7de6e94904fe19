-- What a text is as an expression.
use Rattle.std.specs.Prelude.{◌≡◌, ℕ, ◌≤◌, List, length, Some}
use Rattle.expr_words.specs.declared.token.Token.{Token}
use Rattle.expr_words.specs.declared.token.TheConstants.{MAX_TOKENS}
use Rattle.expr_words.specs.Tokens as words
use Rattle.expr_tree.specs.Expr.{Expr}
use Rattle.expr_parse.specs.Grammar.{expression}

-- the text's tokens, not too many, are the expression
abbrev pub Spells : List ℕ → Expr → Type 0
Spells text expr = (tokens : List Token) × words.Spells text tokens × (length tokens ≤ MAX_TOKENS) × (expression tokens ≡ Some expr)
