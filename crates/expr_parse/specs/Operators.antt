-- Signs and words that join or compare (pcap-filter(7)).
use Rattle.std.specs.Prelude.{ℕ, Bool, ◌||◌, ◌==◌, if◌then◌else◌, List, Option, Some, None, option_and_then, is_some}
use Rattle.expr_words.specs.declared.token.Token.{Token}
use Rattle.expr_words.specs.declared.word.Sign.{Sign}
use Rattle.expr_words.specs.declared.word.Sign.TheVariants as signs
use Rattle.expr_words.specs.declared.word.Keyword.{Keyword}
use Rattle.expr_words.specs.declared.word.Keyword.TheVariants as keywords
use Rattle.expr_tree.specs.declared.calc.Operator.{Operator}
use Rattle.expr_tree.specs.declared.calc.Operator.TheVariants as operators
use Rattle.expr_tree.specs.declared.calc.Relation.{Relation}
use Rattle.expr_tree.specs.declared.calc.Relation.TheVariants as relations
use Rattle.expr_parse.specs.declared.operators.Join.{Join}
use Rattle.expr_parse.specs.declared.operators.Join.TheVariants as joins
use Rattle.expr_parse.specs.Words.{sign, keyword}

abbrev pub join_of : Keyword → Option Join
join_of keywords.And = Some joins.And
join_of keywords.Or = Some joins.Or
join_of k = None

-- `and`, `or`
unfoldable pub join_at : List Token → Option Join
join_at tokens = option_and_then join_of (keyword tokens)

abbrev pub operator_of : Sign → Option Operator
operator_of signs.Star = Some operators.Multiply
operator_of signs.Slash = Some operators.Divide
operator_of signs.Plus = Some operators.Add
operator_of signs.Minus = Some operators.Subtract
operator_of signs.ShiftLeft = Some operators.ShiftLeft
operator_of signs.ShiftRight = Some operators.ShiftRight
operator_of signs.Ampersand = Some operators.And
operator_of signs.Bar = Some operators.Or
operator_of signs.Percent = Some operators.Remainder
operator_of signs.Caret = Some operators.Xor
operator_of s = None

-- In which layer an operator stands: those of a lower one bind closer, as in C. `%` and `^` stand alone.
abbrev pub layer : Operator → ℕ
layer operators.Multiply = 1
layer operators.Divide = 1
layer operators.Add = 2
layer operators.Subtract = 2
layer operators.ShiftLeft = 3
layer operators.ShiftRight = 3
layer operators.And = 4
layer operators.Or = 5
layer operators.Remainder = 6
layer operators.Xor = 6

unfoldable pub operator : List Token → Option Operator
operator tokens = option_and_then operator_of (sign tokens)

-- the first token, where it is an operator of this layer
unfoldable pub operator_in : ℕ → List Token → Option Operator
operator_in expected tokens = option_and_then (λ o. if layer o == expected then Some o else None) (operator tokens)

abbrev pub relation_of : Sign → Option Relation
relation_of signs.Equal = Some relations.Equal
relation_of signs.NotEqual = Some relations.NotEqual
relation_of signs.Less = Some relations.Less
relation_of signs.Greater = Some relations.Greater
relation_of signs.LessEqual = Some relations.LessEqual
relation_of signs.GreaterEqual = Some relations.GreaterEqual
relation_of s = None

-- `=`, `!=`, `<`, `>`, `<=`, `>=`
unfoldable pub relation : List Token → Option Relation
relation tokens = option_and_then relation_of (sign tokens)

-- what stands before these tokens is a part of a calculation, or one side of a comparison
unfoldable pub continues_calc : List Token → Bool
continues_calc tokens = is_some (operator tokens) || is_some (relation tokens)
