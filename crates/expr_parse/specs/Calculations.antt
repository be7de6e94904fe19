-- Calculations and comparisons (pcap-filter(7), "expr relop expr").
use Rattle.std.specs.Prelude.{ℕ, zero, suc, ◌==◌, Bool, true, false, if◌then◌else◌, List, drop, Option, Some, None, option_and_then}
use Rattle.expr_words.specs.declared.protocol.Protocol.{Protocol}
use Rattle.expr_words.specs.declared.protocol.Protocol.TheVariants as protocols
use Rattle.expr_words.specs.declared.token.Token.{Token}
use Rattle.expr_words.specs.declared.word.Sign.TheVariants as signs
use Rattle.expr_words.specs.declared.word.Keyword.TheVariants as keywords
use Rattle.expr_tree.specs.declared.calc.Operator.{Operator}
use Rattle.expr_tree.specs.declared.calc.Size.{Size}
use Rattle.expr_tree.specs.declared.calc.Size.TheVariants as sizes
use Rattle.expr_tree.specs.Expr.{Value, Number, Len, Bytes, Operation, Negate, Expr, Compare}
use Rattle.expr_parse.specs.Words.{number, protocol, sees, sees_word}
use Rattle.expr_parse.specs.Operators.{operator, operator_in, relation}
use Rattle.expr_parse.specs.Readers.{Reader, ◌>>=◌, ◌>>◌, pure, refuse, next, take, optional, expect, ends, many}

-- the protocols whose headers have bytes at places that are known
abbrev pub has_bytes : Protocol → Bool
has_bytes protocols.Ah = false
has_bytes protocols.Esp = false
has_bytes protocols.Stp = false
has_bytes protocols.Iso = false
has_bytes protocols.Ipx = false
has_bytes protocols.Netbeui = false
has_bytes protocols.Aarp = false
has_bytes p = true

unfoldable pub header : List Token → Option Protocol
header tokens = option_and_then (λ p. if has_bytes p then Some p else None) (protocol tokens)

abbrev pub size_of : ℕ → Option Size
size_of n = if n == 1 then Some sizes.Byte else if n == 2 then Some sizes.Half else if n == 4 then Some sizes.Word else None

-- 1 | 2 | 4
unfoldable pub size_at : List Token → Option Size
size_at tokens = option_and_then size_of (number tokens)

-- [ : size ]
unfoldable pub size : Reader Size
size = λ tokens. if sees signs.Colon tokens then (next >> take size_at) tokens else Some (sizes.Byte, tokens)

-- a chain of operations from the left, in layers: the operands of each layer are chains of the layers below it
module _ (factor : Reader Value) where
  -- a factor, and the operations of the layers below
  unfoldable pub operand : (Value → Reader Value) → Reader Value
  operand inner = do
    first ← factor
    inner first

  -- { operator operand } in each layer; the layer of an operator is Operators.layer
  unfoldable pub layers : ℕ → Value → Reader Value
  layers zero left = pure left
  layers (suc layer) left = do
    first ← layers layer left
    many (operator_in (suc layer)) (λ so_far. operand (layers layer)) Operation first

  abbrev pub operation_by : Value → Option Operator → Reader Value
  operation_by first None = layers 5 first
  operation_by first (Some operator) = do
    second ← factor
    pure (Operation operator first second)

  -- factor (% | ^) factor | layers from | to * and /
  unfoldable pub operation : Reader Value
  operation = do
    first ← factor
    alone ← optional (operator_in 6)
    operation_by first alone

  -- calc := operation, behind which no operator stands
  unfoldable pub calc : Reader Value
  calc = do
    value ← operation
    ends operator
    pure value

-- factor := - factor | ( calc ) | len | NUM | protocol [ calc [: size] ], where what stands inside is one level deeper
module _ (below : Reader Value) where
  unfoldable pub negative : Reader Value
  negative = do
    next
    inner ← below
    pure (Negate inner)

  unfoldable pub parenthesized : Reader Value
  parenthesized = do
    next
    inner ← calc below
    expect signs.Close
    pure inner

  unfoldable pub bytes : Reader Value
  bytes = do
    protocol ← take header
    expect signs.OpenBracket
    at ← calc below
    size ← size
    expect signs.CloseBracket
    pure (Bytes protocol at size)

  abbrev pub plain_by : Option ℕ → Reader Value
  plain_by (Some n) = next >> pure (Number n)
  plain_by None = bytes

  unfoldable pub factor_by : Reader Value
  factor_by = λ tokens.
      if sees signs.Minus tokens then negative tokens
      else if sees signs.Open tokens then parenthesized tokens
      else if sees_word keywords.Len tokens then Some (Len, drop 1 tokens)
      else plain_by (number tokens) tokens

unfoldable pub factor : ℕ → Reader Value
factor zero = refuse
factor (suc level) = factor_by (factor level)

-- relation := calc relop calc
unfoldable pub comparison : ℕ → Reader Expr
comparison level = do
  first ← calc (factor level)
  how ← take relation
  second ← calc (factor level)
  pure (Compare how first second)
