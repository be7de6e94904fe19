-- The grammar of filter expressions (pcap-filter(7)), each line a reader.
use Rattle.std.specs.Prelude.{ℕ, zero, suc, ◌+◌, ◌==◌, ◌&&◌, not, Bool, true, false, nat_le, if◌then◌else◌, is_some, List, [], ◌∷◌, length, drop, Option, Some, None, option_and_then, option_map}
use Rattle.expr_words.specs.declared.protocol.Protocol.{Protocol}
use Rattle.expr_words.specs.declared.protocol.Protocol.TheVariants as protocols
use Rattle.expr_words.specs.declared.token.Token.{Token}
use Rattle.expr_words.specs.declared.word.Word.{Word}
use Rattle.expr_words.specs.declared.word.Word.TheVariants as word
use Rattle.expr_words.specs.declared.word.Sign.{Sign}
use Rattle.expr_words.specs.declared.word.Sign.TheVariants as signs
use Rattle.expr_words.specs.declared.word.Keyword.{Keyword}
use Rattle.expr_words.specs.declared.word.Keyword.TheVariants as keywords
use Rattle.expr_tree.specs.declared.calc.Relation.{Relation}
use Rattle.expr_tree.specs.declared.calc.Relation.TheVariants as relations
use Rattle.expr_tree.specs.declared.test.Header.TheVariants as headers
use Rattle.expr_tree.specs.declared.test.Side.{Side}
use Rattle.expr_tree.specs.declared.test.Side.TheVariants as sides
use Rattle.expr_tree.specs.declared.test.Test.{Test}
use Rattle.expr_tree.specs.declared.test.Test.TheVariants as test
use Rattle.expr_tree.specs.Expr.{Number, Len, Expr, Every, Is, Compare, Not, And, Or}
use Rattle.expr_values.specs.declared.kinds.ValueKind.{ValueKind}
use Rattle.expr_values.specs.declared.kinds.ValueKind.TheVariants as kinds
use Rattle.expr_values.specs.declared.kinds.Quals.{Quals}
use Rattle.expr_values.specs.Values.{value}
use Rattle.expr_heads.specs.declared.heads.Head.{Head}
use Rattle.expr_heads.specs.Heads.{head}
use Rattle.expr_parse.specs.declared.operators.Join.{Join}
use Rattle.expr_parse.specs.declared.operators.Join.TheVariants as joins
use Rattle.expr_parse.specs.declared.primitives.Line.{Line}
use Rattle.expr_parse.specs.declared.primitives.Line.TheVariants as line
use Rattle.expr_parse.specs.declared.text.TheConstants.{MAX_LEVELS}
use Rattle.expr_parse.specs.Words.{number, sees, sees_word}
use Rattle.expr_parse.specs.Operators.{join_at}
use Rattle.expr_parse.specs.Brackets.{begins_group, begins_item}
use Rattle.expr_parse.specs.Readers.{Reader, ◌>>=◌, ◌>>◌, pure, refuse, next, take, optional, expect, many}
use Rattle.expr_parse.specs.Calculations.{comparison}

abbrev pub joined : Join → Expr → Expr → Expr
joined joins.And a b = And a b
joined joins.Or a b = Or a b

-- 1. item := not item | ( item { (and | or) item } ) | value: what takes the qualifiers before it
-- value, as the qualifiers say
unfoldable pub single : Quals → Reader Expr
single q = λ tokens. option_map (λ v. (Is v.0, drop v.1 tokens)) (value q tokens)

-- with items one level deeper
module _ (below : Reader Expr) where
  unfoldable pub item_not : Reader Expr
  item_not = do
    next
    inner ← below
    pure (Not inner)

  unfoldable pub item_list : Reader Expr
  item_list = do
    next
    first ← below
    all ← many join_at (λ left. below) joined first
    expect signs.Close
    pure all

unfoldable pub item : ℕ → Quals → Reader Expr
item zero q = refuse
item (suc level) q = λ tokens.
    if sees_word keywords.Not tokens then item_not (item level q) tokens
    else if sees signs.Open tokens then item_list (item level q) tokens
    else single q tokens

-- 2. test: a line for each kind
-- what is read, and the qualifiers in force after it
abbrev pub Read : Type 0
Read = Expr × Option Quals

-- less NUM | greater NUM
unfoldable pub length_test : Relation → Reader Expr
length_test how = do
  next
  n ← take number
  pure (Compare how Len (Number n))

abbrev pub within : ℕ → Option ℕ → Reader (Option ℕ)
within most None = pure None
within most (Some n) = if nat_le n most then pure (Some n) else refuse

-- the number of a tag, where one is written
unfoldable pub tag_number : ℕ → Reader (Option ℕ)
tag_number most = do
  next
  n ← optional number
  within most n

-- vlan [NUM] | mpls [NUM] | pppoes [NUM]
unfoldable pub tag : (Option ℕ → Test) → ℕ → Reader Expr
tag kind most = do
  n ← tag_number most
  pure (Is (kind n))

abbrev pub broadcast : Option Protocol → Option Test
broadcast None = Some test.EtherBroadcast
broadcast (Some protocols.Ether) = Some test.EtherBroadcast
broadcast (Some protocols.Ip) = Some test.IpBroadcast
broadcast (Some p) = None

abbrev pub multicast : Option Protocol → Option Test
multicast None = Some test.EtherMulticast
multicast (Some protocols.Ether) = Some test.EtherMulticast
multicast (Some protocols.Ip) = Some test.IpMulticast
multicast (Some protocols.Ip6) = Some test.Ip6Multicast
multicast (Some p) = None

-- a protocol alone
abbrev pub protocol_test : Option Protocol → Option Test
protocol_test None = None
protocol_test (Some protocols.Ether) = None
protocol_test (Some p) = Some (test.Is p)

-- [ether | ip] broadcast | [ether | ip | ip6] multicast | protocol: the tokens behind the protocol
unfoldable pub lone : Option Protocol → List Token → Option (Test × ℕ)
lone protocol tokens =
    if sees_word keywords.Broadcast tokens then option_map (λ t. (t, 1)) (broadcast protocol)
    else if sees_word keywords.Multicast tokens then option_map (λ t. (t, 1)) (multicast protocol)
    else option_map (λ t. (t, 0)) (protocol_test protocol)

unfoldable pub lone_test : Option Protocol → Reader Expr
lone_test protocol = λ tokens. option_map (λ t. (Is t.0, drop t.1 tokens)) (lone protocol tokens)

-- the qualifiers that a value takes; `proto` has no direction
abbrev pub quals_by : Option Protocol → Option Side → Option ValueKind → Option Quals
quals_by p None None = None
quals_by p None (Some kind) = Some (record { protocol = p; side = sides.Either; item = kind })
quals_by p (Some side) None = Some (record { protocol = p; side = side; item = kinds.Host })
quals_by p (Some side) (Some kinds.Proto) = None
quals_by p (Some side) (Some kind) = Some (record { protocol = p; side = side; item = kind })

unfoldable pub quals_of : Head → Option Quals
quals_of h = quals_by h.protocol h.side h.kind

-- neither a direction nor a type
abbrev pub is_lone : Head → Bool
is_lone h = not (is_some h.side) && not (is_some h.kind)

abbrev pub values_by : ℕ → Option Quals → Reader Read
values_by level None = refuse
values_by level (Some q) = do
  e ← item level q
  pure (e, Some q)

-- no qualifiers are in force after it
abbrev pub alone : Reader Expr → Reader Read
alone reader = do
  e ← reader
  pure (e, None)

-- [protocol] [dir] [type] item, with one of dir and type; or what has no item
abbrev pub primitive_by : ℕ → Head → Reader Read
primitive_by level h = if is_lone h then alone (lone_test h.protocol) else values_by level (quals_of h)

unfoldable pub primitive : ℕ → Reader Read
primitive level = λ tokens. primitive_by level (head tokens) (drop (head tokens).tokens tokens)

-- what a test begins with, where it doesn't begin with qualifiers
abbrev pub line_of_sign : Sign → Option Line
line_of_sign signs.Minus = Some line.Comparison
line_of_sign signs.Open = Some line.Comparison
line_of_sign s = None

abbrev pub line_of_keyword : Keyword → Option Line
line_of_keyword keywords.Len = Some line.Comparison
line_of_keyword keywords.Less = Some line.Less
line_of_keyword keywords.Greater = Some line.Greater
line_of_keyword keywords.Vlan = Some line.Vlan
line_of_keyword keywords.Mpls = Some line.Mpls
line_of_keyword keywords.Pppoes = Some line.Pppoes
line_of_keyword keywords.Pppoed = Some line.Pppoed
line_of_keyword k = None

-- protocol [
abbrev pub line_of_protocol : List Token → Option Line
line_of_protocol rest = if sees signs.OpenBracket rest then Some line.Comparison else None

abbrev pub line_of : List Token → Word → Option Line
line_of rest (word.Number n) = Some line.Comparison
line_of rest (word.Keyword k) = line_of_keyword k
line_of rest (word.Sign s) = line_of_sign s
line_of rest (word.Protocol p n) = line_of_protocol rest
line_of rest (word.V4 a) = None
line_of rest (word.V6 a) = None
line_of rest (word.Mac a) = None
line_of rest (word.Name n) = None
line_of rest (word.Refused r) = None

unfoldable pub line_at : List Token → Option Line
line_at [] = None
line_at (t ∷ ts) = line_of ts t.word

-- pppoed: the EtherType of PPPoE's discovery (RFC 2516, 4)
unfoldable pub discovery : Reader Expr
discovery = next >> pure (Is (test.Proto headers.Ether 0x8863))

abbrev pub line_by : ℕ → Line → Reader Expr
line_by level line.Comparison = comparison level
line_by level line.Less = length_test relations.LessEqual
line_by level line.Greater = length_test relations.GreaterEqual
line_by level line.Vlan = tag test.Vlan 4095
line_by level line.Mpls = tag test.Mpls 1048575
line_by level line.Pppoes = tag test.Pppoes 65535
line_by level line.Pppoed = discovery

abbrev pub test_by : ℕ → Option Line → Reader Read
test_by level None = primitive level
test_by level (Some line) = alone (line_by level line)

unfoldable pub any_test : ℕ → Reader Read
any_test level = λ tokens. test_by level (line_at tokens) tokens

-- the right one's qualifiers are in force after both
abbrev pub joined_reads : Join → Read → Read → Read
joined_reads join left right = (joined join left.0 right.0, right.1)

-- 3. expr := term { (and | or) term }: one rank, from the left; a term takes the qualifiers of the one before it
module _ (term : Option Quals → Bool → Reader Read) where
  unfoldable pub expr : Option Quals → Reader Read
  expr q = do
    first ← term q false
    many join_at (λ left. term left.1 true) joined_reads first

  unfoldable pub term_not : Option Quals → Bool → Reader Read
  term_not q items = do
    next
    inner ← term q items
    pure (Not inner.0, inner.1)

  -- the qualifiers before a `(` are in force again after its `)`
  unfoldable pub group : Option Quals → Reader Read
  group q = do
    next
    inner ← expr q
    expect signs.Close
    pure (inner.0, q)

-- 4. term := not term | item | ( expr ) | test; an item only after `and` or `or`
unfoldable pub term : ℕ → Option Quals → Bool → Reader Read
term zero q items = refuse
term (suc level) q items = λ tokens.
    if sees_word keywords.Not tokens then term_not (term level) q items tokens
    else if items && begins_item tokens then values_by (suc level) q tokens
    else if begins_group tokens then group (term level) q tokens
    else any_test (suc level) tokens

-- 5. The whole: tokens are an expression where all of them are read, with no more levels than there may be. No tokens are every
-- packet.
unfoldable pub expression : List Token → Option Expr
expression tokens =
    if length tokens == 0 then Some Every
    else option_and_then (λ r. if length r.1 == 0 then Some r.0.0 else None) (expr (term (MAX_LEVELS + 1)) None tokens)
