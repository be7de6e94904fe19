-- The qualifiers before a value (pcap-filter(7)): [proto] [dir] [type], each of which may be left out.
use Rattle.std.specs.Prelude.{ℕ, ◌+◌, Bool, true, false, if◌then◌else◌, List, Option, Some, None, option_and_then, slice_get}
use Rattle.expr_words.specs.declared.token.Token.{Token}
use Rattle.expr_words.specs.declared.protocol.Protocol.{Protocol}
use Rattle.expr_words.specs.declared.word.Word.{Word}
use Rattle.expr_words.specs.declared.word.Word.TheVariants as word
use Rattle.expr_words.specs.declared.word.Keyword.{Keyword}
use Rattle.expr_words.specs.declared.word.Keyword.TheVariants as keywords
use Rattle.expr_tree.specs.declared.test.Side.{Side}
use Rattle.expr_tree.specs.declared.test.Side.TheVariants as sides
use Rattle.expr_values.specs.declared.kinds.ValueKind.{ValueKind}
use Rattle.expr_values.specs.declared.kinds.ValueKind.TheVariants as kinds
use Rattle.expr_heads.specs.declared.heads.Head.{Head}
use Rattle.expr_heads.specs.declared.heads.Direction.{Direction}

abbrev pub protocol_of : Word → Option Protocol
protocol_of (word.Protocol p n) = Some p
protocol_of (word.Keyword k) = None
protocol_of (word.Sign s) = None
protocol_of (word.Number n) = None
protocol_of (word.V4 a) = None
protocol_of (word.V6 a) = None
protocol_of (word.Mac a) = None
protocol_of (word.Name n) = None
protocol_of (word.Refused r) = None

abbrev pub keyword_of : Word → Option Keyword
keyword_of (word.Keyword k) = Some k
keyword_of (word.Protocol p n) = None
keyword_of (word.Sign s) = None
keyword_of (word.Number n) = None
keyword_of (word.V4 a) = None
keyword_of (word.V6 a) = None
keyword_of (word.Mac a) = None
keyword_of (word.Name n) = None
keyword_of (word.Refused r) = None

abbrev pub protocol_at : List Token → ℕ → Option Protocol
protocol_at tokens place = option_and_then (λ t. protocol_of t.word) (slice_get tokens place)

abbrev pub keyword_at : List Token → ℕ → Option Keyword
keyword_at tokens place = option_and_then (λ t. keyword_of t.word) (slice_get tokens place)

-- src | dst
abbrev pub side_of : Keyword → Option Side
side_of keywords.Src = Some sides.Src
side_of keywords.Dst = Some sides.Dst
side_of k = None

-- `src and dst` is both, `src or dst` either
abbrev pub joined_by : Keyword → Option Side
joined_by keywords.And = Some sides.Both
joined_by keywords.Or = Some sides.Either
joined_by k = None

-- host | net | port | portrange | proto
abbrev pub kind_of : Keyword → Option ValueKind
kind_of keywords.Host = Some kinds.Host
kind_of keywords.Net = Some kinds.Net
kind_of keywords.Port = Some kinds.Port
kind_of keywords.Portrange = Some kinds.Portrange
kind_of keywords.Proto = Some kinds.Proto
kind_of k = None

abbrev pub are_opposite : Side → Side → Bool
are_opposite sides.Src sides.Dst = true
are_opposite sides.Dst sides.Src = true
are_opposite a b = false

-- what stands after a direction makes it both or either: `or dst` after `src`
abbrev pub two_sides : List Token → ℕ → Side → Option Side
two_sides tokens place first =
    option_and_then (λ joined. option_and_then (λ second. if are_opposite first second then Some joined else None)
    (option_and_then side_of (keyword_at tokens (place + 2)))) (option_and_then joined_by (keyword_at tokens (place + 1)))

abbrev pub with_second : Side → Option Side → Direction
with_second side (Some joined) = record { side = joined; tokens = 3 }
with_second side None = record { side = side; tokens = 1 }

-- dir
abbrev pub direction : List Token → ℕ → Option Direction
direction tokens place = option_and_then (λ side. Some (with_second side (two_sides tokens place side))) (option_and_then side_of (keyword_at tokens place))

-- type
abbrev pub kind_at : List Token → ℕ → Option ValueKind
kind_at tokens place = option_and_then kind_of (keyword_at tokens place)

abbrev pub head_of : Option Protocol → Option Side → ℕ → Option ValueKind → Head
head_of protocol side place (Some kind) = record { protocol = protocol; side = side; kind = Some kind; tokens = place + 1 }
head_of protocol side place None = record { protocol = protocol; side = side; kind = None; tokens = place }

abbrev pub with_kind : List Token → Option Protocol → Option Side → ℕ → Head
with_kind tokens protocol side place = head_of protocol side place (kind_at tokens place)

abbrev pub after_direction : List Token → Option Protocol → ℕ → Option Direction → Head
after_direction tokens protocol place (Some d) = with_kind tokens protocol (Some d.side) (place + d.tokens)
after_direction tokens protocol place None = with_kind tokens protocol None place

abbrev pub with_side : List Token → Option Protocol → ℕ → Head
with_side tokens protocol place = after_direction tokens protocol place (direction tokens place)

abbrev pub after_protocol : List Token → Option Protocol → Head
after_protocol tokens (Some p) = with_side tokens (Some p) 1
after_protocol tokens None = with_side tokens None 0

-- [proto] [dir] [type]
abbrev pub head : List Token → Head
head tokens = after_protocol tokens (protocol_at tokens 0)
