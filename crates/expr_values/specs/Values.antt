-- What an address, a number or a name says after its qualifiers (pcap-filter(7)): a test, and the tokens that it has; None
-- where it says nothing there.
use Rattle.std.specs.Prelude.{ℕ, ◌+◌, ◌*◌, ◌==◌, ◌||◌, nat_le, nat_lt, min, max, bit_and, if◌then◌else◌, List, [], ◌∷◌, Option, Some, None, option_and_then}
use Rattle.std.specs.Int.{trailing_zeros}
use mir.Syntax.{w128}
use Rattle.expr_words.specs.declared.token.Token.{Token}
use Rattle.expr_words.specs.declared.word.Word.{Word}
use Rattle.expr_words.specs.declared.word.Word.TheVariants as word
use Rattle.expr_words.specs.declared.word.V4.{V4}
use Rattle.expr_words.specs.declared.word.Name.{Name}
use Rattle.expr_words.specs.declared.word.NamedPort.{NamedPort}
use Rattle.expr_words.specs.declared.word.Numbers.{Numbers}
use Rattle.expr_words.specs.declared.word.Span.{Span}
use Rattle.expr_words.specs.declared.word.Transports.{Transports}
use Rattle.expr_words.specs.declared.word.Transports.TheVariants as named
use Rattle.expr_tree.specs.declared.test.Header.{Header}
use Rattle.expr_tree.specs.declared.test.Header.TheVariants as headers
use Rattle.expr_tree.specs.declared.test.Net4.{Net4}
use Rattle.expr_tree.specs.declared.test.Net6.{Net6}
use Rattle.expr_tree.specs.declared.test.Side.{Side}
use Rattle.expr_tree.specs.declared.test.Test.{Test}
use Rattle.expr_tree.specs.declared.test.Test.TheVariants as test
use Rattle.expr_tree.specs.declared.test.Transport.{Transport}
use Rattle.expr_tree.specs.declared.test.Transport.TheVariants as transports
use Rattle.expr_values.specs.declared.kinds.ValueKind.{ValueKind}
use Rattle.expr_values.specs.declared.kinds.ValueKind.TheVariants as item
use Rattle.expr_values.specs.declared.kinds.Quals.{Quals}
use Rattle.expr_values.specs.Masks.{mask4, mask6}
use Rattle.expr_values.specs.Qualifiers.{carrier, says_ip6, is_ether, header, transport}

-- the mask of the bytes that are written
abbrev pub whole_bytes : ℕ → Option ℕ
whole_bytes bits =
    if bits == 8 then Some 0xff000000 else if bits == 16 then Some 0xffff0000 else if bits == 24 then Some 0xffffff00 else Some 0xffffffff

-- the mask that is meant: a host has none of its own
abbrev pub mask_for : ValueKind → ℕ → Option ℕ → Option ℕ
mask_for item.Host bits (Some mask) = None
mask_for item.Host bits None = whole_bytes bits
mask_for item.Net bits (Some mask) = Some mask
mask_for item.Net bits None = whole_bytes bits
mask_for item.Port bits written = None
mask_for item.Portrange bits written = None
mask_for item.Proto bits written = None

-- no bits beyond the mask
abbrev pub net4 : ℕ → ℕ → Option Net4
net4 address mask = if bit_and address mask == address then Some (record { address = address; mask = mask }) else None

abbrev pub v4_value : Quals → V4 → List Token → Option (Test × ℕ)
v4_value q a tokens =
    option_and_then (λ c. option_and_then (λ m. option_and_then (λ mask. option_and_then (λ net. Some (test.Net4 c q.side net, 1 + m.tokens))
    (net4 a.address mask)) (mask_for q.item a.bits m.mask)) (mask4 tokens)) (carrier q.protocol)

abbrev pub bits_for : ValueKind → Option ℕ → Option ℕ
bits_for item.Host (Some bits) = if bits == 128 then Some 128 else None
bits_for item.Host None = Some 128
bits_for item.Net (Some bits) = Some bits
bits_for item.Net None = Some 128
bits_for item.Port written = None
bits_for item.Portrange written = None
bits_for item.Proto written = None

abbrev pub net6 : ℕ → ℕ → Option Net6
net6 address bits = if nat_le 128 (bits + trailing_zeros w128 address) then Some (record { address = address; bits = bits }) else None

abbrev pub v6_value : Quals → ℕ → List Token → Option (Test × ℕ)
v6_value q a tokens =
    option_and_then (λ ip6. option_and_then (λ m. option_and_then (λ bits. option_and_then (λ net. Some (test.Net6 ip6 q.side net, 1 + m.tokens))
    (net6 a bits)) (bits_for q.item m.mask)) (mask6 tokens)) (says_ip6 q.protocol)

abbrev pub mac_for : ValueKind → Side → ℕ → Option (Test × ℕ)
mac_for item.Host side a = Some (test.Mac side a, 1)
mac_for item.Net side a = None
mac_for item.Port side a = None
mac_for item.Portrange side a = None
mac_for item.Proto side a = None

abbrev pub mac_value : Quals → ℕ → Option (Test × ℕ)
mac_value q a = if is_ether q.protocol then mac_for q.item q.side a else None

-- the ports between two, in either order
abbrev pub ports : Transport → Side → ℕ → ℕ → Option (Test × ℕ)
ports t side a b = if nat_lt 65535 a || nat_lt 65535 b then None else Some (test.Ports t side (min a b) (max a b), 1)

abbrev pub port : Quals → ℕ → ℕ → Option (Test × ℕ)
port q a b = option_and_then (λ t. ports t q.side a b) (transport q.protocol)

-- the transport of a named port, where it is one of those that are meant
abbrev pub named_transport : Transport → Transports → Option Transport
named_transport transports.All named.Tcp = Some transports.Tcp
named_transport transports.Tcp named.Tcp = Some transports.Tcp
named_transport transports.Udp named.Tcp = None
named_transport transports.Sctp named.Tcp = None
named_transport transports.All named.Udp = Some transports.Udp
named_transport transports.Tcp named.Udp = None
named_transport transports.Udp named.Udp = Some transports.Udp
named_transport transports.Sctp named.Udp = None
named_transport transports.All named.All = Some transports.All
named_transport transports.Tcp named.All = Some transports.Tcp
named_transport transports.Udp named.All = Some transports.Udp
named_transport transports.Sctp named.All = None

abbrev pub named_port : Quals → NamedPort → Option (Test × ℕ)
named_port q p =
    option_and_then (λ meant. option_and_then (λ t. Some (test.Ports t q.side p.number p.number, 1)) (named_transport meant p.transports)) (transport q.protocol)

-- the greatest number of a next protocol
abbrev pub most : Header → ℕ
most headers.Ether = 65535
most headers.Any = 255
most headers.Ip = 255
most headers.Ip6 = 255

abbrev pub next_protocol : Header → ℕ → Option (Test × ℕ)
next_protocol h n = if nat_lt (most h) n then None else Some (test.Proto h n, 1)

abbrev pub protocol : Quals → ℕ → Option (Test × ℕ)
protocol q n = option_and_then (λ h. next_protocol h n) (header q.protocol)

abbrev pub number_in : Header → Numbers → Option ℕ
number_in headers.Ether n = n.ether
number_in headers.Any n = n.ip
number_in headers.Ip n = n.ip
number_in headers.Ip6 n = n.ip

abbrev pub named_protocol : Quals → Numbers → Option (Test × ℕ)
named_protocol q n = option_and_then (λ h. option_and_then (λ k. next_protocol h k) (number_in h n)) (header q.protocol)

abbrev pub numbers_for : ValueKind → Quals → Numbers → Option (Test × ℕ)
numbers_for item.Proto q n = named_protocol q n
numbers_for item.Host q n = None
numbers_for item.Net q n = None
numbers_for item.Port q n = None
numbers_for item.Portrange q n = None

abbrev pub numbers_value : Quals → Numbers → Option (Test × ℕ)
numbers_value q n = numbers_for q.item q n

abbrev pub span_value : Quals → Option Span → Option (Test × ℕ)
span_value q span = option_and_then (λ s. port q s.first s.second) span

abbrev pub name_for : ValueKind → Quals → Name → Option (Test × ℕ)
name_for item.Host q n = None
name_for item.Net q n = None
name_for item.Port q n = option_and_then (λ p. named_port q p) n.port
name_for item.Portrange q n = span_value q n.span
name_for item.Proto q n = named_protocol q n.numbers

abbrev pub name_value : Quals → Name → Option (Test × ℕ)
name_value q n = name_for q.item q n

-- a net of one byte
abbrev pub one_byte : ℕ → Option V4
one_byte n = if nat_le n 255 then Some (record { address = n * 16777216; bits = 8 }) else None

abbrev pub number_for : ValueKind → Quals → ℕ → List Token → Option (Test × ℕ)
number_for item.Host q n tokens = None
number_for item.Net q n tokens = option_and_then (λ a. v4_value q a tokens) (one_byte n)
number_for item.Port q n tokens = port q n n
number_for item.Portrange q n tokens = port q n n
number_for item.Proto q n tokens = protocol q n

abbrev pub number_value : Quals → ℕ → List Token → Option (Test × ℕ)
number_value q n tokens = number_for q.item q n tokens

abbrev pub value_by : Quals → List Token → Word → Option (Test × ℕ)
value_by q tokens (word.Number n) = number_value q n tokens
value_by q tokens (word.V4 a) = v4_value q a tokens
value_by q tokens (word.V6 a) = v6_value q a tokens
value_by q tokens (word.Mac a) = mac_value q a
value_by q tokens (word.Name n) = name_value q n
value_by q tokens (word.Protocol p n) = numbers_value q n
value_by q tokens (word.Keyword k) = None
value_by q tokens (word.Sign s) = None
value_by q tokens (word.Refused r) = None

-- the test that the tokens at the front are
unfoldable pub value : Quals → List Token → Option (Test × ℕ)
value q [] = None
value q (t ∷ ts) = value_by q (t ∷ ts) t.word
