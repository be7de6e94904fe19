-- What filter expressions say of packets (pcap-filter(7)).
-- A place is a layer: `vlan`, `mpls` and `pppoes` move it for what follows them in the same conjunction. A test is about numbers of a
-- header, and is false where the header isn't there.
use Rattle.std.specs.Prelude.{ℕ, ◌+◌, ◌-◌, ◌*◌, ◌/◌, ◌%◌, ◌^◌, ◌==◌, Bool, true, false, not, min, if◌then◌else◌, List, [], ◌∷◌, ◌++◌, map, Option, Some, None, option_map}
use Rattle.bpf_insn.specs.Machine.{Packet}
use Rattle.bpf_insn.specs.declared.form.Size.TheVariants.{Half}
use Rattle.filter_cond.specs.declared.number.Load.{Load}
use Rattle.filter_cond.specs.declared.number.Load.TheVariants.{Past}
use Rattle.expr_tree.specs.declared.test.Carrier.{Carrier}
use Rattle.expr_tree.specs.declared.test.Carrier.TheVariants as carrier
use Rattle.expr_tree.specs.declared.test.Header.{Header}
use Rattle.expr_tree.specs.declared.test.Header.TheVariants as header
use Rattle.expr_tree.specs.declared.test.Net4.{Net4}
use Rattle.expr_tree.specs.declared.test.Net6.{Net6}
use Rattle.expr_tree.specs.declared.test.Side.{Side}
use Rattle.expr_tree.specs.declared.test.Side.TheVariants.{Either, Src, Dst, Both}
use Rattle.expr_tree.specs.declared.test.Test.{Test}
use Rattle.expr_tree.specs.declared.test.Test.TheVariants as test
use Rattle.expr_tree.specs.declared.test.Transport.{Transport}
use Rattle.expr_tree.specs.declared.test.Transport.TheVariants as transport
use Rattle.expr_tree.specs.Expr as expr
use Rattle.expr_tree.specs.Expr.{Expr, Value, Number, Len, Bytes, Operation, Negate}
use Rattle.expr_meaning.specs.declared.place.Layer.{Layer}
use Rattle.expr_meaning.specs.declared.place.Layer.TheVariants.{Labels, Session}
use Rattle.expr_meaning.specs.declared.place.Place.{Place}
use Rattle.expr_meaning.specs.declared.lists.Item.{Item}
use Rattle.expr_meaning.specs.declared.lists.Item.TheVariants as item
use Rattle.expr_meaning.specs.Lists.{item_of, is_one_more}
use Rattle.expr_meaning.specs.Questions.{Question, Yes, No, And, Or, any_of, answer, and_then, or_else, byte, half, word, is, either, at_least, at_most, bits}
use Rattle.expr_meaning.specs.Layers.{over}
use Rattle.expr_meaning.specs.Values.{compares}
use Rattle.expr_meaning.specs.Headers.{protocol_at, next_at, first_fragment, has, there}

-- a question about an end of the packet, of which the source is said first
abbrev pub sides : Side → Question → Question → Question
sides Either source destination = Or source destination
sides Src source destination = source
sides Dst source destination = destination
sides Both source destination = And source destination

-- an IPv4 address is in a net: that of all addresses asks for none
abbrev pub in_net4 : Load → Net4 → Question
in_net4 load net = if net.mask == 0 then Yes else if net.mask == 0xffffffff then is load net.address else bits load net.mask net.address

-- one of a list of tests is true, each of which asks this by its item
abbrev pub any_item : (Item → Question) → List Test → Question
any_item asked tests = any_of (map (λ t. asked (item_of t)) tests)

abbrev pub in_item4 : Load → Item → Question
in_item4 load (item.Net4 carrier side net) = in_net4 load net
in_item4 load _ = No

-- IPv4's addresses are at bytes 12 and 16 (RFC 791, section 3.1), those of ARP and RARP for IPv4 over Ethernet at bytes 14 and 24 (RFC 826,
-- "Packet format"; RFC 903)
abbrev pub end4 : Place → ℕ → ℕ → List Test → Question
end4 place number at tests = And (over place number) (any_item (in_item4 (word (place.payload + at))) tests)

abbrev pub ends4 : Place → ℕ → ℕ → ℕ → Side → List Test → Question
ends4 place number source destination side tests = sides side (end4 place number source tests) (end4 place number destination tests)

abbrev pub all_ends4 : Place → Side → List Test → Question
all_ends4 place side tests = Or (Or (ends4 place 0x0800 12 16 side tests) (ends4 place 0x0806 14 24 side tests)) (ends4 place 0x8035 14 24 side tests)

-- behind a label only IPv4 is known
abbrev pub any_ends4_by : Layer → Place → Side → List Test → Question
any_ends4_by Labels place side tests = ends4 place 0x0800 12 16 side tests
any_ends4_by _ place side tests = all_ends4 place side tests

abbrev pub any_ends4 : Place → Side → List Test → Question
any_ends4 place side tests = any_ends4_by place.layer place side tests

abbrev pub net4 : Place → Carrier → Side → List Test → Question
net4 place carrier.Any side tests = any_ends4 place side tests
net4 place carrier.Ip side tests = ends4 place 0x0800 12 16 side tests
net4 place carrier.Arp side tests = ends4 place 0x0806 14 24 side tests
net4 place carrier.Rarp side tests = ends4 place 0x8035 14 24 side tests

-- how many of the bits of a word, which begins at this bit of an address, are fixed by its first bits
abbrev pub fixed : ℕ → ℕ → ℕ
fixed net_bits from = min 32 (net_bits - from)

-- a word of an IPv6 address is in a net: one of which no bit is fixed isn't asked for
abbrev pub in_word : Load → ℕ → ℕ → Question
in_word load count value =
    if count == 0 then Yes else if count == 32 then is load value else bits load (2 ^ 32 - 2 ^ (32 - count)) value

abbrev pub in_net6 : ℕ → Net6 → Question
in_net6 at net =
    And (And (And (in_word (word at) (fixed net.bits 0) (net.address / 2 ^ 96))
    (in_word (word (at + 4)) (fixed net.bits 32) (net.address / 2 ^ 64 % 2 ^ 32)))
    (in_word (word (at + 8)) (fixed net.bits 64) (net.address / 2 ^ 32 % 2 ^ 32)))
    (in_word (word (at + 12)) (fixed net.bits 96) (net.address % 2 ^ 32))

-- IPv6's addresses are at bytes 8 and 24 (RFC 8200, section 3)
abbrev pub in_item6 : ℕ → Item → Question
in_item6 at (item.Net6 side net) = in_net6 at net
in_item6 at _ = No

abbrev pub end6 : Place → ℕ → List Test → Question
end6 place at tests = And (over place 0x86dd) (any_item (in_item6 (place.payload + at)) tests)

abbrev pub net6 : Place → Side → List Test → Question
net6 place side tests = sides side (end6 place 8 tests) (end6 place 24 tests)

-- Ethernet's addresses are at bytes 6 and 0 of the frame (IEEE 802.3, section 3.1.1)
abbrev pub mac_at : ℕ → ℕ → Question
mac_at at address = And (is (word (at + 2)) (address % 2 ^ 32)) (is (half at) (address / 2 ^ 32))

abbrev pub mac_item : ℕ → Item → Question
mac_item at (item.Mac side address) = mac_at at address
mac_item at _ = No

abbrev pub end_mac : ℕ → List Test → Question
end_mac at tests = any_item (mac_item at) tests

abbrev pub mac : Side → List Test → Question
mac side tests = sides side (end_mac 6 tests) (end_mac 0 tests)

-- TCP 6, UDP 17, SCTP 132
abbrev pub transports : Load → Transport → Question
transports load transport.All = Or (either load 6 17) (is load 132)
transports load transport.Tcp = is load 6
transports load transport.Udp = is load 17
transports load transport.Sctp = is load 132

abbrev pub within : Load → ℕ → ℕ → Question
within load low high = if low == high then is load low else And (at_least load low) (at_most load high)

abbrev pub within_item : Load → Item → Question
within_item load (item.Ports protocol side low high) = within load low high
within_item load _ = No

abbrev pub end_port : Load → List Test → Question
end_port load tests = any_item (within_item load) tests

abbrev pub ends : Load → Load → Side → List Test → Question
ends source destination side tests = sides side (end_port source tests) (end_port destination tests)

-- ports are at bytes 0 and 2 (RFC 9293, section 3.1; RFC 768; RFC 9260, section 3): in IPv4 only of a first fragment
abbrev pub port6 : Place → ℕ → Load
port6 place at = half (place.payload + 40 + at)

abbrev pub port4 : Place → ℕ → Load
port4 place at = Past Half place.payload (place.payload + at)

abbrev pub begins6 : Place → Transport → Question
begins6 place protocol = And (over place 0x86dd) (transports (next_at place) protocol)

abbrev pub ports6 : Place → Transport → Side → List Test → Question
ports6 place protocol side tests = And (begins6 place protocol) (ends (port6 place 0) (port6 place 2) side tests)

abbrev pub begins4 : Place → Transport → Question
begins4 place protocol = And (And (over place 0x0800) (transports (protocol_at place) protocol)) (first_fragment place)

abbrev pub ports4 : Place → Transport → Side → List Test → Question
ports4 place protocol side tests = And (begins4 place protocol) (ends (port4 place 0) (port4 place 2) side tests)

abbrev pub ports : Place → Transport → Side → List Test → Question
ports place protocol side tests = Or (ports6 place protocol side tests) (ports4 place protocol side tests)

abbrev pub is_item : Load → Item → Question
is_item load (item.Proto header number) = is load number
is_item load _ = No

abbrev pub over_item : Place → Item → Question
over_item place (item.Proto header number) = over place number
over_item place _ = No

-- what IPv4 and IPv6 carry is one of a list, as in `carries4` and `carries6`
abbrev pub proto4 : Place → List Test → Question
proto4 place tests = And (over place 0x0800) (any_item (is_item (protocol_at place)) tests)

abbrev pub fragment6 : Place → List Test → Question
fragment6 place tests = And (is (next_at place) 44) (any_item (is_item (byte (place.payload + 40))) tests)

abbrev pub next_item : Place → List Test → Question
next_item place tests = Or (any_item (is_item (next_at place)) tests) (fragment6 place tests)

abbrev pub proto6 : Place → List Test → Question
proto6 place tests = And (over place 0x86dd) (next_item place tests)

abbrev pub proto : Place → Header → List Test → Question
proto place header.Any tests = Or (proto4 place tests) (proto6 place tests)
proto place header.Ip tests = proto4 place tests
proto place header.Ip6 tests = proto6 place tests
proto place header.Ether tests = any_item (over_item place) tests

-- an identifier of 802.1Q, in the low 12 bits (IEEE 802.1Q, section 9.6), behind one of its types or those of 802.1ad and QinQ
abbrev pub tagged : Place → Question
tagged place = Or (either (half place.type_at) 0x8100 0x88a8) (is (half place.type_at) 0x9100)

abbrev pub vlan : Place → Option ℕ → Question
vlan place None = tagged place
vlan place (Some number) = And (tagged place) (bits (half place.payload) 0xfff number)

-- a label in the high 20 bits (RFC 3032, section 2.1), behind another one that isn't the last
abbrev pub stacked_by : Layer → Place → Question
stacked_by Labels place = bits (byte (place.payload - 2)) 1 0
stacked_by _ place = over place 0x8847

abbrev pub stacked : Place → Question
stacked place = stacked_by place.layer place

abbrev pub mpls : Place → Option ℕ → Question
mpls place None = stacked place
mpls place (Some label) = And (stacked place) (bits (word place.payload) 0xfffff000 (label % 2 ^ 20 * 2 ^ 12))

-- a session's number at byte 2 (RFC 2516, section 4)
abbrev pub pppoes : Place → Option ℕ → Question
pppoes place None = over place 0x8864
pppoes place (Some number) = And (over place 0x8864) (is (half (place.payload + 2)) number)

-- the destination is of no or of all bits (RFC 919, section 7), of class D (RFC 1112, section 4), or of ff00::/8 (RFC 4291, section 2.7)
abbrev pub ip_broadcast : Place → Question
ip_broadcast place = And (over place 0x0800) (either (word (place.payload + 16)) 0 0xffffffff)

abbrev pub ip_multicast : Place → Question
ip_multicast place = And (over place 0x0800) (at_least (byte (place.payload + 16)) 224)

abbrev pub ip6_multicast : Place → Question
ip6_multicast place = And (over place 0x86dd) (is (byte (place.payload + 24)) 255)

-- what a test asks that stands first in a list of its kind
abbrev pub asks_by : Place → Test → List Test → Question
asks_by place (test.Is protocol) tests = has place protocol
asks_by place (test.Net4 carrier side net) tests = net4 place carrier side tests
asks_by place (test.Net6 written side net) tests = net6 place side tests
asks_by place (test.Mac side address) tests = mac side tests
asks_by place (test.Ports protocol side low high) tests = ports place protocol side tests
asks_by place (test.Proto header number) tests = proto place header tests
asks_by place test.EtherBroadcast tests = mac_at 0 0xffffffffffff
asks_by place test.IpBroadcast tests = ip_broadcast place
asks_by place test.EtherMulticast tests = bits (byte 0) 1 1
asks_by place test.IpMulticast tests = ip_multicast place
asks_by place test.Ip6Multicast tests = ip6_multicast place
asks_by place (test.Vlan number) tests = vlan place number
asks_by place (test.Mpls label) tests = mpls place label
asks_by place (test.Pppoes number) tests = pppoes place number

-- what a list of tests asks
abbrev pub asks : Place → List Test → Question
asks place [] = No
asks place (first ∷ more) = asks_by place first (first ∷ more)

-- the headers that a calculation asks bytes of are there
abbrev pub headers : Place → Value → Question
headers place (Number number) = Yes
headers place Len = Yes
headers place (Bytes protocol index size) = And (headers place index) (there place protocol)
headers place (Operation operator first second) = And (headers place first) (headers place second)
headers place (Negate of) = headers place of

-- the layer that tests behind a test, in the same conjunction, are about
abbrev pub moved : Test → Place → Place
moved (test.Vlan number) place = record place { type_at = place.type_at + 4; payload = place.payload + 4 }
moved (test.Mpls label) place = record { layer = Labels; type_at = place.type_at; payload = place.payload + 4 }
moved (test.Pppoes number) place = record { layer = Session; type_at = place.payload + 6; payload = place.payload + 8 }
moved _ place = place

abbrev pub after : Expr → Place → Place
after (expr.Is test) place = moved test place
after (expr.And first second) place = after second (after first place)
after _ place = place

-- the list of tests that an expression ends in: neighbours of one kind that are joined by `or`
abbrev pub listed : Expr → List Test
listed (expr.Is test) = test ∷ []
listed (expr.Or first (expr.Is test)) = if is_one_more (listed first) test then listed first ++ test ∷ [] else test ∷ []
listed _ = []

-- or what stands before it, and then one of the list
abbrev pub said : Option Bool → Packet → Place → List Test → Option Bool
said front packet place tests = or_else front (answer (asks place tests) packet)

-- what stands before the list of the second operand of `or`
abbrev pub front_of : Option Bool → List Test → Expr → Option Bool → Packet → Place → Option Bool
front_of front tests (expr.Is test) second packet place = if is_one_more tests test then front else said front packet place tests
front_of front tests _ second packet place = or_else (said front packet place tests) second

-- what stands before the list that an expression ends in, which is false where nothing does
abbrev pub front : Expr → Packet → Place → Option Bool
front expr.Every packet place = Some true
front (expr.Is test) packet place = Some false
front (expr.Compare relation first second) packet place = and_then (answer (And (headers place first) (headers place second)) packet) (compares packet place relation first second)
front (expr.Not of) packet place = option_map not (said (front of packet place) packet place (listed of))
front (expr.And first second) packet place =
    and_then (said (front first packet place) packet place (listed first)) (said (front second packet (after first place)) packet (after first place) (listed second))
front (expr.Or first second) packet place =
    front_of (front first packet place) (listed first) second (said (front second packet place) packet place (listed second)) packet place

-- what an expression says of a packet at a place: true, false, or none
abbrev pub holds : Expr → Packet → Place → Option Bool
holds e packet place = said (front e packet place) packet place (listed e)
