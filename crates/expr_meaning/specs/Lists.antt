-- Lists: tests of one kind with the same qualifiers, of which neighbours that are joined by `or` are one test. `src and dst` makes none.
use Rattle.std.specs.Prelude.{ℕ, ◌==◌, ◌&&◌, Bool, false, List, [], ◌∷◌}
use Rattle.expr_tree.specs.declared.test.Carrier.{Carrier}
use Rattle.expr_tree.specs.declared.test.Carrier.TheVariants as carrier
use Rattle.expr_tree.specs.declared.test.Header.{Header}
use Rattle.expr_tree.specs.declared.test.Header.TheVariants as header
use Rattle.expr_tree.specs.declared.test.Side.{Side}
use Rattle.expr_tree.specs.declared.test.Side.TheVariants as side
use Rattle.expr_tree.specs.declared.test.Test.{Test}
use Rattle.expr_tree.specs.declared.test.Test.TheVariants as test
use Rattle.expr_tree.specs.declared.test.Transport.{Transport}
use Rattle.expr_tree.specs.declared.test.Transport.TheVariants as transport
use Rattle.expr_meaning.specs.declared.lists.Item.{Item}
use Rattle.expr_meaning.specs.declared.lists.Item.TheVariants.{Net4, Net6, Mac, Ports, Proto, Alone}

-- what a test may be a list of
abbrev pub item_of : Test → Item
item_of (test.Net4 carrier side net) = Net4 carrier side net
item_of (test.Net6 written side net) = Net6 side net
item_of (test.Mac side address) = Mac side address
item_of (test.Ports transport side low high) = Ports transport side low high
item_of (test.Proto header number) = Proto header number
item_of _ = Alone

abbrev pub side_number : Side → ℕ
side_number side.Either = 0
side_number side.Src = 1
side_number side.Dst = 2
side_number side.Both = 3

abbrev pub same_side : Side → Side → Bool
same_side side.Either b = side_number b == 0
same_side side.Src b = side_number b == 1
same_side side.Dst b = side_number b == 2
same_side side.Both b = false

abbrev pub carrier_number : Carrier → ℕ
carrier_number carrier.Any = 0
carrier_number carrier.Ip = 1
carrier_number carrier.Arp = 2
carrier_number carrier.Rarp = 3

abbrev pub same_carrier : Carrier → Carrier → Bool
same_carrier a b = carrier_number a == carrier_number b

abbrev pub transport_number : Transport → ℕ
transport_number transport.All = 0
transport_number transport.Tcp = 1
transport_number transport.Udp = 2
transport_number transport.Sctp = 3

abbrev pub same_transport : Transport → Transport → Bool
same_transport a b = transport_number a == transport_number b

abbrev pub header_number : Header → ℕ
header_number header.Any = 0
header_number header.Ip = 1
header_number header.Ip6 = 2
header_number header.Ether = 3

abbrev pub same_header : Header → Header → Bool
same_header a b = header_number a == header_number b

abbrev pub is_like_net4 : Carrier → Side → Item → Bool
is_like_net4 carrier side (Net4 c s net) = same_carrier carrier c && same_side side s
is_like_net4 carrier side _ = false

abbrev pub is_like_net6 : Side → Item → Bool
is_like_net6 side (Net6 s net) = same_side side s
is_like_net6 side _ = false

abbrev pub is_like_mac : Side → Item → Bool
is_like_mac side (Mac s address) = same_side side s
is_like_mac side _ = false

abbrev pub is_like_ports : Transport → Side → Item → Bool
is_like_ports transport side (Ports t s low high) = same_transport transport t && same_side side s
is_like_ports transport side _ = false

abbrev pub is_like_proto : Header → Item → Bool
is_like_proto header (Proto h number) = same_header header h
is_like_proto header _ = false

abbrev pub alike : Item → Item → Bool
alike (Net4 carrier side net) b = is_like_net4 carrier side b
alike (Net6 side net) b = is_like_net6 side b
alike (Mac side address) b = is_like_mac side b
alike (Ports transport side low high) b = is_like_ports transport side b
alike (Proto header number) b = is_like_proto header b
alike Alone b = false

-- is a test one more of the list that these are?
abbrev pub is_one_more : List Test → Test → Bool
is_one_more [] test = false
is_one_more (first ∷ more) test = alike (item_of first) (item_of test)
