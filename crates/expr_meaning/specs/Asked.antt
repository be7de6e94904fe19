-- Which tests can be asked of a layer.
use Rattle.std.specs.Prelude.{ℕ, ◌==◌, ◌||◌, Bool, true, false, nat_lt}
use Rattle.expr_words.specs.declared.protocol.Protocol.{Protocol}
use Rattle.expr_tree.specs.declared.test.Carrier.{Carrier}
use Rattle.expr_tree.specs.declared.test.Carrier.TheVariants as carrier
use Rattle.expr_tree.specs.declared.test.Header.{Header}
use Rattle.expr_tree.specs.declared.test.Header.TheVariants as header
use Rattle.expr_tree.specs.declared.test.Test.{Test}
use Rattle.expr_tree.specs.declared.test.Test.TheVariants as test
use Rattle.expr_meaning.specs.declared.carriage.Carriage.{Carriage}
use Rattle.expr_meaning.specs.declared.carriage.Carriage.TheVariants as by
use Rattle.expr_meaning.specs.declared.place.Layer.{Layer}
use Rattle.expr_meaning.specs.declared.place.Layer.TheVariants.{Ethernet, Labels, Session, Cooked}
use Rattle.expr_meaning.specs.Carriages.{carriage_of}

-- does the layer tell this protocol from others? Behind a label only IPv4 and IPv6 are told apart, and in Linux's headers a number up to
-- 1500 is no service point (libpcap, LINKTYPE_LINUX_SLL)
abbrev pub tells : Layer → ℕ → Bool
tells Labels number = (number == 0x0800) || (number == 0x86dd)
tells Cooked number = nat_lt 1500 number
tells _ number = true

abbrev pub tells_carriage : Layer → Carriage → Bool
tells_carriage layer (by.Type number) = tells layer number
tells_carriage layer _ = true

abbrev pub tells_carrier : Layer → Carrier → Bool
tells_carrier layer carrier.Arp = tells layer 0x0806
tells_carrier layer carrier.Rarp = tells layer 0x8035
tells_carrier layer _ = true

abbrev pub tells_header : Layer → Header → ℕ → Bool
tells_header layer header.Ether number = tells layer number
tells_header layer _ number = true

abbrev pub is_ethernet : Layer → Bool
is_ethernet Ethernet = true
is_ethernet _ = false

-- is the frame Ethernet's? MPLS stands in such frames alone
abbrev pub is_framed : Layer → Bool
is_framed Ethernet = true
is_framed Labels = true
is_framed _ = false

abbrev pub can_ask : Layer → Test → Bool
can_ask layer (test.Is protocol) = tells_carriage layer (carriage_of protocol)
can_ask layer (test.Net4 carrier side net) = tells_carrier layer carrier
can_ask layer (test.Net6 written side net) = true
can_ask layer (test.Mac side address) = is_framed layer
can_ask layer (test.Ports transport side low high) = true
can_ask layer (test.Proto header number) = tells_header layer header number
can_ask layer test.EtherBroadcast = is_framed layer
can_ask layer test.IpBroadcast = true
can_ask layer test.EtherMulticast = is_framed layer
can_ask layer test.IpMulticast = true
can_ask layer test.Ip6Multicast = true
can_ask layer (test.Vlan number) = is_ethernet layer
can_ask layer (test.Mpls label) = is_framed layer
can_ask layer (test.Pppoes number) = is_ethernet layer

-- may bytes of this protocol's header be asked for? Behind a session the frame's own bytes are no longer meant
abbrev pub can_load_frame : Layer → Bool
can_load_frame Session = false
can_load_frame _ = true

abbrev pub can_load_by : Layer → Carriage → Bool
can_load_by layer by.Frame = can_load_frame layer
can_load_by layer (by.Type number) = tells layer number
can_load_by layer (by.Both number) = true
can_load_by layer (by.Ip number) = true
can_load_by layer (by.Ip6 number) = true

abbrev pub can_load : Layer → Protocol → Bool
can_load layer protocol = can_load_by layer (carriage_of protocol)
