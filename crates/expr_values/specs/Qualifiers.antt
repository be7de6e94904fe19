-- What a protocol before a value stands for (pcap-filter(7)); None where such a value has no meaning after it.
use Rattle.std.specs.Prelude.{Bool, true, false, Option, Some, None}
use Rattle.expr_words.specs.declared.protocol.Protocol.{Protocol}
use Rattle.expr_words.specs.declared.protocol.Protocol.TheVariants as protocol
use Rattle.expr_tree.specs.declared.test.Carrier.{Carrier}
use Rattle.expr_tree.specs.declared.test.Carrier.TheVariants as carriers
use Rattle.expr_tree.specs.declared.test.Header.{Header}
use Rattle.expr_tree.specs.declared.test.Header.TheVariants as headers
use Rattle.expr_tree.specs.declared.test.Transport.{Transport}
use Rattle.expr_tree.specs.declared.test.Transport.TheVariants as transports

-- IPv4 addresses: of IPv4, ARP and RARP
abbrev pub carrier : Option Protocol → Option Carrier
carrier None = Some carriers.Any
carrier (Some protocol.Ip) = Some carriers.Ip
carrier (Some protocol.Arp) = Some carriers.Arp
carrier (Some protocol.Rarp) = Some carriers.Rarp
carrier (Some p) = None

-- IPv6 addresses: whether `ip6` is written
abbrev pub says_ip6 : Option Protocol → Option Bool
says_ip6 None = Some false
says_ip6 (Some protocol.Ip6) = Some true
says_ip6 (Some p) = None

-- Ethernet addresses
abbrev pub is_ether : Option Protocol → Bool
is_ether None = false
is_ether (Some protocol.Ether) = true
is_ether (Some p) = false

-- numbers of the next protocol
abbrev pub header : Option Protocol → Option Header
header None = Some headers.Any
header (Some protocol.Ip) = Some headers.Ip
header (Some protocol.Ip6) = Some headers.Ip6
header (Some protocol.Ether) = Some headers.Ether
header (Some p) = None

-- ports
abbrev pub transport : Option Protocol → Option Transport
transport None = Some transports.All
transport (Some protocol.Tcp) = Some transports.Tcp
transport (Some protocol.Udp) = Some transports.Udp
transport (Some protocol.Sctp) = Some transports.Sctp
transport (Some p) = None
