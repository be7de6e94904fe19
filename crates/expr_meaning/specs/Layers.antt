-- Layers, and what they say of their payload.
use Rattle.std.specs.Prelude.{ℕ, ◌+◌, ◌-◌, ◌*◌, ◌==◌, Bool, nat_lt, if◌then◌else◌}
use Rattle.expr_meaning.specs.declared.link.Link.{Link}
use Rattle.expr_meaning.specs.declared.link.Link.TheVariants as link
use Rattle.expr_meaning.specs.declared.place.Layer.{Layer}
use Rattle.expr_meaning.specs.declared.place.Layer.TheVariants.{Ethernet, Labels, Session, Cooked, Raw, Ipv4, Ipv6, Null, Loop}
use Rattle.expr_meaning.specs.declared.place.Place.{Place}
use Rattle.expr_meaning.specs.Questions.{Question, Yes, No, And, Or, byte, half, word, is, either, bits, at_most}

-- the layer that packets begin with (RFC 894, section "Frame Format"; libpcap's pages LINKTYPE_RAW, LINKTYPE_LINUX_SLL, LINKTYPE_LINUX_SLL2,
-- LINKTYPE_NULL and LINKTYPE_LOOP)
abbrev pub start : Link → Place
start link.Ethernet = record { layer = Ethernet; type_at = 12; payload = 14 }
start link.Raw = record { layer = Raw; type_at = 0; payload = 0 }
start link.Cooked = record { layer = Cooked; type_at = 14; payload = 16 }
start link.Cooked2 = record { layer = Cooked; type_at = 0; payload = 20 }
start link.Null = record { layer = Null; type_at = 0; payload = 4 }
start link.Loop = record { layer = Loop; type_at = 0; payload = 4 }
start link.Ipv4 = record { layer = Ipv4; type_at = 0; payload = 0 }
start link.Ipv6 = record { layer = Ipv6; type_at = 0; payload = 0 }

-- a SNAP header with this organisation, in two parts, and this type (RFC 1042)
abbrev pub snap : ℕ → ℕ → ℕ → Question
snap at high low = And (is (word at) high) (is (word (at + 4)) low)

-- an Ethernet frame has a type above 1500 (IEEE 802.3, section 3.2.6); AppleTalk's frames may have a SNAP header in its place
abbrev pub type_or_snap : ℕ → ℕ → ℕ → ℕ → Question
type_or_snap at payload high number = Or (is (half at) number) (And (at_most (half at) 1500) (snap payload high number))

abbrev pub ether_type : ℕ → ℕ → ℕ → Question
ether_type at payload number =
    if number == 0x809b then type_or_snap at payload 0xaaaa0308 number
    else if number == 0x80f3 then type_or_snap at payload 0xaaaa0300 number
    else is (half at) number

-- or a length, and then 802.2's service points of destination and source
abbrev pub both_points : ℕ → ℕ → ℕ → Question
both_points at payload number = And (at_most (half at) 1500) (is (half payload) (number * 257))

-- IPX has an EtherType, and frames with a length: a SNAP header, a service point, or bare 802.3
abbrev pub ipx_frame : ℕ → Question
ipx_frame payload = Or (Or (snap payload 0xaaaa0300 0x8137) (is (byte payload) 0xe0)) (is (half payload) 0xffff)

abbrev pub ipx_framed : ℕ → ℕ → Question
ipx_framed at payload = And (at_most (half at) 1500) (ipx_frame payload)

abbrev pub ipx : ℕ → ℕ → Question
ipx at payload = Or (is (half at) 0x8137) (ipx_framed at payload)

abbrev pub service_point : ℕ → ℕ → ℕ → Question
service_point at payload number =
    if number == 0xe0 then ipx at payload
    else if number == 0xfe then both_points at payload number
    else if number == 0x06 then both_points at payload number
    else if number == 0xf0 then both_points at payload number
    else And (at_most (half at) 1500) (is (byte payload) number)

-- the version in the first four bits of IPv4 and IPv6 (RFC 791, section 3.1; RFC 8200, section 3)
abbrev pub version : ℕ → ℕ → Question
version at number =
    if number == 0x0800 then bits (byte at) 0xf0 0x40
    else if number == 0x86dd then bits (byte at) 0xf0 0x60
    else No

-- MPLS: the label before is the last one of its stack (RFC 3032, section 2.1)
abbrev pub labelled : ℕ → ℕ → Question
labelled payload number = And (bits (byte (payload - 2)) 1 1) (version payload number)

-- PPP's numbers (IANA, "PPP DLL Protocol Numbers")
abbrev pub ppp_number : ℕ → ℕ
ppp_number number =
    if number == 0x0800 then 0x21 else if number == 0x86dd then 0x57 else if number == 0x6003 then 0x27
    else if number == 0x809b then 0x29 else if number == 0xfe then 0x23 else if number == 0x42 then 0x31
    else if number == 0xe0 then 0x2b else number

-- address families: for IPv6 24, 28, 30 and 10 on NetBSD and OpenBSD, FreeBSD, macOS and Linux
abbrev pub families6 : Question
families6 = Or (either (word 0) 24 28) (either (word 0) 30 10)

-- the same four bytes, the lowest first
abbrev pub turned6 : Question
turned6 = Or (either (word 0) 0x18000000 0x1c000000) (either (word 0) 0x1e000000 0x0a000000)

-- 2 for IPv4
abbrev pub family : ℕ → Question
family number = if number == 0x0800 then is (word 0) 2 else if number == 0x86dd then families6 else No

-- and in the order of a machine that isn't known
abbrev pub either_family : ℕ → Question
either_family number =
    if number == 0x0800 then either (word 0) 2 0x02000000
    else if number == 0x86dd then Or families6 turned6
    else No

abbrev pub known : Bool → Question
known said = if said then Yes else No

-- is the payload of the layer the protocol with this EtherType, or up to 1500 this service point?
abbrev pub over_by : Layer → ℕ → ℕ → ℕ → Question
over_by Ethernet at payload number = if nat_lt 1500 number then ether_type at payload number else service_point at payload number
over_by Labels at payload number = labelled payload number
over_by Session at payload number = is (half at) (ppp_number number)
over_by Cooked at payload number = is (half at) number
over_by Raw at payload number = version 0 number
over_by Ipv4 at payload number = known (number == 0x0800)
over_by Ipv6 at payload number = known (number == 0x86dd)
over_by Null at payload number = either_family number
over_by Loop at payload number = family number

abbrev pub over : Place → ℕ → Question
over place number = over_by place.layer place.type_at place.payload number
