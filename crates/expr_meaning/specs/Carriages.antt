-- Where each protocol's number stands, and which it is (IANA, "IEEE 802 Numbers", "Protocol Numbers"; ISO/IEC 8802-2 for service points).
use Rattle.expr_words.specs.declared.protocol.Protocol.{Protocol}
use Rattle.expr_words.specs.declared.protocol.Protocol.TheVariants.{Ether, Ip, Ip6, Arp, Rarp, Tcp, Udp, Sctp, Icmp, Icmp6, Igmp, Igrp, Pim, Vrrp, Carp, Ah, Esp, Stp, Iso, Ipx, Netbeui, Atalk, Aarp, Decnet, Lat, Sca, Moprc, Mopdl}
use Rattle.expr_meaning.specs.declared.carriage.Carriage.{Carriage}
use Rattle.expr_meaning.specs.declared.carriage.Carriage.TheVariants as by

abbrev pub carriage_of : Protocol → Carriage
carriage_of Ether = by.Frame
carriage_of Ip = by.Type 0x0800
carriage_of Ip6 = by.Type 0x86dd
carriage_of Arp = by.Type 0x0806
carriage_of Rarp = by.Type 0x8035
carriage_of Tcp = by.Both 6
carriage_of Udp = by.Both 17
carriage_of Sctp = by.Both 132
carriage_of Icmp = by.Ip 1
carriage_of Icmp6 = by.Ip6 58
carriage_of Igmp = by.Ip 2
carriage_of Igrp = by.Ip 9
carriage_of Pim = by.Both 103
carriage_of Vrrp = by.Ip 112
carriage_of Carp = by.Ip 112
carriage_of Ah = by.Both 51
carriage_of Esp = by.Both 50
carriage_of Stp = by.Type 0x42
carriage_of Iso = by.Type 0xfe
carriage_of Ipx = by.Type 0xe0
carriage_of Netbeui = by.Type 0xf0
carriage_of Atalk = by.Type 0x809b
carriage_of Aarp = by.Type 0x80f3
carriage_of Decnet = by.Type 0x6003
carriage_of Lat = by.Type 0x6004
carriage_of Sca = by.Type 0x6007
carriage_of Moprc = by.Type 0x6002
carriage_of Mopdl = by.Type 0x6001
