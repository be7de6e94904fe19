-- Captures, byte for byte as pcap-savefile(5) of libpcap says.
use Rattle.std.specs.Prelude.{ℕ, Bool, List, [], ◌∷◌}
use Rattle.pcap_reader.specs.declared.capture.Header.{Header}
use Rattle.pcap_reader.specs.declared.capture.CapturedPacket.{CapturedPacket}

-- the magic number 0xa1b2c3d4, version 2.4, two unused numbers, the most bytes that are captured of a packet, 262144, and the link
-- type, 1 for Ethernet: each with the low byte first
abbrev pub little : List ℕ
little = 0xd4 ∷ 0xc3 ∷ 0xb2 ∷ 0xa1 ∷ 2 ∷ 0 ∷ 4 ∷ 0 ∷ 0 ∷ 0 ∷ 0 ∷ 0 ∷ 0 ∷ 0 ∷ 0 ∷ 0 ∷ 0 ∷ 0 ∷ 4 ∷ 0 ∷ 1 ∷ 0 ∷ 0 ∷ 0 ∷ []

-- the same with the high byte first, and 0xa1b23c4d, which says that times are in nanoseconds
abbrev pub big_nano : List ℕ
big_nano = 0xa1 ∷ 0xb2 ∷ 0x3c ∷ 0x4d ∷ 0 ∷ 2 ∷ 0 ∷ 4 ∷ 0 ∷ 0 ∷ 0 ∷ 0 ∷ 0 ∷ 0 ∷ 0 ∷ 0 ∷ 0 ∷ 4 ∷ 0 ∷ 0 ∷ 0 ∷ 0 ∷ 0 ∷ 1 ∷ []

-- a time, 3 bytes captured of 60, and these
abbrev pub little_record : List ℕ
little_record = 0 ∷ 0xf1 ∷ 0x53 ∷ 0x65 ∷ 7 ∷ 0 ∷ 0 ∷ 0 ∷ 3 ∷ 0 ∷ 0 ∷ 0 ∷ 60 ∷ 0 ∷ 0 ∷ 0 ∷ 10 ∷ 20 ∷ 30 ∷ []

abbrev pub big_record : List ℕ
big_record = 0x65 ∷ 0x53 ∷ 0xf1 ∷ 0 ∷ 0 ∷ 0 ∷ 0 ∷ 7 ∷ 0 ∷ 0 ∷ 0 ∷ 3 ∷ 0 ∷ 0 ∷ 0 ∷ 60 ∷ 10 ∷ 20 ∷ 30 ∷ []

-- the first 18 bytes of the record
abbrev pub cut_record : List ℕ
cut_record = 0 ∷ 0xf1 ∷ 0x53 ∷ 0x65 ∷ 7 ∷ 0 ∷ 0 ∷ 0 ∷ 3 ∷ 0 ∷ 0 ∷ 0 ∷ 60 ∷ 0 ∷ 0 ∷ 0 ∷ 10 ∷ 20 ∷ []

-- a record's header that says 262145 bytes, one more than MAXIMUM_SNAPLEN of libpcap
abbrev pub long_record : List ℕ
long_record = 0 ∷ 0xf1 ∷ 0x53 ∷ 0x65 ∷ 7 ∷ 0 ∷ 0 ∷ 0 ∷ 1 ∷ 0 ∷ 4 ∷ 0 ∷ 1 ∷ 0 ∷ 4 ∷ 0 ∷ []

-- and that of one with just 262144
abbrev pub longest_record : List ℕ
longest_record = 0 ∷ 0xf1 ∷ 0x53 ∷ 0x65 ∷ 7 ∷ 0 ∷ 0 ∷ 0 ∷ 0 ∷ 0 ∷ 4 ∷ 0 ∷ 0 ∷ 0 ∷ 4 ∷ 0 ∷ []

-- version 2.3
abbrev pub old : List ℕ
old = 0xd4 ∷ 0xc3 ∷ 0xb2 ∷ 0xa1 ∷ 2 ∷ 0 ∷ 3 ∷ 0 ∷ []

abbrev pub ethernet : Bool → Bool → Header
ethernet big nano = record { big = big; nano = nano; snaplen = 262144; network = 1 }

-- these bytes of a packet that had so many
abbrev pub packet : List ℕ → ℕ → CapturedPacket
packet bytes original = record { bytes = bytes; original = original }
