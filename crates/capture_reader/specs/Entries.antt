-- The entries of a capture, by its format: of a savefile its header and a packet for each record (pcap-savefile(5) of libpcap), of
-- pcapng what its blocks say (draft-ietf-opsawg-pcapng).
use Rattle.std.specs.Prelude.{ℕ, ◌%◌, List, [], ◌∷◌, ◌++◌, map, drop, Option, Some, None}
use Rattle.pcap_reader.specs.declared.capture.Header.{Header}
use Rattle.pcap_reader.specs.declared.capture.CapturedPacket.{CapturedPacket}
use Rattle.pcap_reader.specs.Savefile.{number}
use Rattle.pcapng_reader.specs.declared.time.Time.{Time}
use Rattle.pcapng_reader.specs.declared.block.PacketEntry.{PacketEntry}
use Rattle.pcapng_reader.specs.declared.block.Content.{Content}
use Rattle.pcapng_reader.specs.declared.block.Content.TheVariants as blocks
use Rattle.pcapng_reader.specs.Grammar.{WholeBlock}
use Rattle.pcapng_reader.specs.Packets.{captured_in}
use Rattle.capture_reader.specs.declared.entry.PacketTime.{PacketTime}
use Rattle.capture_reader.specs.declared.entry.PacketTime.TheVariants.{Seconds, Units, Unknown}
use Rattle.capture_reader.specs.declared.entry.PacketInfo.{PacketInfo}
use Rattle.capture_reader.specs.declared.entry.Entry.{Entry}
use Rattle.capture_reader.specs.declared.entry.Entry.TheVariants.{Savefile, Section, Interface, Packet}

-- an entry and the captured bytes of its packet, if it has one
abbrev pub EntryBytes : Type 0
EntryBytes = Entry × List ℕ

-- the link type of a savefile: the lower 16 bits of its network. The others tell of a frame check sequence (pcap-savefile(5))
abbrev pub savefile_link : Header → ℕ
savefile_link h = h.network % 65536

-- what a savefile with this header says of the packet of a record
abbrev pub record_info : Header → List ℕ → PacketInfo
record_info h bytes = record {
  section = 0;
  interface = 0;
  link = savefile_link h;
  time = Seconds (number h.big 4 bytes) (number h.big 4 (drop 4 bytes)) h.nano;
  original = number h.big 4 (drop 12 bytes);
}

abbrev pub record_entry : Header → List ℕ → EntryBytes
record_entry h bytes = (Packet (record_info h bytes), drop 16 bytes)

-- the entries of a savefile with these records
abbrev pub savefile_entries : Header → List (List ℕ) → List EntryBytes
savefile_entries h records = (Savefile h, []) ∷ map (record_entry h) records

-- when the packet of a block was seen
abbrev pub time_of : Option Time → PacketTime
time_of None = Unknown
time_of (Some time) = Units time

abbrev pub block_info : PacketEntry → PacketInfo
block_info entry = record { section = entry.section; interface = entry.interface; link = entry.link; time = time_of entry.time; original = entry.original }

-- the entry of a block that says this, if it has one
abbrev pub block_entry : Content → List ℕ → Option EntryBytes
block_entry (blocks.Section header) bytes = Some (Section header, [])
block_entry (blocks.Interface described) bytes = Some (Interface described, [])
block_entry (blocks.Packet entry) bytes = Some (Packet (block_info entry), captured_in entry bytes)
block_entry blocks.Other bytes = None

-- one entry, or none
abbrev pub listed : Option EntryBytes → List EntryBytes
listed None = []
listed (Some entry) = entry ∷ []

-- the entries of blocks, in order
abbrev pub pcapng_entries : List WholeBlock → List EntryBytes
pcapng_entries [] = []
pcapng_entries (block ∷ blocks) = listed (block_entry block.content block.bytes) ++ pcapng_entries blocks

-- the packets among entries, in order
abbrev pub entry_packets : Entry → List ℕ → List CapturedPacket
entry_packets (Packet info) bytes = record { bytes = bytes; original = info.original } ∷ []
entry_packets entry bytes = []

abbrev pub packets_in : List EntryBytes → List CapturedPacket
packets_in [] = []
packets_in (e ∷ entries) = entry_packets e.0 e.1 ++ packets_in entries
