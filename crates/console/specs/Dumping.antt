-- What `dump` shows: a line for each entry of a capture, and a line for the fault.
use Rattle.std.specs.Prelude.{◌≡◌, ℕ, ◌+◌, ◌-◌, ◌<◌, ◌≤◌, ◌⊎◌, nat_lt, if◌then◌else◌, List, [], ◌∷◌, ◌++◌, length, codes, Option, Bool, true, false}
use Rattle.std.specs.Fmt.{decimal, signed_decimal}
use Rattle.hex.specs.Hex.{encode_lower}
use Rattle.pcap_reader.specs.declared.capture.Header.{Header}
use Rattle.pcapng_reader.specs.declared.block.SectionHeader.{SectionHeader}
use Rattle.pcapng_reader.specs.declared.block.InterfaceDescription.{InterfaceDescription}
use Rattle.capture_reader.specs.declared.entry.Entry.{Entry}
use Rattle.capture_reader.specs.declared.entry.Entry.TheVariants.{Savefile, Section, Interface, Packet}
use Rattle.capture_reader.specs.declared.entry.PacketInfo.{PacketInfo}
use Rattle.capture_reader.specs.declared.entry.PacketTime.{PacketTime}
use Rattle.capture_reader.specs.declared.fault.ReadFault.{ReadFault}
use Rattle.capture_reader.specs.Entries.{EntryBytes}
use Rattle.capture_reader.specs.Captures.{HasEntries}
use Rattle.console.specs.declared.captured.KeptEntry.{KeptEntry}
use Rattle.console.specs.declared.dumping.Place.{Place}
use Rattle.engine_io.specs.declared.input.TheConstants.{INPUT_BYTES}
use Rattle.engine_io.specs.declared.source.Source.{Source}
use Rattle.console.specs.Choosing.{chosen}
use Rattle.console.specs.Faults.{fault_status, fault_text}
use Rattle.console.specs.Stamps.{stamp_text}
use Rattle.engine_io.specs.Reading.{BeginsWith, IsInput, ShowsTooLong}

abbrev pub order_name : Bool → List ℕ
order_name true = codes "big"
order_name false = codes "little"

abbrev pub unit_name : Bool → List ℕ
unit_name true = codes "nano"
unit_name false = codes "micro"

-- the line for the header of a savefile
abbrev pub header_line : Header → List ℕ
header_line h = codes "pcap " ++ order_name h.big ++ codes " " ++ unit_name h.nano ++ codes " snaplen " ++ decimal h.snaplen ++ codes " network " ++ decimal h.network ++ codes "\n"

-- the line for the header of a section
abbrev pub section_line : SectionHeader → List ℕ
section_line s = codes "pcapng " ++ order_name s.big ++ codes " version 1." ++ decimal s.minor ++ codes "\n"

-- the unit of an interface's times: a power of ten or of two
abbrev pub resolution_text : ℕ → List ℕ
resolution_text n = if nat_lt n 128 then codes "10^-" ++ decimal n else codes "2^-" ++ decimal (n - 128)

-- the line for interface number n of a section
abbrev pub interface_line : ℕ → InterfaceDescription → List ℕ
interface_line n i = codes "interface " ++ decimal n ++ codes " snaplen " ++ decimal i.snaplen ++ codes " network " ++ decimal i.link ++ codes " resolution " ++ resolution_text i.resolution ++ codes " offset " ++ signed_decimal i.offset ++ codes "\n"

-- captured bytes in hexadecimal digits, where there are any
abbrev pub digits : List ℕ → List ℕ
digits [] = codes "-"
digits (b ∷ bytes) = encode_lower (b ∷ bytes)

-- the interface of a packet, where its section has described several before it
abbrev pub interface_words : ℕ → PacketInfo → List ℕ
interface_words interfaces info = if nat_lt 1 interfaces then codes " interface " ++ decimal info.interface else []

-- when a packet was seen, where that is to be shown
abbrev pub stamp_words : Bool → PacketTime → List ℕ
stamp_words stamped time = if stamped then codes " " ++ stamp_text time else []

-- the line for packet number n
abbrev pub packet_line : Bool → ℕ → ℕ → PacketInfo → List ℕ → List ℕ
packet_line stamped n interfaces info bytes =
    decimal n ++ interface_words interfaces info ++ stamp_words stamped info.time ++ codes " captured " ++ decimal (length bytes) ++ codes " original " ++ decimal info.original ++ codes " " ++ digits bytes ++ codes "\n"

-- the line for an entry, after so many packets, and so many interfaces of its section
abbrev pub entry_line : Bool → ℕ → ℕ → Entry → List ℕ → List ℕ
entry_line stamped n interfaces (Savefile h) bytes = header_line h
entry_line stamped n interfaces (Section s) bytes = section_line s
entry_line stamped n interfaces (Interface i) bytes = interface_line interfaces i
entry_line stamped n interfaces (Packet info) bytes = packet_line stamped (n + 1) interfaces info bytes

abbrev pub packets_after : ℕ → Entry → ℕ
packets_after n (Packet info) = n + 1
packets_after n entry = n

abbrev pub interfaces_after : ℕ → Entry → ℕ
interfaces_after n (Section s) = 0
interfaces_after n (Interface i) = n + 1
interfaces_after n entry = n

abbrev pub entry_lines : Bool → ℕ → ℕ → List EntryBytes → List ℕ
entry_lines stamped n interfaces [] = []
entry_lines stamped n interfaces (e ∷ entries) = entry_line stamped n interfaces e.0 e.1 ++ entry_lines stamped (packets_after n e.0) (interfaces_after interfaces e.0) entries

-- the lines for entries and a fault; of packets of one link type alone, if one is named
abbrev pub dump_text : Option ℕ → Bool → List EntryBytes → Option ReadFault → List ℕ
dump_text link stamped entries fault = entry_lines stamped 0 0 (chosen link entries) ++ fault_text fault

-- what `dump` shows of an input, whose length has a limit
abbrev pub ShowsDump : Option ℕ → Bool → List ℕ → ℕ → List ℕ → Type 0
ShowsDump link stamped input status text =
    ((length input ≤ INPUT_BYTES) × (entries : List EntryBytes) × (fault : Option ReadFault)
    × HasEntries input entries fault × (text ≡ dump_text link stamped entries fault) × (status ≡ fault_status fault))
    ⊎ ((INPUT_BYTES < length input) × ShowsTooLong status text)

-- text is nothing, or a front of what `dump` shows of the input
abbrev pub ShowsDumpPart : {R : Type 0} → Option ℕ → Bool → (R → Option (List ℕ)) → Source R → Source R → List ℕ → Type 0
ShowsDumpPart link stamped remaining old new text = (text ≡ [])
    ⊎ ((input : List ℕ) × (status : ℕ) × (whole : List ℕ) × IsInput remaining old new input × ShowsDump link stamped input status whole × BeginsWith text whole)

-- the line for an entry was printed, if that is shown. No public clause cites this.
pub record PrintsEntry (link : Option ℕ) (stamped : Bool) (kept : KeptEntry) (old new : Place) (before after : List ℕ) : Type 0 where
  pub shown : List ℕ
  pub printed : after ≡ before ++ shown
  pub rest : (more : List EntryBytes) → entry_lines stamped old.packets old.interfaces (chosen link ((kept.entry, kept.bytes) ∷ more)) ≡ shown ++ entry_lines stamped new.packets new.interfaces (chosen link more)
