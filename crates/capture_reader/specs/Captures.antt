-- What bytes hold: a capture in pcapng where they begin with a section header block (draft-ietf-opsawg-pcapng, "General File
-- Structure"), and else a savefile (pcap-savefile(5) of libpcap).
use Rattle.std.specs.Prelude.{◌≡◌, ℕ, ◌≤◌, ◌⊎◌, true, false, List, [], ◌∷◌, ◌++◌, length, Option, Some, None, ⊤}
use Rattle.pcap_reader.specs.declared.capture.Header.{Header}
use Rattle.pcap_reader.specs.declared.capture.CapturedPacket.{CapturedPacket}
use Rattle.pcap_reader.specs.declared.capture.CaptureFault.{CaptureFault as SavefileFault}
use Rattle.pcap_reader.specs.Savefile.{HasNoHeader, HasRecords, Reads as ReadsSavefile}
use Rattle.pcapng_reader.specs.declared.fault.CaptureFault.{CaptureFault as PcapngFault}
use Rattle.pcapng_reader.specs.Blocks.{is_pcapng}
use Rattle.pcapng_reader.specs.Grammar.{WholeBlock, Reads as ReadsPcapng, ReadsFront as ReadsPcapngFront}
use Rattle.capture_reader.specs.declared.fault.ReadFault.{ReadFault}
use Rattle.capture_reader.specs.declared.fault.ReadFault.TheVariants.{Savefile, Pcapng}
use Rattle.capture_reader.specs.Entries.{EntryBytes, packets_in, pcapng_entries, savefile_entries}

-- the fault of a format, if there is one
abbrev pub savefile_fault : Option SavefileFault → Option ReadFault
savefile_fault None = None
savefile_fault (Some fault) = Some (Savefile fault)

abbrev pub pcapng_fault : Option PcapngFault → Option ReadFault
pcapng_fault None = None
pcapng_fault (Some fault) = Some (Pcapng fault)

-- a savefile with these entries, and then its end or a fault; one without a whole header has none
abbrev pub HasSavefile : List ℕ → List EntryBytes → Option SavefileFault → Type 0
HasSavefile bytes entries fault =
    ((h : Header) × (packets : List CapturedPacket) × (capture : HasRecords bytes h packets fault) × (entries ≡ savefile_entries h capture.records))
    ⊎ ((wrong : SavefileFault) × (fault ≡ Some wrong) × HasNoHeader bytes wrong × (entries ≡ []))

-- a capture in pcapng with these entries, and then its end or a fault
abbrev pub HasPcapng : List ℕ → List EntryBytes → Option PcapngFault → Type 0
HasPcapng bytes entries fault = (blocks : List WholeBlock) × ReadsPcapng bytes blocks fault × (entries ≡ pcapng_entries blocks)

-- bytes hold these entries, and then end or have a fault
abbrev pub HasEntries : List ℕ → List EntryBytes → Option ReadFault → Type 0
HasEntries bytes entries fault =
    ((is_pcapng bytes ≡ true) × (wrong : Option PcapngFault) × HasPcapng bytes entries wrong × (fault ≡ pcapng_fault wrong))
    ⊎ ((is_pcapng bytes ≡ false) × (wrong : Option SavefileFault) × HasSavefile bytes entries wrong × (fault ≡ savefile_fault wrong))

-- a front of the bytes has just these entries
abbrev pub HasFront : List ℕ → List EntryBytes → Type 0
HasFront bytes entries = (entries ≡ [])
    ⊎ ((is_pcapng bytes ≡ true) × (blocks : List WholeBlock) × ReadsPcapngFront bytes blocks × (entries ≡ pcapng_entries blocks))
    ⊎ ((is_pcapng bytes ≡ false) × (front : List ℕ) × (more : List ℕ) × (bytes ≡ front ++ more) × HasSavefile front entries None)

-- Laws

-- the bytes hold something
abbrev pub HasReading : List ℕ → Type 0
HasReading bytes = (entries : List EntryBytes) × (fault : Option ReadFault) × HasEntries bytes entries fault

-- the bytes hold one thing at most
abbrev pub HasOneReading : List ℕ → Type 0
HasOneReading bytes = (entries entries' : List EntryBytes) (fault fault' : Option ReadFault)
    → HasEntries bytes entries fault → HasEntries bytes entries' fault' → (entries ≡ entries') × (fault ≡ fault')

-- the packets of a savefile are those of its records, and its fault is theirs
abbrev pub IsReadAsSavefile : List ℕ → Type 0
IsReadAsSavefile bytes = (entries : List EntryBytes) (fault : Option ReadFault) → is_pcapng bytes ≡ false → HasEntries bytes entries fault
    → (header : Option Header) × (wrong : Option SavefileFault) × ReadsSavefile bytes header (packets_in entries) wrong × (fault ≡ savefile_fault wrong)

-- of each packet at most 262144 bytes were captured
abbrev pub AllFew : List CapturedPacket → Type 0
AllFew [] = ⊤
AllFew (packet ∷ packets) = (length packet.bytes ≤ 262144) × AllFew packets

abbrev pub AreFew : List ℕ → Type 0
AreFew bytes = (entries : List EntryBytes) (fault : Option ReadFault) → HasEntries bytes entries fault → AllFew (packets_in entries)
