-- What a feed holds of the bytes of a savefile (pcap-savefile(5) of libpcap, cut anywhere).
use Rattle.std.specs.Prelude.{◌≡◌, ℕ, ◌+◌, ◌-◌, ◌<◌, ◌≤◌, ◌⊎◌, Bool, List, [], ◌++◌, length, drop, take, Option, Some, None, Result, Ok, Err, ⊤}
use Rattle.std.specs.List.{AllZip, concat}
use Rattle.pcap_reader.specs.declared.capture.Header.{Header}
use Rattle.pcap_reader.specs.declared.capture.CapturedPacket.{CapturedPacket}
use Rattle.pcap_reader.specs.declared.capture.CaptureFault.{CaptureFault}
use Rattle.pcap_reader.specs.declared.capture.CaptureFault.TheVariants.{NoMemory, TruncatedHeader}
use Rattle.pcap_reader.specs.Savefile.{captured, HasNoHeader, IsHeader, IsLasting, IsPart, IsRecord}
use Rattle.capture_reader.specs.declared.entry.Entry.TheVariants.{Packet}
use Rattle.capture_reader.specs.declared.entry.PacketInfo.{PacketInfo}
use Rattle.capture_reader.specs.declared.entry.Found.{Found}
use Rattle.capture_reader.specs.declared.entry.Found.TheVariants.{SeenEntry}
use Rattle.capture_reader.specs.declared.records.RecordFeed.{RecordFeed}
use Rattle.capture_reader.specs.Entries.{EntryBytes, savefile_entries}
use Rattle.capture_reader.specs.Captures.{HasSavefile}
use Rattle.capture_reader.specs.Steps.{Adds}

-- bytes begin with a whole record of so many bytes
abbrev pub IsWhole : Bool → List ℕ → ℕ → Type 0
IsWhole big bytes n = (16 ≤ n) × (n ≤ length bytes) × ((packet : CapturedPacket) × IsRecord big (take n bytes) packet)

-- the record that a feed holds
abbrev pub record_in : Option PacketInfo → List ℕ → Option EntryBytes
record_in None part = None
record_in (Some info) part = Some (Packet info, drop 16 part)

abbrev pub held_record : RecordFeed → Option EntryBytes
held_record feed = record_in feed.held feed.part.items

-- the bytes of a header or a record that isn't whole yet
abbrev pub open_part : Option PacketInfo → List ℕ → List ℕ
open_part None part = part
open_part (Some info) part = []

-- the bytes are a header, whole records with these entries, and a part of one more
pub record HasRead (given : List EntryBytes) (fed : List ℕ) (h : Header) (offset : ℕ) (part : List ℕ) : Type 0 where
  pub head : List ℕ
  pub records : List (List ℕ)
  pub packets : List CapturedPacket
  pub parts : fed ≡ (head ++ concat records) ++ part
  pub header : IsHeader head h
  pub each : AllZip (IsRecord h.big) records packets
  pub entries : given ≡ savefile_entries h records
  pub place : offset ≡ 24 + length (concat records)
  pub rest : (part ≡ []) ⊎ IsPart h.big part

-- the same where the header isn't whole
abbrev pub HoldsBy : List EntryBytes → List ℕ → Option Header → ℕ → List ℕ → Type 0
HoldsBy given fed None offset part = (part ≡ fed) × (given ≡ []) × (offset ≡ 24) × HasNoHeader fed TruncatedHeader
HoldsBy given fed (Some h) offset part = HasRead given fed h offset part

-- a feed was given these bytes, and gave all the entries in them
abbrev pub HoldsRecords : RecordFeed → List EntryBytes → List ℕ → Type 0
HoldsRecords feed given fed = HoldsBy given fed feed.header feed.offset (open_part feed.held feed.part.items)

-- a front of the bytes has just these entries
abbrev pub HasSavefileFront : List ℕ → List EntryBytes → Type 0
HasSavefileFront bytes entries = (entries ≡ []) ⊎ ((front : List ℕ) × (more : List ℕ) × (bytes ≡ front ++ more) × HasSavefile front entries None)

-- a fault that stands whatever follows is in the bytes after these entries, or memory was refused after a front of them
abbrev pub StopsRecords : List EntryBytes → List ℕ → CaptureFault → Type 0
StopsRecords given fed fault = (IsLasting fault × HasSavefile fed given (Some fault)) ⊎ ((fault ≡ NoMemory) × HasSavefileFront fed given)

-- how the bytes end after these entries: well, or with a fault
abbrev pub EndsRecords : List EntryBytes → List ℕ → Result (Unit {0}) CaptureFault → Type 0
EndsRecords given fed (Ok done) = HasSavefile fed given None
EndsRecords given fed (Err fault) = HasSavefile fed given (Some fault)

-- how many bytes a part lacks to be looked at again: to the end of the record's header or of the record
abbrev pub IsWanted : Bool → List ℕ → ℕ → Type 0
IsWanted big part n =
    ((length part < 16) × (n ≡ 16 - length part)) ⊎ ((16 ≤ length part) × (n ≡ 16 + captured big part - length part))

-- a part that has grown to the place where it is looked at, after these entries
pub record HasGrown (given : List EntryBytes) (fed : List ℕ) (h : Header) (feed : RecordFeed) : Type 0 where
  pub head : List ℕ
  pub records : List (List ℕ)
  pub packets : List CapturedPacket
  pub parts : fed ≡ (head ++ concat records) ++ feed.part.items
  pub header : IsHeader head h
  pub each : AllZip (IsRecord h.big) records packets
  pub entries : given ≡ savefile_entries h records
  pub place : feed.offset ≡ 24 + length (concat records)
  pub exact : (length feed.part.items ≤ 16) ⊎ ((captured h.big feed.part.items ≤ 262144) × (length feed.part.items ≤ 16 + captured h.big feed.part.items))

-- nothing was seen in place
abbrev pub IsApart : Found → Type 0
IsApart (SeenEntry item) = ⊥
IsApart found = ⊤

-- after a look at a part nothing new is there, or the record is held, or a fault stands in it
abbrev pub Looks : List EntryBytes → List ℕ → RecordFeed → Result Found CaptureFault → Type 0
Looks given fed feed (Ok found) = Adds (HoldsRecords feed) (held_record feed) given fed found
Looks given fed feed (Err fault) = StopsRecords given fed fault
