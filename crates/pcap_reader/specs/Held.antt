-- What a Feed holds of the bytes that it was fed (pcap-savefile(5) of libpcap, cut anywhere).
use Rattle.std.specs.Prelude.{◌≡◌, ◌≢◌, ℕ, ◌+◌, ◌^◌, ◌<◌, ◌≤◌, ◌⊎◌, List, [], ◌∷◌, ◌++◌, length, All, Option, Some, None, Result, Ok, Err}
use Rattle.std.specs.List.{AllZip, concat}
use Rattle.pcap_reader.specs.Savefile.{captured, IsHeader, IsRecord, IsPart, HasNoHeader, Reads, ReadsFront, IsLasting}
use Rattle.pcap_reader.specs.declared.capture.Header.{Header}
use Rattle.pcap_reader.specs.declared.capture.CapturedPacket.{CapturedPacket}
use Rattle.pcap_reader.specs.declared.feed.Feed.{Feed}
use Rattle.pcap_reader.specs.declared.feed.Seen.{Seen}
use Rattle.pcap_reader.specs.declared.capture.CaptureFault.{CaptureFault}
use Rattle.pcap_reader.specs.declared.capture.CaptureFault.TheVariants.{TruncatedHeader, NoMemory}

-- the header that a feed has read, if it is whole
abbrev pub held_header : Feed → Option Header
held_header feed = feed.header

-- the packets that a feed has read
abbrev pub held_packets : Feed → List CapturedPacket
held_packets feed = feed.packets.items

-- the fault that a feed has met
abbrev pub held_fault : Feed → Option CaptureFault
held_fault feed = feed.fault

-- the bytes are a header, whole records with these packets, and a part at this place
pub record Keeps (fed : List ℕ) (h : Header) (packets : List CapturedPacket) (offset : ℕ) (part : List ℕ) : Type 0 where
  pub head : List ℕ
  pub records : List (List ℕ)
  pub parts : fed ≡ head ++ concat records ++ part
  pub header : IsHeader head h
  pub each : AllZip (IsRecord h.big) records packets
  pub place : offset ≡ 24 + length (concat records)

-- no fault that stands whatever follows is in the bytes: they are part of a header, or a header, records and part of a record
abbrev pub IsOpen : List ℕ → Option Header → List CapturedPacket → ℕ → List ℕ → Type 0
IsOpen fed None packets offset part = (part ≡ fed) × (packets ≡ []) × (offset ≡ 24) × HasNoHeader fed TruncatedHeader
IsOpen fed (Some h) packets offset part = Keeps fed h packets offset part × ((part ≡ []) ⊎ IsPart h.big part)

-- a fault that stands whatever follows is in the bytes, or memory was refused after a front of them
abbrev pub HasStopped : List ℕ → Option Header → List CapturedPacket → CaptureFault → Type 0
HasStopped fed header packets fault =
    (IsLasting fault × Reads fed header packets (Some fault))
    ⊎ ((fault ≡ NoMemory) × ReadsFront fed header packets)

-- what a feed holds of the bytes after packets that it gave up, under its fault, if it has one
abbrev pub BehindAt : List CapturedPacket → List ℕ → Feed → Option CaptureFault → Type 0
BehindAt given fed feed None = IsOpen fed feed.header (given ++ feed.packets.items) feed.offset feed.part.items
BehindAt given fed feed (Some fault) = HasStopped fed feed.header (given ++ feed.packets.items) fault

-- a feed was fed these bytes, gave up these packets of them, and holds what it has read after those
abbrev pub HoldsBehind : List CapturedPacket → List ℕ → Feed → Type 0
HoldsBehind given fed feed = All (λ byte. byte < 256) fed × BehindAt given fed feed (held_fault feed)

-- a feed was fed these bytes, and holds all that it has read of them
abbrev pub Holds : List ℕ → Feed → Type 0
Holds fed feed = HoldsBehind [] fed feed

-- what bytes hold, as far as they were read: a capture with this header, or a fault after what was read
abbrev pub IsEnding : List ℕ → Option Header → List CapturedPacket → Result Header CaptureFault → Type 0
IsEnding fed header packets (Ok h) = Reads fed (Some h) packets None
IsEnding fed header packets (Err fault) = Reads fed header packets (Some fault)

-- the packet of a record that was seen in place
abbrev pub seen_packet : Seen → CapturedPacket
seen_packet seen = record { bytes = seen.bytes.now; original = seen.original }

-- the feed has a header and no fault, no packet and no part of a record, and the bytes begin with a whole record
pub record SeesWhole (feed : Feed) (bytes : List ℕ) : Type 0 where
  pub header : Header
  pub has : held_header feed ≡ Some header
  pub going : held_fault feed ≡ None
  pub none : held_packets feed ≡ []
  pub between : feed.part.items ≡ []
  pub short : captured header.big bytes ≤ 262144
  pub whole : 16 + captured header.big bytes ≤ length bytes

-- of some bytes a feed took a front, which ends with the bytes of one packet, and which the feed doesn't hold
pub record TakesWhole (bytes rest : List ℕ) (old new : Feed) (packet : CapturedPacket) : Type 0 where
  pub front : List ℕ
  pub parts : bytes ≡ front ++ rest
  pub last : (header : List ℕ) × (front ≡ header ++ packet.bytes)
  pub some : 0 < length front
  pub holds : (given : List CapturedPacket) (fed : List ℕ) → HoldsBehind given fed old → length (fed ++ front) < 2 ^ 64
      → HoldsBehind (given ++ packet ∷ []) (fed ++ front) new

-- of some bytes a feed took a front, at least one byte where there are any
pub record TakesFront (bytes rest : List ℕ) (old new : Feed) : Type 0 where
  pub front : List ℕ
  pub parts : bytes ≡ front ++ rest
  pub some : bytes ≢ [] → 0 < length front
  pub holds : (given : List CapturedPacket) (fed : List ℕ) → HoldsBehind given fed old → length (fed ++ front) < 2 ^ 64
      → HoldsBehind given (fed ++ front) new

-- the answer to a piece is the feed's fault
abbrev pub Says : Option CaptureFault → Result (Unit {0}) CaptureFault → Type 0
Says fault (Ok done) = fault ≡ None
Says fault (Err f) = fault ≡ Some f

-- a feed keeps the header and the packets that it has, and more packets follow them
pub record Grows (old new : Feed) : Type 0 where
  pub header : (h : Header) → held_header old ≡ Some h → held_header new ≡ Some h
  pub packets : (more : List CapturedPacket) × (held_packets new ≡ held_packets old ++ more)
