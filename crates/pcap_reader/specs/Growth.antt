-- A feed between two looks at its part. No public clause cites these.
use Rattle.std.specs.Prelude.{◌≡◌, ℕ, ◌+◌, ◌-◌, ◌<◌, ◌≤◌, ◌⊎◌, Bool, List, [], ◌++◌, length, drop, All, Option, Some, None, Result, Ok, Err}
use Rattle.pcap_reader.specs.Savefile.{number, captured, IsRecord}
use Rattle.pcap_reader.specs.Held.{Keeps, BehindAt, seen_packet}
use Rattle.pcap_reader.specs.declared.capture.Header.{Header}
use Rattle.pcap_reader.specs.declared.capture.CapturedPacket.{CapturedPacket}
use Rattle.pcap_reader.specs.declared.feed.Feed.{Feed}
use Rattle.pcap_reader.specs.declared.feed.Seen.{Seen}
use Rattle.pcap_reader.specs.declared.capture.CaptureFault.{CaptureFault}

-- after more bytes a feed is still open, or this fault stands in them
abbrev pub GoesOn : List CapturedPacket → List ℕ → Feed → Result (Unit {0}) CaptureFault → Type 0
GoesOn given fed feed (Ok done) = BehindAt given fed feed None
GoesOn given fed feed (Err fault) = BehindAt given fed feed (Some fault)

-- how many bytes a part lacks to be looked at again: to the end of the header, of a record's header or of a record
abbrev pub IsWanted : Option Header → List ℕ → ℕ → Type 0
IsWanted None part n = n ≡ 24 - length part
IsWanted (Some h) part n =
    ((length part < 16) × (n ≡ 16 - length part))
    ⊎ ((16 ≤ length part) × (n ≡ 16 + captured h.big part - length part))

-- a record that isn't whole yet
abbrev pub IsShort : Bool → List ℕ → Type 0
IsShort big part = (length part < 16) ⊎ ((captured big part ≤ 262144) × (length part < 16 + captured big part))

-- bytes that have a whole record in front, with n captured bytes
abbrev pub IsWhole : Bool → List ℕ → ℕ → Type 0
IsWhole big part n = (n ≡ captured big part) × (n ≤ 262144) × (16 + n ≤ length part)

-- bytes that are a record with this packet, and then the rest
abbrev pub SplitsRecord : Bool → List ℕ → Seen → List ℕ → Type 0
SplitsRecord big bytes seen rest = (front : List ℕ) × (bytes ≡ front ++ rest) × IsRecord big front (seen_packet seen) × All (λ byte. byte < 256) front

-- the packet of a record
abbrev pub IsPacket : Bool → List ℕ → CapturedPacket → Type 0
IsPacket big part p = (p.bytes ≡ drop 16 part) × (p.original ≡ number big 4 (drop 12 part))

-- a part with more bytes at its end, up to the place where it is looked at
abbrev pub IsGrownTo : List ℕ → Option Header → List CapturedPacket → ℕ → List ℕ → Type 0
IsGrownTo fed None packets offset part = (part ≡ fed) × (packets ≡ []) × (offset ≡ 24) × (length part ≤ 24)
IsGrownTo fed (Some h) packets offset part =
    Keeps fed h packets offset part × (0 < length part)
    × ((length part ≤ 16) ⊎ ((captured h.big part ≤ 262144) × (length part ≤ 16 + captured h.big part)))

-- a feed whose part has grown
abbrev pub IsGrown : List CapturedPacket → List ℕ → Feed → Type 0
IsGrown given fed feed = IsGrownTo fed feed.header (given ++ feed.packets.items) feed.offset feed.part.items
