-- What a caller in C is answered of a capture: pcap-savefile(5) of libpcap, and draft-ietf-opsawg-pcapng.
use Rattle.std.specs.Prelude.{◌≡◌, ◌≢◌, ℕ, ◌+◌, ◌*◌, ◌<◌, ◌≤◌, ◌⊎◌, ◌==◌, not, min, if◌then◌else◌, Bool, true, false, List, [], length, take, drop, slice_set, pos, Option, Some, None}
use Rattle.pcap_reader.specs.declared.capture.Header.{Header}
use Rattle.pcap_reader.specs.declared.capture.CaptureFault.{CaptureFault}
use Rattle.pcap_reader.specs.declared.capture.CaptureFault.TheVariants as savefiles
use Rattle.pcap_reader.specs.declared.feed.Seen.{Seen}
use Rattle.pcap_reader.specs.Savefile.{HasNoHeader, IsHeader, IsLong, IsPart, IsRecord, number}
use Rattle.pcapng_reader.specs.declared.block.BlockError.{BlockError}
use Rattle.pcapng_reader.specs.declared.block.BlockError.TheVariants as blocks
use Rattle.pcapng_reader.specs.declared.block.Content.{Content}
use Rattle.pcapng_reader.specs.declared.block.Content.TheVariants.{Section, Interface, Packet, Other}
use Rattle.pcapng_reader.specs.declared.block.InterfaceDescription.{InterfaceDescription}
use Rattle.pcapng_reader.specs.declared.block.PacketEntry.{PacketEntry}
use Rattle.pcapng_reader.specs.declared.front.Front.{Front}
use Rattle.pcapng_reader.specs.declared.front.Front.TheVariants.{Short, Wrong, Whole}
use Rattle.pcapng_reader.specs.declared.time.Time.{Time}
use Rattle.pcapng_reader.specs.Blocks.{is_pcapng}
use Rattle.pcapng_reader.specs.Grammar.{Place}
use Rattle.mkdemux_c.specs.declared.answers.TheConstants.{NO_MEMORY, NO_ROOM}
use Rattle.mkdemux_c.specs.declared.capturing.TheConstants.{MORE, PACKET, PASSED, PCAPNG, SAVEFILE}
use Rattle.mkdemux_c.specs.declared.capturing.Capture.{Capture}
use Rattle.mkdemux_c.specs.declared.capturing.Item.{Item}

-- the numbers of faults
abbrev pub number_of : BlockError → ℕ
number_of blocks.NoSection = 16
number_of blocks.BadByteOrder = 17
number_of blocks.BadLength = 18
number_of blocks.LengthNotRepeated = 19
number_of blocks.BadVersion = 20
number_of blocks.NoInterface = 21
number_of blocks.BadCaptured = 22
number_of blocks.TooManyInterfaces = 23
number_of blocks.TooLong = 24

abbrev pub number_of_header : CaptureFault → ℕ
number_of_header savefiles.BadMagic = 25
number_of_header savefiles.BadVersion = 20
number_of_header savefiles.TruncatedHeader = MORE
number_of_header (savefiles.TruncatedRecord place) = MORE
number_of_header (savefiles.TooLong place) = 24
number_of_header savefiles.NoMemory = NO_MEMORY

-- a flag, and its number
abbrev pub is_set : ℕ → Bool
is_set n = not (n == 0)

abbrev pub flag : Bool → ℕ
flag b = if b then 1 else 0

-- a number of 64 or 32 bits that is larger by another, and stops at its end
abbrev pub larger : ℕ → ℕ → ℕ
larger n more = min (n + more) 18446744073709551615

abbrev pub next : ℕ → ℕ
next n = min (n + 1) 4294967295

-- where a capture in pcapng stands
abbrev pub place_of : Capture → List InterfaceDescription → Place
place_of capture interfaces = record {
  offset = capture.offset;
  sections = capture.sections;
  big = is_set capture.big;
  interfaces = take (min (length interfaces) capture.interfaces) interfaces;
}

-- nothing but so many bytes
abbrev pub passed : ℕ → Item
passed n = record { taken = n; start = 0; units = 0; offset = pos 0; captured = 0; original = 0; link = 0; interface = 0; resolution = 0; timed = 0 }

-- the packet of a block of so many bytes
abbrev pub timed_item : ℕ → PacketEntry → Option Time → Item
timed_item n e None = record (passed n) { start = e.start; captured = e.captured; original = e.original; link = e.link; interface = e.interface }
timed_item n e (Some t) = record {
  taken = n;
  start = e.start;
  units = t.units;
  offset = t.offset;
  captured = e.captured;
  original = e.original;
  link = e.link;
  interface = e.interface;
  resolution = t.resolution;
  timed = 1;
}

abbrev pub packet_item : ℕ → PacketEntry → Item
packet_item n e = timed_item n e e.time

-- nothing was taken
abbrev pub IsUnread : Capture → Capture → List InterfaceDescription → List InterfaceDescription → Item → Type 0
IsUnread old new before after item = (new ≡ old) × (after ≡ before) × (item ≡ passed 0)

-- a block of so many bytes, which says this, was taken; or there is no room for its interface
abbrev pub OfContent : Capture → List InterfaceDescription → Content → ℕ → ℕ → Capture → List InterfaceDescription → Item → Type 0
OfContent old before (Section h) n answer new after item = (answer ≡ PASSED) × (item ≡ passed n) × (after ≡ before)
    × (new ≡ record old { offset = larger old.offset n; sections = larger old.sections 1; format = PCAPNG; big = flag h.big; interfaces = 0 })
OfContent old before (Interface described) n answer new after item =
    ((old.interfaces < length before) × (answer ≡ PASSED) × (item ≡ passed n) × (after ≡ slice_set before old.interfaces described)
    × (new ≡ record old { offset = larger old.offset n; format = PCAPNG; interfaces = next old.interfaces }))
    ⊎ ((length before ≤ old.interfaces) × (answer ≡ NO_ROOM) × IsUnread old new before after item)
OfContent old before (Packet entry) n answer new after item = (answer ≡ PACKET) × (item ≡ packet_item n entry) × (after ≡ before)
    × (new ≡ record old { offset = larger old.offset n; format = PCAPNG })
OfContent old before Other n answer new after item = (answer ≡ PASSED) × (item ≡ passed n) × (after ≡ before)
    × (new ≡ record old { offset = larger old.offset n; format = PCAPNG })

-- the answer for what bytes begin with at the place of a capture in pcapng
abbrev pub OfFront : Capture → List InterfaceDescription → Front → ℕ → Capture → List InterfaceDescription → Item → Type 0
OfFront old before Short answer new after item = (answer ≡ MORE) × IsUnread old new before after item
OfFront old before (Wrong error) answer new after item = (answer ≡ number_of error) × IsUnread old new before after item
OfFront old before (Whole n content) answer new after item = OfContent old before content n answer new after item

-- the parts of a second, of which a second has a thousand times more where they are nanoseconds
abbrev pub parts_in : Capture → ℕ
parts_in capture = if is_set capture.nano then 1000000000 else 1000000

-- what is said of the packet of a record of so many bytes
pub record IsRecordItem (old : Capture) (bytes : List ℕ) (n : ℕ) (packet : Seen) (item : Item) : Type 0 where
  pub taken : (item.taken ≡ n) × (item.start ≡ 16)
  pub lengths : (item.original ≡ packet.original) × (item.captured ≡ length packet.bytes.now)
  pub units : item.units ≡ number (is_set old.big) 4 bytes * parts_in old + number (is_set old.big) 4 (drop 4 bytes)
  pub resolution : item.resolution ≡ (if is_set old.nano then 9 else 6)
  pub time : (item.timed ≡ 1) × (item.offset ≡ pos 0)
  pub link : (item.link ≡ old.link) × (item.interface ≡ 0)

-- the record that bytes of a savefile begin with was taken, and has this packet
pub record TakesRecord (old : Capture) (bytes : List ℕ) (new : Capture) (item : Item) : Type 0 where
  pub within : item.taken ≤ length bytes
  pub is : IsRecord (is_set old.big) (take item.taken bytes) (record { bytes = take item.captured (drop item.start bytes); original = item.original })
  pub after : new ≡ record old { offset = larger old.offset item.taken }
  pub units : item.units ≡ number (is_set old.big) 4 bytes * parts_in old + number (is_set old.big) 4 (drop 4 bytes)
  pub resolution : item.resolution ≡ (if is_set old.nano then 9 else 6)
  pub time : (item.timed ≡ 1) × (item.offset ≡ pos 0)
  pub link : (item.link ≡ old.link) × (item.interface ≡ 0)

-- the answer for the records of a savefile
pub record OfRecord (old : Capture) (bytes : List ℕ) (answer : ℕ) (new : Capture) (item : Item) : Type 0 where
  pub packet : answer ≡ PACKET → TakesRecord old bytes new item
  pub more : answer ≡ MORE → ((bytes ≡ []) ⊎ IsPart (is_set old.big) bytes) × (new ≡ old) × (item ≡ passed 0)
  pub long : answer ≡ 24 → IsLong (is_set old.big) bytes × (new ≡ old) × (item ≡ passed 0)
  pub any : (answer ≡ PACKET) ⊎ (answer ≡ MORE) ⊎ (answer ≡ 24)

-- a savefile after its header
abbrev pub opened : Capture → Header → Capture
opened old h = record old { offset = 24; format = SAVEFILE; big = flag h.big; nano = flag h.nano; link = h.network }

-- the answer for the header of a savefile
abbrev pub OfHeader : Capture → List ℕ → ℕ → Capture → Item → Type 0
OfHeader old bytes answer new item =
    ((h : Header) × (24 ≤ length bytes) × IsHeader (take 24 bytes) h × (answer ≡ PASSED) × (new ≡ opened old h) × (item ≡ passed 24))
    ⊎ ((fault : CaptureFault) × HasNoHeader bytes fault × (answer ≡ number_of_header fault) × (new ≡ old) × (item ≡ passed 0))
    ⊎ ((answer ≡ NO_MEMORY) × (new ≡ old) × (item ≡ passed 0))

-- the bytes are read as pcapng: the format was told before, or they tell it
abbrev pub IsReadAsPcapng : Capture → List ℕ → Type 0
IsReadAsPcapng capture bytes = (capture.format ≡ PCAPNG) ⊎ ((capture.format ≢ SAVEFILE) × (is_pcapng bytes ≡ true))

-- they are read as the header of a savefile: the format wasn't told before, and they don't tell pcapng
abbrev pub IsReadAsHeader : Capture → List ℕ → Type 0
IsReadAsHeader capture bytes = (capture.format ≢ PCAPNG) × (capture.format ≢ SAVEFILE) × (is_pcapng bytes ≡ false)
