-- The blocks of a capture in pcapng (draft-ietf-opsawg-pcapng, "Block Definitions"), one by one.
use Rattle.std.specs.Prelude.{◌≡◌, ℕ, ◌+◌, ◌-◌, ◌*◌, ◌%◌, ◌≤◌, ◌==◌, ◌||◌, ◌&&◌, not, nat_lt, min, if◌then◌else◌, Bool, true, false, List, length, take, drop, slice_get, Option, Some, None, Result, Ok, Err}
use Rattle.pcap_reader.specs.Savefile.{number}
use Rattle.pcapng_reader.specs.Options.{resolution_in, offset_in}
use Rattle.pcapng_reader.specs.declared.frame.Frame.{Frame}
use Rattle.pcapng_reader.specs.declared.block.InterfaceDescription.{InterfaceDescription}
use Rattle.pcapng_reader.specs.declared.block.PacketEntry.{PacketEntry}
use Rattle.pcapng_reader.specs.declared.block.Content.{Content}
use Rattle.pcapng_reader.specs.declared.block.Content.TheVariants.{Section, Interface, Packet, Other}
use Rattle.pcapng_reader.specs.declared.block.BlockError.{BlockError}
use Rattle.pcapng_reader.specs.declared.block.BlockError.TheVariants.{NoSection, BadByteOrder, BadLength, LengthNotRepeated, BadVersion, NoInterface, BadCaptured, TooLong, TooManyInterfaces}

-- bytes begin with a section header block, as a capture in pcapng does: its type reads the same in both byte orders
abbrev pub is_pcapng : List ℕ → Bool
is_pcapng bytes = not (nat_lt (length bytes) 4) && number true 4 bytes == 0x0a0d0d0a

-- how many bytes a block of a type has at least: those of its fields, its type and its two total lengths
abbrev pub least_of : ℕ → ℕ
least_of kind =
    if kind == 0x0a0d0d0a then 28 else (if kind == 1 then 20 else (if kind == 2 then 32 else (if kind == 6 then 32 else (if kind == 3 then 16 else 12))))

-- the types of the blocks that are needed: section headers, interface descriptions and packets
abbrev pub is_needed : ℕ → Bool
is_needed kind = kind == 0x0a0d0d0a || kind == 1 || kind == 6 || kind == 3 || kind == 2

-- the byte order in which a byte-order magic reads as 1a2b3c4d
abbrev pub order_in : List ℕ → Result Bool BlockError
order_in bytes = if number true 4 bytes == 0x1a2b3c4d then Ok true else (if number false 4 bytes == 0x1a2b3c4d then Ok false else Err BadByteOrder)

-- a total length that a block of a type can have
unfoldable pub measure_of : Bool → ℕ → List ℕ → Result Frame BlockError
measure_of big kind bytes =
    let total = number big 4 bytes in
    if nat_lt total (least_of kind) || not (total % 4 == 0) then Err BadLength
    else (if nat_lt 16777216 total then Err TooLong else Ok (record { big = big; kind = kind; total = total }))

-- the measure in the byte order of a section header, if it has one
abbrev pub measure_in : Result Bool BlockError → ℕ → List ℕ → Result Frame BlockError
measure_in (Ok big) kind bytes = measure_of big kind bytes
measure_in (Err error) kind bytes = Err error

-- the first twelve bytes of a block after so many section headers, the last of which had this byte order:
-- a section header has a byte order of its own, and the type of one reads the same in both
unfoldable pub frame_in : ℕ → Bool → List ℕ → Result Frame BlockError
frame_in sections big bytes =
    let kind = number big 4 bytes in
    if kind == 0x0a0d0d0a then measure_in (order_in (drop 8 bytes)) kind (drop 4 bytes)
    else (if sections == 0 then Err NoSection else measure_of big kind (drop 4 bytes))

-- a length that a block of its type can have
pub record IsFrame (frame : Frame) : Type 0 where
  pub least : least_of frame.kind ≤ frame.total
  pub any : 12 ≤ frame.total
  pub most : frame.total ≤ 16777216
  pub words : frame.total % 4 ≡ 0

-- a section header: version 1 of any minor number
unfoldable pub header_in : Bool → List ℕ → Result Content BlockError
header_in big block = if number big 2 (drop 12 block) == 1 then Ok (Section (record { big = big; minor = number big 2 (drop 14 block) })) else Err BadVersion

-- an interface description, with its options between its fields and the total length at its end
unfoldable pub interface_in : Bool → List ℕ → InterfaceDescription
interface_in big block =
    let options = take (length block - 4 - 16) (drop 16 block) in
    record {
      link = number big 2 (drop 8 block);
      snaplen = number big 4 (drop 12 block);
      resolution = resolution_in big options;
      offset = offset_in big options;
    }

-- the next interface of a section, of which there are at most 65536
abbrev pub described_in : List InterfaceDescription → Bool → List ℕ → Result Content BlockError
described_in interfaces big block = if nat_lt (length interfaces) 65536 then Ok (Interface (interface_in big block)) else Err TooManyInterfaces

-- captured bytes from a place on, up to the total length at the end of a block
abbrev pub fitting : ℕ → ℕ → ℕ → Result (Unit {0}) BlockError
fitting start captured total = if nat_lt 262144 captured then Err TooLong else (if nat_lt total (start + captured + 4) then Err BadCaptured else Ok tt)

-- the packet, where its captured bytes fit
abbrev pub if_fitting : Result (Unit {0}) BlockError → PacketEntry → Result Content BlockError
if_fitting (Ok done) packet = Ok (Packet packet)
if_fitting (Err error) packet = Err error

-- the units of a time stamp: the high half first in either byte order
abbrev pub units_in : Bool → List ℕ → ℕ
units_in big block = number big 4 (drop 12 block) * 4294967296 + number big 4 (drop 16 block)

-- a packet with a time stamp, of an interface that was described
abbrev pub packet_of : ℕ → Option InterfaceDescription → ℕ → Bool → List ℕ → Result Content BlockError
packet_of sections None interface big block = Err NoInterface
packet_of sections (Some described) interface big block =
    if_fitting (fitting 28 (number big 4 (drop 20 block)) (length block)) (record {
      section = sections - 1;
      interface = interface;
      link = described.link;
      time = Some (record { units = units_in big block; resolution = described.resolution; offset = described.offset });
      start = 28;
      captured = number big 4 (drop 20 block);
      original = number big 4 (drop 24 block);
    })

unfoldable pub packet_in : ℕ → List InterfaceDescription → ℕ → Bool → List ℕ → Result Content BlockError
packet_in sections interfaces interface big block = packet_of sections (slice_get interfaces interface) interface big block

-- an enhanced packet block: the interface has four bytes
unfoldable pub enhanced_in : ℕ → List InterfaceDescription → Bool → List ℕ → Result Content BlockError
enhanced_in sections interfaces big block = packet_in sections interfaces (number big 4 (drop 8 block)) big block

-- an obsolete packet block: the interface has two bytes, before a count of dropped packets
unfoldable pub obsolete_in : ℕ → List InterfaceDescription → Bool → List ℕ → Result Content BlockError
obsolete_in sections interfaces big block = packet_in sections interfaces (number big 2 (drop 8 block)) big block

-- of a simple packet were captured as many bytes as it had, or as the interface takes
abbrev pub simple_captured : ℕ → ℕ → ℕ
simple_captured snaplen original = if snaplen == 0 then original else min original snaplen

-- a simple packet block, of the section's first interface
abbrev pub simple_of : ℕ → Option InterfaceDescription → Bool → List ℕ → Result Content BlockError
simple_of sections None big block = Err NoInterface
simple_of sections (Some described) big block =
    let original = number big 4 (drop 8 block) in
    if_fitting (fitting 12 (simple_captured described.snaplen original) (length block)) (record {
      section = sections - 1;
      interface = 0;
      link = described.link;
      time = None;
      start = 12;
      captured = simple_captured described.snaplen original;
      original = original;
    })

unfoldable pub simple_in : ℕ → List InterfaceDescription → Bool → List ℕ → Result Content BlockError
simple_in sections interfaces big block = simple_of sections (slice_get interfaces 0) big block

-- what a block of a type says
abbrev pub content_by : ℕ → List InterfaceDescription → Bool → ℕ → List ℕ → Result Content BlockError
content_by sections interfaces big kind block =
    if kind == 0x0a0d0d0a then header_in big block
    else (if kind == 1 then described_in interfaces big block
    else (if kind == 6 then enhanced_in sections interfaces big block
    else (if kind == 3 then simple_in sections interfaces big block
    else (if kind == 2 then obsolete_in sections interfaces big block
    else Ok Other))))

-- what a whole block says, after so many section headers and the interfaces that the last section has described:
-- its total length stands at its end once more
unfoldable pub content_in : ℕ → List InterfaceDescription → Frame → List ℕ → Result Content BlockError
content_in sections interfaces frame block =
    if number frame.big 4 (drop (length block - 4) block) == frame.total then content_by sections interfaces frame.big frame.kind block
    else Err LengthNotRepeated
