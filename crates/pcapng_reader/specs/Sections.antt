-- Sections and interfaces, seen from a packet (draft-ietf-opsawg-pcapng, "General File Structure" and "Interface Description Block").
use Rattle.std.specs.Prelude.{◌≡◌, ℕ, ◌+◌, Bool, true, false, if◌then◌else◌, List, [], ◌∷◌, ◌++◌, slice_get, Option, Some}
use Rattle.pcapng_reader.specs.declared.block.InterfaceDescription.{InterfaceDescription}
use Rattle.pcapng_reader.specs.declared.block.PacketEntry.{PacketEntry}
use Rattle.pcapng_reader.specs.declared.block.Content.{Content}
use Rattle.pcapng_reader.specs.declared.block.Content.TheVariants.{Section, Interface, Packet}
use Rattle.pcapng_reader.specs.declared.fault.CaptureFault.{CaptureFault}
use Rattle.pcapng_reader.specs.Grammar.{WholeBlock, Reads}

-- whether a block begins a section
abbrev pub is_header : Content → Bool
is_header (Section header) = true
is_header _ = false

-- how many sections blocks begin
abbrev pub headers_in : List WholeBlock → ℕ
headers_in [] = 0
headers_in (block ∷ blocks) = (if is_header block.content then 1 else 0) + headers_in blocks

-- the interfaces that blocks describe, in order
abbrev pub described_by : Content → List InterfaceDescription
described_by (Interface described) = described ∷ []
described_by _ = []

abbrev pub interfaces_in : List WholeBlock → List InterfaceDescription
interfaces_in [] = []
interfaces_in (block ∷ blocks) = described_by block.content ++ interfaces_in blocks

-- a packet after these blocks: they are the earlier sections, the header of its own, and more blocks of its own; the packet has the
-- number of its section, and its interface is one that its own section has described before it
pub record IsOfItsSection (before : List WholeBlock) (entry : PacketEntry) : Type 0 where
  pub earlier : List WholeBlock
  pub header : WholeBlock
  pub own : List WholeBlock
  pub parts : before ≡ earlier ++ header ∷ own
  pub begins : is_header header.content ≡ true
  pub none : headers_in own ≡ 0
  pub number : entry.section ≡ headers_in earlier
  pub described : InterfaceDescription
  pub interface : slice_get (interfaces_in own) entry.interface ≡ Some described
  pub link : entry.link ≡ described.link

-- so is each packet of a capture
abbrev pub AreOfTheirSections : Type 0
AreOfTheirSections = (bytes : List ℕ) (before after : List WholeBlock) (block : WholeBlock) (fault : Option CaptureFault) (entry : PacketEntry)
    → Reads bytes (before ++ block ∷ after) fault → block.content ≡ Packet entry → IsOfItsSection before entry
