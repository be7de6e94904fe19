-- A capture in pcapng (draft-ietf-opsawg-pcapng, "General File Structure"): sections, each a header and then blocks.
use Rattle.std.specs.Prelude.{◌≡◌, ℕ, ◌+◌, ◌<◌, ◌⊎◌, nat_lt, if◌then◌else◌, Bool, true, List, [], ◌∷◌, ◌++◌, length, take, Option, Some, None, Result, Ok, Err, ⊤}
use Rattle.pcapng_reader.specs.Blocks.{frame_in, content_in}
use Rattle.pcapng_reader.specs.declared.frame.Frame.{Frame}
use Rattle.pcapng_reader.specs.declared.front.Front.{Front}
use Rattle.pcapng_reader.specs.declared.front.Front.TheVariants.{Short, Wrong, Whole}
use Rattle.pcapng_reader.specs.declared.block.InterfaceDescription.{InterfaceDescription}
use Rattle.pcapng_reader.specs.declared.block.Content.{Content}
use Rattle.pcapng_reader.specs.declared.block.Content.TheVariants.{Section, Interface, Packet, Other}
use Rattle.pcapng_reader.specs.declared.block.BlockError.{BlockError}
use Rattle.pcapng_reader.specs.declared.fault.CaptureFault.{CaptureFault}
use Rattle.pcapng_reader.specs.declared.fault.CaptureFault.TheVariants.{BadBlock, Truncated, NoMemory}

-- a whole block: where it lies in the capture, its bytes, and what it says
pub record WholeBlock : Type 0 where
  pub offset : ℕ
  pub bytes : List ℕ
  pub content : Content

-- a place between blocks: how many bytes and how many section headers stand before it, and of the last section
-- the byte order and the interfaces that it has described
pub record Place : Type 0 where
  pub offset : ℕ
  pub sections : ℕ
  pub big : Bool
  pub interfaces : List InterfaceDescription

-- the front of a capture
abbrev pub start : Place
start = record { offset = 0; sections = 0; big = true; interfaces = [] }

-- a block of so many bytes, or what is wrong with it
abbrev pub outcome_of : ℕ → Result Content BlockError → Front
outcome_of total (Ok content) = Whole total content
outcome_of total (Err error) = Wrong error

-- the block that bytes begin with, if its front is good
abbrev pub framed_in : ℕ → List InterfaceDescription → Result Frame BlockError → List ℕ → Front
framed_in sections interfaces (Ok frame) bytes =
    if nat_lt (length bytes) frame.total then Short else outcome_of frame.total (content_in sections interfaces frame (take frame.total bytes))
framed_in sections interfaces (Err error) bytes = Wrong error

-- what bytes begin with, after so many section headers and what the last section has said:
-- a whole block, less than one, or one with something wrong
unfoldable pub front_in : ℕ → Bool → List InterfaceDescription → List ℕ → Front
front_in sections big interfaces bytes =
    if nat_lt (length bytes) 12 then Short else framed_in sections interfaces (frame_in sections big bytes) bytes

-- what bytes begin with at a place
abbrev pub front_at : Place → List ℕ → Front
front_at place bytes = front_in place.sections place.big place.interfaces bytes

-- the place after a block: a section header begins a section, an interface description adds to it
abbrev pub place_after : Place → Content → ℕ → Place
place_after place (Section header) n = record { offset = place.offset + n; sections = place.sections + 1; big = header.big; interfaces = [] }
place_after place (Interface described) n = record place { offset = place.offset + n; interfaces = place.interfaces ++ described ∷ [] }
place_after place (Packet packet) n = record place { offset = place.offset + n }
place_after place Other n = record place { offset = place.offset + n }

-- a block at a place
pub record IsBlock (place : Place) (block : WholeBlock) : Type 0 where
  pub lies : block.offset ≡ place.offset
  pub says : front_at place block.bytes ≡ Whole (length block.bytes) block.content

-- blocks, one after the other, from a place to a place
abbrev pub Follow : Place → List WholeBlock → Place → Type 0
Follow place [] end = place ≡ end
Follow place (block ∷ blocks) end = IsBlock place block × Follow (place_after place block.content (length block.bytes)) blocks end

-- the bytes of blocks
abbrev pub bytes_of : List WholeBlock → List ℕ
bytes_of [] = []
bytes_of (block ∷ blocks) = block.bytes ++ bytes_of blocks

-- how a capture ends after its whole blocks: at the end, if there was a section, or at a fault with the place of the block
abbrev pub EndsWith : Place → List ℕ → Option CaptureFault → Type 0
EndsWith place rest None = (rest ≡ []) × (0 < place.sections)
EndsWith place rest (Some (BadBlock error offset)) = (front_at place rest ≡ Wrong error) × (offset ≡ place.offset)
EndsWith place rest (Some (Truncated offset)) = ((0 < length rest) ⊎ (place.sections ≡ 0)) × (front_at place rest ≡ Short) × (offset ≡ place.offset)
EndsWith place rest (Some NoMemory) = ⊥

-- bytes hold these blocks, and then end or have a fault
pub record Reads (bytes : List ℕ) (blocks : List WholeBlock) (fault : Option CaptureFault) : Type 0 where
  pub place : Place
  pub rest : List ℕ
  pub parts : bytes ≡ bytes_of blocks ++ rest
  pub follow : Follow start blocks place
  pub ends : EndsWith place rest fault

-- a front of the bytes is just these blocks
pub record ReadsFront (bytes : List ℕ) (blocks : List WholeBlock) : Type 0 where
  pub place : Place
  pub more : List ℕ
  pub parts : bytes ≡ bytes_of blocks ++ more
  pub follow : Follow start blocks place

-- a fault that stands whatever bytes follow
abbrev pub IsLasting : CaptureFault → Type 0
IsLasting (BadBlock error offset) = ⊤
IsLasting _ = ⊥
