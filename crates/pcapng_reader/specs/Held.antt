-- What a feed holds of the bytes that it was given (draft-ietf-opsawg-pcapng, cut anywhere).
use Rattle.std.specs.Prelude.{◌≡◌, ◌≢◌, ℕ, ◌+◌, ◌^◌, ◌<◌, ◌≤◌, ◌⊎◌, Bool, true, false, List, [], ◌∷◌, ◌++◌, length, Option, Some, None, Result, Ok, Err, ⊤}
use Rattle.pcapng_reader.specs.Blocks.{frame_in, is_needed}
use Rattle.pcapng_reader.specs.Grammar.{WholeBlock, Place, start, front_at, Follow, bytes_of, Reads, ReadsFront, IsLasting}
use Rattle.pcapng_reader.specs.declared.frame.Frame.{Frame}
use Rattle.pcapng_reader.specs.declared.front.Front.TheVariants.{Short}
use Rattle.pcapng_reader.specs.declared.block.Content.TheVariants.{Other, Packet}
use Rattle.pcapng_reader.specs.declared.fault.CaptureFault.{CaptureFault}
use Rattle.pcapng_reader.specs.declared.fault.CaptureFault.TheVariants.{NoMemory}
use Rattle.pcapng_reader.specs.declared.feed.BlockFeed.{BlockFeed}
use Rattle.pcapng_reader.specs.declared.feed.Passing.{Passing}
use Rattle.pcapng_reader.specs.declared.feed.Held.{Held as HeldBlock}
use Rattle.pcapng_reader.specs.declared.seen.Block.{Block as SeenBlock}
use Rattle.pcapng_reader.specs.declared.seen.Skimmed.{Skimmed}
use Rattle.pcapng_reader.specs.Packets.{captured_in}
use Rattle.pcapng_reader.specs.declared.feed.FeedStep.{FeedStep}
use Rattle.pcapng_reader.specs.declared.feed.FeedStep.TheVariants.{Block, Held, Passed, More}

-- the fault that a feed has met
abbrev pub held_fault : BlockFeed → Option CaptureFault
held_fault feed = feed.fault

-- the block that a feed holds
abbrev pub block_in : Option HeldBlock → List ℕ → Option WholeBlock
block_in None bytes = None
block_in (Some held) bytes = Some (record { offset = held.offset; bytes = bytes; content = held.content })

abbrev pub held_block : BlockFeed → Option WholeBlock
held_block feed = block_in feed.held feed.part.items

-- a block that was seen in place
abbrev pub seen_block : SeenBlock → WholeBlock
seen_block block = record { offset = block.offset; bytes = block.bytes.now; content = block.content }

-- the place of the block that a feed takes next
abbrev pub place_of : BlockFeed → Place
place_of feed = record { offset = feed.offset; sections = feed.sections; big = feed.big; interfaces = feed.interfaces.items }

-- the bytes of a block that isn't whole yet
abbrev pub open_part : Option HeldBlock → List ℕ → List ℕ
open_part None part = part
open_part (Some held) part = []

-- a block that nobody needs is passed over: of its bytes so far the last are kept, up to its last four
pub record Passes (place : Place) (passing : Passing) (kept part : List ℕ) : Type 0 where
  pub gone : List ℕ
  pub parts : part ≡ gone ++ kept
  pub framed : frame_in place.sections place.big gone ≡ Ok passing.frame
  pub needless : is_needed passing.frame.kind ≡ false
  pub long : 12 ≤ length gone
  pub left : length gone + passing.left + 4 ≡ passing.frame.total
  pub between : 0 < passing.left → kept ≡ []
  pub short : length kept < 4

-- less than a whole block stands at a place, and this is kept of it
abbrev pub IsUnfinished : Place → Option Passing → List ℕ → List ℕ → Type 0
IsUnfinished place None kept part = (kept ≡ part) × (front_at place part ≡ Short)
IsUnfinished place (Some passing) kept part = Passes place passing kept part

-- the bytes are whole blocks, and less than one more
pub record IsOpen (given : List WholeBlock) (fed : List ℕ) (place : Place) (passing : Option Passing) (kept : List ℕ) : Type 0 where
  pub part : List ℕ
  pub parts : fed ≡ bytes_of given ++ part
  pub follow : Follow start given place
  pub unfinished : IsUnfinished place passing kept part

-- a fault that stands whatever follows is in the bytes after these blocks, or memory was refused after a front of them
abbrev pub HasStopped : List WholeBlock → List ℕ → CaptureFault → Type 0
HasStopped given fed fault =
    (IsLasting fault × Reads fed given (Some fault)) ⊎ ((fault ≡ NoMemory) × ReadsFront fed given)

-- what a feed holds of the bytes after the blocks that it gave, under its fault, if it has one
abbrev pub HoldsAt : List WholeBlock → List ℕ → BlockFeed → Option CaptureFault → Type 0
HoldsAt given fed feed None = IsOpen given fed (place_of feed) feed.passing (open_part feed.held feed.part.items)
HoldsAt given fed feed (Some fault) = HasStopped given fed fault

-- a feed was given these bytes, and gave all the whole blocks in them
abbrev pub HoldsAfter : List WholeBlock → List ℕ → BlockFeed → Type 0
HoldsAfter given fed feed = HoldsAt given fed feed (held_fault feed)

-- what a step adds to the blocks that a feed gave
abbrev pub Adds : List WholeBlock → List ℕ → BlockFeed → FeedStep → Type 0
Adds given fed feed (Block block) = HoldsAfter (given ++ seen_block block ∷ []) fed feed
Adds given fed feed Held = (block : WholeBlock) × (held_block feed ≡ Some block) × HoldsAfter (given ++ block ∷ []) fed feed
Adds given fed feed Passed = (block : WholeBlock) × (block.content ≡ Other) × HoldsAfter (given ++ block ∷ []) fed feed
Adds given fed feed More = HoldsAfter given fed feed

-- the bytes that a feed took are the block that it saw in them
abbrev pub LiesIn : List ℕ → FeedStep → Type 0
LiesIn front (Block block) = block.bytes.now ≡ front
LiesIn front _ = ⊤

-- of some bytes a feed took a front
pub record Takes (bytes rest : List ℕ) (old new : BlockFeed) (step : FeedStep) : Type 0 where
  pub front : List ℕ
  pub parts : bytes ≡ front ++ rest
  pub lies : LiesIn front step
  pub adds : (given : List WholeBlock) (fed : List ℕ) → HoldsAfter given fed old → length (fed ++ front) < 2 ^ 64 → Adds given (fed ++ front) new step

-- a feed took a front of some bytes, or has a fault in them after the blocks that it gave
abbrev pub Advances : List ℕ → List ℕ → BlockFeed → BlockFeed → Result FeedStep CaptureFault → Type 0
Advances bytes rest old new (Ok step) = Takes bytes rest old new step
Advances bytes rest old new (Err fault) =
    (given : List WholeBlock) (fed : List ℕ) → HoldsAfter given fed old → length (fed ++ bytes) < 2 ^ 64 → HasStopped given (fed ++ bytes) fault

-- whether a feed keeps every block to be copied
abbrev pub copies_all : BlockFeed → Bool
copies_all feed = feed.copies

-- what a feed keeps of a block, of those that it gave or of the next: of one that is passed over less than its last four bytes;
-- else at most 16777216 bytes, and more than a front of twelve only where the block is needed, or every block is kept
abbrev pub IsFrugalAt : Bool → Place → Option Passing → Option HeldBlock → List ℕ → Type 0
IsFrugalAt copies place (Some passing) held part = length part < 4
IsFrugalAt copies place None (Some held) part = (length part ≤ 16777216) × ((length part ≤ 12) ⊎ (held.content ≢ Other) ⊎ (copies ≡ true))
IsFrugalAt copies place None None part =
    (length part < 12)
    ⊎ ((frame : Frame) × (frame_in place.sections place.big part ≡ Ok frame) × (12 ≤ length part) × (length part < frame.total) × (frame.total ≤ 16777216) × ((copies ≡ true) ⊎ (is_needed frame.kind ≡ true)))

abbrev pub IsFrugal : BlockFeed → Type 0
IsFrugal feed = IsFrugalAt feed.copies (place_of feed) feed.passing feed.held feed.part.items

-- the next block was taken, which lies in the bytes and has this packet
pub record Skims (bytes rest : List ℕ) (old new : BlockFeed) (seen : Skimmed) : Type 0 where
  pub takes : Takes bytes rest old new (Block (record { offset = (place_of old).offset; bytes = seen.block; content = Packet seen.packet }))
  pub captured : seen.bytes.now ≡ captured_in seen.packet seen.block.now
  pub going : (held_fault old ≡ None) × (held_fault new ≡ None)
  pub copies : copies_all new ≡ copies_all old
  pub shorter : length rest < length bytes

-- a feed was given nothing
abbrev pub IsFresh : Bool → BlockFeed → Type 0
IsFresh copies feed = HoldsAfter [] [] feed × (held_fault feed ≡ None) × (copies_all feed ≡ copies) × IsFrugal feed

-- a feed that keeps every block passes over none
abbrev pub HasBytes : Bool → FeedStep → Type 0
HasBytes true Passed = ⊥
HasBytes copies step = ⊤

-- some bytes were taken where there were any
abbrev pub IsShorter : List ℕ → List ℕ → Type 0
IsShorter bytes rest = bytes ≢ [] → length rest < length bytes

-- a call's answer is the feed's fault
abbrev pub IsTold : Option CaptureFault → Result FeedStep CaptureFault → Type 0
IsTold fault (Ok step) = fault ≡ None
IsTold fault (Err f) = fault ≡ Some f

-- how the bytes end after these blocks: well, or with a fault; after a refusal of memory a front of them is these blocks
abbrev pub Ends : List WholeBlock → List ℕ → Result (Unit {0}) CaptureFault → Type 0
Ends given fed (Ok done) = Reads fed given None
Ends given fed (Err NoMemory) = ReadsFront fed given
Ends given fed (Err fault) = Reads fed given (Some fault)
