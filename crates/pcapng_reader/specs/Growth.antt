-- A feed between two looks at its part. No public clause cites these.
use Rattle.std.specs.Prelude.{◌≡◌, ◌≢◌, Bool, true, ℕ, ◌+◌, ◌-◌, ◌^◌, ◌<◌, ◌≤◌, ◌⊎◌, false, List, [], ◌++◌, length, take, drop, Option, Some, None, Result, Ok, Err, ⊤}
use Rattle.pcap_reader.specs.Savefile.{number}
use Rattle.pcapng_reader.specs.Blocks.{IsFrame, enhanced_in, frame_in, is_needed}
use Rattle.pcapng_reader.specs.Grammar.{WholeBlock, Place, start, front_at, front_in, place_after, Follow, bytes_of}
use Rattle.pcapng_reader.specs.Held.{place_of, open_part, HasStopped, Adds}
use Rattle.pcapng_reader.specs.declared.frame.Frame.{Frame}
use Rattle.pcapng_reader.specs.declared.front.Front.TheVariants.{Whole}
use Rattle.pcapng_reader.specs.declared.front.PacketFront.{PacketFront}
use Rattle.pcapng_reader.specs.declared.block.InterfaceDescription.{InterfaceDescription}
use Rattle.pcapng_reader.specs.declared.block.Content.TheVariants.{Packet}
use Rattle.pcapng_reader.specs.declared.block.Content.{Content}
use Rattle.pcapng_reader.specs.declared.fault.CaptureFault.{CaptureFault}
use Rattle.pcapng_reader.specs.declared.feed.BlockFeed.{BlockFeed}
use Rattle.pcapng_reader.specs.declared.feed.Passing.{Passing}
use Rattle.pcapng_reader.specs.declared.seen.Block.{Block as SeenBlock}
use Rattle.pcapng_reader.specs.declared.feed.FeedStep.{FeedStep}
use Rattle.pcapng_reader.specs.declared.feed.FeedStep.TheVariants.{Block}

-- after more bytes a feed goes on, or has this fault
abbrev pub GoesOn : List WholeBlock → List ℕ → BlockFeed → Result FeedStep CaptureFault → Type 0
GoesOn given fed feed (Ok step) = Adds given fed feed step
GoesOn given fed feed (Err fault) = HasStopped given fed fault

-- no block was seen in place
abbrev pub IsApart : FeedStep → Type 0
IsApart (Block block) = ⊥
IsApart _ = ⊤

-- the block that was held is let go
pub record IsLetGo (old new : BlockFeed) : Type 0 where
  pub held : new.held ≡ None
  pub part : new.part.items ≡ open_part old.held old.part.items
  pub place : place_of new ≡ place_of old
  pub passing : new.passing ≡ old.passing
  pub fault : new.fault ≡ old.fault
  pub copies : new.copies ≡ old.copies

-- a block was taken in
pub record Enters (old new : BlockFeed) (content : Content) (total : ℕ) : Type 0 where
  pub place : old.offset + total < 2 ^ 64 → old.sections + 1 < 2 ^ 64 → place_of new ≡ place_after (place_of old) content total
  pub held : new.held ≡ old.held
  pub part : new.part ≡ old.part
  pub passing : new.passing ≡ old.passing
  pub fault : new.fault ≡ old.fault
  pub copies : new.copies ≡ old.copies

-- how many bytes a part lacks to be looked at again: to the end of the block's front, or of the block
abbrev pub IsWanted : Place → List ℕ → ℕ → Type 0
IsWanted place part n =
    ((length part < 12) × (n ≡ 12 - length part))
    ⊎ ((12 ≤ length part) × ((frame : Frame) → frame_in place.sections place.big part ≡ Ok frame → n ≡ frame.total - length part))

-- a part with more bytes at its end, up to the place where it is looked at
pub record IsGrown (given : List WholeBlock) (fed : List ℕ) (feed : BlockFeed) : Type 0 where
  pub parts : fed ≡ bytes_of given ++ feed.part.items
  pub follow : Follow start given (place_of feed)
  pub exact : (total : ℕ) (content : Content) → front_at (place_of feed) feed.part.items ≡ Whole total content → total ≡ length feed.part.items

-- the last bytes of a block that is passed over
pub record IsPassed (given : List WholeBlock) (fed : List ℕ) (frame : Frame) (feed : BlockFeed) : Type 0 where
  pub gone : List ℕ
  pub parts : fed ≡ bytes_of given ++ (gone ++ feed.part.items)
  pub follow : Follow start given (place_of feed)
  pub framed : frame_in feed.sections feed.big gone ≡ Ok frame
  pub needless : is_needed frame.kind ≡ false
  pub long : 12 ≤ length gone
  pub left : length gone + 4 ≡ frame.total
  pub short : length feed.part.items ≤ 4

-- the front of a block that nobody needs
pub record IsNeedless (old new : BlockFeed) : Type 0 where
  pub frame : Frame
  pub framed : frame_in old.sections old.big old.part.items ≡ Ok frame
  pub good : IsFrame frame
  pub needless : is_needed frame.kind ≡ false
  pub long : length old.part.items ≡ 12
  pub passing : new.passing ≡ Some (record { frame = frame; left = frame.total - 16 })
  pub part : new.part.items ≡ []
  pub place : place_of new ≡ place_of old
  pub held : new.held ≡ old.held
  pub fault : new.fault ≡ old.fault
  pub copies : new.copies ≡ old.copies

-- bytes with this front begin with an enhanced packet block with nothing wrong
pub record IsFramedPacket (sections : ℕ) (interfaces : List InterfaceDescription) (frame : Frame) (bytes : List ℕ) (front : PacketFront) : Type 0 where
  pub kind : frame.kind ≡ 6
  pub within : frame.total ≤ length bytes
  pub total : front.total ≡ frame.total
  pub repeated : number frame.big 4 (drop (length (take frame.total bytes) - 4) (take frame.total bytes)) ≡ frame.total
  pub says : enhanced_in sections interfaces frame.big (take frame.total bytes) ≡ Ok (Packet front.packet)

-- bytes begin with a whole enhanced packet block
pub record IsPacketFront (sections : ℕ) (big : Bool) (interfaces : List InterfaceDescription) (bytes : List ℕ) (front : PacketFront) : Type 0 where
  pub whole : front_in sections big interfaces bytes ≡ Whole front.total (Packet front.packet)
  pub start : front.packet.start ≡ 28
  pub fits : 28 + front.packet.captured + 4 ≤ front.total
  pub within : front.total ≤ length bytes

-- why a part that is less than a block is kept
abbrev pub IsKept : BlockFeed → Type 0
IsKept feed =
    (feed.copies ≡ true) ⊎ (length feed.part.items ≢ 12) ⊎ ((frame : Frame) → frame_in feed.sections feed.big feed.part.items ≡ Ok frame → is_needed frame.kind ≡ true)

-- a part that is less than a block is kept, or the block is passed over
abbrev pub KeepsOrPasses : BlockFeed → BlockFeed → Type 0
KeepsOrPasses old new = ((new ≡ old) × IsKept old) ⊎ IsNeedless old new

-- a part that has grown is a front at most, or of a block that is needed, or every block is kept
abbrev pub GrowsFrugally : Bool → Place → List ℕ → Type 0
GrowsFrugally copies place part =
    (length part ≤ 12)
    ⊎ ((frame : Frame) × (frame_in place.sections place.big part ≡ Ok frame) × (12 ≤ length part) × (length part ≤ frame.total) × ((copies ≡ true) ⊎ (is_needed frame.kind ≡ true)))

-- some bytes of a block are there that isn't whole yet
abbrev pub IsWithin : Option Passing → List ℕ → Type 0
IsWithin None kept = 0 < length kept
IsWithin (Some passing) kept = ⊤

-- no bytes of a block are there that isn't whole yet
abbrev pub IsBetween : Option Passing → List ℕ → Type 0
IsBetween None kept = kept ≡ []
IsBetween (Some passing) kept = ⊥

-- the whole block that some bytes begin with was taken
pub record TakesBlock (bytes rest : List ℕ) (old new : BlockFeed) (total : ℕ) (says : Content) (block : SeenBlock) : Type 0 where
  pub offset : block.offset ≡ old.offset
  pub lies : block.bytes.now ≡ take total bytes
  pub content : block.content ≡ says
  pub left : rest ≡ drop total bytes
  pub enters : Enters old new says total
