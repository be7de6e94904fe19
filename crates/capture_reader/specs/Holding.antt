-- What a feed holds of the bytes that it was given, cut anywhere.
use Rattle.std.specs.Prelude.{◌≡◌, ℕ, ◌<◌, ◌≤◌, ◌⊎◌, true, false, List, [], length, Option, Some, None, Result, Ok, Err}
use Rattle.pcapng_reader.specs.Grammar.{WholeBlock}
use Rattle.pcapng_reader.specs.Held.{HasStopped as StopsBlocks, HoldsAfter as HoldsBlocks, held_block}
use Rattle.pcapng_reader.specs.declared.fault.CaptureFault.{CaptureFault as PcapngFault}
use Rattle.pcapng_reader.specs.declared.feed.BlockFeed.{BlockFeed}
use Rattle.capture_reader.specs.declared.entry.Found.{Found}
use Rattle.capture_reader.specs.declared.fault.ReadFault.{ReadFault}
use Rattle.capture_reader.specs.declared.fault.ReadFault.TheVariants.{Savefile as OfSavefile, Pcapng as OfPcapng}
use Rattle.capture_reader.specs.declared.feed.CaptureFeed.{CaptureFeed}
use Rattle.capture_reader.specs.declared.feed.Format.{Format}
use Rattle.capture_reader.specs.declared.feed.Format.TheVariants.{Unknown, Savefile, Pcapng}
use Rattle.capture_reader.specs.Faults.{IsLasting, is_refusal}
use Rattle.capture_reader.specs.Entries.{EntryBytes, block_entry, pcapng_entries}
use Rattle.capture_reader.specs.Captures.{HasEntries, HasFront}
use Rattle.pcapng_reader.specs.Blocks.{is_pcapng}
use Rattle.capture_reader.specs.Recording.{HoldsRecords, StopsRecords, held_record}
use Rattle.capture_reader.specs.Steps.{AdvancesBy}

-- the fault that a feed has met
abbrev pub held_fault : CaptureFeed → Option ReadFault
held_fault feed = feed.fault

-- the entry of a block, if there is one
abbrev pub entry_of : Option WholeBlock → Option EntryBytes
entry_of None = None
entry_of (Some block) = block_entry block.content block.bytes

-- the entry that a feed holds
abbrev pub entry_in : Format → Option EntryBytes
entry_in Unknown = None
entry_in (Savefile records) = held_record records
entry_in (Pcapng blocks) = entry_of (held_block blocks)

abbrev pub held_entry : CaptureFeed → Option EntryBytes
held_entry feed = entry_in feed.format

-- a feed of blocks was given these bytes, and gave all the entries in them
abbrev pub HoldsPcapng : BlockFeed → List EntryBytes → List ℕ → Type 0
HoldsPcapng feed given fed = (whole : List WholeBlock) × HoldsBlocks whole fed feed × (given ≡ pcapng_entries whole)

-- what a feed without a fault holds of the bytes after the entries that it gave, by the format that their first four bytes tell
abbrev pub HoldsAs : List EntryBytes → List ℕ → List ℕ → Format → Type 0
HoldsAs given fed first Unknown = (given ≡ []) × (first ≡ fed) × (length fed < 4)
HoldsAs given fed first (Savefile records) = (4 ≤ length fed) × (is_pcapng fed ≡ false) × HoldsRecords records given fed
HoldsAs given fed first (Pcapng blocks) = (is_pcapng fed ≡ true) × HoldsPcapng blocks given fed

-- a fault that stands whatever follows is in a capture in pcapng after these entries, or memory was refused after a front of them
abbrev pub StopsPcapng : List EntryBytes → List ℕ → PcapngFault → Type 0
StopsPcapng given fed fault = (whole : List WholeBlock) × StopsBlocks whole fed fault × (given ≡ pcapng_entries whole)

-- the same by the format of the fault. No public clause cites this.
abbrev pub StopsAs : List EntryBytes → List ℕ → ReadFault → Type 0
StopsAs given fed (OfSavefile fault) = (is_pcapng fed ≡ false) × StopsRecords given fed fault
StopsAs given fed (OfPcapng fault) = (is_pcapng fed ≡ true) × StopsPcapng given fed fault

-- the same of a capture of either format
abbrev pub HasStopped : List EntryBytes → List ℕ → ReadFault → Type 0
HasStopped given fed fault = (IsLasting fault × HasEntries fed given (Some fault)) ⊎ ((is_refusal fault ≡ true) × HasFront fed given)

abbrev pub HoldsAt : List EntryBytes → List ℕ → CaptureFeed → Option ReadFault → Type 0
HoldsAt given fed feed None = HoldsAs given fed feed.first.items feed.format
HoldsAt given fed feed (Some fault) = HasStopped given fed fault

-- a feed was given these bytes, and gave all the entries in them
abbrev pub HoldsAfter : CaptureFeed → List EntryBytes → List ℕ → Type 0
HoldsAfter feed given fed = HoldsAt given fed feed (held_fault feed)

-- a feed took a front of some bytes, or has a fault in them after the entries that it gave
abbrev pub Advances : List ℕ → List ℕ → CaptureFeed → CaptureFeed → Result Found ReadFault → Type 0
Advances bytes rest old new result = AdvancesBy (HoldsAfter old) (HoldsAfter new) HasStopped (held_entry new) bytes rest result

-- a call's answer is the feed's fault
abbrev pub IsTold : Option ReadFault → Result Found ReadFault → Type 0
IsTold fault (Ok found) = fault ≡ None
IsTold fault (Err f) = fault ≡ Some f

-- how the bytes end after these entries: well, or with a fault; after a refusal of memory a front of them has these entries
abbrev pub EndsAt : List EntryBytes → List ℕ → ReadFault → Type 0
EndsAt given fed fault = ((is_refusal fault ≡ false) × HasEntries fed given (Some fault)) ⊎ ((is_refusal fault ≡ true) × HasFront fed given)

abbrev pub Ends : List EntryBytes → List ℕ → Result (Unit {0}) ReadFault → Type 0
Ends given fed (Ok done) = HasEntries fed given None
Ends given fed (Err fault) = EndsAt given fed fault
