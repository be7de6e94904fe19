-- A capture in pcapng whose packets are taken where they lie in its file. No public clause cites these.
use Rattle.std.specs.Prelude.{◌≡◌, ◌⊎◌, ℕ, ◌^◌, ◌<◌, List, ◌++◌, length, Some}
use Rattle.pcap_reader.specs.declared.capture.CapturedPacket.{CapturedPacket}
use Rattle.pcapng_reader.specs.declared.block.Content.{Content}
use Rattle.pcapng_reader.specs.declared.fault.CaptureFault.{CaptureFault}
use Rattle.pcapng_reader.specs.declared.fault.CaptureFault.TheVariants.{NoMemory}
use Rattle.pcapng_reader.specs.declared.feed.BlockFeed.{BlockFeed}
use Rattle.pcapng_reader.specs.Grammar.{WholeBlock, Reads}
use Rattle.pcapng_reader.specs.Held.{HoldsAfter}
use Rattle.capture_reader.specs.Entries.{block_entry, listed, packets_in, pcapng_entries}

-- the last bytes of a file
abbrev pub IsLastOf : List ℕ → List ℕ → Type 0
IsLastOf rest file = (front : List ℕ) × (file ≡ front ++ rest)

-- the packet of a block that says this, if it has one
abbrev pub block_packets : Content → List ℕ → List CapturedPacket
block_packets content bytes = packets_in (listed (block_entry content bytes))

-- a front of some bytes was taken, and the packets of its blocks were added to those before
pub record SharesOn (bytes rest : List ℕ) (old new : BlockFeed) (before after : List CapturedPacket) : Type 0 where
  pub front : List ℕ
  pub parts : bytes ≡ front ++ rest
  pub goes : (whole : List WholeBlock) (fed : List ℕ) → HoldsAfter whole fed old → before ≡ packets_in (pcapng_entries whole) → length (fed ++ front) < 2 ^ 64
      → (more : List WholeBlock) × HoldsAfter more (fed ++ front) new × (after ≡ packets_in (pcapng_entries more))

-- there is a fault in the bytes after the blocks that were taken, or memory was refused
abbrev pub StopsSharing : List ℕ → BlockFeed → CaptureFault → Type 0
StopsSharing bytes old fault = (fault ≡ NoMemory)
    ⊎ ((whole : List WholeBlock) (fed : List ℕ) → HoldsAfter whole fed old → length (fed ++ bytes) < 2 ^ 64 → Reads (fed ++ bytes) whole (Some fault))

-- all but the rest of a file was taken, with these packets
pub record HasShared (file rest : List ℕ) (feed : BlockFeed) (packets : List CapturedPacket) : Type 0 where
  pub whole : List WholeBlock
  pub done : List ℕ
  pub parts : file ≡ done ++ rest
  pub holds : HoldsAfter whole done feed
  pub are : packets ≡ packets_in (pcapng_entries whole)
