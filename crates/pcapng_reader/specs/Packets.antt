-- The packets of a capture in pcapng (draft-ietf-opsawg-pcapng, "Enhanced Packet Block", "Simple Packet Block" and "Packet Block").
use Rattle.std.specs.Prelude.{◌≡◌, ◌≤◌, ◌+◌, ℕ, List, [], ◌∷◌, ◌++◌, length, take, drop}
use Rattle.pcapng_reader.specs.Grammar.{WholeBlock, Place, IsBlock}
use Rattle.pcapng_reader.specs.declared.block.PacketEntry.{PacketEntry}
use Rattle.pcapng_reader.specs.declared.block.Content.{Content}
use Rattle.pcapng_reader.specs.declared.block.Content.TheVariants.{Packet}

-- the captured bytes of a packet in its block: what follows them is padding, options or the total length
abbrev pub captured_in : PacketEntry → List ℕ → List ℕ
captured_in entry block = take entry.captured (drop entry.start block)

-- the packet of a block that says this, if it has one, with its captured bytes
abbrev pub packets_by : Content → List ℕ → List (PacketEntry × List ℕ)
packets_by (Packet entry) block = (entry, captured_in entry block) ∷ []
packets_by _ block = []

-- the packets of blocks, in order
abbrev pub packets_in : List WholeBlock → List (PacketEntry × List ℕ)
packets_in [] = []
packets_in (block ∷ blocks) = packets_by block.content block.bytes ++ packets_in blocks

-- the captured bytes of each packet lie in its block, before the total length at its end, and are at most 262144
abbrev pub FitTheirBlocks : Type 0
FitTheirBlocks = (place : Place) (block : WholeBlock) (entry : PacketEntry) → IsBlock place block → block.content ≡ Packet entry
    → (entry.captured ≤ 262144) × (entry.start + entry.captured + 4 ≤ length block.bytes) × (length (captured_in entry block.bytes) ≡ entry.captured)
