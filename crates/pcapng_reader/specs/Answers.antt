-- What a reader of captures answers (draft-ietf-opsawg-pcapng, whose grammar is in Grammar).
use Rattle.std.specs.Prelude.{◌≡◌, ◌⊎◌, ℕ, List, ◌++◌, map, Option, Some, None, Result, Ok, Err}
use Rattle.pcapng_reader.specs.Grammar.{WholeBlock, Reads, ReadsFront}
use Rattle.pcapng_reader.specs.Held.{seen_block}
use Rattle.pcapng_reader.specs.declared.seen.Block.{Block}
use Rattle.pcapng_reader.specs.declared.reading.Stop.{Stop}
use Rattle.pcapng_reader.specs.declared.fault.CaptureFault.{CaptureFault}
use Rattle.pcapng_reader.specs.declared.fault.CaptureFault.TheVariants.{NoMemory}

-- the bytes hold something
abbrev pub HasReading : List ℕ → Type 0
HasReading bytes = (blocks : List WholeBlock) × (fault : Option CaptureFault) × Reads bytes blocks fault

-- the bytes hold one thing at most
abbrev pub HasOneReading : List ℕ → Type 0
HasOneReading bytes = (blocks blocks' : List WholeBlock) (fault fault' : Option CaptureFault)
    → Reads bytes blocks fault → Reads bytes blocks' fault' → (blocks ≡ blocks') × (fault ≡ fault')

-- the blocks of a front are the first blocks of the whole
abbrev pub HasFronts : List ℕ → Type 0
HasFronts bytes = (blocks blocks' : List WholeBlock) (fault : Option CaptureFault)
    → ReadsFront bytes blocks → Reads bytes blocks' fault → (more : List WholeBlock) × (blocks' ≡ blocks ++ more)

-- blocks that were seen in place
abbrev pub seen_blocks : List Block → List WholeBlock
seen_blocks blocks = map seen_block blocks

-- the answer is what the bytes hold
abbrev pub GivesWhole : List ℕ → Result (List Block) Stop → Type 0
GivesWhole bytes (Ok blocks) = Reads bytes (seen_blocks blocks) None
GivesWhole bytes (Err stop) = Reads bytes (seen_blocks stop.before) (Some stop.fault)

-- memory was refused, and the answer is what a front of the bytes holds
abbrev pub GivesFront : List ℕ → Result (List Block) Stop → Type 0
GivesFront bytes (Ok blocks) = ⊥
GivesFront bytes (Err stop) = (stop.fault ≡ NoMemory) × ReadsFront bytes (seen_blocks stop.before)

-- the answer is these blocks and this fault
abbrev pub IsReading : List WholeBlock → Option CaptureFault → Result (List Block) Stop → Type 0
IsReading blocks fault (Ok answer) = (blocks ≡ seen_blocks answer) × (fault ≡ None)
IsReading blocks fault (Err stop) = (blocks ≡ seen_blocks stop.before) × (fault ≡ Some stop.fault)

-- memory was refused, and the answer begins these blocks
abbrev pub BeginsReading : List WholeBlock → Result (List Block) Stop → Type 0
BeginsReading blocks (Ok answer) = ⊥
BeginsReading blocks (Err stop) = (stop.fault ≡ NoMemory) × (more : List WholeBlock) × (blocks ≡ seen_blocks stop.before ++ more)

-- whatever the bytes hold is the answer, or the answer begins it
abbrev pub GivesOnly : List ℕ → Result (List Block) Stop → Type 0
GivesOnly bytes answer = (blocks : List WholeBlock) (fault : Option CaptureFault) → Reads bytes blocks fault → IsReading blocks fault answer ⊎ BeginsReading blocks answer
