-- What a sieve has taken of a capture that comes in pieces, and what is kept of it. No public clause cites these.
use Rattle.std.specs.Prelude.{◌≡◌, ◌≢◌, ℕ, ◌^◌, ◌<◌, ◌≤◌, ◌⊎◌, List, [], ◌∷◌, ◌++◌, length, drop, Option, Some, None, Result, Ok, Err, Bool, true, false, IsSome, ⊤}
use Rattle.std.specs.List.{AllZip, concat}
use Rattle.pcap_reader.specs.declared.capture.Header.{Header}
use Rattle.pcap_reader.specs.declared.capture.CapturedPacket.{CapturedPacket}
use Rattle.pcap_reader.specs.declared.capture.CaptureFault.{CaptureFault}
use Rattle.pcap_reader.specs.declared.capture.CaptureFault.TheVariants.{TruncatedHeader}
use Rattle.pcap_reader.specs.declared.feed.Seen.{Seen}
use Rattle.pcap_reader.specs.Held.{seen_packet}
use Rattle.pcap_reader.specs.Savefile.{HasNoHeader, IsHeader, IsLong, IsPart, IsRecord}
use Rattle.pcapng_reader.specs.declared.fault.CaptureFault.TheVariants.{NoMemory}
use Rattle.pcapng_reader.specs.declared.feed.BlockFeed.{BlockFeed}
use Rattle.pcapng_reader.specs.declared.seen.Skimmed.{Skimmed}
use Rattle.pcapng_reader.specs.declared.feed.FeedStep.{FeedStep}
use Rattle.pcapng_reader.specs.declared.feed.FeedStep.TheVariants.{Block, Held}
use Rattle.pcapng_reader.specs.Blocks.{is_pcapng}
use Rattle.pcapng_reader.specs.Grammar.{WholeBlock}
use Rattle.pcapng_reader.specs.Held.{HoldsAfter, copies_all, held_block, held_fault, seen_block}
use Rattle.console.specs.declared.filter.CodeFault.{CodeFault}
use Rattle.console.specs.CodeWords.{code_fault_line}
use Rattle.console.specs.Expressions.{explanation}
use Rattle.console.specs.Programs.{Programs}
use Rattle.keep_engine.specs.declared.choice.Wanted.{Wanted}
use Rattle.keep_engine.specs.declared.choice.KeptBytes.{KeptBytes}
use Rattle.keep_engine.specs.declared.sifting.TakenRecords.{TakenRecords}
use Rattle.keep_engine.specs.declared.record_sieve.RecordSieve.{RecordSieve}
use Rattle.keep_engine.specs.declared.block_sieve.BlockSieve.{BlockSieve}
use Rattle.keep_engine.specs.declared.sieve.Format.{Format}
use Rattle.keep_engine.specs.declared.sieve.Format.TheVariants.{Unknown, Savefile, Pcapng}
use Rattle.keep_engine.specs.declared.sieve.Sieve.{Sieve}
use Rattle.keep_engine.specs.declared.keeping.CopyEnd.{CopyEnd}
use Rattle.keep_engine.specs.declared.keeping.CopyEnd.TheVariants.{Capture, Code}
use Rattle.keep_engine.specs.Keeping.{Decides, Keeps, KeepsOfFront, Leaves, Part, Says, part_of, parts_of, stop_of, text_of}
use Rattle.capture_reader.specs.Entries.{savefile_link}

-- what was kept, and then some parts more: nothing after a stop
abbrev pub text_after : Option CodeFault → List Part → List ℕ → List ℕ
text_after None kept text = text ++ text_of kept
text_after (Some fault) kept text = text

abbrev pub stop_after : Option CodeFault → List Part → Option CodeFault
stop_after None kept = stop_of kept
stop_after (Some fault) kept = Some fault

abbrev pub Appends : List Part → KeptBytes → KeptBytes → Type 0
Appends kept before after = (after.bytes.items ≡ text_after before.stop kept before.bytes.items) × (after.stop ≡ stop_after before.stop kept)

-- what is kept of the bytes that hold one packet was appended
abbrev pub KeepsOne : Programs → Wanted → ℕ → Seen → List ℕ → KeptBytes → KeptBytes → Type 0
KeepsOne programs wanted link packet bytes before after =
    (answer : Result Bool CodeFault) × Decides programs wanted link (seen_packet packet) answer × Appends (part_of bytes answer ∷ []) before after

-- a sieve took some bytes more, and appended what is kept of them
pub record Sifts {S : Type 0} (Has : List ℕ → S → List Part → Type 0) (piece : List ℕ) (old new : S) (before after : KeptBytes) : Type 0 where
  pub more : List Part
  pub pushed : Appends more before after
  pub goes : (taken : List ℕ) (kept : List Part) → Has taken old kept → length (taken ++ piece) < 2 ^ 64 → Has (taken ++ piece) new (kept ++ more)

-- Records of a savefile

-- whole records were taken off the front of some bytes, and those that are kept were appended
pub record TakesRecords (programs : Programs) (wanted : Wanted) (h : Header) (bytes rest : List ℕ) (before after : KeptBytes) : Type 0 where
  pub records : List (List ℕ)
  pub packets : List CapturedPacket
  pub answers : List (Result Bool CodeFault)
  pub whole : bytes ≡ concat records ++ rest
  pub each : AllZip (IsRecord h.big) records packets
  pub decided : AllZip (Decides programs wanted (savefile_link h)) packets answers
  pub pushed : Appends (parts_of records answers) before after

-- after the whole records comes one that is too long, or a part of one, or nothing
abbrev pub IsLeft : Bool → Bool → List ℕ → Type 0
IsLeft big true rest = IsLong big rest
IsLeft big false rest = (rest ≡ []) ⊎ IsPart big rest

-- the records of so many bytes were taken, and no more are whole
abbrev pub TakesTo : Programs → Wanted → Header → List ℕ → KeptBytes → KeptBytes → TakenRecords → Type 0
TakesTo programs wanted h bytes before after taken = (taken.count ≤ length bytes)
    × TakesRecords programs wanted h bytes (drop taken.count bytes) before after × IsLeft h.big taken.long (drop taken.count bytes)

-- what was taken are a header, whole records and a part, and this is what is kept of them
pub record Sifted (programs : Programs) (wanted : Wanted) (taken : List ℕ) (h : Header) (part : List ℕ) (kept : List Part) : Type 0 where
  pub head : List ℕ
  pub records : List (List ℕ)
  pub packets : List CapturedPacket
  pub answers : List (Result Bool CodeFault)
  pub whole : taken ≡ (head ++ concat records) ++ part
  pub header : IsHeader head h
  pub each : AllZip (IsRecord h.big) records packets
  pub decided : AllZip (Decides programs wanted (savefile_link h)) packets answers
  pub is : kept ≡ Ok head ∷ parts_of records answers

-- the same where the header isn't whole, or none
abbrev pub SiftedAt : Programs → Wanted → List ℕ → Result Header CaptureFault → Bool → List ℕ → List Part → Type 0
SiftedAt programs wanted taken (Err fault) long part kept = (part ≡ taken) × HasNoHeader taken fault × (kept ≡ [])
SiftedAt programs wanted taken (Ok h) long part kept = Sifted programs wanted taken h part kept × IsLeft h.big long part

-- a sieve of records took these bytes, and this is what is kept of them
abbrev pub HasSiftedRecords : Programs → Wanted → List ℕ → RecordSieve → List Part → Type 0
HasSiftedRecords programs wanted taken sieve kept = SiftedAt programs wanted taken sieve.header sieve.long sieve.part.items kept

-- bytes have no header yet, or none; or they have one, which was appended, and the records after it were taken
abbrev pub OpensAt : Programs → Wanted → List ℕ → Result Header CaptureFault → Bool → List ℕ → KeptBytes → KeptBytes → Type 0
OpensAt programs wanted bytes (Err fault) long part before after = (part ≡ bytes) × HasNoHeader bytes fault × (after ≡ before)
OpensAt programs wanted bytes (Ok h) long part before after = (head : List ℕ) × (rest : List ℕ) × (bytes ≡ head ++ rest) × IsHeader head h
    × (between : KeptBytes) × Appends (Ok head ∷ []) before between × TakesRecords programs wanted h rest part between after × IsLeft h.big long part

abbrev pub Opens : Programs → Wanted → List ℕ → RecordSieve → KeptBytes → KeptBytes → Type 0
Opens programs wanted bytes sieve before after = OpensAt programs wanted bytes sieve.header sieve.long sieve.part.items before after

-- a fault stands in what was taken, whatever follows
abbrev pub StoppedAt : Result Header CaptureFault → Bool → Type 0
StoppedAt (Err fault) long = fault ≢ TruncatedHeader
StoppedAt (Ok h) long = long ≡ true

abbrev pub HasStoppedRecords : RecordSieve → Type 0
HasStoppedRecords sieve = StoppedAt sieve.header sieve.long

-- Blocks of a capture in pcapng

-- what is kept of a block was appended
abbrev pub KeepsBlock : Programs → Wanted → WholeBlock → KeptBytes → KeptBytes → Type 0
KeepsBlock programs wanted block before after = (part : Part) × Leaves programs wanted block part × Appends (part ∷ []) before after

-- the same for a packet block that was skimmed
abbrev pub KeepsSkimmed : Programs → Wanted → Skimmed → KeptBytes → KeptBytes → Type 0
KeepsSkimmed programs wanted skimmed before after = (answer : Result Bool CodeFault)
    × Decides programs wanted skimmed.packet.link (record { bytes = skimmed.bytes.now; original = skimmed.packet.original }) answer
    × Appends (part_of skimmed.block.now answer ∷ []) before after

-- the same for a block that a feed holds, if it holds one
abbrev pub KeepsHeld : Programs → Wanted → Option WholeBlock → KeptBytes → KeptBytes → Type 0
KeepsHeld programs wanted (Some block) before after = KeepsBlock programs wanted block before after
KeepsHeld programs wanted None before after = after ≡ before

-- what is kept of the block that a step made whole was appended, if it did
abbrev pub KeepsStep : Programs → Wanted → BlockFeed → FeedStep → KeptBytes → KeptBytes → Type 0
KeepsStep programs wanted feed (Block block) before after = KeepsBlock programs wanted (seen_block block) before after
KeepsStep programs wanted feed Held before after = KeepsHeld programs wanted (held_block feed) before after
KeepsStep programs wanted feed _ before after = after ≡ before

-- a sieve of blocks took these bytes, and this is what is kept of their whole blocks
pub record HasSiftedBlocks (programs : Programs) (wanted : Wanted) (taken : List ℕ) (sieve : BlockSieve) (kept : List Part) : Type 0 where
  pub blocks : List WholeBlock
  pub holds : HoldsAfter blocks taken sieve.feed
  pub every : copies_all sieve.feed ≡ true
  pub fault : sieve.fault ≡ held_fault sieve.feed
  pub memory : held_fault sieve.feed ≢ Some NoMemory
  pub each : AllZip (Leaves programs wanted) blocks kept

-- Either format

-- what was taken, and what is kept of it, by the format that the first four bytes tell
abbrev pub SiftedBy : Programs → Wanted → List ℕ → Format → List ℕ → List Part → Type 0
SiftedBy programs wanted taken Unknown front kept = (front ≡ taken) × (length taken < 4) × (kept ≡ [])
SiftedBy programs wanted taken (Savefile sieve) front kept = (4 ≤ length taken) × (is_pcapng taken ≡ false) × HasSiftedRecords programs wanted taken sieve kept
SiftedBy programs wanted taken (Pcapng sieve) front kept = (4 ≤ length taken) × (is_pcapng taken ≡ true) × HasSiftedBlocks programs wanted taken sieve kept

abbrev pub HasSifted : Programs → Wanted → List ℕ → Sieve → List Part → Type 0
HasSifted programs wanted taken sieve kept = SiftedBy programs wanted taken sieve.format sieve.front.items kept

-- a fault stands in what was taken, whatever follows
abbrev pub StoppedBy : Format → Type 0
StoppedBy Unknown = ⊥
StoppedBy (Savefile sieve) = HasStoppedRecords sieve
StoppedBy (Pcapng sieve) = IsSome sieve.fault

abbrev pub HasStopped : Sieve → Type 0
HasStopped sieve = StoppedBy sieve.format

-- the first bytes, of which this is kept
abbrev pub Begins : Programs → Wanted → List ℕ → Sieve → KeptBytes → KeptBytes → Type 0
Begins programs wanted bytes sieve before after = (more : List Part) × Appends more before after × (length bytes < 2 ^ 64 → HasSifted programs wanted bytes sieve more)

-- How a copy ends

-- at the end of the capture or at a fault of it, with all that is kept; or at a packet for which CODE has no program
abbrev pub EndsKept : Programs → Wanted → List ℕ → CopyEnd → List ℕ → Type 0
EndsKept programs wanted input (Capture fault) text = (kept : List Part) × (text ≡ text_of kept) × Keeps programs wanted input fault kept × (stop_of kept ≡ None)
EndsKept programs wanted input (Code stop) text = (kept : List Part) × (text ≡ text_of kept) × KeepsOfFront programs wanted input kept × (stop_of kept ≡ Some stop)

-- before the input's end
abbrev pub IsStopped : CopyEnd → Type 0
IsStopped (Capture fault) = IsSome fault
IsStopped (Code stop) = ⊤

-- the status and the lines that go with it
abbrev pub SaysEnding : List ℕ → CopyEnd → ℕ → List ℕ → Type 0
SaysEnding code (Capture fault) status lines = Says fault status lines
SaysEnding code (Code stop) status lines = (status ≡ 1) × (lines ≡ code_fault_line stop ++ explanation code stop)
