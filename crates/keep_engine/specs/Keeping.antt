-- What `keep` gives of a capture: all of it, but of its packets those alone that the filter accepts, byte for byte and in order
-- (pcap-savefile(5) of libpcap, whose grammar is `HasRecords`; draft-ietf-opsawg-pcapng, whose grammar is `Reads`; what a filter
-- answers is `Ends` of the machine).
use Rattle.std.specs.Prelude.{◌≡◌, ℕ, ◌⊎◌, List, [], ◌∷◌, ◌++◌, Option, Some, None, option_map, Result, Ok, Err, Bool, true, false, if◌then◌else◌, nat_lt, ◌==◌}
use Rattle.std.specs.List.{AllZip}
use Rattle.filter_vm.specs.declared.machine.Outcome.{Outcome}
use Rattle.pcap_reader.specs.declared.capture.Header.{Header}
use Rattle.pcap_reader.specs.declared.capture.CapturedPacket.{CapturedPacket}
use Rattle.pcap_reader.specs.declared.capture.CaptureFault.{CaptureFault as SavefileFault}
use Rattle.pcap_reader.specs.Savefile.{HasNoHeader, HasRecords}
use Rattle.pcapng_reader.specs.declared.block.Content.{Content}
use Rattle.pcapng_reader.specs.declared.block.Content.TheVariants.{Packet}
use Rattle.pcapng_reader.specs.declared.fault.CaptureFault.{CaptureFault as PcapngFault}
use Rattle.pcapng_reader.specs.Blocks.{is_pcapng}
use Rattle.pcapng_reader.specs.Grammar.{WholeBlock, Reads}
use Rattle.pcapng_reader.specs.Packets.{captured_in}
use Rattle.capture_reader.specs.declared.fault.ReadFault.{ReadFault}
use Rattle.capture_reader.specs.declared.fault.ReadFault.TheVariants.{Savefile, Pcapng}
use Rattle.capture_reader.specs.Entries.{savefile_link}
use Rattle.console.specs.declared.filter.CodeFault.{CodeFault}
use Rattle.console.specs.Choosing.{is_link}
use Rattle.console.specs.CodeWords.{code_fault_line}
use Rattle.console.specs.Expressions.{IsFilter, explanation}
use Rattle.console.specs.Faults.{fault_status, fault_text}
use Rattle.console.specs.Programs.{Programs}
use Rattle.console.specs.Refusing.{AnswersLinked}
use Rattle.engine_io.specs.Reading.{BeginsWith}
use Rattle.keep_engine.specs.declared.choice.Wanted.{Wanted}

-- whether the filter accepts a packet with this outcome: the verdict is above 0; or, inverted, whether it doesn't
abbrev pub is_picked : Bool → Outcome → Bool
is_picked false outcome = nat_lt 0 outcome.verdict
is_picked true outcome = outcome.verdict == 0

-- whether a packet of this link type is kept: it is wanted, and the outcome of its link type's program is picked; or why there is no program
abbrev pub Decides : Programs → Wanted → ℕ → CapturedPacket → Result Bool CodeFault → Type 0
Decides programs wanted link packet (Ok is_kept) =
    ((is_link wanted.link link ≡ false) × (is_kept ≡ false))
    ⊎ ((is_link wanted.link link ≡ true) × (outcome : Outcome) × AnswersLinked programs (link, packet) outcome × (is_kept ≡ is_picked wanted.inverted outcome))
Decides programs wanted link packet (Err fault) = (is_link wanted.link link ≡ true) × (programs link ≡ Err fault)

-- what is kept of some bytes, all or nothing; or why CODE has no program for their packet
abbrev pub Part : Type 0
Part = Result (List ℕ) CodeFault

-- of the bytes that hold a packet
abbrev pub part_of : List ℕ → Result Bool CodeFault → Part
part_of bytes (Ok is_kept) = Ok (if is_kept then bytes else [])
part_of bytes (Err fault) = Err fault

-- of records, for whose packets these are the answers
abbrev pub parts_of : List (List ℕ) → List (Result Bool CodeFault) → List Part
parts_of [] answers = []
parts_of (bytes ∷ records) [] = []
parts_of (bytes ∷ records) (answer ∷ answers) = part_of bytes answer ∷ parts_of records answers

-- a savefile: its header is kept, and the records of it that are; its fault is what follows its whole records
pub record KeepsRecords (programs : Programs) (wanted : Wanted) (input : List ℕ) (h : Header) (fault : Option SavefileFault) (kept : List Part) : Type 0 where
  pub packets : List CapturedPacket
  pub capture : HasRecords input h packets fault
  pub answers : List (Result Bool CodeFault)
  pub decided : AllZip (Decides programs wanted (savefile_link h)) packets answers
  pub is : kept ≡ Ok capture.head ∷ parts_of capture.records answers

-- of one that has no header nothing is kept
abbrev pub KeepsSavefile : Programs → Wanted → List ℕ → Option SavefileFault → List Part → Type 0
KeepsSavefile programs wanted input fault kept =
    ((h : Header) × KeepsRecords programs wanted input h fault kept)
    ⊎ ((wrong : SavefileFault) × (fault ≡ Some wrong) × HasNoHeader input wrong × (kept ≡ []))

-- a block is kept, unless it has a packet that isn't
abbrev pub LeavesBy : Programs → Wanted → Content → List ℕ → Part → Type 0
LeavesBy programs wanted (Packet entry) bytes part =
    (answer : Result Bool CodeFault) × Decides programs wanted entry.link (record { bytes = captured_in entry bytes; original = entry.original }) answer
    × (part ≡ part_of bytes answer)
LeavesBy programs wanted _ bytes part = part ≡ Ok bytes

abbrev pub Leaves : Programs → Wanted → WholeBlock → Part → Type 0
Leaves programs wanted block part = LeavesBy programs wanted block.content block.bytes part

-- a capture in pcapng; its fault is what follows its whole blocks
pub record KeepsBlocks (programs : Programs) (wanted : Wanted) (input : List ℕ) (fault : Option PcapngFault) (kept : List Part) : Type 0 where
  pub blocks : List WholeBlock
  pub reads : Reads input blocks fault
  pub each : AllZip (Leaves programs wanted) blocks kept

-- an input with this fault: a capture in pcapng, or else a savefile
abbrev pub Keeps : Programs → Wanted → List ℕ → Option ReadFault → List Part → Type 0
Keeps programs wanted input fault kept =
    ((is_pcapng input ≡ true) × (wrong : Option PcapngFault) × (fault ≡ option_map Pcapng wrong) × KeepsBlocks programs wanted input wrong kept)
    ⊎ ((is_pcapng input ≡ false) × (wrong : Option SavefileFault) × (fault ≡ option_map Savefile wrong) × KeepsSavefile programs wanted input wrong kept)

-- what is written: what is kept, one after the other, up to a packet for which CODE has no program
abbrev pub text_of : List Part → List ℕ
text_of [] = []
text_of (Ok bytes ∷ kept) = bytes ++ text_of kept
text_of (Err fault ∷ kept) = []

-- why it has none, if there is such a packet
abbrev pub stop_of : List Part → Option CodeFault
stop_of [] = None
stop_of (Ok bytes ∷ kept) = stop_of kept
stop_of (Err fault ∷ kept) = Some fault

-- the same of a front of the input that is a capture without fault
abbrev pub KeepsOfFront : Programs → Wanted → List ℕ → List Part → Type 0
KeepsOfFront programs wanted input kept = (front : List ℕ) × (rest : List ℕ) × (input ≡ front ++ rest) × Keeps programs wanted front None kept

-- text begins what is kept of such a front, or it is nothing
abbrev pub KeepsFront : Programs → Wanted → List ℕ → List ℕ → Type 0
KeepsFront programs wanted input text = (text ≡ []) ⊎ ((kept : List Part) × KeepsOfFront programs wanted input kept × BeginsWith text (text_of kept))

-- the status and the line that go with a fault
abbrev pub Says : Option ReadFault → ℕ → List ℕ → Type 0
Says fault status line = (status ≡ fault_status fault) × (line ≡ fault_text fault)

-- what is kept of an input; or of a front of it, whose last packet is one for which CODE has no program. These lines say which
abbrev pub KeepsInput : List ℕ → Programs → Wanted → List ℕ → ℕ → List ℕ → List ℕ → Type 0
KeepsInput code programs wanted input status lines text = (kept : List Part) × (text ≡ text_of kept)
    × (((fault : Option ReadFault) × Keeps programs wanted input fault kept × (stop_of kept ≡ None) × Says fault status lines)
    ⊎ ((stop : CodeFault) × KeepsOfFront programs wanted input kept × (stop_of kept ≡ Some stop) × (status ≡ 1) × (lines ≡ code_fault_line stop ++ explanation code stop)))

-- what `keep` gives of a code that gives something to run, and the lines for what is wrong
abbrev pub KeepsGoodCode : List ℕ → ℕ → Wanted → List ℕ → ℕ → List ℕ → List ℕ → Type 0
KeepsGoodCode code accept wanted input status lines text = (programs : Programs) × IsFilter code accept programs × KeepsInput code programs wanted input status lines text

-- what it has given of an input where it failed
abbrev pub KeepsPart : List ℕ → ℕ → Wanted → List ℕ → List ℕ → Type 0
KeepsPart code accept wanted input text = (text ≡ []) ⊎ ((programs : Programs) × IsFilter code accept programs × KeepsFront programs wanted input text)
