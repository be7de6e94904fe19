-- What `match` shows: a line for each packet, up to the first input line that spells none, to the fault of a capture, or to the first packet for
-- whose link type CODE has no program.
use Rattle.std.specs.Prelude.{◌≡◌, ℕ, ◌+◌, ◌<◌, ◌≤◌, ◌⊎◌, List, [], ◌∷◌, ◌++◌, length, codes, Ok, Err, flat_map, Option, Some, None, IsOk, IsErr}
use Rattle.std.specs.List.{AllZip}
use Rattle.std.specs.Fmt.{decimal}
use Rattle.std.specs.Str.Lines.{lines}
use Rattle.hex.specs.Hex.{decode_of}
use Rattle.bpf_insn.specs.declared.insn.Insn.{Insn}
use Rattle.filter_vm.specs.declared.machine.Outcome.{Outcome}
use Rattle.bpf_insn.specs.Machine.{Packet, Ends}
use Rattle.capture_reader.specs.declared.fault.ReadFault.{ReadFault}
use Rattle.capture_reader.specs.Entries.{EntryBytes}
use Rattle.capture_reader.specs.Captures.{HasEntries}
use Rattle.console.specs.declared.form.PacketForm.{PacketForm}
use Rattle.console.specs.declared.form.PacketForm.TheVariants.{Digits, Capture}
use Rattle.console.specs.declared.filter.CodeFault.{CodeFault}
use Rattle.console.specs.declared.ending.Ending.{Ending}
use Rattle.console.specs.declared.ending.Ending.TheVariants.{Done, BadLine, Refused, Fault}
use Rattle.console.specs.Choosing.{chosen}
use Rattle.console.specs.CodeWords.{code_fault_line}
use Rattle.console.specs.Expressions.{IsFilter, explanation_of}
use Rattle.console.specs.Programs.{Programs}
use Rattle.console.specs.Refusing.{AnswersLinked, LinkedPacket, linked_in, refused_in, served}
use Rattle.engine_io.specs.declared.input.TheConstants.{INPUT_BYTES}
use Rattle.engine_io.specs.declared.source.Source.{Source}
use Rattle.engine_io.specs.Devices.{Gets}
use Rattle.engine_io.specs.Reading.{BeginsWith, IsKnown, ShowsTooLong}
use Rattle.console.specs.Faults.{fault_line}
use Rattle.engine_io.specs.declared.fault.EngineFault.{EngineFault}
use Rattle.engine_io.specs.declared.fault.EngineFault.TheVariants.{ReadFailed, WriteFailed, NoMemory}

-- a line spells a packet: an even number of hexadecimal digits of either case, two for each byte, and nothing else;
-- the packet was captured whole
abbrev pub Hex : List ℕ → Packet → Type 0
Hex line packet = (decode_of line ≡ Ok packet.bytes) × (packet.original ≡ length packet.bytes)

-- the program of the link type ends on the packet that a line spells with this outcome
abbrev pub Answers : Programs → ℕ → List ℕ → Outcome → Type 0
Answers programs link line outcome =
    (program : List Insn) × (programs link ≡ Ok program) × (packet : Packet) × Hex line packet × Ends program packet outcome.verdict outcome.steps

-- the verdict and the steps of an outcome, on a line
abbrev pub outcome_line : Outcome → List ℕ
outcome_line outcome = decimal outcome.verdict ++ codes " " ++ decimal outcome.steps ++ codes "\n"

-- the complaint about line number n
abbrev pub bad_line : ℕ → List ℕ
bad_line n = codes "line " ++ decimal n ++ codes ": BadHex\n"

-- the lines stop after the good ones: at their end, or at a line that spells no packet, of which there is a complaint
abbrev pub Stops : List (List ℕ) → List (List ℕ) → ℕ → List ℕ → Type 0
Stops all good status complaint =
    ((all ≡ good) × (status ≡ 0) × (complaint ≡ []))
    ⊎ ((bad : List ℕ) × (more : List (List ℕ)) × (all ≡ good ++ bad ∷ more) × IsErr (decode_of bad)
    × (status ≡ 1) × (complaint ≡ bad_line (length good + 1)))

-- why a line isn't run: it spells no packet, or CODE has this fault over the link type
abbrev pub IsNotRun : Programs → ℕ → List ℕ → Option CodeFault → Type 0
IsNotRun programs link line None = IsErr (decode_of line)
IsNotRun programs link line (Some fault) = IsOk (decode_of line) × (programs link ≡ Err fault)

-- what comes at line number n then
abbrev pub line_ending : ℕ → Option CodeFault → Ending
line_ending n None = BadLine n
line_ending n (Some fault) = Refused fault

-- the lines stop after the good ones: at their end, or at a line that isn't run
abbrev pub StopsBy : Programs → ℕ → List (List ℕ) → List (List ℕ) → Ending → Type 0
StopsBy programs link all good ending =
    ((all ≡ good) × (ending ≡ Done))
    ⊎ ((bad : List ℕ) × (more : List (List ℕ)) × (all ≡ good ++ bad ∷ more)
    × (stop : Option CodeFault) × IsNotRun programs link bad stop × (ending ≡ line_ending (length good + 1) stop))

-- the last line, if there is one: a complaint about an input line, a fault of CODE, or a capture's fault
abbrev pub ending_text : Ending → List ℕ
ending_text Done = []
ending_text (BadLine number) = bad_line number
ending_text (Refused fault) = code_fault_line fault
ending_text (Fault fault) = fault_line fault

abbrev pub ending_status : Ending → ℕ
ending_status Done = 0
ending_status (BadLine number) = 1
ending_status (Refused fault) = 1
ending_status (Fault fault) = 1

-- the fault of CODE that was met, if one was
abbrev pub ending_stop : Ending → Option CodeFault
ending_stop (Refused fault) = Some fault
ending_stop ending = None

-- what comes after the packets of a capture: the fault of CODE that the next one met, or else the capture's, or its end
abbrev pub capture_ending : Option CodeFault → Option ReadFault → Ending
capture_ending (Some stop) fault = Refused stop
capture_ending None (Some fault) = Fault fault
capture_ending None None = Done

-- the status and the text of outcomes and of what comes after them
abbrev pub IsShown : List Outcome → Ending → ℕ → List ℕ → Option CodeFault → Type 0
IsShown outcomes ending status text stop =
    (status ≡ ending_status ending) × (text ≡ flat_map outcome_line outcomes ++ ending_text ending) × (stop ≡ ending_stop ending)

-- what is shown of these lines, and the status and the fault of CODE that go with it
pub record ShowsLines (programs : Programs) (link : ℕ) (all : List (List ℕ)) (status : ℕ) (text : List ℕ) (stop : Option CodeFault) : Type 0 where
  pub good : List (List ℕ)
  pub outcomes : List Outcome
  pub ending : Ending
  pub ran : AllZip (Answers programs link) good outcomes
  pub stops : StopsBy programs link all good ending
  pub shown : IsShown outcomes ending status text stop

-- what is shown of the packets of a capture, up to one that CODE has no program for, and of the fault after them
pub record ShowsCapture (programs : Programs) (entries : List EntryBytes) (fault : Option ReadFault) (status : ℕ) (text : List ℕ) (stop : Option CodeFault) : Type 0 where
  pub outcomes : List Outcome
  pub ran : AllZip (AnswersLinked programs) (linked_in (served programs entries)) outcomes
  pub shown : IsShown outcomes (capture_ending (refused_in programs entries) fault) status text stop

-- what is shown of bytes: of their lines, or of the capture that they hold
abbrev pub ShowsBytes : Programs → PacketForm → List ℕ → ℕ → List ℕ → Option CodeFault → Type 0
ShowsBytes programs (Digits link) input status text stop = ShowsLines programs link (lines input) status text stop
ShowsBytes programs (Capture link) input status text stop =
    (entries : List EntryBytes) × (fault : Option ReadFault) × HasEntries input entries fault × ShowsCapture programs (chosen link entries) fault status text stop

-- what is shown of an input, where it isn't too long
abbrev pub ShowsInput : Programs → PacketForm → List ℕ → ℕ → List ℕ → Option CodeFault → Type 0
ShowsInput programs form input status text stop =
    ((length input ≤ INPUT_BYTES) × ShowsBytes programs form input status text stop)
    ⊎ ((INPUT_BYTES < length input) × ShowsTooLong status text × (stop ≡ None))

-- what `match` shows of a good code and an input, and what it says of a fault of the code that a packet met
abbrev pub ShowsGoodCode : List ℕ → ℕ → PacketForm → List ℕ → ℕ → List ℕ → List ℕ → Type 0
ShowsGoodCode code accept form input status text words =
    (programs : Programs) × IsFilter code accept programs
    × (stop : Option CodeFault) × ShowsInput programs form input status text stop × (words ≡ explanation_of code stop)

-- text is a front of what is shown of the first of these lines or packets
pub record ShowsFirst {A : Type 0} (Gives : A → Outcome → Type 0) (all : List A) (text : List ℕ) : Type 0 where
  pub good : List A
  pub left : List A
  pub outcomes : List Outcome
  pub more : List ℕ
  pub front : all ≡ good ++ left
  pub ran : AllZip Gives good outcomes
  pub printed : text ++ more ≡ flat_map outcome_line outcomes

-- text is a front of what is shown of bytes
abbrev pub ShowsFront : Programs → PacketForm → List ℕ → List ℕ → Type 0
ShowsFront programs form input text =
    (status : ℕ) × (whole : List ℕ) × (stop : Option CodeFault) × ShowsBytes programs form input status whole stop × BeginsWith text whole

-- text is a front of what is shown of the first packets of bytes
abbrev pub ShowsPackets : Programs → PacketForm → List ℕ → List ℕ → Type 0
ShowsPackets programs (Digits link) input text = ShowsFirst (Answers programs link) (lines input) text
ShowsPackets programs (Capture link) input text =
    (entries : List EntryBytes) × (fault : Option ReadFault)
    × HasEntries input entries fault × ShowsFirst (AnswersLinked programs) (linked_in (chosen link entries)) text

-- text is nothing, or such a front of an input, which the source got whole and which isn't too long
abbrev pub ShowsRead : {R : Type 0} → Programs → PacketForm → (R → Option (List ℕ)) → Source R → Source R → List ℕ → Type 0
ShowsRead programs form remaining old new text = (text ≡ [])
    ⊎ ((input : List ℕ) × Gets remaining old new input × IsKnown (remaining old.inner) input × (length input ≤ INPUT_BYTES) × ShowsPackets programs form input text)

-- text is a front of what is shown of a good code and of an input, which the source got whole: of its first packets alone
pub record ShowsGoodPart {R : Type 0} (code : List ℕ) (accept : ℕ) (form : PacketForm) (remaining : R → Option (List ℕ)) (old new : Source R) (text : List ℕ) : Type 0 where
  pub programs : Programs
  pub good : IsFilter code accept programs
  pub input : List ℕ
  pub got : Gets remaining old new input
  pub is : IsKnown (remaining old.inner) input
  pub short : length input ≤ INPUT_BYTES
  pub front : ShowsFront programs form input text
  pub packets : ShowsPackets programs form input text

-- text is nothing, or such a front
abbrev pub ShowsPart : {R : Type 0} → List ℕ → ℕ → PacketForm → (R → Option (List ℕ)) → Source R → Source R → List ℕ → Type 0
ShowsPart code accept form remaining old new text = (text ≡ []) ⊎ ShowsGoodPart code accept form remaining old new text
