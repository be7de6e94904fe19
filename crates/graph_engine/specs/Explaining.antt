-- What `match --explain` shows: for each packet the instructions that the machine takes, each with the registers after it,
-- and then the outcome.
use Rattle.std.specs.Prelude.{◌≡◌, ℕ, ◌<◌, ◌≤◌, ◌⊎◌, List, [], ◌++◌, length, codes, Option, None, Ok}
use Rattle.std.specs.Option.{option_map_or}
use Rattle.std.specs.List.{AllZip, flat_map}
use Rattle.std.specs.Fmt.{decimal}
use Rattle.std.specs.Str.Lines.{lines}
use Rattle.bpf_insn.specs.declared.insn.Insn.{Insn}
use Rattle.bpf_insn.specs.AsmText.{label, printed}
use Rattle.bpf_insn.specs.Program.{form_at}
use Rattle.filter_vm.specs.declared.machine.tracing.Taken.{Taken}
use Rattle.bpf_insn.specs.Machine.{Packet}
use Rattle.filter_vm.specs.Tracing.{Traces}
use Rattle.console.specs.declared.ending.Ending.{Ending}
use Rattle.console.specs.declared.filter.CodeFault.{CodeFault}
use Rattle.console.specs.Expressions.{IsFilter, explanation_of}
use Rattle.console.specs.declared.form.PacketForm.{PacketForm}
use Rattle.console.specs.declared.form.PacketForm.TheVariants.{Digits, Capture}
use Rattle.console.specs.Choosing.{chosen}
use Rattle.console.specs.Matching.{Hex, StopsBy, capture_ending, ending_status, ending_stop, ending_text, outcome_line}
use Rattle.console.specs.Programs.{Programs}
use Rattle.console.specs.Refusing.{LinkedPacket, linked_in, refused_in, served}
use Rattle.capture_reader.specs.declared.fault.ReadFault.{ReadFault}
use Rattle.capture_reader.specs.Captures.{HasEntries}
use Rattle.capture_reader.specs.Entries.{EntryBytes}
use Rattle.engine_io.specs.Reading.{ShowsTooLong}
use Rattle.engine_io.specs.declared.input.TheConstants.{INPUT_BYTES}

-- an instruction that was taken: its line of the assembler text, and the registers after it
abbrev pub taken_line : List Insn → Taken → List ℕ
taken_line program t =
    label t.pc ++ codes ": " ++ option_map_or (printed t.pc) (form_at program t.pc) []
    ++ codes " A=" ++ decimal t.a ++ codes " X=" ++ decimal t.x ++ codes "\n"

-- a run with this verdict
abbrev pub explanation : List Insn → ℕ → List Taken → List ℕ
explanation program verdict taken = flat_map (taken_line program) taken ++ outcome_line (record { verdict = verdict; steps = length taken })

-- of a program on a packet
abbrev pub ExplainsRun : List Insn → Packet → List ℕ → Type 0
ExplainsRun program packet text = (verdict : ℕ) × (taken : List Taken) × Traces program packet verdict taken × (text ≡ explanation program verdict taken)

-- of the program of the link type on the packet that a line spells
abbrev pub Explains : Programs → ℕ → List ℕ → List ℕ → Type 0
Explains programs link line text = (program : List Insn) × (programs link ≡ Ok program) × (packet : Packet) × Hex line packet × ExplainsRun program packet text

-- and on a packet of a capture
abbrev pub ExplainsLinked : Programs → LinkedPacket → List ℕ → Type 0
ExplainsLinked programs packet text =
    (program : List Insn) × (programs packet.0 ≡ Ok program) × ExplainsRun program (record { bytes = packet.1.bytes; original = packet.1.original }) text

-- the explanations of these lines, up to the first that isn't run, and what comes after them
pub record ExplainsLines (programs : Programs) (link : ℕ) (all : List (List ℕ)) (ending : Ending) (text : List ℕ) : Type 0 where
  pub good : List (List ℕ)
  pub texts : List (List ℕ)
  pub explained : AllZip (Explains programs link) good texts
  pub stops : StopsBy programs link all good ending
  pub printed : text ≡ flat_map (λ t. t) texts

-- the explanations of the packets among these entries, up to the first for which CODE has no program
pub record ExplainsPackets (programs : Programs) (entries : List EntryBytes) (text : List ℕ) : Type 0 where
  pub texts : List (List ℕ)
  pub explained : AllZip (ExplainsLinked programs) (linked_in (served programs entries)) texts
  pub printed : text ≡ flat_map (λ t. t) texts

-- with what comes after them, where the capture has this fault
abbrev pub ExplainsEntries : Programs → List EntryBytes → Option ReadFault → Ending → List ℕ → Type 0
ExplainsEntries programs entries fault ending text = ExplainsPackets programs entries text × (ending ≡ capture_ending (refused_in programs entries) fault)

-- one entry's was appended, or CODE has this fault. No public clause cites this.
abbrev pub ExplainsEntry : Programs → List EntryBytes → Option CodeFault → List ℕ → List ℕ → Type 0
ExplainsEntry programs entries stop before after = (more : List ℕ) × ExplainsPackets programs entries more × (after ≡ before ++ more) × (stop ≡ refused_in programs entries)

-- the explanations of bytes: of their lines, or of the capture that they hold
abbrev pub ExplainsBytes : Programs → PacketForm → List ℕ → Ending → List ℕ → Type 0
ExplainsBytes programs (Digits link) input ending text = ExplainsLines programs link (lines input) ending text
ExplainsBytes programs (Capture link) input ending text =
    (entries : List EntryBytes) × (fault : Option ReadFault) × HasEntries input entries fault × ExplainsEntries programs (chosen link entries) fault ending text

-- with the line that comes after them, the status, and the fault of CODE that was met
abbrev pub ShowsBytes : Programs → PacketForm → List ℕ → ℕ → List ℕ → Option CodeFault → Type 0
ShowsBytes programs form input status text stop = (ending : Ending) × (explanations : List ℕ) × ExplainsBytes programs form input ending explanations
    × (text ≡ explanations ++ ending_text ending) × (status ≡ ending_status ending) × (stop ≡ ending_stop ending)

-- an input's length has a limit
abbrev pub ShowsInput : Programs → PacketForm → List ℕ → ℕ → List ℕ → Option CodeFault → Type 0
ShowsInput programs form input status text stop =
    ((length input ≤ INPUT_BYTES) × ShowsBytes programs form input status text stop)
    ⊎ ((INPUT_BYTES < length input) × ShowsTooLong status text × (stop ≡ None))

-- what is shown of a good code and an input, and what is said of a fault of the code
abbrev pub ShowsExplained : List ℕ → ℕ → PacketForm → List ℕ → ℕ → List ℕ → List ℕ → Type 0
ShowsExplained code accept form input status text words = (programs : Programs) × IsFilter code accept programs
    × (stop : Option CodeFault) × ShowsInput programs form input status text stop × (words ≡ explanation_of code stop)
