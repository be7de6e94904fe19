-- Packets and their link types, up to the first one for whose link type CODE has no program.
use Rattle.std.specs.Prelude.{◌≡◌, ℕ, List, [], ◌∷◌, ◌++◌, Option, Some, None, Result, Ok, Err}
use Rattle.std.specs.Option.{option_or}
use Rattle.bpf_insn.specs.declared.insn.Insn.{Insn}
use Rattle.bpf_insn.specs.Machine.{Ends}
use Rattle.filter_vm.specs.declared.machine.Outcome.{Outcome}
use Rattle.pcap_reader.specs.declared.capture.CapturedPacket.{CapturedPacket}
use Rattle.capture_reader.specs.declared.entry.Entry.{Entry}
use Rattle.capture_reader.specs.declared.entry.Entry.TheVariants.{Packet}
use Rattle.capture_reader.specs.Entries.{EntryBytes}
use Rattle.console.specs.declared.filter.CodeFault.{CodeFault}
use Rattle.console.specs.Programs.{Programs}

-- the program ends on a packet of a capture with this outcome
abbrev pub AnswersCaptured : List Insn → CapturedPacket → Outcome → Type 0
AnswersCaptured program packet outcome =
    Ends program (record { bytes = packet.bytes; original = packet.original }) outcome.verdict outcome.steps

-- a packet of a capture, behind its link type
abbrev pub LinkedPacket : Type 0
LinkedPacket = ℕ × CapturedPacket

-- the program of its link type ends on the packet with this outcome
abbrev pub AnswersLinked : Programs → LinkedPacket → Outcome → Type 0
AnswersLinked programs packet outcome = (program : List Insn) × (programs packet.0 ≡ Ok program) × AnswersCaptured program packet.1 outcome

-- the packets among entries, in order
abbrev pub entry_linked : Entry → List ℕ → List LinkedPacket
entry_linked (Packet info) bytes = (info.link, record { bytes = bytes; original = info.original }) ∷ []
entry_linked entry bytes = []

abbrev pub linked_in : List EntryBytes → List LinkedPacket
linked_in [] = []
linked_in (e ∷ entries) = entry_linked e.0 e.1 ++ linked_in entries

-- why there is no program, if there is none
abbrev pub refusal_of : Result (List Insn) CodeFault → Option CodeFault
refusal_of (Ok program) = None
refusal_of (Err fault) = Some fault

abbrev pub entry_refusal : Programs → Entry → Option CodeFault
entry_refusal programs (Packet info) = refusal_of (programs info.link)
entry_refusal programs entry = None

-- the fault that the first packet without a program meets
abbrev pub refused_in : Programs → List EntryBytes → Option CodeFault
refused_in programs [] = None
refused_in programs (e ∷ entries) = option_or (entry_refusal programs e.0) (refused_in programs entries)

-- the entries before that packet
abbrev pub served_by : Option CodeFault → EntryBytes → List EntryBytes → List EntryBytes
served_by None e entries = e ∷ entries
served_by (Some fault) e entries = []

abbrev pub served : Programs → List EntryBytes → List EntryBytes
served programs [] = []
served programs (e ∷ entries) = served_by (entry_refusal programs e.0) e (served programs entries)
