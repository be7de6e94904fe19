-- What a statement means once its body is read: the program of an assembler or a decimal text, the packets of a capture.
use Rattle.std.specs.Prelude.{◌≡◌, ◌⊎◌, ℕ, List, Some, None, Result, Ok, Err}
use Rattle.bpf_insn.specs.Ddd.{Ddd, Faults}
use Rattle.bpf_insn.specs.declared.insn.Insn.{Insn}
use Rattle.bpf_insn.specs.declared.ddd.TextFault.{TextFault}
use Rattle.filter_asm.specs.Program.{Asm, Assembles}
use Rattle.filter_asm.specs.Faults.{fault_of}
use Rattle.filter_asm.specs.declared.fault.AsmFault.{AsmFault}
use Rattle.capture_reader.specs.declared.fault.ReadFault.{ReadFault}
use Rattle.capture_reader.specs.Entries.{EntryBytes, packets_in}
use Rattle.capture_reader.specs.Captures.{HasEntries}
use Rattle.mk_script.specs.declared.fault.BodyFault.TheVariants as body
use Rattle.mk_script.specs.declared.fault.ScriptFaultKind.{ScriptFaultKind}
use Rattle.mk_script.specs.declared.fault.ScriptFaultKind.TheVariants.{BadBody}
use Rattle.mk_script.specs.Meanings.{Meaning, NamedProgram, NamedCapture, Known}
use Rattle.mk_script.specs.Statements.{Statement}
use Rattle.mk_script.specs.Drafts.{Draft, Whole, Assembler, Decimal, Savefile, Settings, draft_of}

-- a program by a relation between texts and programs
abbrev pub MeansAssembled : List ℕ → List ℕ → Result Meaning ScriptFaultKind → Type 0
MeansAssembled name text outcome =
    ((program : List Insn) × Asm text program × (outcome ≡ Ok (NamedProgram name program)))
    ⊎ ((fault : AsmFault) × Assembles text (Err (fault_of fault)) × (outcome ≡ Err (BadBody (body.Asm fault))))

abbrev pub MeansDecimal : List ℕ → List ℕ → Result Meaning ScriptFaultKind → Type 0
MeansDecimal name text outcome =
    ((program : List Insn) × Ddd text program × (outcome ≡ Ok (NamedProgram name program)))
    ⊎ ((fault : TextFault) × Faults text fault × (outcome ≡ Err (BadBody (body.Ddd fault))))

abbrev pub MeansCaptured : List ℕ → List ℕ → Result Meaning ScriptFaultKind → Type 0
MeansCaptured name bytes outcome =
    ((entries : List EntryBytes) × HasEntries bytes entries None × (outcome ≡ Ok (NamedCapture name (packets_in entries))))
    ⊎ ((entries : List EntryBytes) × (fault : ReadFault) × HasEntries bytes entries (Some fault) × (outcome ≡ Err (BadBody (body.Capture fault))))

abbrev pub DraftMeans : Draft → Result Meaning ScriptFaultKind → Type 0
DraftMeans (Whole meaning) outcome = outcome ≡ Ok meaning
DraftMeans (Assembler name text) outcome = MeansAssembled name text outcome
DraftMeans (Decimal name text) outcome = MeansDecimal name text outcome
DraftMeans (Savefile name bytes) outcome = MeansCaptured name bytes outcome

abbrev pub DraftedMeans : Result Draft ScriptFaultKind → Result Meaning ScriptFaultKind → Type 0
DraftedMeans (Ok draft) outcome = DraftMeans draft outcome
DraftedMeans (Err fault) outcome = outcome ≡ Err fault

-- a statement means this after what is known, or has this fault first
abbrev pub Means : Settings → Known → Statement → Result Meaning ScriptFaultKind → Type 0
Means settings k statement outcome = DraftedMeans (draft_of settings k statement) outcome
