-- Each script's text stands for an outcome.
use Rattle.std.proofs.Common.{List, [], ◌∷◌, ◌++◌, ℕ, Option, Some, None, Result, Ok, Err, refl, inl, inr}
use Rattle.std.specs.Prelude.{◌⊎◌}
use Rattle.bpf_insn.specs.declared.insn.Insn.{Insn}
use Rattle.filter_asm.specs.declared.fault.AsmFault.{AsmFault}
use Rattle.filter_asm.specs.Program.{Fault, Assembles}
use Rattle.filter_asm.proofs.LawLemmas.{each_stands_for_some}
use Rattle.capture_reader.specs.declared.fault.ReadFault.{ReadFault}
use Rattle.capture_reader.specs.Entries.{EntryBytes, packets_in}
use Rattle.capture_reader.specs.Captures.{HasEntries}
use Rattle.capture_reader.proofs.LawLemmas.{has_reading}
use Rattle.mk_script.specs.declared.fault.BodyFault.TheVariants as body
use Rattle.mk_script.specs.declared.fault.ScriptFault.{ScriptFault}
use Rattle.mk_script.specs.declared.fault.ScriptFaultKind.{ScriptFaultKind}
use Rattle.mk_script.specs.declared.fault.ScriptFaultKind.TheVariants.{BadBody}
use Rattle.mk_script.specs.Bodies.{MeansAssembled, MeansDecimal, MeansCaptured, DraftedMeans, Means}
use Rattle.mk_script.specs.Drafts.{Settings, Draft, Whole, Assembler, Decimal, Savefile, draft_of}
use Rattle.mk_script.specs.Meanings.{Meaning, NamedProgram, NamedCapture, Known, known}
use Rattle.mk_script.specs.Scripts.{MeanBehind, SomeOutcome, script_of, fault_at}
use Rattle.mk_script.specs.Statements.{Statement, statements}
use Rattle.bpf_insn.proofs.DecimalTotal.{spelled_or_fault}

-- a meaning, or a fault
abbrev Some_ : (Result Meaning ScriptFaultKind → Type 0) → Type 0
Some_ stands = ((meaning : Meaning) × stands (Ok meaning)) ⊎ ((kind : ScriptFaultKind) × stands (Err kind))

assembled_by : (name text : List ℕ) (outcome : Result (List Insn) Fault) → Assembles text outcome → Some_ (MeansAssembled name text)
assembled_by name text (Ok program) assembles = inl (NamedProgram name program, inl (program, assembles, refl))
assembled_by name text (Err fault) assembles =
    let f : AsmFault = record { line = fault.line; kind = fault.kind } in
    inr (BadBody (body.Asm f), inr (f, assembles, refl))

assembled_some : (name text : List ℕ) → Some_ (MeansAssembled name text)
assembled_some name text = let found = each_stands_for_some text in assembled_by name text found.0 found.1

decimal_some : (name text : List ℕ) → Some_ (MeansDecimal name text)
decimal_some name text = elim (spelled_or_fault text) [
  | inl spelled ↦ inl (NamedProgram name spelled.0, inl (spelled.0, spelled.1, refl))
  | inr fault ↦ inr (BadBody (body.Ddd fault.0), inr (fault.0, fault.1, refl))
]

captured_by : (name bytes : List ℕ) (entries : List EntryBytes) (fault : Option ReadFault) → HasEntries bytes entries fault → Some_ (MeansCaptured name bytes)
captured_by name bytes entries None has = inl (NamedCapture name (packets_in entries), inl (entries, has, refl))
captured_by name bytes entries (Some fault) has = inr (BadBody (body.Capture fault), inr (entries, fault, has, refl))

captured_some : (name bytes : List ℕ) → Some_ (MeansCaptured name bytes)
captured_some name bytes = let found = has_reading bytes in captured_by name bytes found.0 found.1 found.2

drafted_some : (d : Result Draft ScriptFaultKind) → Some_ (DraftedMeans d)
drafted_some (Err fault) = inr (fault, refl)
drafted_some (Ok (Whole meaning)) = inl (meaning, refl)
drafted_some (Ok (Assembler name text)) = assembled_some name text
drafted_some (Ok (Decimal name text)) = decimal_some name text
drafted_some (Ok (Savefile name bytes)) = captured_some name bytes

pub some_meaning : (s : Settings) (k : Known) (st : Statement) → (outcome : Result Meaning ScriptFaultKind) × Means s k st outcome
some_meaning s k st = elim (drafted_some (draft_of s k st)) [
  | inl means ↦ (Ok means.0, means.1)
  | inr fails ↦ (Err fails.0, fails.1)
]

behind_some : (s : Settings) (given : List Meaning) (sts : List Statement) → (outcome : Result (List Meaning) ScriptFault) × MeanBehind s given sts outcome
behind_some s given [] = (Ok given, refl)
behind_some s given (st ∷ sts) = elim (drafted_some (draft_of s (known given) st)) [
  | inl means ↦ let rest = behind_some s (given ++ means.0 ∷ []) sts in (rest.0, inl (means.0, means.1, rest.1))
  | inr fails ↦ (Err (fault_at st.number fails.0), inr (fails.0, fails.1, refl))
]

pub some_outcome : (s : Settings) (text : List ℕ) → SomeOutcome s text
some_outcome s text = let found = behind_some s [] (statements text) in (script_of found.0, (found.0, found.1, refl))
