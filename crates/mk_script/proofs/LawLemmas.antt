-- A script's text stands for one outcome at most.
use Rattle.std.proofs.Common.{◌≡◌, ℕ, ◌<◌, List, [], ◌∷◌, ◌++◌, Some, None, Result, Ok, Err, sym, ap, ◌∙◌, subst, inl, inr}
use Rattle.std.specs.Prelude.{◌⊎◌, IfOk, IfErr, IsErrAnd, MatchResult}
use Rattle.std.specs.List.{All}
use Rattle.bpf_insn.proofs.DddLaws.{one_program, spelled_or_faulty, one_fault}
use Rattle.filter_asm.specs.declared.fault.AsmFault.{AsmFault}
use Rattle.filter_asm.specs.Faults.{fault_of}
use Rattle.filter_asm.proofs.LawLemmas.{none_stands_for_two}
use Rattle.capture_reader.proofs.LawLemmas.{one_reading}
use Rattle.mk_script.specs.declared.fault.BodyFault.TheVariants as body
use Rattle.mk_script.specs.declared.fault.ScriptFault.{ScriptFault}
use Rattle.mk_script.specs.declared.fault.ScriptFaultKind.{ScriptFaultKind}
use Rattle.mk_script.specs.declared.fault.ScriptFaultKind.TheVariants.{BadBody, NoMemory}
use Rattle.mk_script.specs.Bodies.{MeansAssembled, MeansDecimal, MeansCaptured, DraftedMeans}
use Rattle.mk_script.specs.Drafts.{Settings, Draft, Whole, Assembler, Decimal, Savefile, draft_of}
use Rattle.mk_script.specs.Meanings.{Meaning, known}
use Rattle.mk_script.specs.declared.script.Script.{Script}
use Rattle.mk_script.specs.Scripts.{MeanBehind, Stands, script_of, fault_at, AreFiles}
use Rattle.mk_script.specs.Statements.{Statement, statements}
use Rattle.mk_script.proofs.OrderLemmas.{BringsBytes, drafted_bytes}

same_fault : (f g : AsmFault) → fault_of f ≡ fault_of g → f ≡ g
same_fault f g e = λ i. record { line = (e i).line; kind = (e i).kind }

assembled_one : (name text : List ℕ) (a b : Result Meaning ScriptFaultKind) → MeansAssembled name text a → MeansAssembled name text b → a ≡ b
assembled_one name text a b (inl x) (inl y) = let same = none_stands_for_two text (Ok x.0) (Ok y.0) x.1 y.1 in let programs : x.0 ≡ y.0 = cc in let xe = x.2 in let ye = y.2 in cc
assembled_one name text a b (inl x) (inr y) = let same = none_stands_for_two text (Ok x.0) (Err (fault_of y.0)) x.1 y.1 in absurd (cc)
assembled_one name text a b (inr x) (inl y) = let same = none_stands_for_two text (Err (fault_of x.0)) (Ok y.0) x.1 y.1 in absurd (cc)
assembled_one name text a b (inr x) (inr y) =
    let same = none_stands_for_two text (Err (fault_of x.0)) (Err (fault_of y.0)) x.1 y.1 in
    let faults : fault_of x.0 ≡ fault_of y.0 = cc in
    x.2 ∙ ap (λ f. Err (BadBody (body.Asm f))) (same_fault x.0 y.0 faults) ∙ sym y.2

decimal_one : (name text : List ℕ) (a b : Result Meaning ScriptFaultKind) → MeansDecimal name text a → MeansDecimal name text b → a ≡ b
decimal_one name text a b (inl x) (inl y) = let same = one_program text x.0 y.0 x.1 y.1 in let xe = x.2 in let ye = y.2 in cc
decimal_one name text a b (inl x) (inr y) = absurd (spelled_or_faulty text x.0 y.0 x.1 y.1)
decimal_one name text a b (inr x) (inl y) = absurd (spelled_or_faulty text y.0 x.0 y.1 x.1)
decimal_one name text a b (inr x) (inr y) = let same = one_fault text x.0 y.0 x.1 y.1 in let xe = x.2 in let ye = y.2 in cc

captured_one : (name bytes : List ℕ) → All (λ b. b < 256) bytes → (a b : Result Meaning ScriptFaultKind) → MeansCaptured name bytes a → MeansCaptured name bytes b → a ≡ b
captured_one name bytes small a b (inl x) (inl y) = let same = (one_reading bytes small x.0 y.0 None None x.1 y.1).0 in let xe = x.2 in let ye = y.2 in cc
captured_one name bytes small a b (inl x) (inr y) = let same = (one_reading bytes small x.0 y.0 None (Some y.1) x.1 y.2).1 in absurd (cc)
captured_one name bytes small a b (inr x) (inl y) = let same = (one_reading bytes small x.0 y.0 (Some x.1) None x.2 y.1).1 in absurd (cc)
captured_one name bytes small a b (inr x) (inr y) = let same = (one_reading bytes small x.0 y.0 (Some x.1) (Some y.1) x.2 y.2).1 in let faults : x.1 ≡ y.1 = cc in let xe = x.3 in let ye = y.3 in cc

drafted_one : (d : Result Draft ScriptFaultKind) → BringsBytes d → (a b : Result Meaning ScriptFaultKind) → DraftedMeans d a → DraftedMeans d b → a ≡ b
drafted_one (Err fault) small a b x y = x ∙ sym y
drafted_one (Ok (Whole meaning)) small a b x y = x ∙ sym y
drafted_one (Ok (Assembler name text)) small a b x y = assembled_one name text a b x y
drafted_one (Ok (Decimal name text)) small a b x y = decimal_one name text a b x y
drafted_one (Ok (Savefile name bytes)) small a b x y = captured_one name bytes small a b x y

behind_one : (s : Settings) → AreFiles s.files → (given : List Meaning) (sts : List Statement) (a b : Result (List Meaning) ScriptFault) → MeanBehind s given sts a → MeanBehind s given sts b → a ≡ b
behind_one s all given [] a b x y = x ∙ sym y
behind_one s all given (st ∷ sts) a b (inl x) (inl y) =
    let same = drafted_one (draft_of s (known given) st) (drafted_bytes s (known given) st all) (Ok x.0) (Ok y.0) x.1 y.1 in
    let meanings : x.0 ≡ y.0 = cc in
    let other = subst (λ (m : Meaning). MeanBehind s (given ++ m ∷ []) sts b) (sym meanings) y.2 in
    behind_one s all (given ++ x.0 ∷ []) sts a b x.2 other
behind_one s all given (st ∷ sts) a b (inl x) (inr y) = let same = drafted_one (draft_of s (known given) st) (drafted_bytes s (known given) st all) (Ok x.0) (Err y.0) x.1 y.1 in absurd (cc)
behind_one s all given (st ∷ sts) a b (inr x) (inl y) = let same = drafted_one (draft_of s (known given) st) (drafted_bytes s (known given) st all) (Err x.0) (Ok y.0) x.1 y.1 in absurd (cc)
behind_one s all given (st ∷ sts) a b (inr x) (inr y) =
    let same = drafted_one (draft_of s (known given) st) (drafted_bytes s (known given) st all) (Err x.0) (Err y.0) x.1 y.1 in
    let kinds : x.0 ≡ y.0 = cc in
    x.2 ∙ ap (λ k. Err (fault_at st.number k)) kinds ∙ sym y.2

pub one_outcome : (s : Settings) → AreFiles s.files → (text : List ℕ) (a b : Result Script ScriptFault) → Stands s text a → Stands s text b → a ≡ b
one_outcome s all text a b x y = x.2 ∙ ap script_of (behind_one s all [] (statements text) x.0 y.0 x.1 y.1) ∙ sym y.2

-- an answer that is what the text stands for is the script
pub only_from : (s : Settings) → AreFiles s.files → (text : List ℕ) (r : Result Script ScriptFault) → IfOk r (λ p. Stands s text (Ok p)) → IfErr r (λ f. (f.kind ≡ NoMemory) ⊎ Stands s text (Err f))
    → (script : Script) → Stands s text (Ok script) → MatchResult r (λ p. p ≡ script) (λ f. f.kind ≡ NoMemory)
only_from s all text (Ok p) found refused script stands = let same = one_outcome s all text (Ok p) (Ok script) found stands in cc
only_from s all text (Err f) found refused script stands =
    elim refused [
      | inl memory ↦ memory
      | inr stands' ↦ let same = one_outcome s all text (Err f) (Ok script) stands' stands in absurd (cc)
    ]

-- and if it is a fault, that fault
pub first_from : (s : Settings) → AreFiles s.files → (text : List ℕ) (r : Result Script ScriptFault) → IfOk r (λ p. Stands s text (Ok p)) → IfErr r (λ f. (f.kind ≡ NoMemory) ⊎ Stands s text (Err f))
    → (fault : ScriptFault) → Stands s text (Err fault) → IsErrAnd r (λ f. (f.kind ≡ NoMemory) ⊎ (f ≡ fault))
first_from s all text (Ok p) found refused fault stands = let same = one_outcome s all text (Ok p) (Err fault) found stands in absurd (cc)
first_from s all text (Err f) found refused fault stands =
    elim refused [
      | inl memory ↦ inl memory
      | inr stands' ↦ let same = one_outcome s all text (Err f) (Err fault) stands' stands in inr cc
    ]
