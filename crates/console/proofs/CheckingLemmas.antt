-- Of one text of a program one text is shown, with one status.
use Rattle.std.proofs.Common.{◌≡◌, ◌≢◌, ℕ, ◌<◌, ◌⊎◌, inl, inr, List, Bool, true, false, Ok, Err, refl, sym, ap, ◌∙◌, arith}
use Rattle.std.proofs.lemmas.Bool.{cases_order}
use Rattle.bpf_insn.specs.declared.insn.Insn.{Insn}
use Rattle.bpf_insn.specs.AsmText.{IsPrintable}
use Rattle.bpf_insn.proofs.DddLaws.{one_fault, one_program, spelled_or_faulty}
use Rattle.filter_asm.proofs.LawLemmas.{none_stands_for_two}
use Rattle.console.specs.Reading.{ShowsOne}
use Rattle.console.specs.Code.{code_line}
use Rattle.console.specs.declared.checking.CheckInput.{CheckInput}
use Rattle.console.specs.declared.checking.CheckInput.TheVariants.{Assembler, Listing, Decimal}
use Rattle.console.specs.Checking.{IsFirstUnprinted, ShowsCheck, ShowsProgram, ShowsText, asm_fault_line, unprinted_line}
use Rattle.console.proofs.OnceLemmas.{bounded_once}

-- a printable program has no instruction that isn't printed
all_print : (program : List Insn) (pc : ℕ) → IsPrintable program → IsFirstUnprinted program pc → ⊥
all_print program pc printable first = first.here (printable.each pc first.within)

first_same : (program : List Insn) (pc other : ℕ) → IsFirstUnprinted program pc → IsFirstUnprinted program other → pc ≡ other
first_same program pc other one two = elim (cases_order pc other) [
  | inl same ↦ same
  | inr apart ↦ elim apart [
    | inl less ↦ absurd (one.here (two.before pc less))
    | inr more ↦ absurd (two.here (one.before other more))
  ]
]

program_once : (asm : Bool) (program : List Insn) → ShowsOne (ShowsProgram asm program)
program_once false program status other text more one two = (one.0 ∙ sym two.0, one.1 ∙ sym two.1)
program_once true program status other text more (inl one) (inl two) = (one.1 ∙ sym two.1, one.2 ∙ sym two.2)
program_once true program status other text more (inl one) (inr two) = absurd (all_print program two.0 one.0 two.1)
program_once true program status other text more (inr one) (inl two) = absurd (all_print program one.0 two.0 one.1)
program_once true program status other text more (inr one) (inr two) =
    (one.2 ∙ sym two.2, one.3 ∙ ap (unprinted_line program) (first_same program one.0 two.0 one.1 two.1) ∙ sym two.3)

text_once : (input : CheckInput) → input ≢ Listing → (asm : Bool) (bytes : List ℕ) → ShowsOne (ShowsText input asm bytes)
text_once Listing other_than asm bytes status other text more one two = absurd (other_than refl)
text_once Assembler other_than asm bytes status other text more (inl one) (inl two) =
    let outcomes : Ok one.0 ≡ Ok two.0 = none_stands_for_two bytes (Ok one.0) (Ok two.0) one.1 two.1 in
    let same : one.0 ≡ two.0 = cc in
    program_once asm two.0 status other text more (rw same at one.2) two.2
text_once Assembler other_than asm bytes status other text more (inl one) (inr two) = let never = none_stands_for_two bytes (Ok one.0) (Err two.0.0) one.1 two.0.1 in absurd (cc)
text_once Assembler other_than asm bytes status other text more (inr one) (inl two) = let never = none_stands_for_two bytes (Err one.0.0) (Ok two.0) one.0.1 two.1 in absurd (cc)
text_once Assembler other_than asm bytes status other text more (inr one) (inr two) =
    let outcomes = none_stands_for_two bytes (Err one.0.0) (Err two.0.0) one.0.1 two.0.1 in
    let same : one.0.0 ≡ two.0.0 = cc in
    (one.1 ∙ sym two.1, one.0.2 ∙ ap asm_fault_line same ∙ sym two.0.2)
text_once Decimal other_than asm bytes status other text more (inl one) (inl two) =
    let same : one.0 ≡ two.0 = one_program bytes one.0 two.0 one.1 two.1 in
    program_once asm two.0 status other text more (rw same at one.2) two.2
text_once Decimal other_than asm bytes status other text more (inl one) (inr two) = absurd (spelled_or_faulty bytes one.0 two.0.0 one.1 two.0.1)
text_once Decimal other_than asm bytes status other text more (inr one) (inl two) = absurd (spelled_or_faulty bytes two.0 one.0.0 two.1 one.0.1)
text_once Decimal other_than asm bytes status other text more (inr one) (inr two) =
    let same : one.0.0 ≡ two.0.0 = one_fault bytes one.0.0 two.0.0 one.0.1 two.0.1 in
    (one.1 ∙ sym two.1, one.0.2 ∙ ap code_line same ∙ sym two.0.2)

pub check_once : (input : CheckInput) (asm : Bool) → input ≢ Listing → (bytes : List ℕ) → ShowsOne (ShowsCheck input asm bytes)
check_once input asm other_than bytes = bounded_once (ShowsText input asm) bytes (text_once input other_than asm bytes)
