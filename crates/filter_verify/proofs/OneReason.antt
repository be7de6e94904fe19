-- All reasons to refuse a program name one rule and one place.
use Rattle.std.proofs.Common.{◌≡◌, ◌∙◌, ℕ, ◌<◌, List, length, Option, Some, None, inl, inr, arith, ap, sym, refl}
use Rattle.std.proofs.lemmas.Bool.{cases_lt}
use Rattle.bpf_insn.specs.declared.insn.Insn.{Insn}
use Rattle.bpf_insn.specs.declared.form.AluOp.{AluOp}
use Rattle.bpf_insn.specs.declared.form.AluOp.TheVariants.{Div, Lsh, Rsh, Mod}
use Rattle.bpf_insn.specs.declared.form.Form.{Form}
use Rattle.bpf_insn.specs.declared.form.Form.TheVariants.{LdAbs, LdMem, LdxMem, St, Stx, AluK, Ja, JmpK, JmpX}
use Rattle.bpf_insn.specs.Program.{form_at, JumpsTo}
use Rattle.filter_verify.specs.declared.rules.Refusal.{Refusal}
use Rattle.filter_verify.specs.declared.rules.Refusal.TheVariants.{Empty, TooLong, BadCode, ZeroDivisor, BadShift, BadWord, JumpOut, Ancillary, NoReturn, Unwritten, NoMemory}
use Rattle.filter_verify.specs.Numbers.{number_of, place_of}
use Rattle.filter_verify.specs.Rules.{BreaksAt, IsFirst, Refuses}

-- the rule that an instruction of a form may break, if there is one
alu_rule : AluOp → ℕ
alu_rule Div = 4
alu_rule Mod = 4
alu_rule Lsh = 5
alu_rule Rsh = 5
alu_rule _ = 0

form_rule : Form → ℕ
form_rule (LdMem k) = 6
form_rule (LdxMem k) = 6
form_rule (St k) = 6
form_rule (Stx k) = 6
form_rule (Ja k) = 7
form_rule (JmpK test k jt jf) = 7
form_rule (JmpX test jt jf) = 7
form_rule (LdAbs size k) = 8
form_rule (AluK op k) = alu_rule op
form_rule _ = 0

rule_at : Option Form → ℕ
rule_at (Some form) = form_rule form
rule_at None = 3

jump_rule : (pc : ℕ) (form : Form) (to : ℕ) → JumpsTo pc form to → 7 ≡ form_rule form
unfolding form_rule
jump_rule pc (Ja k) to jumps = refl
jump_rule pc (JmpK test k jt jf) to jumps = refl
jump_rule pc (JmpX test jt jf) to jumps = refl
jump_rule pc _ to jumps = absurd jumps

module _ (program : List Insn) where
  -- an instruction breaks the rule that its form may break
  breaks_rule : (pc : ℕ) (r : Refusal) → BreaksAt program pc r → (number_of r ≡ rule_at (form_at program pc)) × (place_of r ≡ pc)
  unfolding alu_rule form_rule rule_at
  breaks_rule pc (BadCode at) b = (ap rule_at (sym b.1), b.0)
  breaks_rule pc (ZeroDivisor at) b = (elim b.1 [ inl e ↦ ap rule_at (sym e) | inr e ↦ ap rule_at (sym e) ], b.0)
  breaks_rule pc (BadShift at) b = (elim b.1.2 [ inl e ↦ ap rule_at (sym e) | inr e ↦ ap rule_at (sym e) ], b.0)
  breaks_rule pc (BadWord at) b = (
    elim b.1.2 [
      | inl loads ↦ elim loads [ inl e ↦ ap rule_at (sym e) | inr e ↦ ap rule_at (sym e) ]
      | inr stores ↦ elim stores [ inl e ↦ ap rule_at (sym e) | inr e ↦ ap rule_at (sym e) ]
    ],
    b.0,
  )
  breaks_rule pc (JumpOut at) b = (jump_rule pc b.1.0 b.1.1 b.1.3 ∙ ap rule_at (sym b.1.2), b.0)
  breaks_rule pc (Ancillary at) b = (ap rule_at (sym b.1.3), b.0)
  breaks_rule pc _ b = absurd b

  -- two refusals name one rule and one place
  abbrev pub SameReason : Refusal → Refusal → Type 0
  SameReason r q = (number_of r ≡ number_of q) × (place_of r ≡ place_of q)

  -- two instructions that are the first to break a rule
  first_same : (pc other : ℕ) (r q : Refusal) → IsFirst program pc → BreaksAt program pc r → IsFirst program other → BreaksAt program other q → SameReason r q
  first_same pc other r q first breaks first' breaks' =
      let same : pc ≡ other = elim (cases_lt pc other) [
        | inl before ↦ absurd (first'.2 pc before r breaks)
        | inr from ↦ elim (cases_lt other pc) [
          | inl before ↦ absurd (first.2 other before q breaks')
          | inr from' ↦ omega arith
        ]
      ] in
      let one = breaks_rule pc r breaks in
      let two = breaks_rule other q breaks' in
      (one.0 ∙ ap (λ n. rule_at (form_at program n)) same ∙ sym two.0, one.1 ∙ same ∙ sym two.1)

  empty_same : (q : Refusal) → length program ≡ 0 → Refuses program q → SameReason Empty q
  empty_same Empty none b = (refl, refl)
  empty_same TooLong none b = absurd (omega arith)
  empty_same NoReturn none b = let some = b.0.0 in absurd (omega arith)
  empty_same (Unwritten pc word path) none b = let some = b.0.sized.0 in absurd (omega arith)
  empty_same NoMemory none b = absurd b
  empty_same (BadCode pc) none b = let some = b.0.1 in absurd (omega arith)
  empty_same (ZeroDivisor pc) none b = let some = b.0.1 in absurd (omega arith)
  empty_same (BadShift pc) none b = let some = b.0.1 in absurd (omega arith)
  empty_same (BadWord pc) none b = let some = b.0.1 in absurd (omega arith)
  empty_same (JumpOut pc) none b = let some = b.0.1 in absurd (omega arith)
  empty_same (Ancillary pc) none b = let some = b.0.1 in absurd (omega arith)

  long_same : (q : Refusal) → 4096 < length program → Refuses program q → SameReason TooLong q
  long_same Empty long b = absurd (omega arith)
  long_same TooLong long b = (refl, refl)
  long_same NoReturn long b = let limited = b.0.1 in absurd (omega arith)
  long_same (Unwritten pc word path) long b = let limited = b.0.sized.1 in absurd (omega arith)
  long_same NoMemory long b = absurd b
  long_same (BadCode pc) long b = let limited = b.0.0.1 in absurd (omega arith)
  long_same (ZeroDivisor pc) long b = let limited = b.0.0.1 in absurd (omega arith)
  long_same (BadShift pc) long b = let limited = b.0.0.1 in absurd (omega arith)
  long_same (BadWord pc) long b = let limited = b.0.0.1 in absurd (omega arith)
  long_same (JumpOut pc) long b = let limited = b.0.0.1 in absurd (omega arith)
  long_same (Ancillary pc) long b = let limited = b.0.0.1 in absurd (omega arith)

  broken_same : (pc : ℕ) (r q : Refusal) → IsFirst program pc → BreaksAt program pc r → Refuses program q → SameReason r q
  broken_same pc r Empty first breaks b = let some = first.1 in absurd (omega arith)
  broken_same pc r TooLong first breaks b = let limited = first.0.1 in absurd (omega arith)
  broken_same pc r NoReturn first breaks b = absurd (b.1 pc first.1 r breaks)
  broken_same pc r (Unwritten other word path) first breaks b = absurd (b.0.fine pc first.1 r breaks)
  broken_same pc r NoMemory first breaks b = absurd b
  broken_same pc r (BadCode other) first breaks b = first_same pc other r (BadCode other) first breaks b.0 b.1
  broken_same pc r (ZeroDivisor other) first breaks b = first_same pc other r (ZeroDivisor other) first breaks b.0 b.1
  broken_same pc r (BadShift other) first breaks b = first_same pc other r (BadShift other) first breaks b.0 b.1
  broken_same pc r (BadWord other) first breaks b = first_same pc other r (BadWord other) first breaks b.0 b.1
  broken_same pc r (JumpOut other) first breaks b = first_same pc other r (JumpOut other) first breaks b.0 b.1
  broken_same pc r (Ancillary other) first breaks b = first_same pc other r (Ancillary other) first breaks b.0 b.1

  ended_same : (q : Refusal) → Refuses program NoReturn → Refuses program q → SameReason NoReturn q
  ended_same Empty a b = let some = a.0.0 in absurd (omega arith)
  ended_same TooLong a b = let limited = a.0.1 in absurd (omega arith)
  ended_same NoReturn a b = (refl, refl)
  ended_same (Unwritten pc word path) a b = absurd (a.2 b.0.ends)
  ended_same NoMemory a b = absurd b
  ended_same (BadCode pc) a b = absurd (a.1 pc b.0.1 (BadCode pc) b.1)
  ended_same (ZeroDivisor pc) a b = absurd (a.1 pc b.0.1 (ZeroDivisor pc) b.1)
  ended_same (BadShift pc) a b = absurd (a.1 pc b.0.1 (BadShift pc) b.1)
  ended_same (BadWord pc) a b = absurd (a.1 pc b.0.1 (BadWord pc) b.1)
  ended_same (JumpOut pc) a b = absurd (a.1 pc b.0.1 (JumpOut pc) b.1)
  ended_same (Ancillary pc) a b = absurd (a.1 pc b.0.1 (Ancillary pc) b.1)

  unwritten_same : (pc word : ℕ) (path : List ℕ) (q : Refusal) → Refuses program (Unwritten pc word path) → Refuses program q → SameReason (Unwritten pc word path) q
  unwritten_same pc word path Empty a b = let some = a.0.sized.0 in absurd (omega arith)
  unwritten_same pc word path TooLong a b = let limited = a.0.sized.1 in absurd (omega arith)
  unwritten_same pc word path NoReturn a b = absurd (b.2 a.0.ends)
  unwritten_same pc word path (Unwritten other word' path') a b = (
    refl,
    elim (cases_lt pc other) [
      | inl before ↦ absurd (b.2 pc word path before a.1)
      | inr from ↦ elim (cases_lt other pc) [
        | inl before ↦ absurd (a.2 other word' path' before b.1)
        | inr from' ↦ omega arith
      ]
    ],
  )
  unwritten_same pc word path NoMemory a b = absurd b
  unwritten_same pc word path (BadCode other) a b = absurd (a.0.fine other b.0.1 (BadCode other) b.1)
  unwritten_same pc word path (ZeroDivisor other) a b = absurd (a.0.fine other b.0.1 (ZeroDivisor other) b.1)
  unwritten_same pc word path (BadShift other) a b = absurd (a.0.fine other b.0.1 (BadShift other) b.1)
  unwritten_same pc word path (BadWord other) a b = absurd (a.0.fine other b.0.1 (BadWord other) b.1)
  unwritten_same pc word path (JumpOut other) a b = absurd (a.0.fine other b.0.1 (JumpOut other) b.1)
  unwritten_same pc word path (Ancillary other) a b = absurd (a.0.fine other b.0.1 (Ancillary other) b.1)

  -- all reasons to refuse the program name one rule and one place
  pub Refuses-same : (r q : Refusal) → Refuses program r → Refuses program q → SameReason r q
  Refuses-same Empty q a b = empty_same q a b
  Refuses-same TooLong q a b = long_same q a b
  Refuses-same NoReturn q a b = ended_same q a b
  Refuses-same (Unwritten pc word path) q a b = unwritten_same pc word path q a b
  Refuses-same NoMemory q a b = absurd a
  Refuses-same (BadCode pc) q a b = broken_same pc (BadCode pc) q a.0 a.1 b
  Refuses-same (ZeroDivisor pc) q a b = broken_same pc (ZeroDivisor pc) q a.0 a.1 b
  Refuses-same (BadShift pc) q a b = broken_same pc (BadShift pc) q a.0 a.1 b
  Refuses-same (BadWord pc) q a b = broken_same pc (BadWord pc) q a.0 a.1 b
  Refuses-same (JumpOut pc) q a b = broken_same pc (JumpOut pc) q a.0 a.1 b
  Refuses-same (Ancillary pc) q a b = broken_same pc (Ancillary pc) q a.0 a.1 b
