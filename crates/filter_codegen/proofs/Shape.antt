-- Programs of plain instructions break no rule.
use Rattle.std.proofs.Common.{◌≡◌, ℕ, zero, suc, ◌+◌, ◌-◌, ◌<◌, ◌≤◌, List, [], ◌∷◌, ◌++◌, length, Some, inl, inr, refl, sym, ap, ◌∙◌, subst, arith, length-append}
use Rattle.std.specs.Prelude.{slice_get}
use Rattle.std.proofs.Math.Seq.{get_or-append_seam}
use Rattle.std.proofs.lemmas.Option.{slice_get-get_or}
use Rattle.bpf_insn.specs.declared.insn.TheConstants.{MAX_INSNS}
use Rattle.bpf_insn.specs.declared.insn.Insn.{Insn}
use Rattle.bpf_insn.specs.declared.form.Form.{Form}
use Rattle.bpf_insn.specs.declared.form.Form.TheVariants.{Ja, JmpK, JmpX, RetK}
use Rattle.bpf_insn.specs.Table.{form_of}
use Rattle.bpf_insn.specs.Program.{FormAt, JumpsTo}
use Rattle.bpf_insn.proofs.Places.{FormAt-same, FormAt-inside}
use Rattle.filter_verify.specs.declared.rules.Refusal.TheVariants.{BadCode, ZeroDivisor, BadShift, BadWord, JumpOut, Ancillary}
use Rattle.filter_verify.specs.Paths.{LoadsWord, StoresWord}
use Rattle.filter_verify.specs.Rules.{IsFine, Sound}
use Rattle.filter_verify.proofs.Shapes.{form_at_got}
use Rattle.filter_codegen.specs.Drafts.{IsPlain, IsPlainForm, ArePlain}

-- the instruction at a place is plain, before those after it
record PlainAt (code : List Insn) (pc : ℕ) : Type 0 where
  form : Form
  after : ℕ
  at : FormAt code pc form
  plain : IsPlainForm form after
  counted : pc + after + 1 ≡ length code

got_at : (code : List Insn) → ArePlain code → (pc : ℕ) → pc < length code → (insn : Insn) × (after : ℕ) × (slice_get code pc ≡ Some insn) × IsPlain insn after × (pc + after + 1 ≡ length code)
got_at [] plain pc inside = absurd (omega arith)
got_at (insn ∷ code) plain zero inside = (insn, length code, refl, plain.0, omega arith)
got_at (insn ∷ code) plain (suc pc) inside =
    let w = got_at code plain.1 pc (omega arith) in
    let counted = w.4 in
    (w.0, w.1, w.2, w.3, omega arith)

plain_at : (code : List Insn) → ArePlain code → (pc : ℕ) → pc < length code → PlainAt code pc
plain_at code plain pc inside =
    let w = got_at code plain pc inside in
    record { form = w.3.0; after = w.1; at = form_at_got code pc w.0 (Some w.3.0) w.2 (sym w.3.1); plain = w.3.2; counted = w.4 }

-- what stands at a place is plain
plain_form : (code : List Insn) → ArePlain code → (pc : ℕ) (form : Form) → FormAt code pc form → (after : ℕ) × IsPlainForm form after × (pc + after + 1 ≡ length code)
plain_form code plain pc form at =
    let w = plain_at code plain pc (FormAt-inside code pc form at) in
    (w.after, subst (λ f. IsPlainForm f w.after) (FormAt-same code pc w.form form w.at at) w.plain, w.counted)

-- jumps stay inside
jumps_inside : (form : Form) (pc after len to : ℕ) → IsPlainForm form after → pc + after + 1 ≡ len → JumpsTo pc form to → to < len
jumps_inside (Ja k) pc after len to plain e jumps = omega arith
jumps_inside (JmpK test k jt jf) pc after len to plain e jumps = let p = plain.0 in let q = plain.1 in elim jumps [ inl j ↦ omega arith | inr j ↦ omega arith ]
jumps_inside (JmpX test jt jf) pc after len to plain e jumps = absurd plain
jumps_inside _ pc after len to plain e jumps = absurd jumps

module _ (code : List Insn) (plain : ArePlain code) where
  loads_none : (pc word : ℕ) → LoadsWord code pc word → ⊥
  loads_none pc word loads = elim loads [ inl at ↦ (plain_form code plain pc _ at).1 | inr at ↦ (plain_form code plain pc _ at).1 ]

  stores_none : (pc word : ℕ) → StoresWord code pc word → ⊥
  stores_none pc word stores = elim stores [ inl at ↦ (plain_form code plain pc _ at).1 | inr at ↦ (plain_form code plain pc _ at).1 ]

  fine : (pc : ℕ) → pc < length code → IsFine code pc
  fine pc inside (BadCode at) h = let w = plain_at code plain pc inside in let p = w.at in let q = h.1 in cc
  fine pc inside (ZeroDivisor at) h = elim h.1 [ inl f ↦ (plain_form code plain pc _ f).1 | inr f ↦ (plain_form code plain pc _ f).1 ]
  fine pc inside (BadShift at) h = elim h.1.2 [ inl f ↦ (plain_form code plain pc _ f).1 | inr f ↦ (plain_form code plain pc _ f).1 ]
  fine pc inside (BadWord at) h = elim h.1.2 [ inl l ↦ loads_none pc _ l | inr s ↦ stores_none pc _ s ]
  fine pc inside (JumpOut at) h =
      let w = plain_form code plain pc h.1.0 h.1.2 in
      let far = h.1.4 in
      let near = jumps_inside h.1.0 pc w.0 (length code) h.1.1 w.1 w.2 h.1.3 in
      absurd (omega arith)
  fine pc inside (Ancillary at) h =
      let w = plain_form code plain pc _ h.1.3 in
      let small = w.1.0 in
      let large = h.1.2 in
      absurd (omega arith)
  fine pc inside _ h = h

  -- such a program is sound that ends in a return and is not too long
  pub sound_plain : (front : List Insn) (last : Insn) (k : ℕ) → code ≡ front ++ last ∷ [] → form_of last ≡ Some (RetK k) → length code ≤ MAX_INSNS → Sound code
  sound_plain front last k whole is short = record {
    shaped = record {
      sized = (let e = ap length whole ∙ length-append front (last ∷ []) in omega arith, short);
      fine = fine;
      ends =
          let e = ap length whole ∙ length-append front (last ∷ []) in
          let at : length front ≡ length code - 1 = omega arith in
          let within : length front < length (front ++ last ∷ []) = omega (arith, length-append front (last ∷ [])) in
          let here : slice_get code (length front) ≡ Some last = ap (λ l. slice_get l (length front)) whole ∙ slice_get-get_or (front ++ last ∷ []) (length front) last within ∙ ap Some (get_or-append_seam front last [] last) in
          (RetK k, subst (λ n. FormAt code n (RetK k)) at (form_at_got code (length front) last (Some (RetK k)) here (sym is)), tt);
    };
    written = λ earlier pc word path loads. absurd (loads_none pc word loads);
  }
