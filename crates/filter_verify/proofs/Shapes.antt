-- What a program keeps whose instructions break no rule.
use Rattle.std.proofs.Common.{◌≡◌, ◌∙◌, ℕ, ◌+◌, ◌-◌, ◌<◌, ◌⊎◌, List, length, Option, Some, None, ap, inl, inr, arith, refl, subst, sym}
use Rattle.std.specs.Prelude.{option_and_then, slice_get}
use Rattle.std.proofs.lemmas.Bool.{cases_lt}
use Rattle.bpf_insn.specs.declared.insn.Insn.{Insn}
use Rattle.bpf_insn.specs.declared.form.Form.{Form}
use Rattle.bpf_insn.specs.Table.{form_of}
use Rattle.bpf_insn.specs.declared.form.Form.TheVariants.{Ja, JmpK, JmpX, RetK, RetA}
use Rattle.bpf_insn.specs.Program.{form_at, FormAt, JumpsTo, LeadsTo}
use Rattle.bpf_insn.proofs.Places.{FormAt-same, FormAt-inside}
use Rattle.filter_verify.specs.declared.rules.Refusal.TheVariants.{BadCode, BadWord, JumpOut}
use Rattle.filter_verify.specs.Paths.{LoadsWord, StoresWord}
use Rattle.filter_verify.specs.Rules.{IsWellShaped, IsReturn}

-- what the form of the instruction at a place was found to be
pub form_at_got : (program : List Insn) (pc : ℕ) (insn : Insn) (found : Option Form) → slice_get program pc ≡ Some insn → found ≡ form_of insn → form_at program pc ≡ found
unfolding form_at
form_at_got program pc insn found got e = ap (λ o. option_and_then form_of o) got ∙ sym e

-- control goes on by a jump, or to the next place after no return
leads_on : (pc : ℕ) (form : Form) (to : ℕ) → LeadsTo pc form to → JumpsTo pc form to ⊎ ((to ≡ pc + 1) × (IsReturn form → ⊥))
leads_on pc (Ja k) to e = inl e
leads_on pc (JmpK test k jt jf) to e = inl e
leads_on pc (JmpX test jt jf) to e = inl e
leads_on pc (RetK k) to e = absurd e
leads_on pc RetA to e = absurd e
leads_on pc _ to e = inr (e, λ h. h)

module _ (program : List Insn) (shaped : IsWellShaped program) where
  -- each place inside has a form
  pub Shaped-form : (pc : ℕ) → pc < length program → form_at program pc ≡ None → ⊥
  Shaped-form pc inside none = shaped.fine pc inside (BadCode pc) (refl, none)

  -- each scratch word is one of sixteen
  pub Shaped-word : (pc word : ℕ) → pc < length program → LoadsWord program pc word ⊎ StoresWord program pc word → word < 16
  Shaped-word pc word inside names =
      elim (cases_lt word 16) [
        | inl below ↦ below
        | inr above ↦ absurd (shaped.fine pc inside (BadWord pc) (refl, (word, above, names)))
      ]

  -- control stays inside
  pub Shaped-target : (pc to : ℕ) (form : Form) → FormAt program pc form → LeadsTo pc form to → to < length program
  Shaped-target pc to form at leads =
      let inside = FormAt-inside program pc form at in
      elim (leads_on pc form to leads) [
        | inl jump ↦ elim (cases_lt to (length program)) [
          | inl below ↦ below
          | inr above ↦ absurd (shaped.fine pc inside (JumpOut pc) (refl, (form, to, at, jump, above)))
        ]
        | inr on ↦ elim (cases_lt (pc + 1) (length program)) [
          | inl below ↦ let same = on.0 in omega arith
          | inr above ↦
              let last : pc ≡ length program - 1 = omega arith in
              let ends = shaped.ends in
              let other = subst (λ p. FormAt program p ends.0) (sym last) ends.1 in
              absurd (on.1 (subst IsReturn (FormAt-same program pc _ form other at) ends.2))
        ]
      ]
