-- What runs and what rests once a filter came whose capability is held.
use Rattle.std.proofs.Common.{◌≡◌, ◌<◌, ◌+◌, ◌⊎◌, inl, inr, ℕ, true, Option, Some, None, List, refl, ap, sym, ◌∙◌, subst, arith}
use Rattle.std.proofs.lemmas.Bool.{cases_eq}
use Rattle.bpf_insn.specs.declared.insn.Insn.{Insn}
use Rattle.installed_filters.specs.Numbering.{Numbering, IsFresh}
use Rattle.installed_filters.specs.declared.slots.Slot.{Slot}
use Rattle.installed_filters.specs.Slotting.{slot_at, new_slot, one_more}
use Rattle.installed_filters.specs.Books.{Begins, base_slot}
use Rattle.installed_filters.specs.Listing.{AreThose, Runs, Rests}
use Rattle.installed_filters.specs.Homes.{AreProgramsApart, held_in, program_in, slots_with}
use Rattle.installed_filters.proofs.Booked.{eq_yes, eq_no}

same_slot : (a b : Slot) → Some a ≡ Some b → a ≡ b
same_slot a b e = cc

-- the slot to which the filter comes
base_of : (slots : List (Option Slot)) (number : ℕ) (start : Option (List Insn)) → Begins slots number start → (b : Slot) × (base_slot slots number start ≡ Some b)
base_of slots number None begins = begins
base_of slots number (Some p) begins = (new_slot p, refl)

-- it has the program already
pub base_there : (slots : List (Option Slot)) (number : ℕ) (start : Option (List Insn)) (s : Slot) → Begins slots number start → slot_at slots number ≡ Some s → base_slot slots number start ≡ slot_at slots number
base_there slots number None s begins there = refl
base_there slots number (Some p) s begins there = absurd (let e = sym begins.0 ∙ there in cc)

-- no other number has it
base_alone : (slots : List (Option Slot)) (number : ℕ) (start : Option (List Insn)) → Begins slots number start → AreProgramsApart slots → (m : ℕ) (s : Slot) → slot_at slots m ≡ Some s → s.program ≡ program_in (base_slot slots number start) → m ≡ number
base_alone slots number None begins apart m s at is = apart m number s begins.0 at begins.1 (is ∙ ap program_in begins.1)
base_alone slots number (Some p) begins apart m s at is = absurd (begins.1 m s at is)

-- a program that runs has a slot
base_held : (slots : List (Option Slot)) (number : ℕ) (start : Option (List Insn)) → Begins slots number start → 0 < held_in (base_slot slots number start) → Runs (slot_at slots) number (program_in (base_slot slots number start))
base_held slots number None begins some = (begins.0, begins.1, sym (ap program_in begins.1), subst (λ (o : Option Slot). 0 < held_in o) begins.1 some)
base_held slots number (Some p) begins some = absurd (omega arith)

module _ (slots : List (Option Slot)) (number : ℕ) (start : Option (List Insn)) (begins : Begins slots number start) where
  abbrev base : Slot
  base = (base_of slots number start begins).0

  base_is : base_slot slots number start ≡ Some (base_of slots number start begins).0
  base_is = (base_of slots number start begins).1

  with_own : slots_with slots number start number ≡ Some (record base { filters = base.filters + 1; held = base.held + 1 })
  with_own = rw (eq_yes number number refl) (ap (one_more true) base_is)

  with_other : (m : ℕ) → (m ≡ number → ⊥) → slots_with slots number start m ≡ slot_at slots m
  with_other m off = rw (eq_no m number off) refl

  -- the slot after it
  own_program : (t : Slot) → slots_with slots number start number ≡ Some t → t.program ≡ program_in (base_slot slots number start)
  own_program t at = ap (λ (x : Slot). x.program) (same_slot t (record base { filters = base.filters + 1; held = base.held + 1 }) (sym at ∙ with_own)) ∙ sym (ap program_in base_is)

  own_held : (t : Slot) → slots_with slots number start number ≡ Some t → 0 < t.held
  own_held t at = let is = ap (λ (x : Slot). x.held) (same_slot t (record base { filters = base.filters + 1; held = base.held + 1 }) (sym at ∙ with_own)) in omega arith

  -- the slot before it
  pub own_before : (s : Slot) → slot_at slots number ≡ Some s → s.program ≡ program_in (base_slot slots number start)
  own_before s at = sym (ap program_in (base_there slots number start s begins at ∙ at))

  held_before : (s : Slot) → slot_at slots number ≡ Some s → s.held ≡ held_in (base_slot slots number start)
  held_before s at = sym (ap held_in (base_there slots number start s begins at ∙ at))

  pub own_runs : Runs (slots_with slots number start) number (program_in (base_slot slots number start))
  own_runs = (record base { filters = base.filters + 1; held = base.held + 1 }, with_own, own_program (record base { filters = base.filters + 1; held = base.held + 1 }) with_own, omega arith)

  pub runs_already : 0 < held_in (base_slot slots number start) → Runs (slot_at slots) number (program_in (base_slot slots number start))
  runs_already some = base_held slots number start begins some

  pub runs_still : (m : ℕ) (p : List Insn) → Runs (slot_at slots) m p → Runs (slots_with slots number start) m p
  runs_still m p x = elim (cases_eq m number) [
    | inl here ↦ subst (λ (k : ℕ). Runs (slots_with slots number start) k p) (sym here)
        (subst (λ (q : List Insn). Runs (slots_with slots number start) number q) (sym (own_before x.0 (sym (ap (slot_at slots) here) ∙ x.1)) ∙ x.2) own_runs)
    | inr off ↦ (x.0, with_other m off ∙ x.1, x.2, x.3)
  ]

  pub runs_before : (m : ℕ) (p : List Insn) → Runs (slots_with slots number start) m p → Runs (slot_at slots) m p ⊎ ((m ≡ number) × (p ≡ program_in (base_slot slots number start)))
  runs_before m p x = elim (cases_eq m number) [
    | inl here ↦ inr (here, sym x.2 ∙ own_program x.0 (sym (ap (slots_with slots number start) here) ∙ x.1))
    | inr off ↦ inl (x.0, sym (with_other m off) ∙ x.1, x.2, x.3)
  ]

  pub rests_before : (m : ℕ) (p : List Insn) → Rests (slots_with slots number start) m p → Rests (slot_at slots) m p
  rests_before m p x = elim (cases_eq m number) [
    | inl here ↦ absurd (let some = own_held x.0 (sym (ap (slots_with slots number start) here) ∙ x.1) in let none = x.3 in omega arith)
    | inr off ↦ (x.0, sym (with_other m off) ∙ x.1, x.2, x.3)
  ]

  pub rests_still : (m : ℕ) (p : List Insn) → Rests (slot_at slots) m p → (held_in (base_slot slots number start) ≡ 0 → p ≡ program_in (base_slot slots number start) → ⊥) → Rests (slots_with slots number start) m p
  rests_still m p x other = elim (cases_eq m number) [
    | inl here ↦ absurd (
        let at = sym (ap (slot_at slots) here) ∙ x.1 in
        other (sym (held_before x.0 at) ∙ x.3) (sym x.2 ∙ own_before x.0 at))
    | inr off ↦ (x.0, with_other m off ∙ x.1, x.2, x.3)
  ]

  module _ (apart : AreProgramsApart slots) where
    pub rests_other : (m : ℕ) (p : List Insn) → Rests (slots_with slots number start) m p → p ≡ program_in (base_slot slots number start) → ⊥
    rests_other m p x is =
        let y = rests_before m p x in
        let here = base_alone slots number start begins apart m y.0 y.1 (y.2 ∙ is) in
        let some = own_held x.0 (sym (ap (slots_with slots number start) here) ∙ x.1) in
        let none = x.3 in
        omega arith

    pub runs_other : held_in (base_slot slots number start) ≡ 0 → (m : ℕ) (p : List Insn) → Runs (slot_at slots) m p → p ≡ program_in (base_slot slots number start) → ⊥
    runs_other none m p x is =
        let here = base_alone slots number start begins apart m x.0 x.1 (x.2 ∙ is) in
        let held = held_before x.0 (sym (ap (slot_at slots) here) ∙ x.1) in
        let some = x.3 in
        omega arith

    -- a program that doesn't run can be listed
    pub comes_fresh : held_in (base_slot slots number start) ≡ 0 → (running : Numbering) → AreThose running (Runs (slot_at slots)) → IsFresh running number (program_in (base_slot slots number start))
    comes_fresh none running h = record {
      program_fresh = λ m x. runs_other none m (program_in (base_slot slots number start)) ((h m (program_in (base_slot slots number start))).0 x) refl;
      number_fresh = λ p x. (let o = (h number p).0 x in let held = held_before o.0 o.1 in let some = o.3 in omega arith);
    }
