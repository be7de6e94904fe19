-- What runs and what rests without a filter.
use Rattle.std.proofs.Common.{◌≡◌, ◌<◌, ◌-◌, ◌⊎◌, inl, inr, ℕ, Bool, true, false, Option, Some, None, List, refl, ap, sym, ◌∙◌, subst, arith}
use Rattle.std.proofs.lemmas.Bool.{cases_eq}
use Rattle.bpf_insn.specs.declared.insn.Insn.{Insn}
use Rattle.installed_filters.specs.Numbering.{Numbering, IsFresh}
use Rattle.installed_filters.specs.declared.slots.Slot.{Slot}
use Rattle.installed_filters.specs.Slotting.{slot_at, one, one_less}
use Rattle.installed_filters.specs.declared.books.Row.{Row}
use Rattle.installed_filters.specs.Listing.{AreThose, Runs, Rests}
use Rattle.installed_filters.specs.Homes.{AreProgramsApart, program_in}
use Rattle.installed_filters.specs.Leaving.{GoesToRest, IsOneOf, Stops, Vanishes, slots_without}
use Rattle.installed_filters.proofs.Booked.{eq_yes, eq_no}

same_slot : (a b : Slot) → Some a ≡ Some b → a ≡ b
same_slot a b e = cc

no_slot : (a : Slot) (o : Option Slot) → o ≡ None → o ≡ Some a → ⊥
no_slot a o none some = let e = sym none ∙ some in cc

pub slot_there : (o : Option Slot) (held : Bool) → IsOneOf o held → (s : Slot) × (o ≡ Some s)
slot_there None held h = absurd h
slot_there (Some s) held h = (s, refl)

-- A slot with one filter less, by whether that was held

rests_then : (held : Bool) (s : Slot) → IsOneOf (Some s) held → (s.filters ≡ 1 → ⊥) → s.held - one held ≡ 0 → (s.held ≡ 0) ⊎ GoesToRest held (Some s)
rests_then true s one_of more none = let least = one_of.0 in let some = one_of.2 in inr (refl, omega arith, omega arith)
rests_then false s one_of more none = inl (omega arith)

rested_then : (held : Bool) (s : Slot) → GoesToRest held (Some s) → s.held - one held ≡ 0
rested_then true s goes = let is = goes.1 in omega arith
rested_then false s goes = absurd (let e = goes.0 in cc)

runs_then : (held : Bool) (s : Slot) → IsOneOf (Some s) held → 0 < s.held → (Stops held (Some s) → ⊥) → (0 < s.held - one held) × (s.filters ≡ 1 → ⊥)
runs_then true s one_of some stops = let several : s.held ≡ 1 → ⊥ = λ is. stops (refl, is) in let most = one_of.1 in (omega arith, λ single. omega arith)
runs_then false s one_of some stops = let most = one_of.1 in (omega arith, λ single. omega arith)

stopped_then : (held : Bool) (s : Slot) → Stops held (Some s) → s.held - one held ≡ 0
stopped_then true s stops = let is = stops.1 in omega arith
stopped_then false s stops = absurd (let e = stops.0 in cc)

stays_then : (held : Bool) (s : Slot) → IsOneOf (Some s) held → s.held ≡ 0 → (Vanishes held (Some s) → ⊥) → s.filters ≡ 1 → ⊥
stays_then true s one_of none vanishes single = let least = one_of.0 in omega arith
stays_then false s one_of none vanishes single = vanishes (refl, single)

module _ (slots : List (Option Slot)) (row : Row) (apart : AreProgramsApart slots) (s : Slot) (at : slot_at slots row.number ≡ Some s) (one_of : IsOneOf (Some s) row.held) where
  own_less : slots_without slots row row.number ≡ one_less row.held (Some s)
  own_less = rw (eq_yes row.number row.number refl) (ap (one_less row.held) at)

  other_less : (m : ℕ) → (m ≡ row.number → ⊥) → slots_without slots row m ≡ slot_at slots m
  other_less m off = rw (eq_no m row.number off) refl

  -- several filters had the program
  several : (s.filters ≡ 1 → ⊥) → slots_without slots row row.number ≡ Some (record s { filters = s.filters - 1; held = s.held - one row.held })
  several more = own_less ∙ rw (eq_no s.filters 1 more) refl

  -- one had
  alone : s.filters ≡ 1 → slots_without slots row row.number ≡ None
  alone single = own_less ∙ rw (eq_yes s.filters 1 single) refl

  -- the slot that is left
  not_alone : (t : Slot) → slots_without slots row row.number ≡ Some t → s.filters ≡ 1 → ⊥
  not_alone t there single = no_slot t (slots_without slots row row.number) (alone single) there

  left_is : (t : Slot) → slots_without slots row row.number ≡ Some t → t ≡ record s { filters = s.filters - 1; held = s.held - one row.held }
  left_is t there = same_slot t (record s { filters = s.filters - 1; held = s.held - one row.held }) (sym there ∙ several (not_alone t there))

  left_program : (t : Slot) → slots_without slots row row.number ≡ Some t → t.program ≡ s.program
  left_program t there = ap (λ (x : Slot). x.program) (left_is t there)

  left_held : (t : Slot) → slots_without slots row row.number ≡ Some t → t.held ≡ s.held - one row.held
  left_held t there = ap (λ (x : Slot). x.held) (left_is t there)

  own_slot : (t : Slot) → slot_at slots row.number ≡ Some t → t ≡ s
  own_slot t there = same_slot t s (sym there ∙ at)

  own_is : program_in (slot_at slots row.number) ≡ s.program
  own_is = ap program_in at

  -- what is there afterwards was there
  was_there : (m : ℕ) (t : Slot) → slots_without slots row m ≡ Some t → (u : Slot) × (slot_at slots m ≡ Some u) × (t.program ≡ u.program)
  was_there m t there = elim (cases_eq m row.number) [
    | inl here ↦ (s, ap (slot_at slots) here ∙ at, left_program t (sym (ap (slots_without slots row) here) ∙ there))
    | inr off ↦ (t, sym (other_less m off) ∙ there, refl)
  ]

  -- only this number has the program
  only_here : (m : ℕ) (t : Slot) → slots_without slots row m ≡ Some t → t.program ≡ program_in (slot_at slots row.number) → m ≡ row.number
  only_here m t there is = let u = was_there m t there in apart m row.number u.0 s u.1 at (sym u.2 ∙ (is ∙ own_is))

  pub runs_more : (m : ℕ) (p : List Insn) → Runs (slots_without slots row) m p → Runs (slot_at slots) m p
  runs_more m p x = elim (cases_eq m row.number) [
    | inl here ↦
        let there = sym (ap (slots_without slots row) here) ∙ x.1 in
        let held = left_held x.0 there in
        let some = x.3 in
        (s, ap (slot_at slots) here ∙ at, sym (left_program x.0 there) ∙ x.2, omega arith)
    | inr off ↦ (x.0, sym (other_less m off) ∙ x.1, x.2, x.3)
  ]

  pub rests_more : (m : ℕ) (p : List Insn) → Rests (slots_without slots row) m p → Rests (slot_at slots) m p ⊎ (GoesToRest row.held (slot_at slots row.number) × (m ≡ row.number) × (p ≡ program_in (slot_at slots row.number)))
  rests_more m p x = elim (cases_eq m row.number) [
    | inl here ↦
        let there = sym (ap (slots_without slots row) here) ∙ x.1 in
        let is = sym (left_program x.0 there) ∙ x.2 in
        elim (rests_then row.held s one_of (not_alone x.0 there) (sym (left_held x.0 there) ∙ x.3)) [
          | inl none ↦ inl (s, ap (slot_at slots) here ∙ at, is, none)
          | inr goes ↦ inr (subst (GoesToRest row.held) (sym at) goes, here, sym is ∙ sym own_is)
        ]
    | inr off ↦ inl (x.0, sym (other_less m off) ∙ x.1, x.2, x.3)
  ]

  pub goes_rests : GoesToRest row.held (slot_at slots row.number) → Rests (slots_without slots row) row.number (program_in (slot_at slots row.number))
  goes_rests goes =
      let h = subst (GoesToRest row.held) at goes in
      let more : s.filters ≡ 1 → ⊥ = λ single. (let over = h.2 in omega arith) in
      (record s { filters = s.filters - 1; held = s.held - one row.held }, several more, sym own_is, rested_then row.held s h)

  pub goes_fresh : GoesToRest row.held (slot_at slots row.number) → (resting : Numbering) → AreThose resting (Rests (slot_at slots)) → IsFresh resting row.number (program_in (slot_at slots row.number))
  goes_fresh goes resting h = record {
    program_fresh = λ m x. (let o = (h m (program_in (slot_at slots row.number))).0 x in let here = apart m row.number o.0 s o.1 at (o.2 ∙ own_is) in none o.0 (sym (ap (slot_at slots) here) ∙ o.1) o.3);
    number_fresh = λ p x. (let o = (h row.number p).0 x in none o.0 o.1 o.3);
  }
    where
      none : (t : Slot) → slot_at slots row.number ≡ Some t → t.held ≡ 0 → ⊥
      none t there zeroed = let is = ap (λ (x : Slot). x.held) (own_slot t there) in let held = (subst (GoesToRest row.held) at goes).1 in omega arith

  pub goes_other : GoesToRest row.held (slot_at slots row.number) → (m : ℕ) (p : List Insn) → Rests (slot_at slots) m p → p ≡ program_in (slot_at slots row.number) → ⊥
  goes_other goes m p x same =
      let here = apart m row.number x.0 s x.1 at (x.2 ∙ (same ∙ own_is)) in
      let is = ap (λ (y : Slot). y.held) (own_slot x.0 (sym (ap (slot_at slots) here) ∙ x.1)) in
      let held = (subst (GoesToRest row.held) at goes).1 in
      let none = x.3 in
      omega arith

  pub runs_on : (m : ℕ) (p : List Insn) → Runs (slot_at slots) m p → (Stops row.held (slot_at slots row.number) → p ≡ program_in (slot_at slots row.number) → ⊥) → Runs (slots_without slots row) m p
  runs_on m p x other = elim (cases_eq m row.number) [
    | inl here ↦
        let there = sym (ap (slot_at slots) here) ∙ x.1 in
        let is : s.program ≡ p = sym (ap (λ (y : Slot). y.program) (own_slot x.0 there)) ∙ x.2 in
        let held = ap (λ (y : Slot). y.held) (own_slot x.0 there) in
        let some = x.3 in
        let still = runs_then row.held s one_of (omega arith) (λ stops. other (subst (Stops row.held) (sym at) stops) (sym is ∙ sym own_is)) in
        (record s { filters = s.filters - 1; held = s.held - one row.held }, ap (slots_without slots row) here ∙ several still.1, is, still.0)
    | inr off ↦ (x.0, other_less m off ∙ x.1, x.2, x.3)
  ]

  pub stops_other : Stops row.held (slot_at slots row.number) → (m : ℕ) (p : List Insn) → Runs (slots_without slots row) m p → p ≡ program_in (slot_at slots row.number) → ⊥
  stops_other stops m p x same =
      let here = only_here m x.0 x.1 (x.2 ∙ same) in
      let held = left_held x.0 (sym (ap (slots_without slots row) here) ∙ x.1) in
      let none = stopped_then row.held s (subst (Stops row.held) at stops) in
      let some = x.3 in
      omega arith

  pub rests_on : (m : ℕ) (p : List Insn) → Rests (slot_at slots) m p → (Vanishes row.held (slot_at slots row.number) → p ≡ program_in (slot_at slots row.number) → ⊥) → Rests (slots_without slots row) m p
  rests_on m p x other = elim (cases_eq m row.number) [
    | inl here ↦
        let there = sym (ap (slot_at slots) here) ∙ x.1 in
        let is : s.program ≡ p = sym (ap (λ (y : Slot). y.program) (own_slot x.0 there)) ∙ x.2 in
        let none : s.held ≡ 0 = sym (ap (λ (y : Slot). y.held) (own_slot x.0 there)) ∙ x.3 in
        let still = stays_then row.held s one_of none (λ vanishes. other (subst (Vanishes row.held) (sym at) vanishes) (sym is ∙ sym own_is)) in
        (record s { filters = s.filters - 1; held = s.held - one row.held }, ap (slots_without slots row) here ∙ several still, is, omega arith)
    | inr off ↦ (x.0, other_less m off ∙ x.1, x.2, x.3)
  ]

  pub vanishes_other : Vanishes row.held (slot_at slots row.number) → (m : ℕ) (p : List Insn) → Rests (slots_without slots row) m p → p ≡ program_in (slot_at slots row.number) → ⊥
  vanishes_other vanishes m p x same =
      let here = only_here m x.0 x.1 (x.2 ∙ same) in
      not_alone x.0 (sym (ap (slots_without slots row) here) ∙ x.1) (subst (Vanishes row.held) at vanishes).1
