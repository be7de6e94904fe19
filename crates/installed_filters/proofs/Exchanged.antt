-- A filter that comes to another program before it leaves its own.
use Rattle.std.proofs.Common.{◌≡◌, ◌<◌, ◌+◌, ◌==◌, ◌⊎◌, inl, inr, ℕ, suc, Bool, true, false, nat_eq, Option, Some, None, Ok, Err, List, [], ◌∷◌, length, map, set, Contains, refl, ap, sym, ◌∙◌, subst}
use Rattle.std.specs.Prelude.{IsTrue, Result, OnErr, OnOk}
use Rattle.std.specs.Map.{keys_of}
use Rattle.std.specs.List.Sorted.{IsStrictlyIncreasing}
use Rattle.std.proofs.lemmas.Map.Keys.{sorted_from_strictly_increasing}
use Rattle.std.proofs.lemmas.Map.Steps.{set_value_same}
use Rattle.filter_table.proofs.Lists.{in_map}
use Rattle.bpf_insn.specs.declared.insn.Insn.{Insn}
use Rattle.chunked.specs.Maps.{value_at}
use Rattle.installed_filters.specs.declared.slots.Slot.{Slot}
use Rattle.installed_filters.specs.Slotting.{slot_at, new_slot, one_less, one_more, MayGo}
use Rattle.installed_filters.proofs.Freeing.{at_set}
use Rattle.installed_filters.specs.declared.books.Row.{Row}
use Rattle.installed_filters.specs.Books.{Begins, base_slot}
use Rattle.installed_filters.specs.Homes.{AreProgramsApart, program_in, slots_with}
use Rattle.installed_filters.specs.Leaving.{slots_without}
use Rattle.installed_filters.specs.Installed.{Installed, installed, installed_row, replaced_by}
use Rattle.installed_filters.specs.Planning.{slots_swapped}
use Rattle.installed_filters.proofs.Booked.{eq_no, eq_yes, yes_eq}
use Rattle.installed_filters.proofs.Rows.{found_in, replaced_rows}

pub on_err : {A E : Type 0} (r : Result A E) (P : Type 0) → P → OnErr r P
on_err (Ok a) P p = tt
on_err (Err e) P p = p

pub map_err : {A E : Type 0} (r : Result A E) (P Q : Type 0) → (P → Q) → OnErr r P → OnErr r Q
map_err (Ok a) P Q f p = tt
map_err (Err e) P Q f p = f p

pub on_ok : {A E : Type 0} (r : Result A E) (P : Type 0) → P → OnOk r P
on_ok (Ok a) P p = p
on_ok (Err e) P p = tt

pub map_ok : {A E : Type 0} (r : Result A E) (P Q : Type 0) → (P → Q) → OnOk r P → OnOk r Q
map_ok (Ok a) P Q f p = f p
map_ok (Err e) P Q f p = tt

pub may_go : {ready : Bool} → IsTrue ready → (o : Option Slot) → MayGo ready o
may_go ready None = tt
may_go ready (Some s) = λ single. ready

pub installed-length : (slots : List (Option Slot)) (rows : List (ℕ × Row)) (now : List Installed) → installed slots rows ≡ now → length now ≡ length rows
installed-length slots rows now is = sym (ap (length {A = Installed}) is) ∙ long rows
  where
    long : (rs : List (ℕ × Row)) → length (installed slots rs) ≡ length rs
    long [] = refl
    long (r ∷ rs) = ap suc (long rs)

pub held_there : (slots : List (Option Slot)) (rows : List (ℕ × Row)) (now : List Installed) (id : ℕ) (old : Row) → installed slots rows ≡ now → ((f : Installed) → Contains now f → f.filter.id ≡ id → f.held ≡ true) → value_at rows id ≡ Some old → old.held ≡ true
held_there slots rows now id old is held at =
    held (installed_row slots (id, old)) (subst (λ (fs : List Installed). Contains fs (installed_row slots (id, old))) is (in_map (installed_row slots) rows (id, old) (found_in rows id old at))) refl

pub replaced_same : (rows : List (ℕ × Row)) (slots : List (Option Slot)) (id : ℕ) (old : Row) (program : List Insn) → IsStrictlyIncreasing (keys_of rows) → value_at rows id ≡ Some old → program_in (slot_at slots old.number) ≡ program
    → installed slots rows ≡ map (replaced_by id program) (installed slots rows)
replaced_same rows slots id old program order at own =
    ap (installed slots) (sym (set_value_same (nat_eq id) rows old at))
    ∙ replaced_rows id old old program slots slots refl own rows (sorted_from_strictly_increasing (keys_of rows) order) (λ e there off. refl) at

-- the slots between
abbrev pub between : List (Option Slot) → ℕ → Option (List Insn) → List (Option Slot)
between slots number start = set slots number (one_more true (base_slot slots number start))

module _ (slots : List (Option Slot)) (number : ℕ) (start : Option (List Insn)) (inside : number < length slots) where
  pub between_at : (m : ℕ) → slot_at (between slots number start) m ≡ slots_with slots number start m
  between_at m = at_set slots number (one_more true (base_slot slots number start)) inside m

  between_other : (m : ℕ) → (m ≡ number → ⊥) → slot_at (between slots number start) m ≡ slot_at slots m
  between_other m off = let a = between_at m in let t = eq_no m number off in rw t at a

  pub between_old : (old : ℕ) (s : Slot) → (old ≡ number → ⊥) → slot_at slots old ≡ Some s → slot_at (between slots number start) old ≡ Some s
  between_old old s off there = between_other old off ∙ there

  -- what was at a number: the slot of before, or a new one at this number
  was : Begins slots number start → (m : ℕ) (s : Slot) → slot_at (between slots number start) m ≡ Some s
      → ((b : Slot) × (slot_at slots m ≡ Some b) × (s.program ≡ b.program)) ⊎ ((m ≡ number) × ((i : ℕ) (t : Slot) → slot_at slots i ≡ Some t → t.program ≡ s.program → ⊥))
  was begins m s at = by_test (m == number) refl
    where
      same : (a b : Slot) → Some a ≡ Some b → a ≡ b
      same a b e = cc

      of_base : (q : Option (List Insn)) → Begins slots number q → (m ≡ number) → one_more true (base_slot slots number q) ≡ Some s
          → ((b : Slot) × (slot_at slots m ≡ Some b) × (s.program ≡ b.program)) ⊎ ((m ≡ number) × ((i : ℕ) (t : Slot) → slot_at slots i ≡ Some t → t.program ≡ s.program → ⊥))
      of_base None begun here is =
          let more = record begun.0 { filters = begun.0.filters + 1; held = begun.0.held + 1 } in
          let e : more ≡ s = same more s (sym (ap (one_more true) begun.1) ∙ is) in
          inl (begun.0, ap (slot_at slots) here ∙ begun.1, ap (λ (z : Slot). z.program) (sym e))
      of_base (Some p) begun here is =
          let more = record (new_slot p) { filters = 0 + 1; held = 0 + 1 } in
          let e : more ≡ s = same more s is in
          inr (here, λ i t there program. begun.1 i t there (program ∙ ap (λ (z : Slot). z.program) (sym e)))

      by_test : (t : Bool) → (m == number) ≡ t → ((b : Slot) × (slot_at slots m ≡ Some b) × (s.program ≡ b.program)) ⊎ ((m ≡ number) × ((i : ℕ) (t : Slot) → slot_at slots i ≡ Some t → t.program ≡ s.program → ⊥))
      by_test true t = let a = between_at m in of_base start begins (yes_eq m number t) (sym (rw t at a) ∙ at)
      by_test false t = let a = between_at m in inl (s, sym (rw t at a) ∙ at, refl)

  pub between_apart : Begins slots number start → AreProgramsApart slots → AreProgramsApart (between slots number start)
  between_apart begins apart i j s t at at' same = elim (was begins i s at) [
    | inl a ↦ elim (was begins j t at') [
      | inl b ↦ apart i j a.0 b.0 a.1 b.1 (sym a.2 ∙ (same ∙ b.2))
      | inr b ↦ absurd (b.1 i a.0 a.1 (sym a.2 ∙ same))
    ]
    | inr a ↦ elim (was begins j t at') [
      | inl b ↦ absurd (a.1 j b.0 b.1 (sym b.2 ∙ sym same))
      | inr b ↦ a.0 ∙ sym b.0
    ]
  ]

  pub swapped_is : (old row : Row) → row.number ≡ number → row.held ≡ true → (old.number ≡ number → ⊥) → (m : ℕ) → slots_swapped slots old row start m ≡ slots_without (between slots number start) old m
  swapped_is old row here held off m = by_row (m == row.number) refl (m == old.number) refl
    where
      by_row : (a : Bool) → (m == row.number) ≡ a → (b : Bool) → (m == old.number) ≡ b → slots_swapped slots old row start m ≡ slots_without (between slots number start) old m
      by_row true t true u = absurd (off (sym (yes_eq m old.number u) ∙ (yes_eq m row.number t ∙ here)))
      by_row true t false u =
          let is : m ≡ number = yes_eq m row.number t ∙ here in
          let b = between_at m in
          let v = eq_yes m number is in
          rw (t, u) (ap (λ (h : Bool). one_more h (base_slot slots row.number start)) held ∙ (ap (λ (k : ℕ). one_more true (base_slot slots k start)) here ∙ sym (rw v at b)))
      by_row false t true u = rw (t, u) (ap (one_less old.held) (sym (between_other old.number off)))
      by_row false t false u = rw (t, u) (sym (between_other m (λ is. let v = eq_yes m row.number (is ∙ sym here) in cc)))
