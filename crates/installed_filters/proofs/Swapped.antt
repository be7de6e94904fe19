-- A filter that gets another program.
use Rattle.std.proofs.Common.{◌≡◌, ◌<◌, ◌+◌, ◌-◌, ◌==◌, ◌&&◌, inl, ℕ, Bool, true, false, Option, Some, None, List, length, set, refl, ap, sym, ◌∙◌, arith}
use Rattle.std.specs.Prelude.{if◌then◌else◌}
use Rattle.std.proofs.lemmas.List.{get_or-set_same, get_or-set_other}
use Rattle.std.proofs.Math.ListN.{length-set}
use Rattle.bpf_insn.specs.declared.insn.Insn.{Insn}
use Rattle.chunked.specs.Maps.{SortedMap, value_at}
use Rattle.installed_filters.specs.declared.slots.Slot.{Slot}
use Rattle.installed_filters.specs.Slotting.{slot_at, one, one_more, one_less}
use Rattle.installed_filters.specs.Counts.{counted, ends_at, no_counts, number_of, reach_at}
use Rattle.installed_filters.specs.declared.books.Row.{Row}
use Rattle.installed_filters.specs.Books.{Adds, AreBooked, Begins, base_slot}
use Rattle.installed_filters.proofs.Booked.{booked_put, booked_take, eq_no, eq_yes, put_slots, yes_eq}

pub less_program : (held : Bool) (o : Option Slot) (s : Slot) → one_less held o ≡ Some s → (b : Slot) × (o ≡ Some b) × (s.program ≡ b.program)
less_program held None s e = absurd cc
less_program held (Some b) s e = by_test (b.filters == 1) refl
  where
    by_test : (t : Bool) → (b.filters == 1) ≡ t → (c : Slot) × (Some b ≡ Some c) × (s.program ≡ c.program)
    by_test true t = absurd (let none = rw t at e in cc)
    by_test false t =
        let some = rw t at e in
        let is : record b { filters = b.filters - 1; held = b.held - one held } ≡ s = cc in
        (b, refl, ap (λ (z : Slot). z.program) (sym is))

module _ (slots mid : List (Option Slot)) (old : Row) (less : (m : ℕ) → slot_at mid m ≡ (if m == old.number then one_less old.held (slot_at slots old.number) else slot_at slots m)) (number : ℕ) (other : old.number ≡ number → ⊥) where
  pub still_at : slot_at mid number ≡ slot_at slots number
  still_at = let a = less number in let t = eq_no number old.number (λ same. other (sym same)) in rw t at a

  pub begins_after : (program : Option (List Insn)) → Begins slots number program → Begins mid number program
  begins_after None begins = (begins.0, still_at ∙ begins.1)
  begins_after (Some p) begins = (still_at ∙ begins.0, λ i s at is. by_test i s at is (i == old.number) refl)
    where
      by_test : (i : ℕ) (s : Slot) → slot_at mid i ≡ Some s → s.program ≡ p → (t : Bool) → (i == old.number) ≡ t → ⊥
      by_test i s at is true t =
          let a = less i in
          let b = less_program old.held (slot_at slots old.number) s (sym (rw t at a) ∙ at) in
          begins.1 old.number b.0 b.1 (sym b.2 ∙ is)
      by_test i s at is false t = let a = less i in begins.1 i s (sym (rw t at a) ∙ at) is

  pub base_after : (program : Option (List Insn)) → base_slot mid number program ≡ base_slot slots number program
  base_after None = still_at
  base_after (Some p) = refl

  pub swap_slots : (begun slots' : List (Option Slot)) (program : Option (List Insn)) (held : Bool) → slot_at begun number ≡ base_slot mid number program → ((m : ℕ) → (m == number) ≡ false → slot_at begun m ≡ slot_at mid m)
      → ((m : ℕ) → slot_at slots' m ≡ (if m == number then one_more held (slot_at begun number) else slot_at begun m))
      → (m : ℕ) → slot_at slots' m ≡ (if m == number then one_more held (base_slot slots number program) else (if m == old.number then one_less old.held (slot_at slots old.number) else slot_at slots m))
  swap_slots begun slots' program held own others add m =
      put_slots mid begun slots' number (base_slot slots number program) held (own ∙ base_after program) others add m
      ∙ ap (λ (o : Option Slot). (if m == number then one_more held (base_slot slots number program) else o)) (less m)

-- the reaches, of which one number's are as they will be
module _ (ends ends1 ends' : List (SortedMap ℕ)) (old row : Row) (inside : old.number < length ends) (other : old.number ≡ row.number → ⊥)
    (add : (m q : ℕ) → reach_at ends1 m q ≡ (if (m == row.number) && (q == row.endpoint) then counted (number_of (reach_at ends row.number row.endpoint) + 1) else reach_at ends m q))
    (take : (m q : ℕ) → reach_at ends' m q ≡ (if (m == old.number) && (q == old.endpoint) then counted (number_of (reach_at ends1 old.number old.endpoint) - 1) else reach_at ends1 m q)) where
  abbrev pub middle : List (SortedMap ℕ)
  middle = set ends old.number (ends_at ends' old.number)

  middle_own : (q : ℕ) → reach_at middle old.number q ≡ reach_at ends' old.number q
  middle_own q = ap (λ (c : SortedMap ℕ). value_at c.entries q) (get_or-set_same ends old.number (ends_at ends' old.number) no_counts inside)

  middle_other : (m q : ℕ) → (m == old.number) ≡ false → reach_at middle m q ≡ reach_at ends m q
  middle_other m q t = ap (λ (c : SortedMap ℕ). value_at c.entries q) (get_or-set_other ends old.number m (ends_at ends' old.number) no_counts (λ same. let u = eq_yes m old.number same in cc))

  old_before : (q : ℕ) → reach_at ends1 old.number q ≡ reach_at ends old.number q
  old_before q = let a = add old.number q in let t = eq_no old.number row.number other in rw t at a

  pub middle_less : (m q : ℕ) → reach_at middle m q ≡ (if (m == old.number) && (q == old.endpoint) then counted (number_of (reach_at ends old.number old.endpoint) - 1) else reach_at ends m q)
  middle_less m q = by_test (m == old.number) refl
    where
      by_end : (t : Bool) → (q == old.endpoint) ≡ t → reach_at ends' old.number q ≡ (if q == old.endpoint then counted (number_of (reach_at ends old.number old.endpoint) - 1) else reach_at ends old.number q)
      by_end true e =
          let a = take old.number q in
          let t = eq_yes old.number old.number refl in
          let b = rw t at a in
          rw e ((rw e at b) ∙ ap (λ (o : Option ℕ). counted (number_of o - 1)) (old_before old.endpoint))
      by_end false e =
          let a = take old.number q in
          let t = eq_yes old.number old.number refl in
          let b = rw t at a in
          rw e ((rw e at b) ∙ old_before q)

      by_test : (t : Bool) → (m == old.number) ≡ t → reach_at middle m q ≡ (if (m == old.number) && (q == old.endpoint) then counted (number_of (reach_at ends old.number old.endpoint) - 1) else reach_at ends m q)
      by_test true t =
          let is = yes_eq m old.number t in
          rw t (ap (λ (k : ℕ). reach_at middle k q) is ∙ (middle_own q ∙ (by_end (q == old.endpoint) refl
          ∙ ap (λ (k : ℕ). (if q == old.endpoint then counted (number_of (reach_at ends old.number old.endpoint) - 1) else reach_at ends k q)) (sym is))))
      by_test false t = rw t (middle_other m q t)

  pub middle_more : row.held ≡ true → (m q : ℕ) → reach_at ends' m q ≡ (if row.held && ((m == row.number) && (q == row.endpoint)) then counted (number_of (reach_at middle row.number row.endpoint) + 1) else reach_at middle m q)
  middle_more held m q = rw held (by_test (m == old.number) refl)
    where
      row_same : reach_at middle row.number row.endpoint ≡ reach_at ends row.number row.endpoint
      row_same = middle_other row.number row.endpoint (eq_no row.number old.number (λ same. other (sym same)))

      by_test : (t : Bool) → (m == old.number) ≡ t → reach_at ends' m q ≡ (if (m == row.number) && (q == row.endpoint) then counted (number_of (reach_at middle row.number row.endpoint) + 1) else reach_at middle m q)
      by_test true t =
          let is = yes_eq m old.number t in
          let off : (m == row.number) ≡ false = eq_no m row.number (λ same. other (sym is ∙ same)) in
          rw off (ap (λ (k : ℕ). reach_at ends' k q) is ∙ (sym (middle_own q) ∙ ap (λ (k : ℕ). reach_at middle k q) (sym is)))
      by_test false t =
          let a = take m q in
          (rw t at a) ∙ (add m q
          ∙ (ap (λ (o : Option ℕ). (if (m == row.number) && (q == row.endpoint) then counted (number_of o + 1) else reach_at ends m q)) (sym row_same)
          ∙ ap (λ (o : Option ℕ). (if (m == row.number) && (q == row.endpoint) then counted (number_of (reach_at middle row.number row.endpoint) + 1) else o)) (sym (middle_other m q t))))

pub booked_swap : (rows others after : List (ℕ × Row)) (slots mid begun slots' : List (Option Slot)) (ends ends1 ends' : List (SortedMap ℕ)) (old row : Row) (program : Option (List Insn)) → old.held ≡ true → row.held ≡ true → (old.number ≡ row.number → ⊥)
    → old.number < length ends → row.number < length ends → row.number < length slots → length mid ≡ length slots → length slots' ≡ length mid → length ends' ≡ length ends → Begins slots row.number program
    → ((m : ℕ) → slot_at mid m ≡ (if m == old.number then one_less old.held (slot_at slots old.number) else slot_at slots m))
    → slot_at begun row.number ≡ base_slot mid row.number program → ((m : ℕ) → (m == row.number) ≡ false → slot_at begun m ≡ slot_at mid m)
    → ((m : ℕ) → slot_at slots' m ≡ (if m == row.number then one_more row.held (slot_at begun row.number) else slot_at begun m))
    → ((m q : ℕ) → reach_at ends1 m q ≡ (if (m == row.number) && (q == row.endpoint) then counted (number_of (reach_at ends row.number row.endpoint) + 1) else reach_at ends m q))
    → ((m q : ℕ) → reach_at ends' m q ≡ (if (m == old.number) && (q == old.endpoint) then counted (number_of (reach_at ends1 old.number old.endpoint) - 1) else reach_at ends1 m q))
    → AreBooked rows slots ends → Adds others old rows → Adds others row after → AreBooked after slots' ends'
booked_swap rows others after slots mid begun slots' ends ends1 ends' old row program old_held held other old_inside inside slot long long' same begins less own rest add reach_add reach_take booked goes comes =
    let between = middle ends ends1 ends' old row old_inside other reach_add reach_take in
    let same_length : length between ≡ length ends = length-set ends old.number (ends_at ends' old.number) in
    let left = booked_take rows others slots mid ends between old goes booked long same_length less (inl (old_held, middle_less ends ends1 ends' old row old_inside other reach_add reach_take)) in
    booked_put others after mid slots' between ends' row comes left program (begins_after slots mid old less row.number other program begins) (omega arith) (omega arith) long' (omega arith)
    (put_slots mid begun slots' row.number (base_slot mid row.number program) row.held own rest add)
    (middle_more ends ends1 ends' old row old_inside other reach_add reach_take held)
