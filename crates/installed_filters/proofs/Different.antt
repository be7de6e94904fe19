-- The programs of the filters, each once, and a filter by its id.
use Rattle.std.proofs.Common.{◌≡◌, ◌<◌, ◌+◌, ◌==◌, ℕ, zero, suc, Bool, true, false, cond, count_by, Option, Some, None, is_some, List, [], ◌∷◌, map, filter, length, slice_get, refl, ap, sym, ◌∙◌, subst, arith, nat_eq, nat_le}
use Rattle.std.proofs.lemmas.Option.{slice_get-get_or, get_or_from_slice_get}
use Rattle.std.proofs.lemmas.Bool.{ltb-true, lt-ltb}
use Rattle.std.proofs.lemmas.List.Recursion.{is_count_by}
use Rattle.std.specs.Option.{option_map}
use Rattle.bpf_insn.specs.declared.insn.Insn.{Insn}
use Rattle.chunked.specs.Maps.{SortedMap, value_at}
use Rattle.filter_group.proofs.Edits.{at_contains, contains_at}
use Rattle.filter_table.specs.Listed.{ListedFilter}
use Rattle.filter_table.specs.Tables.{filter_at}
use Rattle.filter_table.proofs.Lists.{never, in_map, was_mapped, in_filter, from_filter, in_head, in_tail}
use Rattle.installed_filters.specs.declared.slots.Slot.{Slot}
use Rattle.installed_filters.specs.declared.books.Row.{Row}
use Rattle.installed_filters.specs.Slotting.{slot_at, is_held}
use Rattle.installed_filters.specs.Books.{AreBooked, tally, has_number, holds_number, IsTally}
use Rattle.installed_filters.specs.Homes.{program_in}
use Rattle.installed_filters.specs.Installed.{Installed, installed, installed_row}
use Rattle.installed_filters.specs.Planning.{AreIds}
use Rattle.installed_filters.specs.Lent.{IsIn, AreDifferent, AreLendable, listed, held_listed, listed_row}
use Rattle.installed_filters.proofs.Booked.{eq_yes, yes_eq}
use Rattle.installed_filters.proofs.Received.{tally_found, both}
use Rattle.installed_filters.proofs.Rows.{booked_slot, tally_some}
use Rattle.installed_filters.proofs.Homed.{slot_inside}

-- A filter by its id

pub listed_rows : (slots : List (Option Slot)) (rows : List (ℕ × Row)) → listed (installed slots rows) ≡ map (listed_row slots) rows
listed_rows slots [] = refl
listed_rows slots (e ∷ rows) = ap (λ (fs : List ListedFilter). listed_row slots e ∷ fs) (listed_rows slots rows)

pub row_found : (slots : List (Option Slot)) (rows : List (ℕ × Row)) (id : ℕ) → filter_at (listed (installed slots rows)) id ≡ option_map (λ row. listed_row slots (id, row)) (value_at rows id)
row_found slots [] id = refl
row_found slots (e ∷ rows) id = by_id (nat_eq id e.0) refl (row_found slots rows id)
  where
    by_id : (b : Bool) → nat_eq id e.0 ≡ b → filter_at (listed (installed slots rows)) id ≡ option_map (λ row. listed_row slots (id, row)) (value_at rows id)
        → filter_at (listed (installed slots (e ∷ rows))) id ≡ option_map (λ row. listed_row slots (id, row)) (value_at (e ∷ rows) id)
    by_id true t rest =
        let key : id ≡ e.0 = yes_eq id e.0 t in
        let flip : (e.0 == id) ≡ true = eq_yes e.0 id (sym key) in
        rw (t, flip) (ap (λ (k : ℕ). Some (listed_row slots (k, e.1))) (sym key))
    by_id false t rest =
        let flip : (e.0 == id) ≡ false = flipped (e.0 == id) refl in
        rw (t, flip) rest
      where
        flipped : (b : Bool) → (e.0 == id) ≡ b → (e.0 == id) ≡ false
        flipped true s = absurd (let u = eq_yes id e.0 (sym (yes_eq e.0 id s)) in cc)
        flipped false s = s

-- rows that are lent one after the other
pub lendable_rest : (slots : List (Option Slot)) (rows rest : List (ℕ × Row)) (e : ℕ × Row) → rows ≡ e ∷ rest → AreLendable slots rows → AreLendable slots rest
lendable_rest slots rows rest e is known =
    let all = subst (AreLendable slots) is known in
    record { programs = λ x at. all.programs x (in_tail e rest x at); ids = λ x at. all.ids x (in_tail e rest x at) }

pub none_lendable : (slots : List (Option Slot)) (rows : List (ℕ × Row)) → rows ≡ [] → AreLendable slots rows
none_lendable slots rows is = subst (AreLendable slots) (sym is) (record { programs = λ x at. absurd (never x at); ids = λ x at. absurd (never x at) })

pub first_lendable : (slots : List (Option Slot)) (rows rest : List (ℕ × Row)) (e : ℕ × Row) → rows ≡ e ∷ rest → AreLendable slots rows → e.0 < 4294967296
first_lendable slots rows rest e is known = (subst (AreLendable slots) is known).ids e (in_head e rest)

-- those from an id on
pub lendable_from : (slots : List (Option Slot)) (rows : List (ℕ × Row)) (id : ℕ) → AreLendable slots rows → AreLendable slots (filter (λ (e : ℕ × Row). nat_le id e.0) rows)
lendable_from slots rows id all = record {
  programs = λ x at. all.programs x (from_filter (λ (e : ℕ × Row). nat_le id e.0) rows x at).0;
  ids = λ x at. all.ids x (from_filter (λ (e : ℕ × Row). nat_le id e.0) rows x at).0;
}

pub listed_from : (slots : List (Option Slot)) (rows : List (ℕ × Row)) (id : ℕ)
    → map (listed_row slots) (filter (λ (e : ℕ × Row). nat_le id e.0) rows) ≡ filter (λ (f : ListedFilter). nat_le id f.id) (map (listed_row slots) rows)
listed_from slots [] id = refl
listed_from slots (e ∷ rows) id = by_test (nat_le id e.0) refl (listed_from slots rows id)
  where
    by_test : (b : Bool) → nat_le id e.0 ≡ b → map (listed_row slots) (filter (λ (x : ℕ × Row). nat_le id x.0) rows) ≡ filter (λ (f : ListedFilter). nat_le id f.id) (map (listed_row slots) rows)
        → map (listed_row slots) (filter (λ (x : ℕ × Row). nat_le id x.0) (e ∷ rows)) ≡ filter (λ (f : ListedFilter). nat_le id f.id) (map (listed_row slots) (e ∷ rows))
    by_test true t rest = rw t (ap (λ (fs : List ListedFilter). listed_row slots e ∷ fs) rest)
    by_test false t rest = rw t rest

-- Programs

-- each row can be lent
pub lendable : (rows : List (ℕ × Row)) (slots : List (Option Slot)) (ends : List (SortedMap ℕ)) → AreBooked rows slots ends → AreIds rows → AreLendable slots rows
lendable rows slots ends booked ids = record { programs = booked_slot rows slots ends booked; ids = ids }

-- those of the slots that pass a test
programs_of : (Option Slot → Bool) → List (Option Slot) → List (List Insn)
programs_of p [] = []
programs_of p (o ∷ os) = cond (p o) (program_in o ∷ programs_of p os) (programs_of p os)

abbrev IsPicked : (Option Slot → Bool) → List (Option Slot) → ℕ → List Insn → Type 0
IsPicked p os n program = (o : Option Slot) × (slice_get os n ≡ Some o) × (p o ≡ true) × (program_in o ≡ program)

picked_many : (p : Option Slot → Bool) (os : List (Option Slot)) → count_by p os ≡ length (programs_of p os)
unfolding programs_of
picked_many p os = sym (is_count_by (λ (xs : List (Option Slot)). length (programs_of p xs)) p refl (λ x xs. by_test x xs (p x) refl) os)
  where
    by_test : (x : Option Slot) (xs : List (Option Slot)) (b : Bool) → p x ≡ b → length (programs_of p (x ∷ xs)) ≡ cond (p x) (1 + length (programs_of p xs)) (length (programs_of p xs))
    by_test x xs true t = rw t (omega arith)
    by_test x xs false t = rw t refl

was_picked : (p : Option Slot → Bool) (os : List (Option Slot)) (i : ℕ) (program : List Insn) → slice_get (programs_of p os) i ≡ Some program → (n : ℕ) × IsPicked p os n program
unfolding programs_of
was_picked p [] i program at = absurd cc
was_picked p (o ∷ os) i program at = by_test (p o) refl (was_picked p os)
  where
    later : ((n : ℕ) × IsPicked p os n program) → (n : ℕ) × IsPicked p (o ∷ os) n program
    later x = (suc x.0, x.1)

    by_place : (k : ℕ) → p o ≡ true → ((i : ℕ) (q : List Insn) → slice_get (programs_of p os) i ≡ Some q → (n : ℕ) × IsPicked p os n q) → slice_get (program_in o ∷ programs_of p os) k ≡ Some program → (n : ℕ) × IsPicked p (o ∷ os) n program
    by_place zero t rest there = (0, (o, refl, t, cc))
    by_place (suc k) t rest there = later (rest k program there)

    by_test : (b : Bool) → p o ≡ b → ((i : ℕ) (q : List Insn) → slice_get (programs_of p os) i ≡ Some q → (n : ℕ) × IsPicked p os n q) → (n : ℕ) × IsPicked p (o ∷ os) n program
    by_test true t rest = by_place i t rest (rw t at at)
    by_test false t rest = later (rest i program (rw t at at))

is_picked : (p : Option Slot → Bool) (os : List (Option Slot)) (n : ℕ) (program : List Insn) → IsPicked p os n program → IsIn (programs_of p os) program
unfolding programs_of
is_picked p [] n program x = absurd (let e = x.1 in cc)
is_picked p (o ∷ os) zero program x = let is : o ≡ x.0 = let e = x.1 in cc in (0, rw (ap p is ∙ x.2) (ap (λ (y : Option Slot). Some (program_in y)) is ∙ ap (λ (q : List Insn). Some q) x.3))
is_picked p (o ∷ os) (suc n) program x = by_test (p o) refl (is_picked p os n program x)
  where
    by_test : (b : Bool) → p o ≡ b → IsIn (programs_of p os) program → IsIn (programs_of p (o ∷ os)) program
    by_test true t rest = (suc rest.0, rw t rest.1)
    by_test false t rest = (rest.0, rw t rest.1)

-- slots that pass the test have different programs
abbrev ArePickedApart : (Option Slot → Bool) → List (Option Slot) → Type 0
ArePickedApart p os = (n k : ℕ) (program : List Insn) → IsPicked p os n program → IsPicked p os k program → n ≡ k

picked_apart : (p : Option Slot → Bool) (os : List (Option Slot)) → ArePickedApart p os → (i j : ℕ) (program : List Insn) → slice_get (programs_of p os) i ≡ Some program → slice_get (programs_of p os) j ≡ Some program → i ≡ j
unfolding programs_of
picked_apart p [] apart i j program at at' = absurd cc
picked_apart p (o ∷ os) apart i j program at at' = by_test (p o) refl (picked_apart p os (λ n k q x y. (let same = apart (suc n) (suc k) q x y in omega arith)))
  where
    first : (k : ℕ) → p o ≡ true → slice_get (programs_of p os) k ≡ Some (program_in o) → ⊥
    first k t there = let x = was_picked p os k (program_in o) there in let same = apart 0 (suc x.0) (program_in o) (o, refl, t, refl) x.1 in omega arith

    by_place : (a b : ℕ) → p o ≡ true → ((n k : ℕ) (q : List Insn) → slice_get (programs_of p os) n ≡ Some q → slice_get (programs_of p os) k ≡ Some q → n ≡ k)
        → slice_get (program_in o ∷ programs_of p os) a ≡ Some program → slice_get (program_in o ∷ programs_of p os) b ≡ Some program → a ≡ b
    by_place zero zero t rest x y = refl
    by_place zero (suc b) t rest x y = absurd (first b t (y ∙ sym x))
    by_place (suc a) zero t rest x y = absurd (first a t (x ∙ sym y))
    by_place (suc a) (suc b) t rest x y = ap suc (rest a b program x y)

    by_test : (b : Bool) → p o ≡ b → ((n k : ℕ) (q : List Insn) → slice_get (programs_of p os) n ≡ Some q → slice_get (programs_of p os) k ≡ Some q → n ≡ k) → i ≡ j
    by_test true t rest = by_place i j t rest (rw t at at) (rw t at at')
    by_test false t rest = rest i j program (rw t at at) (rw t at at')

slot_got : (slots : List (Option Slot)) (m : ℕ) (s : Slot) → slot_at slots m ≡ Some s → slice_get slots m ≡ Some (Some s)
slot_got slots m s at = slice_get-get_or slots m None (slot_inside slots m s at) ∙ ap (λ (o : Option Slot). Some o) at

got_slot : (slots : List (Option Slot)) (m : ℕ) (o : Option Slot) → slice_get slots m ≡ Some o → slot_at slots m ≡ o
got_slot slots m o at = get_or_from_slice_get slots m o None at

module _ (rows : List (ℕ × Row)) (slots : List (Option Slot)) (ends : List (SortedMap ℕ)) (booked : AreBooked rows slots ends) where
  abbrev Found : List ListedFilter → List Insn → Type 0
  Found filters program = (k : ℕ) × (f : ListedFilter) × (slice_get filters k ≡ Some f) × (f.program ≡ program)

  tallied : (m : ℕ) (s : Slot) → slot_at slots m ≡ Some s → IsTally (Some s) (tally (has_number m) rows) (tally (holds_number m) rows)
  tallied m s at = subst (λ (o : Option Slot). IsTally o (tally (has_number m) rows) (tally (holds_number m) rows)) at (booked.filters m)

  shows : (e : ℕ × Row) (m : ℕ) (s : Slot) → e.1.number ≡ m → slot_at slots m ≡ Some s → (listed_row slots e).program ≡ s.program
  shows e m s number at = ap (λ (k : ℕ). program_in (slot_at slots k)) number ∙ ap program_in at

  -- the slots with programs have different ones
  some_apart : (p : Option Slot → Bool) → ((o : Option Slot) → p o ≡ true → (s : Slot) × (o ≡ Some s)) → (n k : ℕ) (program : List Insn) → IsPicked p slots n program → IsPicked p slots k program → n ≡ k
  some_apart p some n k program x y =
      let s = some x.0 x.2 in
      let t = some y.0 y.2 in
      booked.apart n k s.0 t.0 (got_slot slots n x.0 x.1 ∙ s.1) (got_slot slots k y.0 y.1 ∙ t.1) (sym (ap program_in s.1) ∙ (x.3 ∙ (sym y.3 ∙ ap program_in t.1)))

  is_there : (o : Option Slot) → is_some o ≡ true → (s : Slot) × (o ≡ Some s)
  is_there None e = absurd cc
  is_there (Some s) e = (s, refl)

  is_held_there : (o : Option Slot) → is_held o ≡ true → (s : Slot) × (o ≡ Some s) × (0 < s.held)
  is_held_there None e = absurd cc
  is_held_there (Some s) e = (s, refl, ltb-true 0 s.held e)

  -- the filters whose capability is held have just the programs that are counted as held
  pub running_different : AreDifferent (held_listed (installed slots rows)) (count_by is_held slots)
  running_different = record {
    programs = programs_of is_held slots;
    distinct = picked_apart is_held slots (some_apart is_held (λ o t. (let s = is_held_there o t in (s.0, s.1))));
    each = λ program. (to program, from program);
    counted = picked_many is_held slots;
  }
    where
      to : (program : List Insn) → IsIn (programs_of is_held slots) program → Found (held_listed (installed slots rows)) program
      to program at =
          let x = was_picked is_held slots at.0 program at.1 in
          let s = is_held_there x.1.0 x.1.2 in
          let there = got_slot slots x.0 x.1.0 x.1.1 ∙ s.1 in
          let t = tallied x.0 s.0 there in
          let some = s.2 in
          let same = t.1 in
          let e = tally_found (holds_number x.0) rows (omega (arith, some, same)) in
          let b = both e.0.1.held (e.0.1.number == x.0) e.2 in
          let is : (listed_row slots e.0).program ≡ program = shows e.0 x.0 s.0 (yes_eq e.0.1.number x.0 b.1) there ∙ (sym (ap program_in s.1) ∙ x.1.3) in
          let among = in_filter (λ (f : Installed). f.held) (installed slots rows) (installed_row slots e.0) (in_map (installed_row slots) rows e.0 e.1) b.0 in
          let listed_there = at_contains (held_listed (installed slots rows)) (listed_row slots e.0) (in_map (λ (f : Installed). f.filter) (filter (λ (f : Installed). f.held) (installed slots rows)) (installed_row slots e.0) among) in
          (listed_there.0, listed_row slots e.0, listed_there.1, is)

      from : (program : List Insn) → Found (held_listed (installed slots rows)) program → IsIn (programs_of is_held slots) program
      from program has =
          let f = was_mapped (λ (f : Installed). f.filter) (filter (λ (f : Installed). f.held) (installed slots rows)) has.1 (contains_at (held_listed (installed slots rows)) has.0 has.1 has.2) in
          let g = from_filter (λ (f : Installed). f.held) (installed slots rows) f.0 f.1 in
          let e = was_mapped (installed_row slots) rows f.0 g.0 in
          let held : e.0.1.held ≡ true = ap (λ (i : Installed). i.held) e.2 ∙ g.1 in
          let is : (listed_row slots e.0).program ≡ program = ap (λ (i : Installed). i.filter.program) e.2 ∙ (ap (λ (l : ListedFilter). l.program) f.2 ∙ has.3) in
          let s = booked_slot rows slots ends booked e.0 e.1 in
          let t = tallied e.0.1.number s.0 s.1 in
          let some = tally_some (holds_number e.0.1.number) rows e.0 e.1 (rw held (eq_yes e.0.1.number e.0.1.number refl)) in
          let same = t.1 in
          is_picked is_held slots e.0.1.number program (Some s.0, slot_got slots e.0.1.number s.0 s.1, lt-ltb 0 s.0.held (omega (arith, some, same)), sym (ap program_in s.1) ∙ is)

  -- all have just those of the slots
  pub all_different : AreDifferent (listed (installed slots rows)) (count_by is_some slots)
  all_different = record {
    programs = programs_of is_some slots;
    distinct = picked_apart is_some slots (some_apart is_some is_there);
    each = λ program. (to program, from program);
    counted = picked_many is_some slots;
  }
    where
      to : (program : List Insn) → IsIn (programs_of is_some slots) program → Found (listed (installed slots rows)) program
      to program at =
          let x = was_picked is_some slots at.0 program at.1 in
          let s = is_there x.1.0 x.1.2 in
          let there = got_slot slots x.0 x.1.0 x.1.1 ∙ s.1 in
          let t = tallied x.0 s.0 there in
          let e = tally_found (has_number x.0) rows t.2 in
          let is : (listed_row slots e.0).program ≡ program = shows e.0 x.0 s.0 (yes_eq e.0.1.number x.0 e.2) there ∙ (sym (ap program_in s.1) ∙ x.1.3) in
          let listed_there = at_contains (listed (installed slots rows)) (listed_row slots e.0) (in_map (λ (f : Installed). f.filter) (installed slots rows) (installed_row slots e.0) (in_map (installed_row slots) rows e.0 e.1)) in
          (listed_there.0, listed_row slots e.0, listed_there.1, is)

      from : (program : List Insn) → Found (listed (installed slots rows)) program → IsIn (programs_of is_some slots) program
      from program has =
          let f = was_mapped (λ (f : Installed). f.filter) (installed slots rows) has.1 (contains_at (listed (installed slots rows)) has.0 has.1 has.2) in
          let e = was_mapped (installed_row slots) rows f.0 f.1 in
          let is : (listed_row slots e.0).program ≡ program = ap (λ (i : Installed). i.filter.program) e.2 ∙ (ap (λ (l : ListedFilter). l.program) f.2 ∙ has.3) in
          let s = booked_slot rows slots ends booked e.0 e.1 in
          is_picked is_some slots e.0.1.number program (Some s.0, slot_got slots e.0.1.number s.0 s.1, refl, sym (ap program_in s.1) ∙ is)
