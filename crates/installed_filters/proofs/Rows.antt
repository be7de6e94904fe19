-- Rows in order of their ids.
use Rattle.std.proofs.Common.{◌≡◌, ◌<◌, ◌≤◌, ◌-◌, ◌==◌, inl, inr, ℕ, suc, Bool, true, false, not, cond, nat_eq, nat_cmp, Less, Greater, Option, Some, None, List, [], ◌∷◌, ◌++◌, length, map, filter, Contains, refl, ap, sym, ◌∙◌, subst, arith}
use Rattle.std.specs.Prelude.{if◌then◌else◌}
use Rattle.std.specs.Map.{keys_of, remove_entry, set_value}
use Rattle.std.specs.BTreeMap.{insert_entry}
use Rattle.std.specs.List.{AllByRecursion}
use Rattle.std.specs.List.Sorted.{IsStrictlyIncreasing, IsStrictlySortedBy}
use Rattle.std.proofs.lemmas.Bool.Decides.{nat_tests}
use Rattle.std.proofs.lemmas.Map.Keys.{sorted_from_strictly_increasing}
use Rattle.filter_table.proofs.Lists.{never, in_head, in_tail, first_or_later, map-append'}
use Rattle.bpf_insn.specs.declared.insn.Insn.{Insn}
use Rattle.chunked.specs.Maps.{SortedMap, value_at}
use Rattle.installed_filters.specs.declared.slots.Slot.{Slot}
use Rattle.installed_filters.specs.Slotting.{slot_at, one, one_more, one_less}
use Rattle.installed_filters.specs.declared.books.Row.{Row}
use Rattle.installed_filters.specs.Books.{tally, Adds, has_number, holds_number, AreBooked, Begins, IsTally, base_slot}
use Rattle.installed_filters.specs.Homes.{program_in}
use Rattle.installed_filters.specs.Installed.{Installed, installed, installed_row, replaced_by, with_program}
use Rattle.installed_filters.specs.Planning.{slots_swapped}
use Rattle.installed_filters.proofs.Swapped.{less_program}
use Rattle.installed_filters.proofs.Booked.{yes_eq, eq_yes, eq_no}

-- Tallies of rows that come and go

pub adds_last : (rows : List (ℕ × Row)) (id : ℕ) (row : Row) → Adds rows row (rows ++ (id, row) ∷ [])
adds_last [] id row p = refl
adds_last (e ∷ rows) id row p = by_tests (p e.1) refl (p row) refl (adds_last rows id row p)
  where
    by_tests : (a : Bool) → p e.1 ≡ a → (b : Bool) → p row ≡ b → tally p (rows ++ (id, row) ∷ []) ≡ cond (p row) (suc (tally p rows)) (tally p rows)
        → tally p ((e ∷ rows) ++ (id, row) ∷ []) ≡ cond (p row) (suc (tally p (e ∷ rows))) (tally p (e ∷ rows))
    by_tests true s true t rest = rw (s, t) (ap suc (rw t at rest))
    by_tests true s false t rest = rw (s, t) (ap suc (rw t at rest))
    by_tests false s true t rest = rw (s, t) (rw t at rest)
    by_tests false s false t rest = rw (s, t) (rw t at rest)

pub adds_removed : (rows : List (ℕ × Row)) (id : ℕ) (row : Row) → value_at rows id ≡ Some row → Adds (remove_entry (nat_eq id) rows) row rows
adds_removed [] id row at p = absurd cc
adds_removed (e ∷ rows) id row at p = by_id (nat_eq id e.0) refl (λ later. adds_removed rows id row later p)
  where
    by_tests : (a : Bool) → p e.1 ≡ a → (b : Bool) → p row ≡ b → tally p rows ≡ cond (p row) (suc (tally p (remove_entry (nat_eq id) rows))) (tally p (remove_entry (nat_eq id) rows))
        → tally p (e ∷ rows) ≡ cond (p row) (suc (tally p (e ∷ remove_entry (nat_eq id) rows))) (tally p (e ∷ remove_entry (nat_eq id) rows))
    by_tests true s true t rest = rw (s, t) (ap suc (rw t at rest))
    by_tests true s false t rest = rw (s, t) (ap suc (rw t at rest))
    by_tests false s true t rest = rw (s, t) (rw t at rest)
    by_tests false s false t rest = rw (s, t) (rw t at rest)

    by_id : (b : Bool) → nat_eq id e.0 ≡ b → (value_at rows id ≡ Some row → tally p rows ≡ cond (p row) (suc (tally p (remove_entry (nat_eq id) rows))) (tally p (remove_entry (nat_eq id) rows)))
        → tally p (e ∷ rows) ≡ cond (p row) (suc (tally p (remove_entry (nat_eq id) (e ∷ rows)))) (tally p (remove_entry (nat_eq id) (e ∷ rows)))
    by_id true t rest = let same : e.1 ≡ row = let f = rw t at at in cc in rw t (rw same refl)
    by_id false t rest = rw t (by_tests (p e.1) refl (p row) refl (rest (rw t at at)))

pub adds_set : (rows : List (ℕ × Row)) (id : ℕ) (old row : Row) → value_at rows id ≡ Some old → Adds (remove_entry (nat_eq id) rows) row (set_value (nat_eq id) rows row)
adds_set [] id old row at p = absurd cc
adds_set (e ∷ rows) id old row at p = by_id (nat_eq id e.0) refl (λ later. adds_set rows id old row later p)
  where
    by_tests : (a : Bool) → p e.1 ≡ a → (b : Bool) → p row ≡ b → tally p (set_value (nat_eq id) rows row) ≡ cond (p row) (suc (tally p (remove_entry (nat_eq id) rows))) (tally p (remove_entry (nat_eq id) rows))
        → tally p (e ∷ set_value (nat_eq id) rows row) ≡ cond (p row) (suc (tally p (e ∷ remove_entry (nat_eq id) rows))) (tally p (e ∷ remove_entry (nat_eq id) rows))
    by_tests true s true t rest = rw (s, t) (ap suc (rw t at rest))
    by_tests true s false t rest = rw (s, t) (ap suc (rw t at rest))
    by_tests false s true t rest = rw (s, t) (rw t at rest)
    by_tests false s false t rest = rw (s, t) (rw t at rest)

    by_id : (b : Bool) → nat_eq id e.0 ≡ b → (value_at rows id ≡ Some old → tally p (set_value (nat_eq id) rows row) ≡ cond (p row) (suc (tally p (remove_entry (nat_eq id) rows))) (tally p (remove_entry (nat_eq id) rows)))
        → tally p (set_value (nat_eq id) (e ∷ rows) row) ≡ cond (p row) (suc (tally p (remove_entry (nat_eq id) (e ∷ rows)))) (tally p (remove_entry (nat_eq id) (e ∷ rows)))
    by_id true t rest = rw t refl
    by_id false t rest = rw t (by_tests (p e.1) refl (p row) refl (rest (rw t at at)))

pub tally_some : (p : Row → Bool) (rows : List (ℕ × Row)) (e : ℕ × Row) → Contains rows e → p e.1 ≡ true → 0 < tally p rows
tally_some p [] e at t = absurd (never e at)
tally_some p (x ∷ rows) e at t = by_test (p x.1) refl (tally_some p rows e)
  where
    by_test : (b : Bool) → p x.1 ≡ b → (Contains rows e → p e.1 ≡ true → 0 < tally p rows) → 0 < tally p (x ∷ rows)
    by_test true s rest = rw s (omega arith)
    by_test false s rest = rw s (elim (first_or_later x rows e at) [
      | inl same ↦ absurd (let u = ap (λ (y : ℕ × Row). p y.1) same in cc)
      | inr later ↦ rest later t
    ])

pub tally-short : (p : Row → Bool) (rows : List (ℕ × Row)) → tally p rows ≤ length rows
tally-short p [] = omega arith
tally-short p (e ∷ rows) = by_test (p e.1) refl (tally-short p rows)
  where
    by_test : (b : Bool) → p e.1 ≡ b → tally p rows ≤ length rows → tally p (e ∷ rows) ≤ length (e ∷ rows)
    by_test true t rest = rw t (omega arith)
    by_test false t rest = rw t (omega arith)

-- Rows by their ids

pub found_in : (rows : List (ℕ × Row)) (id : ℕ) (row : Row) → value_at rows id ≡ Some row → Contains rows (id, row)
found_in [] id row at = absurd cc
found_in (e ∷ rows) id row at = by_id (nat_eq id e.0) refl (found_in rows id row)
  where
    by_id : (b : Bool) → nat_eq id e.0 ≡ b → (value_at rows id ≡ Some row → Contains rows (id, row)) → Contains (e ∷ rows) (id, row)
    by_id true t rest =
        let same : e.1 ≡ row = let f = rw t at at in cc in
        let key : e.0 ≡ id = sym (yes_eq id e.0 t) in
        subst (λ (x : ℕ × Row). Contains (e ∷ rows) x) (ap (λ (k : ℕ). (k, e.1)) key ∙ ap (λ (r : Row). (id, r)) same) (in_head e rows)
    by_id false t rest = in_tail e rows (id, row) (rest (rw t at at))

-- a row after all others
pub absent_last : (rows : List (ℕ × Row)) (id : ℕ) → ((e : ℕ × Row) → Contains rows e → e.0 < id) → value_at rows id ≡ None
absent_last [] id below = refl
absent_last (e ∷ rows) id below =
    let lt = below e (in_head e rows) in
    let other : nat_eq id e.0 ≡ false = eq_no id e.0 (λ same. omega arith) in
    rw other (absent_last rows id (λ x at. below x (in_tail e rows x at)))

pub push_last : (rows : List (ℕ × Row)) (id : ℕ) (row : Row) → ((e : ℕ × Row) → Contains rows e → e.0 < id) → insert_entry nat_cmp rows id row ≡ rows ++ (id, row) ∷ []
push_last [] id row below = refl
push_last (e ∷ rows) id row below =
    let lt = below e (in_head e rows) in
    let after : nat_cmp id e.0 ≡ Greater = grind (arith, nat_tests) in
    rw after (ap (λ es. e ∷ es) (push_last rows id row (λ x at. below x (in_tail e rows x at))))

-- a row that is taken out
above_all : (id : ℕ) (rows : List (ℕ × Row)) → AllByRecursion (λ y. nat_cmp id y ≡ Less) (keys_of rows) → filter (λ e. not (e.0 == id)) rows ≡ rows
above_all id [] h = refl
above_all id (e ∷ rows) h =
    let less = h.0 in
    let lt : id < e.0 = grind (arith, nat_tests) in
    let other : (e.0 == id) ≡ false = eq_no e.0 id (λ same. omega arith) in
    rw other (ap (λ es. e ∷ es) (above_all id rows h.1))

removed : (id : ℕ) (rows : List (ℕ × Row)) → IsStrictlySortedBy nat_cmp (keys_of rows) → remove_entry (nat_eq id) rows ≡ filter (λ e. not (e.0 == id)) rows
unfolding IsStrictlySortedBy
removed id [] h = refl
removed id (e ∷ rows) h = by_id (nat_eq id e.0) refl (removed id rows h.1)
  where
    by_id : (b : Bool) → nat_eq id e.0 ≡ b → remove_entry (nat_eq id) rows ≡ filter (λ x. not (x.0 == id)) rows → remove_entry (nat_eq id) (e ∷ rows) ≡ filter (λ x. not (x.0 == id)) (e ∷ rows)
    by_id true t rest =
        let same : id ≡ e.0 = yes_eq id e.0 t in
        let flip : (e.0 == id) ≡ true = eq_yes e.0 id (sym same) in
        rw (t, flip) (sym (above_all id rows (subst (λ (k : ℕ). AllByRecursion (λ y. nat_cmp k y ≡ Less) (keys_of rows)) (sym same) h.0)))
    by_id false t rest =
        let flip : (e.0 == id) ≡ false = eq_no e.0 id (λ same. (let u = eq_yes id e.0 (sym same) in cc)) in
        rw (t, flip) (ap (λ es. e ∷ es) rest)

-- Filters

pub booked_slot : (rows : List (ℕ × Row)) (slots : List (Option Slot)) (ends : List (SortedMap ℕ)) → AreBooked rows slots ends → (e : ℕ × Row) → Contains rows e → (s : Slot) × (slot_at slots e.1.number ≡ Some s)
booked_slot rows slots ends booked e at = by_slot (slot_at slots e.1.number) refl
  where
    some : 0 < tally (has_number e.1.number) rows
    some = tally_some (has_number e.1.number) rows e at (eq_yes e.1.number e.1.number refl)

    by_slot : (o : Option Slot) → slot_at slots e.1.number ≡ o → (s : Slot) × (slot_at slots e.1.number ≡ Some s)
    by_slot None t = absurd (let none : tally (has_number e.1.number) rows ≡ 0 = subst (λ (o : Option Slot). IsTally o (tally (has_number e.1.number) rows) (tally (holds_number e.1.number) rows)) t (booked.filters e.1.number) in omega (arith, some, none))
    by_slot (Some s) t = (s, t)

-- the same programs
installed_same : (slots slots' : List (Option Slot)) (rows : List (ℕ × Row)) → ((e : ℕ × Row) → Contains rows e → program_in (slot_at slots' e.1.number) ≡ program_in (slot_at slots e.1.number)) → installed slots' rows ≡ installed slots rows
installed_same slots slots' [] same = refl
installed_same slots slots' (e ∷ rows) same =
    ap (λ (p : List Insn). with_program p e.0 e.1 ∷ installed slots' rows) (same e (in_head e rows)) ∙ ap (λ (fs : List Installed). installed_row slots e ∷ fs) (installed_same slots slots' rows (λ x at. same x (in_tail e rows x at)))

pub installed_alike : (slots slots' : List (Option Slot)) (rows : List (ℕ × Row)) → ((m : ℕ) → program_in (slot_at slots' m) ≡ program_in (slot_at slots m)) → installed slots' rows ≡ installed slots rows
installed_alike slots slots' rows same = installed_same slots slots' rows (λ e at. same e.1.number)

-- slots that stay are the same filters
pub installed_slots : (slots slots' : List (Option Slot)) (rows : List (ℕ × Row)) → ((m : ℕ) → slot_at slots' m ≡ slot_at slots m) → installed slots' rows ≡ installed slots rows
installed_slots slots slots' rows same = installed_alike slots slots' rows (λ m. ap program_in (same m))

pub installed_install : (rows rows' : List (ℕ × Row)) (slots slots' : List (Option Slot)) (ends : List (SortedMap ℕ)) (id : ℕ) (row : Row) (program : Option (List Insn)) → AreBooked rows slots ends → Begins slots row.number program → rows' ≡ rows ++ (id, row) ∷ []
    → ((m : ℕ) → slot_at slots' m ≡ (if m == row.number then one_more row.held (base_slot slots row.number program) else slot_at slots m))
    → installed slots' rows' ≡ installed slots rows ++ with_program (program_in (base_slot slots row.number program)) id row ∷ []
installed_install rows rows' slots slots' ends id row program booked begins is slots_at =
    ap (installed slots') is ∙ (map-append' (installed_row slots') rows ((id, row) ∷ [])
    ∙ (ap (λ (fs : List Installed). fs ++ installed_row slots' (id, row) ∷ []) (installed_same slots slots' rows (λ e at. other e at (e.1.number == row.number) refl))
    ∙ ap (λ (p : List Insn). installed slots rows ++ with_program p id row ∷ []) own))
  where
    more_program : (o : Option Slot) → program_in (one_more row.held o) ≡ program_in o
    more_program None = refl
    more_program (Some s) = refl

    own : program_in (slot_at slots' row.number) ≡ program_in (base_slot slots row.number program)
    own = let a = slots_at row.number in let t = eq_yes row.number row.number refl in ap program_in (rw t at a) ∙ more_program (base_slot slots row.number program)

    base : (q : Option (List Insn)) → Begins slots row.number q → (s : Slot) → slot_at slots row.number ≡ Some s → base_slot slots row.number q ≡ slot_at slots row.number
    base None begun s there = refl
    base (Some p) begun s there = absurd (let e = sym begun.0 ∙ there in cc)

    other : (e : ℕ × Row) → Contains rows e → (t : Bool) → (e.1.number == row.number) ≡ t → program_in (slot_at slots' e.1.number) ≡ program_in (slot_at slots e.1.number)
    other e at true t =
        let s = booked_slot rows slots ends booked e at in
        let same : e.1.number ≡ row.number = yes_eq e.1.number row.number t in
        ap (λ (m : ℕ). program_in (slot_at slots' m)) same ∙ (own ∙ (ap program_in (base program begins s.0 (ap (slot_at slots) (sym same) ∙ s.1)) ∙ ap (λ (m : ℕ). program_in (slot_at slots m)) (sym same)))
    other e at false t = let a = slots_at e.1.number in ap program_in (rw t at a)

pub installed_remove : (rows rows' : List (ℕ × Row)) (slots slots' : List (Option Slot)) (ends' : List (SortedMap ℕ)) (id : ℕ) (row : Row) → AreBooked rows' slots' ends' → IsStrictlyIncreasing (keys_of rows) → rows' ≡ remove_entry (nat_eq id) rows
    → ((m : ℕ) → slot_at slots' m ≡ (if m == row.number then one_less row.held (slot_at slots row.number) else slot_at slots m))
    → installed slots' rows' ≡ filter (λ f. not (f.filter.id == id)) (installed slots rows)
installed_remove rows rows' slots slots' ends' id row booked order is slots_at =
    installed_same slots slots' rows' (λ e at. same e at (e.1.number == row.number) refl)
    ∙ (ap (installed slots) (is ∙ removed id rows (sorted_from_strictly_increasing (keys_of rows) order)) ∙ left rows)
  where
    left : (rs : List (ℕ × Row)) → installed slots (filter (λ e. not (e.0 == id)) rs) ≡ filter (λ f. not (f.filter.id == id)) (installed slots rs)
    left [] = refl
    left (e ∷ rs) = by_test (not (e.0 == id)) refl (left rs)
      where
        by_test : (b : Bool) → not (e.0 == id) ≡ b → installed slots (filter (λ x. not (x.0 == id)) rs) ≡ filter (λ f. not (f.filter.id == id)) (installed slots rs)
            → installed slots (filter (λ x. not (x.0 == id)) (e ∷ rs)) ≡ filter (λ f. not (f.filter.id == id)) (installed slots (e ∷ rs))
        by_test true t rest = rw t (ap (λ (fs : List Installed). installed_row slots e ∷ fs) rest)
        by_test false t rest = rw t rest

    less_program : (o : Option Slot) (s : Slot) → one_less row.held o ≡ Some s → program_in (Some s) ≡ program_in o
    less_program None s e = absurd cc
    less_program (Some b) s e = by_test (b.filters == 1) refl
      where
        by_test : (t : Bool) → (b.filters == 1) ≡ t → program_in (Some s) ≡ b.program
        by_test true t = absurd (let none = rw t at e in cc)
        by_test false t =
            let some = rw t at e in
            let is_it : record b { filters = b.filters - 1; held = b.held - one row.held } ≡ s = cc in
            ap (λ (z : Slot). z.program) (sym is_it)

    same : (e : ℕ × Row) → Contains rows' e → (t : Bool) → (e.1.number == row.number) ≡ t → program_in (slot_at slots' e.1.number) ≡ program_in (slot_at slots e.1.number)
    same e at true t =
        let s = booked_slot rows' slots' ends' booked e at in
        let a = slots_at e.1.number in
        let own : slot_at slots' e.1.number ≡ one_less row.held (slot_at slots row.number) = rw t at a in
        ap program_in s.1 ∙ (less_program (slot_at slots row.number) s.0 (sym own ∙ s.1) ∙ ap (λ (m : ℕ). program_in (slot_at slots m)) (sym (yes_eq e.1.number row.number t)))
    same e at false t = let a = slots_at e.1.number in ap program_in (rw t at a)

-- A filter with another program

in_set : (id : ℕ) (row : Row) (rows : List (ℕ × Row)) (e : ℕ × Row) → Contains rows e → (e.0 ≡ id → ⊥) → Contains (set_value (nat_eq id) rows row) e
in_set id row [] e at off = absurd (never e at)
in_set id row (x ∷ rows) e at off = by_test (nat_eq id x.0) refl (in_set id row rows e)
  where
    by_test : (b : Bool) → nat_eq id x.0 ≡ b → (Contains rows e → (e.0 ≡ id → ⊥) → Contains (set_value (nat_eq id) rows row) e) → Contains (set_value (nat_eq id) (x ∷ rows) row) e
    by_test true t rest = rw t (elim (first_or_later x rows e at) [
      | inl same ↦ absurd (off (ap (λ (y : ℕ × Row). y.0) (sym same) ∙ sym (yes_eq id x.0 t)))
      | inr later ↦ in_tail (x.0, row) rows e later
    ])
    by_test false t rest = rw t (elim (first_or_later x rows e at) [
      | inl same ↦ subst (λ (y : ℕ × Row). Contains (x ∷ set_value (nat_eq id) rows row) y) same (in_head x (set_value (nat_eq id) rows row))
      | inr later ↦ in_tail x (set_value (nat_eq id) rows row) e (rest later off)
    ])

-- filters with greater ids stay
above_same : (id : ℕ) (program : List Insn) (slots : List (Option Slot)) (rows : List (ℕ × Row)) → AllByRecursion (λ y. nat_cmp id y ≡ Less) (keys_of rows) → map (replaced_by id program) (installed slots rows) ≡ installed slots rows
above_same id program slots [] h = refl
above_same id program slots (e ∷ rows) h =
    let less = h.0 in
    let lt : id < e.0 = grind (arith, nat_tests) in
    let other : (e.0 == id) ≡ false = eq_no e.0 id (λ same. omega arith) in
    rw other (ap (λ (fs : List Installed). installed_row slots e ∷ fs) (above_same id program slots rows h.1))

module _ (id : ℕ) (old row : Row) (program : List Insn) (slots slots' : List (Option Slot)) (same : row ≡ record old { number = row.number }) (own : program_in (slot_at slots' row.number) ≡ program) where
  pub replaced_rows : (rows : List (ℕ × Row)) → IsStrictlySortedBy nat_cmp (keys_of rows) → ((e : ℕ × Row) → Contains rows e → (e.0 ≡ id → ⊥) → program_in (slot_at slots' e.1.number) ≡ program_in (slot_at slots e.1.number))
      → value_at rows id ≡ Some old → installed slots' (set_value (nat_eq id) rows row) ≡ map (replaced_by id program) (installed slots rows)
  unfolding IsStrictlySortedBy
  replaced_rows [] order others at = absurd cc
  replaced_rows (e ∷ rows) order others at = by_id (nat_eq id e.0) refl (replaced_rows rows order.1 (λ x there off. others x (in_tail e rows x there) off))
    where
      by_id : (b : Bool) → nat_eq id e.0 ≡ b → (value_at rows id ≡ Some old → installed slots' (set_value (nat_eq id) rows row) ≡ map (replaced_by id program) (installed slots rows))
          → installed slots' (set_value (nat_eq id) (e ∷ rows) row) ≡ map (replaced_by id program) (installed slots (e ∷ rows))
      by_id true t rest =
          let key : id ≡ e.0 = yes_eq id e.0 t in
          let flip : (e.0 == id) ≡ true = eq_yes e.0 id (sym key) in
          let was : e.1 ≡ old = let f = rw t at at in cc in
          let above = subst (λ (k : ℕ). AllByRecursion (λ y. nat_cmp k y ≡ Less) (keys_of rows)) (sym key) order.0 in
          let head : with_program (program_in (slot_at slots' row.number)) e.0 row ≡ with_program program e.0 e.1 =
          ap (λ (p : List Insn). with_program p e.0 row) own ∙ (ap (λ (r : Row). with_program program e.0 r) same ∙ ap (λ (r : Row). with_program program e.0 r) (sym was)) in
          rw (t, flip) (ap (λ (f : Installed). f ∷ installed slots' rows) head ∙ ap (λ (fs : List Installed). with_program program e.0 e.1 ∷ fs)
          (installed_same slots slots' rows (λ x there. others x (in_tail e rows x there) (λ is. above_differs x there above is)) ∙ sym (above_same id program slots rows above)))
        where
          above_differs : (x : ℕ × Row) → Contains rows x → AllByRecursion (λ y. nat_cmp id y ≡ Less) (keys_of rows) → x.0 ≡ id → ⊥
          above_differs x there above is = differs rows x there above is
            where
              differs : (rs : List (ℕ × Row)) (y : ℕ × Row) → Contains rs y → AllByRecursion (λ k. nat_cmp id k ≡ Less) (keys_of rs) → y.0 ≡ id → ⊥
              differs [] y there above is = never y there
              differs (r ∷ rs) y there above is = elim (first_or_later r rs y there) [
                | inl first ↦ (let less = above.0 in let lt : id < r.0 = grind (arith, nat_tests) in let k = ap (λ (z : ℕ × Row). z.0) first in omega arith)
                | inr later ↦ differs rs y later above.1 is
              ]
      by_id false t rest =
          let flip : (e.0 == id) ≡ false = eq_no e.0 id (λ key. (let u = eq_yes id e.0 (sym key) in cc)) in
          let other : e.0 ≡ id → ⊥ = λ key. (let u = eq_yes id e.0 (sym key) in cc) in
          rw (t, flip) (ap (λ (p : List Insn). with_program p e.0 e.1 ∷ installed slots' (set_value (nat_eq id) rows row)) (others e (in_head e rows) other)
          ∙ ap (λ (fs : List Installed). installed_row slots e ∷ fs) (rest (rw t at at)))

pub installed_replace : (rows rows' : List (ℕ × Row)) (slots slots' : List (Option Slot)) (ends ends' : List (SortedMap ℕ)) (id : ℕ) (old row : Row) (program : Option (List Insn)) → AreBooked rows slots ends → AreBooked rows' slots' ends' → IsStrictlyIncreasing (keys_of rows)
    → value_at rows id ≡ Some old → row ≡ record old { number = row.number } → Begins slots row.number program → rows' ≡ set_value (nat_eq id) rows row → ((m : ℕ) → slot_at slots' m ≡ slots_swapped slots old row program m)
    → installed slots' rows' ≡ map (replaced_by id (program_in (base_slot slots row.number program))) (installed slots rows)
installed_replace rows rows' slots slots' ends ends' id old row program booked booked' order at same begins is slots_at =
    ap (installed slots') is ∙ replaced_rows id old row (program_in (base_slot slots row.number program)) slots slots' same own rows (sorted_from_strictly_increasing (keys_of rows) order) others at
  where
    more_program : (o : Option Slot) → program_in (one_more row.held o) ≡ program_in o
    more_program None = refl
    more_program (Some s) = refl

    own : program_in (slot_at slots' row.number) ≡ program_in (base_slot slots row.number program)
    own = let a = slots_at row.number in let t = eq_yes row.number row.number refl in ap program_in (rw t at a) ∙ more_program (base_slot slots row.number program)

    base : (q : Option (List Insn)) → Begins slots row.number q → (s : Slot) → slot_at slots row.number ≡ Some s → base_slot slots row.number q ≡ slot_at slots row.number
    base None begun s there = refl
    base (Some p) begun s there = absurd (let e = sym begun.0 ∙ there in cc)

    others : (e : ℕ × Row) → Contains rows e → (e.0 ≡ id → ⊥) → program_in (slot_at slots' e.1.number) ≡ program_in (slot_at slots e.1.number)
    others e there off = by_new (e.1.number == row.number) refl
      where
        s : (t : Slot) × (slot_at slots e.1.number ≡ Some t)
        s = booked_slot rows slots ends booked e there

        s' : (t : Slot) × (slot_at slots' e.1.number ≡ Some t)
        s' = booked_slot rows' slots' ends' booked' e (subst (λ (es : List (ℕ × Row)). Contains es e) (sym is) (in_set id row rows e there off))

        by_old : (b : Bool) → (e.1.number == old.number) ≡ b → slot_at slots' e.1.number ≡ (if e.1.number == old.number then one_less old.held (slot_at slots old.number) else slot_at slots e.1.number)
            → program_in (slot_at slots' e.1.number) ≡ program_in (slot_at slots e.1.number)
        by_old true t a =
            let b = less_program old.held (slot_at slots old.number) s'.0 (sym (rw t at a) ∙ s'.1) in
            ap program_in s'.1 ∙ (b.2 ∙ (sym (ap program_in b.1) ∙ ap (λ (m : ℕ). program_in (slot_at slots m)) (sym (yes_eq e.1.number old.number t))))
        by_old false t a = ap program_in (rw t at a)

        by_new : (b : Bool) → (e.1.number == row.number) ≡ b → program_in (slot_at slots' e.1.number) ≡ program_in (slot_at slots e.1.number)
        by_new true t =
            let key : e.1.number ≡ row.number = yes_eq e.1.number row.number t in
            ap (λ (m : ℕ). program_in (slot_at slots' m)) key ∙ (own ∙ (ap program_in (base program begins s.0 (ap (slot_at slots) (sym key) ∙ s.1)) ∙ ap (λ (m : ℕ). program_in (slot_at slots m)) (sym key)))
        by_new false t = let a = slots_at e.1.number in by_old (e.1.number == old.number) refl (rw t at a)
