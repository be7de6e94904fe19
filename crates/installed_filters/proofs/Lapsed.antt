-- Filters that lapse, and the programs that go to rest with them.
use Rattle.std.proofs.Common.{◌≡◌, ◌<◌, ◌≤◌, ◌-◌, ◌==◌, ◌&&◌, ◌⊎◌, inl, inr, ℕ, suc, Bool, true, false, not, nat_eq, nat_cmp, Less, Option, Some, None, is_some, List, [], ◌∷◌, ◌++◌, map, filter, Contains, append_assoc, refl, ap, sym, ◌∙◌, subst, arith}
use Rattle.std.specs.Prelude.{if◌then◌else◌}
use Rattle.std.specs.Map.{keys_of, set_value}
use Rattle.std.specs.List.{AllByRecursion}
use Rattle.std.specs.List.Sorted.{IsStrictlyIncreasing, IsStrictlySortedBy}
use Rattle.std.proofs.lemmas.Bool.Decides.{nat_tests}
use Rattle.std.proofs.lemmas.Map.{keys-set_value}
use Rattle.std.proofs.lemmas.Map.Keys.{sorted_from_strictly_increasing, IsStrictlyIncreasing-from_sorted}
use Rattle.filter_table.proofs.Lists.{from_filter, in_head, in_tail, first_or_later, never}
use Rattle.chunked.specs.Maps.{SortedMap, value_at}
use Rattle.installed_filters.specs.declared.slots.Slot.{Slot}
use Rattle.installed_filters.specs.Slotting.{slot_at, one_lapsed}
use Rattle.installed_filters.specs.declared.books.Row.{Row}
use Rattle.installed_filters.specs.Books.{tally, has_number, holds_number, lapsed_row, AreBooked, IsTally}
use Rattle.installed_filters.specs.Homes.{program_in}
use Rattle.installed_filters.specs.Lapsing.{lapses, AreCountedHeld, AreHeldRows, fewer_held, slots_lapsed}
use Rattle.installed_filters.specs.Installed.{Installed, installed, installed_row, lapsed_by, lapsed_under}
use Rattle.installed_filters.proofs.Booked.{eq_no, eq_yes, yes_eq}
use Rattle.installed_filters.proofs.Rows.{booked_slot, installed_alike}

-- The filters that lapse

-- one more of them is found
pub found_yes : (p : ℕ × Row → Bool) (done : List (ℕ × Row)) (e : ℕ × Row) (rest : List (ℕ × Row)) → p e ≡ true → (done ++ e ∷ []) ++ filter p rest ≡ done ++ filter p (e ∷ rest)
found_yes p done e rest t = append_assoc done (e ∷ []) (filter p rest) ∙ ap (λ (es : List (ℕ × Row)). done ++ es) (sym here)
  where
    here : filter p (e ∷ rest) ≡ e ∷ filter p rest
    here = rw t refl

pub found_no : (p : ℕ × Row → Bool) (done : List (ℕ × Row)) (e : ℕ × Row) (rest : List (ℕ × Row)) → p e ≡ false → done ++ filter p rest ≡ done ++ filter p (e ∷ rest)
found_no p done e rest t = ap (λ (es : List (ℕ × Row)). done ++ es) (sym here)
  where
    here : filter p (e ∷ rest) ≡ filter p rest
    here = rw t refl

left : (a b : Bool) → (a && b) ≡ true → a ≡ true
left true b e = refl
left false b e = absurd cc

pub lapses_held : {V : Type 0} (gone : List (ℕ × V)) (row : Row) → lapses gone row ≡ true → row.held ≡ true
lapses_held gone row t = left row.held (is_some (value_at gone row.cap)) t

-- those among the rows that pass a test, at one number
tally_found : (p : Row → Bool) → ((row : Row) → p row ≡ true → row.held ≡ true) → (number : ℕ) (rows : List (ℕ × Row)) → tally (has_number number) (filter (λ e. p e.1) rows) ≤ tally (holds_number number) rows
tally_found p held number [] = omega arith
tally_found p held number (e ∷ rows) = by_test (p e.1) refl (e.1.number == number) refl (tally_found p held number rows)
  where
    more : tally (holds_number number) rows ≤ tally (holds_number number) (e ∷ rows)
    more = by_holds (holds_number number e.1) refl
      where
        by_holds : (b : Bool) → holds_number number e.1 ≡ b → tally (holds_number number) rows ≤ tally (holds_number number) (e ∷ rows)
        by_holds true t = rw t (omega arith)
        by_holds false t = rw t (omega arith)

    by_test : (a : Bool) → p e.1 ≡ a → (b : Bool) → (e.1.number == number) ≡ b → tally (has_number number) (filter (λ x. p x.1) rows) ≤ tally (holds_number number) rows
        → tally (has_number number) (filter (λ x. p x.1) (e ∷ rows)) ≤ tally (holds_number number) (e ∷ rows)
    by_test true s true t rest =
        let h = held e.1 s in
        rw (s, t, h) (omega (arith, rest))
    by_test true s false t rest =
        let same : tally (has_number number) (filter (λ x. p x.1) (e ∷ rows)) ≡ tally (has_number number) (filter (λ x. p x.1) rows) = rw (s, t) refl in
        omega (arith, same, rest, more)
    by_test false s b t rest = rw s (omega (arith, rest, more))

pub counted_held : (rows lapsing : List (ℕ × Row)) (slots : List (Option Slot)) (ends : List (SortedMap ℕ)) (p : Row → Bool) → ((row : Row) → p row ≡ true → row.held ≡ true) → AreBooked rows slots ends
    → lapsing ≡ filter (λ e. p e.1) rows → AreCountedHeld slots lapsing
counted_held rows lapsing slots ends p held booked is = subst (AreCountedHeld slots) (sym is) (λ e at. one e (from_filter (λ (x : ℕ × Row). p x.1) rows e at).0)
  where
    one : (e : ℕ × Row) → Contains rows e → (s : Slot) × (slot_at slots e.1.number ≡ Some s) × (tally (has_number e.1.number) (filter (λ x. p x.1) rows) ≤ s.held)
    one e at =
        let s = booked_slot rows slots ends booked e at in
        let t = subst (λ (o : Option Slot). IsTally o (tally (has_number e.1.number) rows) (tally (holds_number e.1.number) rows)) s.1 (booked.filters e.1.number) in
        let few = tally_found p held e.1.number rows in
        let is_held = t.1 in
        (s.0, s.1, omega (arith, few, is_held))

-- rows by their ids, which differ
above_all : (id : ℕ) (rows : List (ℕ × Row)) (e : ℕ × Row) → AllByRecursion (λ y. nat_cmp id y ≡ Less) (keys_of rows) → Contains rows e → id < e.0
above_all id [] e h at = absurd (never e at)
above_all id (x ∷ rows) e h at = elim (first_or_later x rows e at) [
  | inl same ↦ (let less = h.0 in let lt : id < x.0 = grind (arith, nat_tests) in let k = ap (λ (y : ℕ × Row). y.0) same in omega arith)
  | inr later ↦ above_all id rows e h.1 later
]

value_there : (rows : List (ℕ × Row)) (e : ℕ × Row) → IsStrictlySortedBy nat_cmp (keys_of rows) → Contains rows e → value_at rows e.0 ≡ Some e.1
unfolding IsStrictlySortedBy
value_there [] e order at = absurd (never e at)
value_there (x ∷ rows) e order at = elim (first_or_later x rows e at) [
  | inl same ↦ subst (λ (y : ℕ × Row). value_at (x ∷ rows) y.0 ≡ Some y.1) same (rw (eq_yes x.0 x.0 refl) refl)
  | inr later ↦ (let lt = above_all x.0 rows e order.0 later in let other : nat_eq e.0 x.0 ≡ false = eq_no e.0 x.0 (λ same. omega arith) in rw other (value_there rows e order.1 later))
]

still_above : (id : ℕ) (p : ℕ × Row → Bool) (rows : List (ℕ × Row)) → AllByRecursion (λ y. nat_cmp id y ≡ Less) (keys_of rows) → AllByRecursion (λ y. nat_cmp id y ≡ Less) (keys_of (filter p rows))
still_above id p [] h = tt
still_above id p (x ∷ rows) h = by_test (p x) refl (still_above id p rows h.1)
  where
    by_test : (b : Bool) → p x ≡ b → AllByRecursion (λ y. nat_cmp id y ≡ Less) (keys_of (filter p rows)) → AllByRecursion (λ y. nat_cmp id y ≡ Less) (keys_of (filter p (x ∷ rows)))
    by_test true t rest = rw t (h.0, rest)
    by_test false t rest = rw t rest

still_sorted : (p : ℕ × Row → Bool) (rows : List (ℕ × Row)) → IsStrictlySortedBy nat_cmp (keys_of rows) → IsStrictlySortedBy nat_cmp (keys_of (filter p rows))
unfolding IsStrictlySortedBy
still_sorted p [] order = tt
still_sorted p (x ∷ rows) order = by_test (p x) refl (still_sorted p rows order.1)
  where
    by_test : (b : Bool) → p x ≡ b → IsStrictlySortedBy nat_cmp (keys_of (filter p rows)) → IsStrictlySortedBy nat_cmp (keys_of (filter p (x ∷ rows)))
    by_test true t rest = rw t (still_above x.0 p rows order.0, rest)
    by_test false t rest = rw t rest

pub held_rows : (rows lapsing : List (ℕ × Row)) (p : Row → Bool) → ((row : Row) → p row ≡ true → row.held ≡ true) → IsStrictlyIncreasing (keys_of rows) → lapsing ≡ filter (λ e. p e.1) rows → AreHeldRows rows lapsing
held_rows rows lapsing p held order is = subst (AreHeldRows rows) (sym is) (record {
  there = λ e at. value_there rows e sorted (from_filter (λ (x : ℕ × Row). p x.1) rows e at).0;
  held = λ e at. held e.1 (from_filter (λ (x : ℕ × Row). p x.1) rows e at).1;
  order = IsStrictlyIncreasing-from_sorted (keys_of (filter (λ e. p e.1) rows)) (still_sorted (λ e. p e.1) rows sorted);
})
  where
    sorted : IsStrictlySortedBy nat_cmp (keys_of rows)
    sorted = sorted_from_strictly_increasing (keys_of rows) order

-- the filters that are found are those under the capabilities
value_found : (p : ℕ × Row → Bool) (rows : List (ℕ × Row)) (e : ℕ × Row) → IsStrictlySortedBy nat_cmp (keys_of rows) → Contains rows e → is_some (value_at (filter p rows) e.0) ≡ p e
unfolding IsStrictlySortedBy
value_found p [] e order at = absurd (never e at)
value_found p (x ∷ rows) e order at = by_test (p x) refl (first_or_later x rows e at) (value_found p rows e order.1)
  where
    none_above : (es : List (ℕ × Row)) → AllByRecursion (λ y. nat_cmp x.0 y ≡ Less) (keys_of es) → value_at es x.0 ≡ None
    none_above [] h = refl
    none_above (y ∷ es) h =
        let less = h.0 in
        let lt : x.0 < y.0 = grind (arith, nat_tests) in
        let other : nat_eq x.0 y.0 ≡ false = eq_no x.0 y.0 (λ same. omega arith) in
        rw other (none_above es h.1)

    by_test : (b : Bool) → p x ≡ b → (x ≡ e) ⊎ Contains rows e → (Contains rows e → is_some (value_at (filter p rows) e.0) ≡ p e) → is_some (value_at (filter p (x ∷ rows)) e.0) ≡ p e
    by_test true t (inl same) rest = subst (λ (y : ℕ × Row). is_some (value_at (filter p (x ∷ rows)) y.0) ≡ p y) same (rw (t, eq_yes x.0 x.0 refl) refl)
    by_test false t (inl same) rest =
        subst (λ (y : ℕ × Row). is_some (value_at (filter p (x ∷ rows)) y.0) ≡ p y) same (rw t (ap is_some (none_above (filter p rows) (still_above x.0 p rows order.0))))
    by_test true t (inr later) rest = let lt = above_all x.0 rows e order.0 later in let other : nat_eq e.0 x.0 ≡ false = eq_no e.0 x.0 (λ same. omega arith) in rw (t, other) (rest later)
    by_test false t (inr later) rest = rw t (rest later)

pub lapsed_alike : {V : Type 0} (gone : List (ℕ × V)) (slots : List (Option Slot)) (rows lapsing : List (ℕ × Row)) → IsStrictlyIncreasing (keys_of rows) → lapsing ≡ filter (λ e. lapses gone e.1) rows
    → map (lapsed_by lapsing) (installed slots rows) ≡ map (lapsed_under gone) (installed slots rows)
lapsed_alike gone slots rows lapsing order is = ap (λ (es : List (ℕ × Row)). map (lapsed_by es) (installed slots rows)) is ∙ alike rows (λ e at. at)
  where
    by_held : (held gone' found : Bool) → found ≡ (held && gone') → (held && not found) ≡ (held && not gone')
    by_held true g found e = ap not e
    by_held false g found e = refl

    one : (e : ℕ × Row) → Contains rows e → lapsed_by (filter (λ x. lapses gone x.1) rows) (installed_row slots e) ≡ lapsed_under gone (installed_row slots e)
    one e at =
        let f = installed_row slots e in
        ap (λ (b : Bool). record f { held = b })
        (by_held e.1.held (is_some (value_at gone e.1.cap)) (is_some (value_at (filter (λ x. lapses gone x.1) rows) e.0)) (value_found (λ x. lapses gone x.1) rows e (sorted_from_strictly_increasing (keys_of rows) order) at))

    alike : (rs : List (ℕ × Row)) → ((e : ℕ × Row) → Contains rs e → Contains rows e) → map (lapsed_by (filter (λ x. lapses gone x.1) rows)) (installed slots rs) ≡ map (lapsed_under gone) (installed slots rs)
    alike [] among = refl
    alike (e ∷ rs) among =
        ap (λ (f : Installed). f ∷ map (lapsed_by (filter (λ x. lapses gone x.1) rows)) (installed slots rs)) (one e (among e (in_head e rs)))
        ∙ ap (λ (fs : List Installed). lapsed_under gone (installed_row slots e) ∷ fs) (alike rs (λ x at. among x (in_tail e rs x at)))

-- Filters that lapse one by one

both_false : (a b : Bool) → b ≡ true → (a && not b) ≡ false
both_false true b e = ap not e
both_false false b e = refl

-- the rows without a hit keep what is planned of them
past_all : (slots : List (Option Slot)) (e : ℕ × Row) (rest rows : List (ℕ × Row)) → AllByRecursion (λ y. nat_cmp e.0 y ≡ Less) (keys_of rows)
    → map (lapsed_by rest) (installed slots rows) ≡ map (lapsed_by (e ∷ rest)) (installed slots rows)
past_all slots e rest [] h = refl
past_all slots e rest (x ∷ rows) h =
    let less = h.0 in
    let lt : e.0 < x.0 = grind (arith, nat_tests) in
    let other : nat_eq x.0 e.0 ≡ false = eq_no x.0 e.0 (λ same. omega arith) in
    let head : lapsed_by rest (installed_row slots x) ≡ lapsed_by (e ∷ rest) (installed_row slots x) = rw other refl in
    ap (λ (f : Installed). f ∷ map (lapsed_by rest) (installed slots rows)) head ∙ ap (λ (fs : List Installed). lapsed_by (e ∷ rest) (installed_row slots x) ∷ fs) (past_all slots e rest rows h.1)

lapsed_set : (slots : List (Option Slot)) (e : ℕ × Row) (rest rows : List (ℕ × Row)) → IsStrictlySortedBy nat_cmp (keys_of rows) → value_at rows e.0 ≡ Some e.1
    → map (lapsed_by rest) (installed slots (set_value (nat_eq e.0) rows (lapsed_row e.1))) ≡ map (lapsed_by (e ∷ rest)) (installed slots rows)
unfolding IsStrictlySortedBy
lapsed_set slots e rest [] order at = absurd cc
lapsed_set slots e rest (x ∷ rows) order at = by_id (nat_eq e.0 x.0) refl (lapsed_set slots e rest rows order.1)
  where
    by_id : (b : Bool) → nat_eq e.0 x.0 ≡ b → (value_at rows e.0 ≡ Some e.1 → map (lapsed_by rest) (installed slots (set_value (nat_eq e.0) rows (lapsed_row e.1))) ≡ map (lapsed_by (e ∷ rest)) (installed slots rows))
        → map (lapsed_by rest) (installed slots (set_value (nat_eq e.0) (x ∷ rows) (lapsed_row e.1))) ≡ map (lapsed_by (e ∷ rest)) (installed slots (x ∷ rows))
    by_id true t later =
        let key : e.0 ≡ x.0 = yes_eq e.0 x.0 t in
        let was : x.1 ≡ e.1 = let f = rw t at at in cc in
        let flip : nat_eq x.0 e.0 ≡ true = eq_yes x.0 e.0 (sym key) in
        let above = subst (λ (k : ℕ). AllByRecursion (λ y. nat_cmp k y ≡ Less) (keys_of rows)) (sym key) order.0 in
        let f = installed_row slots x in
        let head : lapsed_by rest (installed_row slots (x.0, lapsed_row e.1)) ≡ lapsed_by (e ∷ rest) (installed_row slots x) =
        ap (λ (r : Row). lapsed_by rest (installed_row slots (x.0, lapsed_row r))) (sym was)
        ∙ ap (λ (b : Bool). record f { held = b }) (sym (both_false x.1.held (is_some (value_at (e ∷ rest) x.0)) (rw flip refl))) in
        rw t (ap (λ (g : Installed). g ∷ map (lapsed_by rest) (installed slots rows)) head ∙ ap (λ (fs : List Installed). lapsed_by (e ∷ rest) (installed_row slots x) ∷ fs) (past_all slots e rest rows above))
    by_id false t later =
        let flip : nat_eq x.0 e.0 ≡ false = eq_no x.0 e.0 (λ same. (let u = eq_yes e.0 x.0 (sym same) in cc)) in
        let head : lapsed_by rest (installed_row slots x) ≡ lapsed_by (e ∷ rest) (installed_row slots x) = rw flip refl in
        rw t (ap (λ (g : Installed). g ∷ map (lapsed_by rest) (installed slots (set_value (nat_eq e.0) rows (lapsed_row e.1)))) head
        ∙ ap (λ (fs : List Installed). lapsed_by (e ∷ rest) (installed_row slots x) ∷ fs) (later (rw t at at)))

lapsed_program : (o : Option Slot) → program_in (one_lapsed o) ≡ program_in o
lapsed_program None = refl
lapsed_program (Some s) = refl

fewer_one : (count : ℕ) (o : Option Slot) → fewer_held count (one_lapsed o) ≡ fewer_held (suc count) o
fewer_one count None = refl
fewer_one count (Some s) = ap (λ (n : ℕ). Some (record s { held = n })) (let is : (s.held - 1) - count ≡ s.held - suc count = omega arith in is)

-- what holds between two of them
pub record AreLapsing (before : List (ℕ × Row)) (slots_before : List (Option Slot)) (all : List (ℕ × Row)) (rows : List (ℕ × Row)) (slots : List (Option Slot)) (ends : List (SortedMap ℕ)) (rest : List (ℕ × Row)) : Type 0 where
  pub booked : AreBooked rows slots ends
  pub held : AreHeldRows rows rest
  pub order : IsStrictlyIncreasing (keys_of rows)
  pub filters : map (lapsed_by rest) (installed slots rows) ≡ map (lapsed_by all) (installed slots_before before)
  pub slots_at : (m : ℕ) → slots_lapsed slots rest m ≡ slots_lapsed slots_before all m

pub lapsing_begins : (rows : List (ℕ × Row)) (slots : List (Option Slot)) (ends : List (SortedMap ℕ)) (all : List (ℕ × Row)) → AreBooked rows slots ends → AreHeldRows rows all → IsStrictlyIncreasing (keys_of rows) → AreLapsing rows slots all rows slots ends all
lapsing_begins rows slots ends all booked held order = record { booked = booked; held = held; order = order; filters = refl; slots_at = λ m. refl }

pub lapsing_one : (before : List (ℕ × Row)) (slots_before : List (Option Slot)) (all rows rows' : List (ℕ × Row)) (slots slots' : List (Option Slot)) (ends ends' : List (SortedMap ℕ)) (e : ℕ × Row) (rest : List (ℕ × Row))
    → AreLapsing before slots_before all rows slots ends (e ∷ rest) → AreBooked rows' slots' ends' → rows' ≡ set_value (nat_eq e.0) rows (lapsed_row e.1)
    → ((m : ℕ) → slot_at slots' m ≡ (if m == e.1.number then one_lapsed (slot_at slots e.1.number) else slot_at slots m)) → AreLapsing before slots_before all rows' slots' ends' rest
unfolding IsStrictlySortedBy
lapsing_one before slots_before all rows rows' slots slots' ends ends' e rest h booked is slots_at = record {
  booked = booked;
  held = record {
    there = λ x at. ap (λ (rs : List (ℕ × Row)). value_at rs x.0) is ∙ (other_value x at ∙ h.held.there x (in_tail e rest x at));
    held = λ x at. h.held.held x (in_tail e rest x at);
    order = IsStrictlyIncreasing-from_sorted (keys_of rest) sorted.1;
  };
  order = subst IsStrictlyIncreasing (sym (ap (λ (rs : List (ℕ × Row)). keys_of rs) is ∙ keys-set_value (nat_eq e.0) rows (lapsed_row e.1))) h.order;
  filters = ap (λ (rs : List (ℕ × Row)). map (lapsed_by rest) (installed slots' rs)) is ∙ (ap (map (lapsed_by rest)) (installed_alike slots slots' (set_value (nat_eq e.0) rows (lapsed_row e.1)) programs)
      ∙ (lapsed_set slots e rest rows (sorted_from_strictly_increasing (keys_of rows) h.order) (h.held.there e (in_head e rest)) ∙ h.filters));
  slots_at = λ m. fewer m (m == e.1.number) refl ∙ h.slots_at m;
}
  where
    sorted : AllByRecursion (λ y. nat_cmp e.0 y ≡ Less) (keys_of rest) × IsStrictlySortedBy nat_cmp (keys_of rest)
    sorted = sorted_from_strictly_increasing (keys_of (e ∷ rest)) h.held.order

    other_value : (x : ℕ × Row) → Contains rest x → value_at (set_value (nat_eq e.0) rows (lapsed_row e.1)) x.0 ≡ value_at rows x.0
    other_value x at = let lt = above_all e.0 rest x sorted.0 at in differs rows (λ same. omega arith)
      where
        differs : (rs : List (ℕ × Row)) → (e.0 ≡ x.0 → ⊥) → value_at (set_value (nat_eq e.0) rs (lapsed_row e.1)) x.0 ≡ value_at rs x.0
        differs [] off = refl
        differs (r ∷ rs) off = by_test (nat_eq e.0 r.0) refl (nat_eq x.0 r.0) refl (differs rs off)
          where
            by_test : (a : Bool) → nat_eq e.0 r.0 ≡ a → (b : Bool) → nat_eq x.0 r.0 ≡ b → value_at (set_value (nat_eq e.0) rs (lapsed_row e.1)) x.0 ≡ value_at rs x.0
                → value_at (set_value (nat_eq e.0) (r ∷ rs) (lapsed_row e.1)) x.0 ≡ value_at (r ∷ rs) x.0
            by_test true s true t later = absurd (off (yes_eq e.0 r.0 s ∙ sym (yes_eq x.0 r.0 t)))
            by_test true s false t later = rw (s, t) refl
            by_test false s true t later = rw (s, t) refl
            by_test false s false t later = rw (s, t) later

    programs : (m : ℕ) → program_in (slot_at slots' m) ≡ program_in (slot_at slots m)
    programs m = by_test (m == e.1.number) refl
      where
        by_test : (t : Bool) → (m == e.1.number) ≡ t → program_in (slot_at slots' m) ≡ program_in (slot_at slots m)
        by_test true t = let a = slots_at m in ap program_in (rw t at a) ∙ (lapsed_program (slot_at slots e.1.number) ∙ ap (λ (k : ℕ). program_in (slot_at slots k)) (sym (yes_eq m e.1.number t)))
        by_test false t = let a = slots_at m in ap program_in (rw t at a)

    fewer : (m : ℕ) (t : Bool) → (m == e.1.number) ≡ t → slots_lapsed slots' rest m ≡ slots_lapsed slots (e ∷ rest) m
    fewer m true t =
        let a = slots_at m in
        let is_m : m ≡ e.1.number = yes_eq m e.1.number t in
        let one : tally (has_number m) (e ∷ rest) ≡ suc (tally (has_number m) rest) = rw (eq_yes e.1.number m (sym is_m)) refl in
        ap (fewer_held (tally (has_number m) rest)) (rw t at a) ∙ (fewer_one (tally (has_number m) rest) (slot_at slots e.1.number)
        ∙ (ap (λ (k : ℕ). fewer_held (suc (tally (has_number m) rest)) (slot_at slots k)) (sym is_m) ∙ ap (λ (n : ℕ). fewer_held n (slot_at slots m)) (sym one)))
    fewer m false t =
        let a = slots_at m in
        let off : e.1.number ≡ m → ⊥ = λ same. (let y = eq_yes m e.1.number (sym same) in cc) in
        let one : tally (has_number m) (e ∷ rest) ≡ tally (has_number m) rest = rw (eq_no e.1.number m off) refl in
        ap (fewer_held (tally (has_number m) rest)) (rw t at a) ∙ ap (λ (n : ℕ). fewer_held n (slot_at slots m)) (sym one)

pub lapsing_done : (before : List (ℕ × Row)) (slots_before : List (Option Slot)) (all rows : List (ℕ × Row)) (slots : List (Option Slot)) (ends : List (SortedMap ℕ)) (rest : List (ℕ × Row)) → rest ≡ [] → AreLapsing before slots_before all rows slots ends rest
    → (installed slots rows ≡ map (lapsed_by all) (installed slots_before before)) × ((m : ℕ) → slot_at slots m ≡ slots_lapsed slots_before all m)
lapsing_done before slots_before all rows slots ends rest none h = (
  sym (nobody (installed slots rows)) ∙ (ap (λ (es : List (ℕ × Row)). map (lapsed_by es) (installed slots rows)) (sym none) ∙ h.filters),
  λ m. sym (same (slot_at slots m)) ∙ (ap (λ (es : List (ℕ × Row)). slots_lapsed slots es m) (sym none) ∙ h.slots_at m),
)
  where
    stays : (b : Bool) → (b && true) ≡ b
    stays true = refl
    stays false = refl

    nobody : (fs : List Installed) → map (lapsed_by {V = Row} []) fs ≡ fs
    nobody [] = refl
    nobody (f ∷ fs) = ap (λ (g : Installed). g ∷ map (lapsed_by {V = Row} []) fs) (ap (λ (b : Bool). record f { held = b }) (stays f.held)) ∙ ap (λ (gs : List Installed). f ∷ gs) (nobody fs)

    same : (o : Option Slot) → fewer_held 0 o ≡ o
    same None = refl
    same (Some s) = ap (λ (n : ℕ). Some (record s { held = n })) (let is : s.held - 0 ≡ s.held = omega arith in is)
