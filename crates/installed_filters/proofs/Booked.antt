-- Filters that come, go and lapse, as they are counted.
use Rattle.std.proofs.Common.{◌≡◌, ◌<◌, ◌≤◌, ◌+◌, ◌-◌, ◌==◌, ◌&&◌, ◌⊎◌, inl, inr, ℕ, zero, suc, Bool, true, false, cond, Option, Some, None, List, [], ◌∷◌, length, refl, ap, sym, ◌∙◌, subst, arith}
use Rattle.std.specs.Prelude.{if◌then◌else◌}
use Rattle.std.proofs.lemmas.Bool.Decides.{Decides-eqb}
use Rattle.bpf_insn.specs.declared.insn.Insn.{Insn}
use Rattle.chunked.specs.Maps.{SortedMap}
use Rattle.installed_filters.specs.declared.slots.Slot.{Slot}
use Rattle.installed_filters.specs.Slotting.{slot_at, new_slot, one, one_more, one_less, one_lapsed}
use Rattle.installed_filters.specs.Counts.{counted, number_of, reach_at}
use Rattle.installed_filters.specs.declared.books.Row.{Row}
use Rattle.installed_filters.specs.Books.{tally, Adds, has_number, holds_number, reaches_by, lapsed_row, IsTally, AreBooked, base_slot, Begins}

pub yes_eq : (a b : ℕ) → (a == b) ≡ true → a ≡ b
yes_eq a b e = (Decides-eqb a b).0 e

pub eq_yes : (a b : ℕ) → a ≡ b → (a == b) ≡ true
eq_yes a b same = (Decides-eqb a b).1 same

pub eq_no : (a b : ℕ) → (a ≡ b → ⊥) → (a == b) ≡ false
eq_no a b other = by_test (a == b) refl
  where
    by_test : (t : Bool) → (a == b) ≡ t → (a == b) ≡ false
    by_test true e = absurd (other (yes_eq a b e))
    by_test false e = e

-- Tallies

pub number-counted : (n : ℕ) → number_of (counted n) ≡ n
number-counted zero = refl
number-counted (suc n) = refl

-- a stricter test passes fewer
pub tally-fewer : (p q : Row → Bool) → ((r : Row) → p r ≡ true → q r ≡ true) → (rows : List (ℕ × Row)) → tally p rows ≤ tally q rows
tally-fewer p q stricter [] = omega arith
tally-fewer p q stricter (e ∷ rows) = by_tests (p e.1) refl (q e.1) refl (tally-fewer p q stricter rows)
  where
    by_tests : (a : Bool) → p e.1 ≡ a → (b : Bool) → q e.1 ≡ b → tally p rows ≤ tally q rows → tally p (e ∷ rows) ≤ tally q (e ∷ rows)
    by_tests true s true t rest = rw (s, t) (omega arith)
    by_tests true s false t rest = absurd (let u = stricter e.1 s in cc)
    by_tests false s true t rest = rw (s, t) (omega arith)
    by_tests false s false t rest = rw (s, t) rest

both_right : (a b : Bool) → (a && b) ≡ true → b ≡ true
both_right true b e = e
both_right false b e = absurd cc

pub held-fewer : (number : ℕ) (rows : List (ℕ × Row)) → tally (holds_number number) rows ≤ tally (has_number number) rows
held-fewer number rows = tally-fewer (holds_number number) (has_number number) (λ r t. both_right r.held (r.number == number) t) rows

-- one more is counted, or is not
pub adds_yes : (p : Row → Bool) (rows after : List (ℕ × Row)) (row : Row) → Adds rows row after → p row ≡ true → tally p after ≡ suc (tally p rows)
adds_yes p rows after row adds t = adds p ∙ rw t refl

pub adds_no : (p : Row → Bool) (rows after : List (ℕ × Row)) (row : Row) → Adds rows row after → p row ≡ false → tally p after ≡ tally p rows
adds_no p rows after row adds t = adds p ∙ rw t refl

-- of a filter with this program, whether it is held
own_held : (number : ℕ) (row : Row) → row.number ≡ number → holds_number number row ≡ row.held
own_held number row same = by_held row.held refl
  where
    by_held : (b : Bool) → row.held ≡ b → (row.held && (row.number == number)) ≡ row.held
    by_held true e = rw e (eq_yes row.number number same)
    by_held false e = rw e refl

-- of one with another
other_held : (number : ℕ) (row : Row) → (row.number == number) ≡ false → holds_number number row ≡ false
other_held number row e = by_held row.held refl
  where
    by_held : (b : Bool) → row.held ≡ b → (row.held && (row.number == number)) ≡ false
    by_held true f = rw f e
    by_held false f = rw f refl

plus_one : (held : Bool) (n : ℕ) → cond held (suc n) n ≡ n + one held
plus_one true n = omega arith
plus_one false n = omega arith

eq_flip : (a b : ℕ) → (a == b) ≡ false → (b == a) ≡ false
eq_flip a b e = eq_no b a (λ same. let t = eq_yes a b (sym same) in cc)

-- the program of a slot

program_is : (o o' : Option Slot) → Type 0
program_is o o' = (s s' : Slot) → o ≡ Some s → o' ≡ Some s' → s'.program ≡ s.program

-- A filter comes

module _ (rows after : List (ℕ × Row)) (slots slots' : List (Option Slot)) (ends ends' : List (SortedMap ℕ)) (row : Row) (adds : Adds rows row after) (booked : AreBooked rows slots ends) where
  -- what the slot at its number has before it
  based : (program : Option (List Insn)) → Begins slots row.number program
      → (s : Slot) × (base_slot slots row.number program ≡ Some s) × (s.filters ≡ tally (has_number row.number) rows) × (s.held ≡ tally (holds_number row.number) rows)
  based None begins = (begins.0, begins.1, tallied.0, tallied.1)
    where
      tallied : (begins.0.filters ≡ tally (has_number row.number) rows) × (begins.0.held ≡ tally (holds_number row.number) rows)
      tallied = let t = subst (λ (o : Option Slot). IsTally o (tally (has_number row.number) rows) (tally (holds_number row.number) rows)) begins.1 (booked.filters row.number) in (t.0, t.1)
  based (Some program) begins =
      let t : tally (has_number row.number) rows ≡ 0 =
      subst (λ (o : Option Slot). IsTally o (tally (has_number row.number) rows) (tally (holds_number row.number) rows)) begins.0 (booked.filters row.number) in
      let few = held-fewer row.number rows in
      (new_slot program, refl, sym t, omega arith)

  slot_tally : (s : Slot) (o : Option Slot) → o ≡ one_more row.held (Some s) → s.filters ≡ tally (has_number row.number) rows → s.held ≡ tally (holds_number row.number) rows
      → IsTally o (tally (has_number row.number) after) (tally (holds_number row.number) after)
  slot_tally s o is filters held =
      let more : tally (has_number row.number) after ≡ suc (tally (has_number row.number) rows) = adds_yes (has_number row.number) rows after row adds (eq_yes row.number row.number refl) in
      let more_held : tally (holds_number row.number) after ≡ tally (holds_number row.number) rows + one row.held =
      adds (holds_number row.number) ∙ (ap (λ (b : Bool). cond b (suc (tally (holds_number row.number) rows)) (tally (holds_number row.number) rows)) (own_held row.number row refl) ∙ plus_one row.held (tally (holds_number row.number) rows)) in
      subst (λ (x : Option Slot). IsTally x (tally (has_number row.number) after) (tally (holds_number row.number) after)) (sym is)
      (let f : s.filters + 1 ≡ tally (has_number row.number) after = omega (arith, filters, more) in
      let h : s.held + one row.held ≡ tally (holds_number row.number) after = ap (λ (n : ℕ). n + one row.held) held ∙ sym more_held in
      (f, h, omega (arith, more)))

  other_tally : (number : ℕ) (o : Option Slot) → (row.number == number) ≡ false → o ≡ slot_at slots number → IsTally o (tally (has_number number) after) (tally (holds_number number) after)
  other_tally number o e is =
      let same = adds_no (has_number number) rows after row adds e in
      let same' = adds_no (holds_number number) rows after row adds (other_held number row e) in
      subst (λ (x : Option Slot). IsTally x (tally (has_number number) after) (tally (holds_number number) after)) (sym is)
      (subst (λ (n : ℕ). IsTally (slot_at slots number) n (tally (holds_number number) after)) (sym same)
      (subst (λ (n : ℕ). IsTally (slot_at slots number) (tally (has_number number) rows) n) (sym same') (booked.filters number)))

  reach_test : (number endpoint : ℕ) → reaches_by number endpoint row ≡ (row.held && ((number == row.number) && (endpoint == row.endpoint)))
  reach_test number endpoint = ap (λ (b : Bool). row.held && b) (ap (λ (b : Bool). b && (row.endpoint == endpoint)) (flip row.number number) ∙ ap (λ (b : Bool). (number == row.number) && b) (flip row.endpoint endpoint))
    where
      flip : (a b : ℕ) → (a == b) ≡ (b == a)
      flip a b = by_test (a == b) refl
        where
          by_test : (t : Bool) → (a == b) ≡ t → (a == b) ≡ (b == a)
          by_test true e = e ∙ sym (eq_yes b a (sym (yes_eq a b e)))
          by_test false e = e ∙ sym (eq_flip a b e)

  pub booked_put : (program : Option (List Insn)) → Begins slots row.number program → row.number < length slots → row.number < length ends → length slots' ≡ length slots → length ends' ≡ length ends
      → ((m : ℕ) → slot_at slots' m ≡ (if m == row.number then one_more row.held (base_slot slots row.number program) else slot_at slots m))
      → ((m q : ℕ) → reach_at ends' m q ≡ (if row.held && ((m == row.number) && (q == row.endpoint)) then counted (number_of (reach_at ends row.number row.endpoint) + 1) else reach_at ends m q))
      → AreBooked after slots' ends'
  booked_put program begins inside inside' long long' slots_at reach = record {
    filters = λ m. by_number m (m == row.number) refl;
    reaches = λ m q. by_reach m q (row.held && ((m == row.number) && (q == row.endpoint))) refl;
    apart = λ i j s t at at' same. apart_at i j s t (i == row.number) refl (j == row.number) refl at at' same;
    inside = λ m s at. inside_at m s (m == row.number) refl at;
  }
    where
      by_number : (m : ℕ) (t : Bool) → (m == row.number) ≡ t → IsTally (slot_at slots' m) (tally (has_number m) after) (tally (holds_number m) after)
      by_number m true e =
          let b = based program begins in
          let is : m ≡ row.number = yes_eq m row.number e in
          let s = slots_at m in
          subst (λ (n : ℕ). IsTally (slot_at slots' m) (tally (has_number n) after) (tally (holds_number n) after)) (sym is)
          (slot_tally b.0 (slot_at slots' m) ((rw e at s) ∙ ap (one_more row.held) b.1) b.2 b.3)
      by_number m false e = let s = slots_at m in other_tally m (slot_at slots' m) (eq_flip m row.number e) (rw e at s)

      by_reach : (m q : ℕ) (t : Bool) → (row.held && ((m == row.number) && (q == row.endpoint))) ≡ t → reach_at ends' m q ≡ counted (tally (reaches_by m q) after)
      by_reach m q true e =
          let r = reach m q in
          let both = both_right row.held ((m == row.number) && (q == row.endpoint)) e in
          let is_m : m ≡ row.number = yes_eq m row.number (left (m == row.number) (q == row.endpoint) both) in
          let is_q : q ≡ row.endpoint = yes_eq q row.endpoint (both_right (m == row.number) (q == row.endpoint) both) in
          let more : tally (reaches_by m q) after ≡ suc (tally (reaches_by m q) rows) = adds_yes (reaches_by m q) rows after row adds (reach_test m q ∙ e) in
          let was : number_of (reach_at ends row.number row.endpoint) ≡ tally (reaches_by m q) rows =
          ap number_of (booked.reaches row.number row.endpoint) ∙ (number-counted (tally (reaches_by row.number row.endpoint) rows) ∙ (ap (λ (n : ℕ). tally (reaches_by n row.endpoint) rows) (sym is_m) ∙ ap (λ (n : ℕ). tally (reaches_by m n) rows) (sym is_q))) in
          let next : number_of (reach_at ends row.number row.endpoint) + 1 ≡ tally (reaches_by m q) after = omega (arith, more, was) in
          (rw e at r) ∙ ap counted next
        where
          left : (a b : Bool) → (a && b) ≡ true → a ≡ true
          left true b e = refl
          left false b e = absurd cc
      by_reach m q false e = let r = reach m q in (rw e at r) ∙ (booked.reaches m q ∙ ap counted (sym (adds_no (reaches_by m q) rows after row adds (reach_test m q ∙ e))))

      inside_at : (m : ℕ) (s : Slot) (t : Bool) → (m == row.number) ≡ t → slot_at slots' m ≡ Some s → (m < length slots') × (m < length ends')
      inside_at m s true e at = let is = yes_eq m row.number e in (omega arith, omega arith)
      inside_at m s false e at = let r = slots_at m in let low = booked.inside m s (sym (rw e at r) ∙ at) in let a = low.0 in let b = low.1 in (omega arith, omega arith)

      -- the program at its number
      own : (s : Slot) (m : ℕ) → (m == row.number) ≡ true → slot_at slots' m ≡ Some s → (b : Slot) × (base_slot slots row.number program ≡ Some b) × (s.program ≡ b.program)
      own s m e at =
          let b = based program begins in
          let r = slots_at m in
          let is : Some s ≡ one_more row.held (Some b.0) = sym at ∙ ((rw e at r) ∙ ap (one_more row.held) b.1) in
          (b.0, b.1, program_of s (record b.0 { filters = b.0.filters + 1; held = b.0.held + one row.held }) is)
        where
          program_of : (x y : Slot) → Some x ≡ Some y → x.program ≡ y.program
          program_of x y same = let is : x ≡ y = cc in ap (λ (z : Slot). z.program) is

      -- and no other number has it
      alone : (q : Option (List Insn)) → Begins slots row.number q → (b : Slot) → base_slot slots row.number q ≡ Some b → (j : ℕ) (t : Slot) → (j == row.number) ≡ false → slot_at slots j ≡ Some t → b.program ≡ t.program → ⊥
      alone None begun b is j t e at same = let here = booked.apart row.number j b t is at same in let yes' = eq_yes j row.number (sym here) in cc
      alone (Some p) begun b is j t e at same = begun.1 j t at (sym same ∙ (let x : new_slot p ≡ b = cc in ap (λ (z : Slot). z.program) (sym x)))

      apart_at : (i j : ℕ) (s t : Slot) (a : Bool) → (i == row.number) ≡ a → (b : Bool) → (j == row.number) ≡ b → slot_at slots' i ≡ Some s → slot_at slots' j ≡ Some t → s.program ≡ t.program → i ≡ j
      apart_at i j s t true e true f at at' same = yes_eq i row.number e ∙ sym (yes_eq j row.number f)
      apart_at i j s t true e false f at at' same =
          let o = own s i e at in
          let r = slots_at j in
          absurd (alone program begins o.0 o.1 j t f (sym (rw f at r) ∙ at') (sym o.2 ∙ same))
      apart_at i j s t false e true f at at' same =
          let o = own t j f at' in
          let r = slots_at i in
          absurd (alone program begins o.0 o.1 i s e (sym (rw e at r) ∙ at) (sym o.2 ∙ sym same))
      apart_at i j s t false e false f at at' same =
          let r = slots_at i in
          let r' = slots_at j in
          booked.apart i j s t (sym (rw e at r) ∙ at) (sym (rw f at r') ∙ at') same

-- the slots once a filter came to one of them, which perhaps began before
pub put_slots : (slots mid slots' : List (Option Slot)) (number : ℕ) (base : Option Slot) (held : Bool) → slot_at mid number ≡ base → ((m : ℕ) → (m == number) ≡ false → slot_at mid m ≡ slot_at slots m)
    → ((m : ℕ) → slot_at slots' m ≡ (if m == number then one_more held (slot_at mid number) else slot_at mid m)) → (m : ℕ) → slot_at slots' m ≡ (if m == number then one_more held base else slot_at slots m)
put_slots slots mid slots' number base held own others add m = by_test (m == number) refl
  where
    by_test : (t : Bool) → (m == number) ≡ t → slot_at slots' m ≡ (if m == number then one_more held base else slot_at slots m)
    by_test true e = let a = add m in rw e ((rw e at a) ∙ ap (one_more held) own)
    by_test false e = let a = add m in rw e ((rw e at a) ∙ others m e)

pub reach_put : (ends ends' : List (SortedMap ℕ)) (row : Row) (count : ℕ) → row.held ≡ true → ((m q : ℕ) → reach_at ends' m q ≡ (if (m == row.number) && (q == row.endpoint) then counted count else reach_at ends m q))
    → (m q : ℕ) → reach_at ends' m q ≡ (if row.held && ((m == row.number) && (q == row.endpoint)) then counted count else reach_at ends m q)
reach_put ends ends' row count held reach m q = rw held (reach m q)

pub reach_kept : (ends : List (SortedMap ℕ)) (row : Row) (count : ℕ) → row.held ≡ false → (m q : ℕ) → reach_at ends m q ≡ (if row.held && ((m == row.number) && (q == row.endpoint)) then counted count else reach_at ends m q)
reach_kept ends row count held m q = rw held refl

-- A filter goes, or lapses

-- a slot whose counts change at one number, as its program stays
module _ (slots slots' : List (Option Slot)) (ends ends' : List (SortedMap ℕ)) (number : ℕ) (slot : Option Slot) (long : length slots' ≡ length slots) (long' : length ends' ≡ length ends)
    (slots_at : (m : ℕ) → slot_at slots' m ≡ (if m == number then slot else slot_at slots m)) (kept : (s : Slot) → slot ≡ Some s → (b : Slot) × (slot_at slots number ≡ Some b) × (s.program ≡ b.program)) where
  -- what was at a number
  was_at : (m : ℕ) (s : Slot) (t : Bool) → (m == number) ≡ t → slot_at slots' m ≡ Some s → (b : Slot) × (slot_at slots m ≡ Some b) × (s.program ≡ b.program)
  was_at m s true e at =
      let r = slots_at m in
      let k = kept s (sym (rw e at r) ∙ at) in
      (k.0, ap (slot_at slots) (yes_eq m number e) ∙ k.1, k.2)
  was_at m s false e at = let r = slots_at m in (s, sym (rw e at r) ∙ at, refl)

  pub apart_after : (rows : List (ℕ × Row)) → AreBooked rows slots ends → (i j : ℕ) (s t : Slot) → slot_at slots' i ≡ Some s → slot_at slots' j ≡ Some t → s.program ≡ t.program → i ≡ j
  apart_after rows booked i j s t at at' same =
      let a = was_at i s (i == number) refl at in
      let b = was_at j t (j == number) refl at' in
      booked.apart i j a.0 b.0 a.1 b.1 (sym a.2 ∙ (same ∙ b.2))

  pub inside_after : (rows : List (ℕ × Row)) → AreBooked rows slots ends → (m : ℕ) (s : Slot) → slot_at slots' m ≡ Some s → (m < length slots') × (m < length ends')
  inside_after rows booked m s at =
      let a = was_at m s (m == number) refl at in
      let low = booked.inside m a.0 a.1 in
      let x = low.0 in let y = low.1 in
      (omega arith, omega arith)

-- the reaches of the others, and one less of its own
reach_less : (rows after : List (ℕ × Row)) (ends ends' : List (SortedMap ℕ)) (row : Row) → row.held ≡ true → Adds after row rows → ((m q : ℕ) → reach_at ends m q ≡ counted (tally (reaches_by m q) rows))
    → ((m q : ℕ) → reach_at ends' m q ≡ (if (m == row.number) && (q == row.endpoint) then counted (number_of (reach_at ends row.number row.endpoint) - 1) else reach_at ends m q))
    → (m q : ℕ) → reach_at ends' m q ≡ counted (tally (reaches_by m q) after)
reach_less rows after ends ends' row held adds was reach m q = by_test ((m == row.number) && (q == row.endpoint)) refl
  where
    flip : (a b : ℕ) → (a == b) ≡ (b == a)
    flip a b = by_eq (a == b) refl
      where
        by_eq : (t : Bool) → (a == b) ≡ t → (a == b) ≡ (b == a)
        by_eq true e = e ∙ sym (eq_yes b a (sym (yes_eq a b e)))
        by_eq false e = e ∙ sym (eq_flip a b e)

    test_is : reaches_by m q row ≡ ((m == row.number) && (q == row.endpoint))
    test_is = ap (λ (b : Bool). b && ((row.number == m) && (row.endpoint == q))) held
        ∙ (ap (λ (b : Bool). b && (row.endpoint == q)) (flip row.number m) ∙ ap (λ (b : Bool). (m == row.number) && b) (flip row.endpoint q))

    left : (a b : Bool) → (a && b) ≡ true → a ≡ true
    left true b e = refl
    left false b e = absurd cc

    by_test : (t : Bool) → ((m == row.number) && (q == row.endpoint)) ≡ t → reach_at ends' m q ≡ counted (tally (reaches_by m q) after)
    by_test true e =
        let r = reach m q in
        let is_m : m ≡ row.number = yes_eq m row.number (left (m == row.number) (q == row.endpoint) e) in
        let is_q : q ≡ row.endpoint = yes_eq q row.endpoint (both_right (m == row.number) (q == row.endpoint) e) in
        let more : tally (reaches_by m q) rows ≡ suc (tally (reaches_by m q) after) = adds_yes (reaches_by m q) after rows row adds (test_is ∙ e) in
        let count : number_of (reach_at ends row.number row.endpoint) ≡ tally (reaches_by m q) rows =
        ap number_of (was row.number row.endpoint) ∙ (number-counted (tally (reaches_by row.number row.endpoint) rows) ∙ (ap (λ (n : ℕ). tally (reaches_by n row.endpoint) rows) (sym is_m) ∙ ap (λ (n : ℕ). tally (reaches_by m n) rows) (sym is_q))) in
        let less : number_of (reach_at ends row.number row.endpoint) - 1 ≡ tally (reaches_by m q) after = omega (arith, more, count) in
        (rw e at r) ∙ ap counted less
    by_test false e = let r = reach m q in (rw e at r) ∙ (was m q ∙ ap counted (adds_no (reaches_by m q) after rows row adds (test_is ∙ e)))

-- a filter that isn't held has no reach
reach_same : (rows after : List (ℕ × Row)) (row : Row) → row.held ≡ false → Adds after row rows → (m q : ℕ) → tally (reaches_by m q) rows ≡ tally (reaches_by m q) after
reach_same rows after row held adds m q = adds_no (reaches_by m q) after rows row adds (ap (λ (b : Bool). b && ((row.number == m) && (row.endpoint == q))) held)

module _ (rows after : List (ℕ × Row)) (slots slots' : List (Option Slot)) (ends ends' : List (SortedMap ℕ)) (row : Row) (adds : Adds after row rows) (booked : AreBooked rows slots ends) where
  -- the slot of the filter that goes
  pub slot_was : (s : Slot) × (slot_at slots row.number ≡ Some s) × (s.filters ≡ suc (tally (has_number row.number) after)) × (s.held ≡ tally (holds_number row.number) after + one row.held)
  slot_was = by_slot (slot_at slots row.number) refl
    where
      more : tally (has_number row.number) rows ≡ suc (tally (has_number row.number) after)
      more = adds_yes (has_number row.number) after rows row adds (eq_yes row.number row.number refl)

      more_held : tally (holds_number row.number) rows ≡ tally (holds_number row.number) after + one row.held
      more_held = adds (holds_number row.number)
          ∙ (ap (λ (b : Bool). cond b (suc (tally (holds_number row.number) after)) (tally (holds_number row.number) after)) (own_held row.number row refl) ∙ plus_one row.held (tally (holds_number row.number) after))

      by_slot : (o : Option Slot) → slot_at slots row.number ≡ o
          → (s : Slot) × (slot_at slots row.number ≡ Some s) × (s.filters ≡ suc (tally (has_number row.number) after)) × (s.held ≡ tally (holds_number row.number) after + one row.held)
      by_slot None e =
          let t : tally (has_number row.number) rows ≡ 0 = subst (λ (o : Option Slot). IsTally o (tally (has_number row.number) rows) (tally (holds_number row.number) rows)) e (booked.filters row.number) in
          absurd (omega (arith, more, t))
      by_slot (Some s) e =
          let t = subst (λ (o : Option Slot). IsTally o (tally (has_number row.number) rows) (tally (holds_number row.number) rows)) e (booked.filters row.number) in
          (s, e, t.0 ∙ more, t.1 ∙ more_held)

  others_tally : (m : ℕ) (o : Option Slot) → (row.number == m) ≡ false → o ≡ slot_at slots m → IsTally o (tally (has_number m) after) (tally (holds_number m) after)
  others_tally m o e is =
      let same = adds_no (has_number m) after rows row adds e in
      let same' = adds_no (holds_number m) after rows row adds (other_held m row e) in
      subst (λ (x : Option Slot). IsTally x (tally (has_number m) after) (tally (holds_number m) after)) (sym is)
      (subst (λ (n : ℕ). IsTally (slot_at slots m) n (tally (holds_number m) after)) same
      (subst (λ (n : ℕ). IsTally (slot_at slots m) (tally (has_number m) rows) n) same' (booked.filters m)))

  less_program : (s b : Slot) → one_less row.held (Some b) ≡ Some s → s.program ≡ b.program
  less_program s b is = by_test (b.filters == 1) refl
    where
      by_test : (t : Bool) → (b.filters == 1) ≡ t → s.program ≡ b.program
      by_test true e = absurd (let none = rw e at is in cc)
      by_test false e =
          let some = rw e at is in
          let same : record b { filters = b.filters - 1; held = b.held - one row.held } ≡ s = cc in
          ap (λ (z : Slot). z.program) (sym same)

  pub booked_take : length slots' ≡ length slots → length ends' ≡ length ends
      → ((m : ℕ) → slot_at slots' m ≡ (if m == row.number then one_less row.held (slot_at slots row.number) else slot_at slots m))
      → ((row.held ≡ true) × ((m q : ℕ) → reach_at ends' m q ≡ (if (m == row.number) && (q == row.endpoint) then counted (number_of (reach_at ends row.number row.endpoint) - 1) else reach_at ends m q)))
      ⊎ ((row.held ≡ false) × (ends' ≡ ends))
      → AreBooked after slots' ends'
  booked_take long long' slots_at reach = record {
    filters = λ m. by_number m (m == row.number) refl;
    reaches = reached reach;
    apart = apart_after slots slots' ends ends' row.number (one_less row.held (slot_at slots row.number)) long long' slots_at kept rows booked;
    inside = inside_after slots slots' ends ends' row.number (one_less row.held (slot_at slots row.number)) long long' slots_at kept rows booked;
  }
    where
      kept : (s : Slot) → one_less row.held (slot_at slots row.number) ≡ Some s → (b : Slot) × (slot_at slots row.number ≡ Some b) × (s.program ≡ b.program)
      kept s is = let b = slot_was in (b.0, b.1, less_program s b.0 (ap (one_less row.held) (sym b.1) ∙ is))

      own : (s : Slot) → s.filters ≡ suc (tally (has_number row.number) after) → s.held ≡ tally (holds_number row.number) after + one row.held
          → IsTally (one_less row.held (Some s)) (tally (has_number row.number) after) (tally (holds_number row.number) after)
      own s filters held = by_test (s.filters == 1) refl
        where
          by_test : (t : Bool) → (s.filters == 1) ≡ t → IsTally (one_less row.held (Some s)) (tally (has_number row.number) after) (tally (holds_number row.number) after)
          by_test true e = rw e (let f = yes_eq s.filters 1 e in omega (arith, filters, f))
          by_test false e =
              let some : s.filters ≡ 1 → ⊥ = λ same. (let t = eq_yes s.filters 1 same in cc) in
              rw e (omega (arith, filters), omega (arith, held), omega (arith, filters, some))

      by_number : (m : ℕ) (t : Bool) → (m == row.number) ≡ t → IsTally (slot_at slots' m) (tally (has_number m) after) (tally (holds_number m) after)
      by_number m true e =
          let b = slot_was in
          let r = slots_at m in
          subst (λ (n : ℕ). IsTally (slot_at slots' m) (tally (has_number n) after) (tally (holds_number n) after)) (sym (yes_eq m row.number e))
          (subst (λ (o : Option Slot). IsTally o (tally (has_number row.number) after) (tally (holds_number row.number) after)) (sym ((rw e at r) ∙ ap (one_less row.held) b.1)) (own b.0 b.2 b.3))
      by_number m false e = let r = slots_at m in others_tally m (slot_at slots' m) (eq_flip m row.number e) (rw e at r)

      reached : ((row.held ≡ true) × ((m q : ℕ) → reach_at ends' m q ≡ (if (m == row.number) && (q == row.endpoint) then counted (number_of (reach_at ends row.number row.endpoint) - 1) else reach_at ends m q)))
          ⊎ ((row.held ≡ false) × (ends' ≡ ends)) → (m q : ℕ) → reach_at ends' m q ≡ counted (tally (reaches_by m q) after)
      reached (inl live) = reach_less rows after ends ends' row live.0 adds booked.reaches live.1
      reached (inr dead) = λ m q. ap (λ (es : List (SortedMap ℕ)). reach_at es m q) dead.1 ∙ (booked.reaches m q ∙ ap counted (reach_same rows after row dead.0 adds m q))

  -- the filter stays, and isn't held any more
  pub booked_lapse : (lapsed : List (ℕ × Row)) → row.held ≡ true → Adds after (lapsed_row row) lapsed → length slots' ≡ length slots → length ends' ≡ length ends
      → ((m : ℕ) → slot_at slots' m ≡ (if m == row.number then one_lapsed (slot_at slots row.number) else slot_at slots m))
      → ((m q : ℕ) → reach_at ends' m q ≡ (if (m == row.number) && (q == row.endpoint) then counted (number_of (reach_at ends row.number row.endpoint) - 1) else reach_at ends m q))
      → AreBooked lapsed slots' ends'
  booked_lapse lapsed held stays long long' slots_at reach = record {
    filters = λ m. by_number m (m == row.number) refl;
    reaches = λ m q. reach_less rows after ends ends' row held adds booked.reaches reach m q ∙ ap counted (sym (adds_no (reaches_by m q) after lapsed (lapsed_row row) stays refl));
    apart = apart_after slots slots' ends ends' row.number (one_lapsed (slot_at slots row.number)) long long' slots_at kept rows booked;
    inside = inside_after slots slots' ends ends' row.number (one_lapsed (slot_at slots row.number)) long long' slots_at kept rows booked;
  }
    where
      kept : (s : Slot) → one_lapsed (slot_at slots row.number) ≡ Some s → (b : Slot) × (slot_at slots row.number ≡ Some b) × (s.program ≡ b.program)
      kept s is =
          let b = slot_was in
          let same : record b.0 { held = b.0.held - 1 } ≡ s = let some = sym (ap one_lapsed b.1) ∙ is in cc in
          (b.0, b.1, ap (λ (z : Slot). z.program) (sym same))

      by_number : (m : ℕ) (t : Bool) → (m == row.number) ≡ t → IsTally (slot_at slots' m) (tally (has_number m) lapsed) (tally (holds_number m) lapsed)
      by_number m true e =
          let b = slot_was in
          let r = slots_at m in
          let more : tally (has_number row.number) lapsed ≡ suc (tally (has_number row.number) after) = adds_yes (has_number row.number) after lapsed (lapsed_row row) stays (eq_yes row.number row.number refl) in
          let same : tally (holds_number row.number) lapsed ≡ tally (holds_number row.number) after = adds_no (holds_number row.number) after lapsed (lapsed_row row) stays refl in
          let one_is : one row.held ≡ 1 = ap one held in
          subst (λ (n : ℕ). IsTally (slot_at slots' m) (tally (has_number n) lapsed) (tally (holds_number n) lapsed)) (sym (yes_eq m row.number e))
          (subst (λ (o : Option Slot). IsTally o (tally (has_number row.number) lapsed) (tally (holds_number row.number) lapsed)) (sym ((rw e at r) ∙ ap one_lapsed b.1))
          (b.2 ∙ sym more, omega (arith, b.3, same, one_is), omega (arith, more)))
      by_number m false e =
          let r = slots_at m in
          let flip = eq_flip m row.number e in
          let same = adds_no (has_number m) after lapsed (lapsed_row row) stays flip in
          let same' = adds_no (holds_number m) after lapsed (lapsed_row row) stays refl in
          subst (λ (n : ℕ). IsTally (slot_at slots' m) n (tally (holds_number m) lapsed)) (sym same)
          (subst (λ (n : ℕ). IsTally (slot_at slots' m) (tally (has_number m) after) n) (sym same') (others_tally m (slot_at slots' m) flip (rw e at r)))
