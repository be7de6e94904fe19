-- Filters under their capabilities, and those of them that are found.
use Rattle.std.proofs.Common.{◌≡◌, ◌<◌, ◌≤◌, ◌+◌, ◌-◌, ◌*◌, ◌/◌, ◌%◌, ◌==◌, ◌&&◌, not, nat_eq, nat_le, ℕ, Bool, true, false, cond, Option, Some, None, is_some, List, [], ◌∷◌, filter, refl, ap, sym, ◌∙◌, subst, arith}
use Rattle.std.specs.List.Sorted.{IsStrictlyIncreasing}
use Rattle.std.specs.Map.{keys_of}
use Rattle.std.specs.Prelude.{if◌then◌else◌}
use Rattle.std.proofs.lemmas.Bool.Decides.{nat_tests}
use Rattle.std.proofs.lemmas.Map.Keys.{sorted_from_strictly_increasing}
use Rattle.std.proofs.lemmas.Nat.{div-mul-add, mod-mul-add, div-add-mod'}
use Rattle.chunked.specs.Maps.{value_at}
use Rattle.installed_filters.specs.declared.books.Row.{Row}
use Rattle.installed_filters.specs.Lapsing.{lapses}
use Rattle.installed_filters.specs.Under.{ids, under_key, is_under, is_held, is_held_under, is_under_key, AreUnder, LacksHeld, AddsHeld}
use Rattle.installed_filters.proofs.Booked.{eq_no, eq_yes, yes_eq}
use Rattle.installed_filters.proofs.Keys.{KeysFrom, rising, lower, kept_from, filtered, no_value, not_before, at_filtered, at_head, at_tail, alike}

-- Keys

key_cap : (cap id : ℕ) → id < ids → under_key cap id / ids ≡ cap
key_cap cap id lt = div-mul-add cap ids id lt

key_id : (cap id : ℕ) → id < ids → under_key cap id % ids ≡ id
key_id cap id lt = mod-mul-add cap ids id lt

key_of : (key : ℕ) → under_key (key / ids) (key % ids) ≡ key
key_of key = div-add-mod' key ids

-- the key of a filter is found by its parts
pub under_at : (rows : List (ℕ × Row)) (cap id : ℕ) → id < ids → is_under_key rows (under_key cap id) ≡ is_under cap (value_at rows id)
under_at rows cap id lt = ap (λ (n : ℕ). is_under n (value_at rows (under_key cap id % ids))) (key_cap cap id lt) ∙ ap (λ (n : ℕ). is_under cap (value_at rows n)) (key_id cap id lt)

-- another number has other parts
other_cap : (cap id key : ℕ) → (key == under_key cap id) ≡ false → key % ids ≡ id → (cap == key / ids) ≡ false
other_cap cap id key off low =
    eq_no cap (key / ids) (λ same. let yes = eq_yes key (under_key cap id) (sym (key_of key) ∙ (ap (under_key (key / ids)) low ∙ ap (λ (n : ℕ). under_key n id) (sym same))) in absurd cc)

pub there_under : (cap : ℕ) (o : Option Row) → is_under cap o ≡ true → (row : Row) × (o ≡ Some row) × (row.cap ≡ cap)
there_under cap None h = absurd cc
there_under cap (Some row) h = (row, refl, yes_eq row.cap cap h)

-- Filters come, stay and go

module _ {V : Type 0} (rows after : List (ℕ × Row)) (under under' : List (ℕ × V)) (id : ℕ) (row : Row) (h : AreUnder rows under) where
  pub under_more : (v : V) → value_at rows id ≡ None → id < ids → row.cap < ids → ((q : ℕ) → value_at after q ≡ (if q == id then Some row else value_at rows q))
      → ((q : ℕ) → value_at under' q ≡ (if q == under_key row.cap id then Some v else value_at under q)) → AreUnder after under'
  under_more v absent id_small cap_small rows_at under_at' = record {
    each = λ key. ap is_some (under_at' key) ∙ by_key key (key == under_key row.cap id) refl;
    small = λ q r at. by_id q r (q == id) refl (sym (rows_at q) ∙ at);
  }
    where
      here : (q : ℕ) → q ≡ id → value_at after q ≡ Some row
      here q low = let yes = eq_yes q id low in rows_at q ∙ rw yes refl

      stays : (q cap : ℕ) → (q == id) ≡ false → is_under cap (value_at after q) ≡ is_under cap (value_at rows q)
      stays q cap t = let is : value_at after q ≡ value_at rows q = rows_at q ∙ rw t refl in ap (is_under cap) is

      by_id : (q : ℕ) (r : Row) (t : Bool) → (q == id) ≡ t → (if q == id then Some row else value_at rows q) ≡ Some r → (q < ids) × (r.cap < ids)
      by_id q r true t at = let is : Some row ≡ Some r = rw t at at in let same : row ≡ r = cc in let low = yes_eq q id t in (omega arith, subst (λ (x : Row). x.cap < ids) same cap_small)
      by_id q r false t at = h.small q r (rw t at at)

      by_low : (key : ℕ) → (key == under_key row.cap id) ≡ false → (t : Bool) → (key % ids == id) ≡ t → is_some (value_at under key) ≡ is_under_key after key
      by_low key off true t =
          let low = yes_eq (key % ids) id t in
          h.each key ∙ (ap (λ (n : ℕ). is_under (key / ids) (value_at rows n)) low ∙ (ap (is_under (key / ids)) absent ∙ sym (ap (is_under (key / ids)) (here (key % ids) low) ∙ other_cap row.cap id key off low)))
      by_low key off false t = h.each key ∙ sym (stays (key % ids) (key / ids) t)

      by_key : (key : ℕ) (t : Bool) → (key == under_key row.cap id) ≡ t → is_some (if key == under_key row.cap id then Some v else value_at under key) ≡ is_under_key after key
      by_key key true t =
          let is = yes_eq key (under_key row.cap id) t in
          rw t (sym (ap (is_under_key after) is ∙ (under_at after row.cap id id_small ∙ (ap (is_under row.cap) (here id refl) ∙ eq_yes row.cap row.cap refl))))
      by_key key false t = rw t (by_low key t (key % ids == id) refl)

  pub under_set : is_under row.cap (value_at rows id) ≡ true → ((q : ℕ) → value_at after q ≡ (if q == id then Some row else value_at rows q)) → AreUnder after under
  under_set was rows_at = record {
    each = λ key. h.each key ∙ by_low key (key % ids == id) refl;
    small = λ q r at. by_id q r (q == id) refl (sym (rows_at q) ∙ at);
  }
    where
      here : (q : ℕ) → (q == id) ≡ true → value_at after q ≡ Some row
      here q t = rows_at q ∙ rw t refl

      other : (q : ℕ) → (q == id) ≡ false → value_at after q ≡ value_at rows q
      other q t = rows_at q ∙ rw t refl

      old : (r : Row) × (value_at rows id ≡ Some r) × (r.cap ≡ row.cap)
      old = there_under row.cap (value_at rows id) was

      by_id : (q : ℕ) (r : Row) (t : Bool) → (q == id) ≡ t → (if q == id then Some row else value_at rows q) ≡ Some r → (q < ids) × (r.cap < ids)
      by_id q r true t at =
          let is : Some row ≡ Some r = rw t at at in
          let same : row ≡ r = cc in
          let low = yes_eq q id t in
          let small = h.small id old.0 old.1 in
          (omega (arith, small.0), subst (λ (x : Row). x.cap < ids) same (subst (λ (n : ℕ). n < ids) old.2 small.1))
      by_id q r false t at = h.small q r (rw t at at)

      by_low : (key : ℕ) (t : Bool) → (key % ids == id) ≡ t → is_under_key rows key ≡ is_under_key after key
      by_low key true t =
          let low = yes_eq (key % ids) id t in
          ap (λ (n : ℕ). is_under (key / ids) (value_at rows n)) low
          ∙ (ap (is_under (key / ids)) old.1 ∙ (ap (λ (n : ℕ). n == key / ids) old.2 ∙ sym (ap (is_under (key / ids)) (here (key % ids) t))))
      by_low key false t = sym (ap (is_under (key / ids)) (other (key % ids) t))

  pub under_less : value_at rows id ≡ Some row → ((q : ℕ) → value_at after q ≡ (if q == id then None else value_at rows q))
      → ((q : ℕ) → value_at under' q ≡ (if q == under_key row.cap id then None else value_at under q)) → AreUnder after under'
  under_less there rows_at under_at' = record {
    each = λ key. ap is_some (under_at' key) ∙ by_key key (key == under_key row.cap id) refl;
    small = λ q r at. by_id q r (q == id) refl (sym (rows_at q) ∙ at);
  }
    where
      by_id : (q : ℕ) (r : Row) (t : Bool) → (q == id) ≡ t → (if q == id then None else value_at rows q) ≡ Some r → (q < ids) × (r.cap < ids)
      by_id q r true t at = absurd (let none : None ≡ Some r = rw t at at in cc)
      by_id q r false t at = h.small q r (rw t at at)

      gone : (n : ℕ) (q : ℕ) → (q == id) ≡ true → is_under n (value_at after q) ≡ false
      gone n q t = let none : value_at after q ≡ None = rows_at q ∙ rw t refl in ap (is_under n) none

      stays : (q cap : ℕ) → (q == id) ≡ false → is_under cap (value_at after q) ≡ is_under cap (value_at rows q)
      stays q cap t = let is : value_at after q ≡ value_at rows q = rows_at q ∙ rw t refl in ap (is_under cap) is

      by_low : (key : ℕ) → (key == under_key row.cap id) ≡ false → (t : Bool) → (key % ids == id) ≡ t → is_some (value_at under key) ≡ is_under_key after key
      by_low key off true t =
          let low = yes_eq (key % ids) id t in
          h.each key ∙ (ap (λ (n : ℕ). is_under (key / ids) (value_at rows n)) low ∙ (ap (is_under (key / ids)) there ∙ (other_cap row.cap id key off low ∙ sym (gone (key / ids) (key % ids) t))))
      by_low key off false t = h.each key ∙ sym (stays (key % ids) (key / ids) t)

      by_key : (key : ℕ) (t : Bool) → (key == under_key row.cap id) ≡ t → is_some (if key == under_key row.cap id then None else value_at under key) ≡ is_under_key after key
      by_key key true t =
          let is = yes_eq key (under_key row.cap id) t in
          rw t (sym (ap (is_under_key after) is ∙ (under_at after row.cap id (h.small id row there).0 ∙ gone row.cap id (eq_yes id id refl))))
      by_key key false t = rw t (by_low key t (key % ids == id) refl)

-- The held filters under a capability

-- those are added, and these entries follow
pub record Gathering {V : Type 0} (rows : List (ℕ × Row)) (cap : ℕ) (old now : List (ℕ × Row)) (rest : List (ℕ × V)) : Type 0 where
  pub order : KeysFrom (under_key cap 0) rest
  pub among : (key : ℕ) → is_some (value_at rest key) ≡ true → is_under_key rows key ≡ true
  pub found : (id : ℕ) → value_at now id ≡ (if is_held_under cap (value_at rows id) && not (is_some (value_at rest (under_key cap id))) then value_at rows id else value_at old id)

held_under : (cap : ℕ) (o : Option Row) → is_held_under cap o ≡ true → is_under cap o ≡ true
held_under cap o h = right (is_held o) (is_under cap o) h
  where
    right : (a b : Bool) → (a && b) ≡ true → b ≡ true
    right true b e = e
    right false b e = absurd cc

pub gathering-begins : {V : Type 0} (rows : List (ℕ × Row)) (under : List (ℕ × V)) (cap start : ℕ) (old : List (ℕ × Row)) (rest : List (ℕ × V)) → AreUnder rows under → IsStrictlyIncreasing (keys_of under)
    → start ≡ under_key cap 0 → rest ≡ filter (λ e. nat_le start e.0) under → Gathering rows cap old old rest
gathering-begins {V} rows under cap start old rest h order begin is = record {
  order = subst (KeysFrom (under_key cap 0)) (sym from_key) (filtered (under_key cap 0) 0 under (rising under (sorted_from_strictly_increasing (keys_of under) order)));
  among = λ key there. sym (h.each key) ∙ in_all key (nat_le (under_key cap 0) key) refl (sym (ap is_some (at key)) ∙ there);
  found = λ id. by_test id (is_held_under cap (value_at rows id)) refl;
}
  where
    from_key : rest ≡ filter (λ (e : ℕ × V). nat_le (under_key cap 0) e.0) under
    from_key = is ∙ ap (λ (k : ℕ). filter (λ (e : ℕ × V). nat_le k e.0) under) begin

    at : (key : ℕ) → value_at rest key ≡ cond (nat_le (under_key cap 0) key) (value_at under key) None
    at key = ap (λ (es : List (ℕ × V)). value_at es key) from_key ∙ at_filtered (under_key cap 0) key under

    in_all : (key : ℕ) (b : Bool) → nat_le (under_key cap 0) key ≡ b → is_some (cond (nat_le (under_key cap 0) key) (value_at under key) None) ≡ true → is_some (value_at under key) ≡ true
    in_all key true t h = rw t at h
    in_all key false t h = absurd (let x = rw t at h in cc)

    by_test : (id : ℕ) (b : Bool) → is_held_under cap (value_at rows id) ≡ b
        → value_at old id ≡ (if is_held_under cap (value_at rows id) && not (is_some (value_at rest (under_key cap id))) then value_at rows id else value_at old id)
    by_test id true e =
        let under_it = held_under cap (value_at rows id) e in
        let row = there_under cap (value_at rows id) under_it in
        let le : nat_le (under_key cap 0) (under_key cap id) ≡ true = grind (arith, nat_tests) in
        let there : is_some (value_at rest (under_key cap id)) ≡ true =
        ap is_some (at (under_key cap id)) ∙ (ap (λ b. is_some (cond b (value_at under (under_key cap id)) None)) le ∙ (h.each (under_key cap id) ∙ (under_at rows cap id (h.small id row.0 row.1).0 ∙ under_it))) in
        rw (e, there) refl
    by_test id false e = rw e refl

module _ {V : Type 0} (rows : List (ℕ × Row)) (cap : ℕ) (old now : List (ℕ × Row)) (e : ℕ × V) (rest : List (ℕ × V)) (p : Gathering rows cap old now (e ∷ rest)) (high : e.0 / ids ≡ cap) where
  there : is_some (value_at (e ∷ rest) e.0) ≡ true
  there = ap is_some (at_head e rest)

  parts : under_key cap (e.0 % ids) ≡ e.0
  parts = ap (λ (n : ℕ). under_key n (e.0 % ids)) (sym high) ∙ key_of e.0

  is_one : is_under cap (value_at rows (e.0 % ids)) ≡ true
  is_one = ap (λ (n : ℕ). is_under n (value_at rows (e.0 % ids))) (sym high) ∙ p.among e.0 there

  one_held : is_held (value_at rows (e.0 % ids)) ≡ true → is_held_under cap (value_at rows (e.0 % ids)) ≡ true
  one_held held = rw (held, is_one) refl

  -- the next filter isn't there yet
  pub gathering-absent : LacksHeld cap rows old → is_held (value_at rows (e.0 % ids)) ≡ true → value_at now (e.0 % ids) ≡ None
  gathering-absent lacks held =
      let seen : is_some (value_at (e ∷ rest) (under_key cap (e.0 % ids))) ≡ true = ap (λ (k : ℕ). is_some (value_at (e ∷ rest) k)) parts ∙ there in
      let one = one_held held in
      p.found (e.0 % ids) ∙ (let pick : (if is_held_under cap (value_at rows (e.0 % ids)) && not (is_some (value_at (e ∷ rest) (under_key cap (e.0 % ids)))) then value_at rows (e.0 % ids) else value_at old (e.0 % ids)) ≡ value_at old (e.0 % ids) = rw (one, seen) refl in pick) ∙ lacks (e.0 % ids) one

  pub gathering-more : (after : List (ℕ × Row)) → ((q : ℕ) → value_at after q ≡ (if (q == e.0 % ids) && is_held (value_at rows (e.0 % ids)) then value_at rows (e.0 % ids) else value_at now q)) → Gathering rows cap old after rest
  gathering-more after puts = record {
    order = lower (under_key cap 0) (e.0 + 1) rest (omega (arith, p.order.0)) p.order.1;
    among = λ key h. p.among key (in_more key (nat_eq key e.0) refl h);
    found = λ id. puts id ∙ by_id id (id == e.0 % ids) refl;
  }
    where
      in_more : (key : ℕ) (b : Bool) → nat_eq key e.0 ≡ b → is_some (value_at rest key) ≡ true → is_some (value_at (e ∷ rest) key) ≡ true
      in_more key true t h = rw t refl
      in_more key false t h = rw t h

      by_held : (id : ℕ) → id ≡ e.0 % ids → (id == e.0 % ids) ≡ true → (b : Bool) → is_held (value_at rows (e.0 % ids)) ≡ b
          → (if (id == e.0 % ids) && is_held (value_at rows (e.0 % ids)) then value_at rows (e.0 % ids) else value_at now id) ≡ (if is_held_under cap (value_at rows id) && not (is_some (value_at rest (under_key cap id))) then value_at rows id else value_at old id)
      by_held id same t true held =
          let here : under_key cap id ≡ e.0 = ap (under_key cap) same ∙ parts in
          let gone : is_some (value_at rest (under_key cap id)) ≡ false = not_before (e.0 + 1) (under_key cap id) rest p.order.1 (omega arith) in
          let one : is_held_under cap (value_at rows id) ≡ true = ap (λ (n : ℕ). is_held_under cap (value_at rows n)) same ∙ one_held held in
          rw (t, held, gone, one) (ap (value_at rows) (sym same))
      by_held id same t false held =
          let none : is_held_under cap (value_at rows id) ≡ false = ap (λ (n : ℕ). is_held_under cap (value_at rows n)) same ∙ ap (λ (b : Bool). b && is_under cap (value_at rows (e.0 % ids))) held in
          let was : value_at now id ≡ value_at old id = p.found id ∙ (rw none refl) in
          rw (t, held, none) was

      by_id : (id : ℕ) (b : Bool) → (id == e.0 % ids) ≡ b
          → (if (id == e.0 % ids) && is_held (value_at rows (e.0 % ids)) then value_at rows (e.0 % ids) else value_at now id) ≡ (if is_held_under cap (value_at rows id) && not (is_some (value_at rest (under_key cap id))) then value_at rows id else value_at old id)
      by_id id true t = by_held id (yes_eq id (e.0 % ids) t) t (is_held (value_at rows (e.0 % ids))) refl
      by_id id false t =
          let other : nat_eq (under_key cap id) e.0 ≡ false = eq_no (under_key cap id) e.0 (λ same. let clash = eq_yes id (e.0 % ids) (let is = parts in omega arith) in cc) in
          let later : is_some (value_at (e ∷ rest) (under_key cap id)) ≡ is_some (value_at rest (under_key cap id)) = ap is_some (at_tail (under_key cap id) e rest other) in
          rw t (p.found id ∙ ap (λ (b : Bool). if is_held_under cap (value_at rows id) && not b then value_at rows id else value_at old id) later)

pub gathering-ends : {V : Type 0} (rows : List (ℕ × Row)) (cap : ℕ) (old now : List (ℕ × Row)) (rest : List (ℕ × V)) → Gathering rows cap old now rest
    → ((id : ℕ) → is_under cap (value_at rows id) ≡ true → is_some (value_at rest (under_key cap id)) ≡ false) → AddsHeld cap rows old now
gathering-ends {V} rows cap old now rest p none = λ id. p.found id ∙ by_held id (is_held_under cap (value_at rows id)) refl
  where
    by_held : (id : ℕ) (b : Bool) → is_held_under cap (value_at rows id) ≡ b
        → (if is_held_under cap (value_at rows id) && not (is_some (value_at rest (under_key cap id))) then value_at rows id else value_at old id) ≡ (if is_held_under cap (value_at rows id) then value_at rows id else value_at old id)
    by_held id true e = let gone = none id (held_under cap (value_at rows id) e) in rw (e, gone) refl
    by_held id false e = rw e refl

pub gathering-all : {V : Type 0} (rows : List (ℕ × Row)) (cap : ℕ) (old now : List (ℕ × Row)) (rest : List (ℕ × V)) → Gathering rows cap old now rest → rest ≡ [] → AddsHeld cap rows old now
gathering-all {V} rows cap old now rest p none = gathering-ends rows cap old now rest p (λ id h. ap (λ (es : List (ℕ × V)). is_some (value_at es (under_key cap id))) none)

-- the next entry is of another capability
pub gathering-other : {V : Type 0} (rows : List (ℕ × Row)) (under : List (ℕ × V)) (cap : ℕ) (old now : List (ℕ × Row)) (e : ℕ × V) (rest : List (ℕ × V)) → AreUnder rows under
    → Gathering rows cap old now (e ∷ rest) → (e.0 / ids ≡ cap → ⊥) → AddsHeld cap rows old now
gathering-other rows under cap old now e rest h p other =
    gathering-ends rows cap old now (e ∷ rest) p (λ id is. not_before e.0 (under_key cap id) (e ∷ rest) (omega arith, p.order.1) (before id (there_under cap (value_at rows id) is)))
  where
    between : (n : ℕ) → e.0 ≡ cap * ids + n → n < ids → ⊥
    between n is less = other (ap (λ (k : ℕ). k / ids) is ∙ div-mul-add cap ids n less)

    before : (id : ℕ) → ((row : Row) × (value_at rows id ≡ Some row) × (row.cap ≡ cap)) → under_key cap id < e.0
    before id row = by_order (nat_le e.0 (under_key cap id)) refl
      where
        by_order : (b : Bool) → nat_le e.0 (under_key cap id) ≡ b → under_key cap id < e.0
        by_order false t = grind (arith, nat_tests)
        by_order true t =
            let low = p.order.0 in
            let le : e.0 ≤ under_key cap id = grind (arith, nat_tests) in
            let fits : id < ids = (h.small id row.0 row.1).0 in
            absurd (between (e.0 - cap * ids) (omega arith) (omega arith))

-- no filter has a capability with so great an id
pub gathering-none : {V : Type 0} (rows : List (ℕ × Row)) (under : List (ℕ × V)) (cap : ℕ) (old : List (ℕ × Row)) → AreUnder rows under → ids ≤ cap → AddsHeld cap rows old old
gathering-none rows under cap old h le id = by_held (is_held_under cap (value_at rows id)) refl
  where
    by_held : (b : Bool) → is_held_under cap (value_at rows id) ≡ b → value_at old id ≡ (if is_held_under cap (value_at rows id) then value_at rows id else value_at old id)
    by_held true e = absurd (let row = there_under cap (value_at rows id) (held_under cap (value_at rows id) e) in let small = (h.small id row.0 row.1).1 in let same = row.2 in omega arith)
    by_held false e = rw e refl

-- The filters that lapse

abbrev only : (Row → Bool) → Option Row → Option Row
only p None = None
only p (Some row) = cond (p row) (Some row) None

-- the filter goes with the capabilities before these
abbrev gone_before : {V : Type 0} → List (ℕ × V) → List (ℕ × V) → Row → Bool
gone_before gone rest row = row.held && (is_some (value_at gone row.cap) && not (is_some (value_at rest row.cap)))

-- the filters under the capabilities before these were found
pub record Finding {V : Type 0} (rows : List (ℕ × Row)) (gone : List (ℕ × V)) (now : List (ℕ × Row)) (rest : List (ℕ × V)) : Type 0 where
  pub order : KeysFrom 0 rest
  pub among : (cap : ℕ) → is_some (value_at rest cap) ≡ true → is_some (value_at gone cap) ≡ true
  pub found : (id : ℕ) → value_at now id ≡ only (gone_before gone rest) (value_at rows id)

pub finding-begins : {V : Type 0} (rows : List (ℕ × Row)) (gone rest : List (ℕ × V)) (now : List (ℕ × Row)) → IsStrictlyIncreasing (keys_of gone) → rest ≡ gone → now ≡ [] → Finding rows gone now rest
finding-begins {V} rows gone rest now order is none = subst (λ (es : List (ℕ × V)). Finding rows gone now es) (sym is) (record {
  order = rising gone (sorted_from_strictly_increasing (keys_of gone) order);
  among = λ cap h. h;
  found = λ id. ap (λ (es : List (ℕ × Row)). value_at es id) none ∙ by_row (value_at rows id);
})
  where
    no_one : (a b : Bool) → (a && (b && not b)) ≡ false
    no_one true true = refl
    no_one true false = refl
    no_one false b = refl

    by_row : (o : Option Row) → None ≡ only (gone_before gone gone) o
    by_row None = refl
    by_row (Some row) = let no = no_one row.held (is_some (value_at gone row.cap)) in rw no refl

module _ {V : Type 0} (rows : List (ℕ × Row)) (gone : List (ℕ × V)) (now : List (ℕ × Row)) (e : ℕ × V) (rest : List (ℕ × V)) (p : Finding rows gone now (e ∷ rest)) where
  pub finding-lacks : LacksHeld e.0 rows now
  finding-lacks id held = p.found id ∙ by_row (value_at rows id) held
    where
      not_yet : (a b : Bool) → (a && (b && false)) ≡ false
      not_yet true true = refl
      not_yet true false = refl
      not_yet false b = refl

      by_row : (o : Option Row) → is_held_under e.0 o ≡ true → only (gone_before gone (e ∷ rest)) o ≡ None
      by_row None h = refl
      by_row (Some row) h =
          let same = yes_eq row.cap e.0 (held_under e.0 (Some row) h) in
          let there : is_some (value_at (e ∷ rest) row.cap) ≡ true = ap (λ (n : ℕ). is_some (value_at (e ∷ rest) n)) same ∙ ap is_some (at_head e rest) in
          let no = not_yet row.held (is_some (value_at gone row.cap)) in
          rw (there, no) refl

  pub finding-more : (after : List (ℕ × Row)) → AddsHeld e.0 rows now after → Finding rows gone after rest
  finding-more after adds = record {
    order = lower 0 (e.0 + 1) rest (omega arith) p.order.1;
    among = λ cap h. p.among cap (in_more cap (nat_eq cap e.0) refl h);
    found = λ id. adds id ∙ by_row id (value_at rows id) (p.found id);
  }
    where
      in_more : (key : ℕ) (b : Bool) → nat_eq key e.0 ≡ b → is_some (value_at rest key) ≡ true → is_some (value_at (e ∷ rest) key) ≡ true
      in_more key true t h = rw t refl
      in_more key false t h = rw t h

      by_cap : (id : ℕ) (row : Row) (h : Bool) → row.held ≡ h → (b : Bool) → (row.cap == e.0) ≡ b → value_at now id ≡ only (gone_before gone (e ∷ rest)) (Some row)
          → (if is_held_under e.0 (Some row) then Some row else value_at now id) ≡ only (gone_before gone rest) (Some row)
      by_cap id row true s true t was =
          let same = yes_eq row.cap e.0 t in
          let here : is_some (value_at gone row.cap) ≡ true = ap (λ (n : ℕ). is_some (value_at gone n)) same ∙ p.among e.0 (ap is_some (at_head e rest)) in
          let passed : is_some (value_at rest row.cap) ≡ false = ap (λ (n : ℕ). is_some (value_at rest n)) same ∙ not_before (e.0 + 1) e.0 rest p.order.1 (omega arith) in
          rw (s, t, here, passed) refl
      by_cap id row true s false t was =
          let later : is_some (value_at (e ∷ rest) row.cap) ≡ is_some (value_at rest row.cap) = ap is_some (at_tail row.cap e rest t) in
          rw (s, t) (was ∙ rw (s, later) refl)
      by_cap id row false s b t was = rw s (was ∙ rw s refl)

      by_row : (id : ℕ) (o : Option Row) → value_at now id ≡ only (gone_before gone (e ∷ rest)) o → (if is_held_under e.0 o then o else value_at now id) ≡ only (gone_before gone rest) o
      by_row id None was = was
      by_row id (Some row) was = by_cap id row row.held refl (row.cap == e.0) refl was

at_kept : (p : Row → Bool) (low key : ℕ) (rows : List (ℕ × Row)) → KeysFrom low rows → value_at (filter (λ e. p e.1) rows) key ≡ only p (value_at rows key)
at_kept p low key [] h = refl
at_kept p low key (e ∷ rows) h = by_tests (p e.1) refl (key == e.0) refl (at_kept p (e.0 + 1) key rows h.1)
  where
    kept : List (ℕ × Row)
    kept = filter (λ (x : ℕ × Row). p x.1) rows

    by_tests : (a : Bool) → p e.1 ≡ a → (b : Bool) → (key == e.0) ≡ b → value_at (filter (λ x. p x.1) rows) key ≡ only p (value_at rows key) → value_at (filter (λ x. p x.1) (e ∷ rows)) key ≡ only p (value_at (e ∷ rows) key)
    by_tests true s true t rest = rw (s, t) (rw s refl)
    by_tests true s false t rest = rw (s, t) rest
    by_tests false s true t rest =
        let same = yes_eq key e.0 t in
        let none : value_at rows key ≡ None = no_value (value_at rows key) (not_before (e.0 + 1) key rows h.1 (omega arith)) in
        rw (s, t) (rest ∙ (ap (only p) none ∙ rw s refl))
    by_tests false s false t rest = rw (s, t) rest

pub finding-ends : {V : Type 0} (rows : List (ℕ × Row)) (gone : List (ℕ × V)) (now : List (ℕ × Row)) (rest : List (ℕ × V)) → IsStrictlyIncreasing (keys_of rows) → IsStrictlyIncreasing (keys_of now) → Finding rows gone now rest → rest ≡ []
    → now ≡ filter (λ e. lapses gone e.1) rows
finding-ends {V} rows gone now rest order now_order p none =
    alike 0 0 now (filter (λ e. lapses gone e.1) rows) (rising now (sorted_from_strictly_increasing (keys_of now) now_order)) (kept_from (λ e. lapses gone e.1) 0 rows ordered)
    (λ id. p.found id ∙ (by_row (value_at rows id) ∙ sym (at_kept (lapses gone) 0 id rows ordered)))
  where
    ordered : KeysFrom 0 rows
    ordered = rising rows (sorted_from_strictly_increasing (keys_of rows) order)

    all : (b : Bool) → (b && true) ≡ b
    all true = refl
    all false = refl

    by_row : (o : Option Row) → only (gone_before gone rest) o ≡ only (lapses gone) o
    by_row None = refl
    by_row (Some row) =
        let passed : is_some (value_at rest row.cap) ≡ false = ap (λ (es : List (ℕ × V)). is_some (value_at es row.cap)) none in
        let same : gone_before gone rest row ≡ lapses gone row = ap (λ (b : Bool). row.held && (is_some (value_at gone row.cap) && not b)) passed ∙ ap (λ (b : Bool). row.held && b) (all (is_some (value_at gone row.cap))) in
        ap (λ (b : Bool). cond b (Some row) None) same
