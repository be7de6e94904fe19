-- Entries in the order of their keys.
use Rattle.std.proofs.Common.{◌≡◌, ◌≢◌, ◌+◌, ◌<◌, ◌≤◌, ◌++◌, ℕ, zero, suc, List, [], ◌∷◌, Bool, true, false, cond, find, nat_eq, nat_le, ◌==◌, length, get_or, slice_get, slice_set, take, drop, filter, Option, Some, None, refl, sym, ap, ◌∙◌, subst, arith, ltb}
use Rattle.std.specs.List.{AllWithin, insert, remove}
use Rattle.std.specs.List.Sorted.{IsNonDecreasingBy, IsStrictlyIncreasing}
use Rattle.std.specs.Iterator.{YieldsFirstBy}
use Rattle.std.specs.Option.{option_map}
use Rattle.std.specs.Map.{keys_of, remove_entry, set_value}
use Rattle.std.specs.BTreeMap.{insert_entry}
use Rattle.std.specs.Ordering.{nat_cmp, match_ordering}
use Rattle.std.specs.declared.cmp.Ordering.TheVariants.{Less, Equal, Greater}
use Rattle.std.proofs.lemmas.Bool.{ltb-true, ltb-false, lt-ltb, le-ltb, le-leb, lt-leb, eq-eqb, ne_eqb}
use Rattle.std.proofs.lemmas.List.{take-append-le, drop-append-le, length-append}
use Rattle.std.proofs.lemmas.Map.Entries.{lookup_head, lookup_tail}
use Rattle.chunked.specs.Chunks.{whole, before, chunk_at}
use Rattle.chunked.specs.Entries.{AreBelow, AreFrom, AreRising, IsCut, first_key}
use Rattle.chunked.specs.Maps.{value_at}
use Rattle.chunked.proofs.Whole.{get_in, drop_second}

-- how two keys compare
cmp_less : (a b : ℕ) → a < b → nat_cmp a b ≡ Less
cmp_less a b less = ap (λ t. cond t Less (cond (a == b) Equal Greater)) (lt-ltb a b less)

pub cmp_greater : (a b : ℕ) → b < a → nat_cmp a b ≡ Greater
cmp_greater a b less = ap (λ t. cond t Less (cond (a == b) Equal Greater)) (le-ltb a b (omega arith)) ∙ ap (λ t. cond t Equal Greater) (ne_eqb a b (λ same. absurd (omega arith)))

module _ {V : Type 0} where
  below_both : (key : ℕ) (xs ys : List (ℕ × V)) → AreBelow key xs → AreBelow key ys → AreBelow key (xs ++ ys)
  below_both key [] ys below later = later
  below_both key (x ∷ xs) ys below later = (below.0, below_both key xs ys below.1 later)

  from_both : (key : ℕ) (xs ys : List (ℕ × V)) → AreFrom key xs → AreFrom key ys → AreFrom key (xs ++ ys)
  from_both key [] ys from later = later
  from_both key (x ∷ xs) ys from later = (from.0, from_both key xs ys from.1 later)

  pub from_second : (key : ℕ) (xs ys : List (ℕ × V)) → AreFrom key (xs ++ ys) → AreFrom key ys
  from_second key [] ys from = from
  from_second key (x ∷ xs) ys from = from_second key xs ys from.1

  from_first : (key : ℕ) (xs ys : List (ℕ × V)) → AreFrom key (xs ++ ys) → AreFrom key xs
  from_first key [] ys from = tt
  from_first key (x ∷ xs) ys from = (from.0, from_first key xs ys from.1)

  from_less : (key low : ℕ) (xs : List (ℕ × V)) → low ≤ key → AreFrom key xs → AreFrom low xs
  from_less key low [] less from = tt
  from_less key low (x ∷ xs) less from = (omega (arith, from.0), from_less key low xs less from.1)

  from_get : (key : ℕ) (xs : List (ℕ × V)) (n : ℕ) (e : ℕ × V) → AreFrom key xs → slice_get xs n ≡ Some e → key ≤ e.0
  from_get key [] n e from at = absurd (grind arith)
  from_get key (x ∷ xs) zero e from at =
      let same : x ≡ e = cc in
      subst (λ y. key ≤ y.0) same from.0
  from_get key (x ∷ xs) (suc n) e from at = from_get key xs n e from.1 at

  rising_first : (xs ys : List (ℕ × V)) → AreRising (xs ++ ys) → AreRising xs
  rising_first [] ys rising = tt
  rising_first (x ∷ xs) ys rising = (from_first (x.0 + 1) xs ys rising.0, rising_first xs ys rising.1)

  rising_second : (xs ys : List (ℕ × V)) → AreRising (xs ++ ys) → AreRising ys
  rising_second [] ys rising = rising
  rising_second (x ∷ xs) ys rising = rising_second xs ys rising.1

  -- what comes before a key is below it
  rising_before : (key : ℕ) (xs ys : List (ℕ × V)) (n : ℕ) (e : ℕ × V) → AreRising (xs ++ ys) → slice_get ys n ≡ Some e → e.0 ≤ key → AreBelow key xs
  rising_before key [] ys n e rising at low = tt
  rising_before key (x ∷ xs) ys n e rising at low =
      (omega (arith, from_get (x.0 + 1) ys n e (from_second (x.0 + 1) xs ys rising.0) at), rising_before key xs ys n e rising.1 at low)

  -- what comes after a key is above it
  rising_after : (key : ℕ) (e : ℕ × V) (es : List (ℕ × V)) → AreRising (e ∷ es) → key ≤ e.0 → AreFrom key (e ∷ es)
  rising_after key e es rising low = (low, from_less (e.0 + 1) key es (omega arith) rising.0)

  pub rising_chunk : (cs : List (List (ℕ × V))) (i : ℕ) → AreRising (whole cs) → i < length cs → AreRising (chunk_at cs i)
  rising_chunk [] i rising inside = absurd (omega arith)
  rising_chunk (c ∷ cs) zero rising inside = rising_first c (whole cs) rising
  rising_chunk (c ∷ cs) (suc i) rising inside = rising_chunk cs i (rising_second c (whole cs) rising) (omega arith)

  pub rising-keys : (xs : List (ℕ × V)) → AreRising xs → IsNonDecreasingBy (λ e. e.0) xs
  rising-keys [] rising i j d below inside = absurd (omega arith)
  rising-keys (x ∷ xs) rising zero zero d below inside = omega arith
  rising-keys (x ∷ xs) rising zero (suc j) d below inside = omega (arith, get_from (x.0 + 1) xs j d rising.0 (omega arith))
    where
      get_from : (key : ℕ) (ys : List (ℕ × V)) (k : ℕ) (z : ℕ × V) → AreFrom key ys → k < length ys → key ≤ (get_or ys k z).0
      get_from key [] k z from inside = absurd (omega arith)
      get_from key (y ∷ ys) zero z from inside = from.0
      get_from key (y ∷ ys) (suc k) z from inside = get_from key ys k z from.1 (omega arith)
  rising-keys (x ∷ xs) rising (suc i) zero d below inside = absurd (omega arith)
  rising-keys (x ∷ xs) rising (suc i) (suc j) d below inside = rising-keys xs rising.1 i j d (omega arith) (omega arith)

  pub increasing : (es : List (ℕ × V)) → AreRising es → IsStrictlyIncreasing (keys_of es)
  increasing [] rising k inside = absurd (omega arith)
  increasing (e ∷ []) rising k inside = absurd (omega arith)
  increasing (e ∷ f ∷ es) rising zero inside = omega (arith, rising.0.0)
  increasing (e ∷ f ∷ es) rising (suc k) inside = let next : suc (k + 1) ≡ suc k + 1 = omega arith in
      subst (λ n. get_or (keys_of (f ∷ es)) k 0 < get_or (keys_of (e ∷ f ∷ es)) n 0) next (increasing (f ∷ es) rising.1 k (omega arith))

  -- the parts of a chunk that a search tells apart
  pub below_point : (key : ℕ) (xs : List (ℕ × V)) (off : ℕ) → AllWithin (λ y. ltb y.0 key ≡ true) xs 0 off → AreBelow key (take off xs)
  below_point key [] zero all = tt
  below_point key [] (suc off) all = tt
  below_point key (x ∷ xs) zero all = tt
  below_point key (x ∷ xs) (suc off) all =
      (ltb-true x.0 key (all 0 x (omega arith) (omega arith)), below_point key xs off (λ k d low high. all (suc k) d (omega arith) (omega arith)))

  pub from_point : (key : ℕ) (xs : List (ℕ × V)) (off : ℕ) → AllWithin (λ y. ltb y.0 key ≡ false) xs off (length xs) → AreFrom key (drop off xs)
  from_point key [] zero all = tt
  from_point key [] (suc off) all = tt
  from_point key (x ∷ xs) zero all =
      (ltb-false x.0 key (all 0 x (omega arith) (omega arith)), from_point key xs zero (λ k d low high. all (suc k) d (omega arith) (omega arith)))
  from_point key (x ∷ xs) (suc off) all = from_point key xs off (λ k d low high. all (suc k) d (omega arith) (omega arith))

  -- chunks from the next on, whose first key is above one
  later_from : (key : ℕ) (xs : List (ℕ × V)) (cs : List (List (ℕ × V))) → AreRising (xs ++ whole cs) → (0 < length cs → key < first_key (chunk_at cs 0)) → AreFrom key (whole cs)
  later_from key xs [] rising next = tt
  later_from key xs ([] ∷ cs) rising next = absurd (omega (arith, next (omega arith)))
  later_from key xs ((e ∷ es) ∷ cs) rising next = rising_after key e (es ++ whole cs) (rising_second xs (e ∷ es ++ whole cs) rising) (omega (arith, next (omega arith)))

  take_second : (xs ys : List (ℕ × V)) (n : ℕ) → take (length xs + n) (xs ++ ys) ≡ xs ++ take n ys
  take_second [] ys n = ap (λ m. take m ys) (let same : 0 + n ≡ n = omega arith in same)
  take_second (x ∷ xs) ys n = ap (λ m. take m (x ∷ xs ++ ys)) (let same : suc (length xs) + n ≡ suc (length xs + n) = omega arith in same) ∙ ap (λ rest. x ∷ rest) (take_second xs ys n)

  first_of : (c : List (ℕ × V)) → 0 < length c → (e : ℕ × V) × (slice_get c 0 ≡ Some e) × (first_key c ≡ e.0)
  first_of [] some = absurd (omega arith)
  first_of (e ∷ es) some = (e, refl, refl)

  -- the place of a key in its chunk is its place in the list
  pub cut_at : (cs : List (List (ℕ × V))) (i off key : ℕ) → i < length cs → AreRising (whole cs) → (0 < i → first_key (chunk_at cs i) ≤ key) → 0 < length (chunk_at cs i)
      → (suc i < length cs → key < first_key (chunk_at cs (suc i))) → off ≤ length (chunk_at cs i) → AreBelow key (take off (chunk_at cs i)) → AreFrom key (drop off (chunk_at cs i))
      → IsCut key (whole cs) (before cs i + off)
  cut_at [] i off key inside rising first some next within below from = absurd (omega arith)
  cut_at (c ∷ cs) zero off key inside rising first some next within below from =
      let none : off ≡ 0 + off = omega arith in
      subst (λ n. IsCut key (c ++ whole cs) n) none record {
        below = subst (λ xs. AreBelow key xs) (sym (take-append-le off c (whole cs) within)) below;
        from = subst (λ xs. AreFrom key xs) (sym (drop-append-le off c (whole cs) within))
            (from_both key (drop off c) (whole cs) from (later_from key c cs rising (λ more. next (omega arith))));
      }
  cut_at (c ∷ cs) (suc i) off key inside rising first some next within below from =
      let deeper = cut_at cs i off key (omega arith) (rising_second c (whole cs) rising) (λ more. first (omega arith)) some (λ more. next (omega arith)) within below from in
      let head = first_of (chunk_at cs i) some in
      let at = get_in cs i 0 head.0 (omega arith) head.1 in
      let place : before (c ∷ cs) (suc i) + off ≡ length c + (before cs i + off) = omega (arith, length-append c (whole (take i cs))) in
      subst (λ n. IsCut key (c ++ whole cs) n) (sym place) record {
        below = subst (λ xs. AreBelow key xs) (sym (take_second c (whole cs) (before cs i + off)))
            (below_both key c (take (before cs i + off) (whole cs)) (rising_before key c (whole cs) (before cs i + 0) head.0 rising at (omega (arith, first (omega arith), head.2))) deeper.below);
        from = subst (λ xs. AreFrom key xs) (sym (drop_second c (whole cs) (before cs i + off) (length c + (before cs i + off)) refl)) deeper.from;
      }

  -- what stands at the place of a key
  pub found_value : (es : List (ℕ × V)) (place key : ℕ) (e : ℕ × V) → IsCut key es place → slice_get es place ≡ Some e → e.0 ≡ key → value_at es key ≡ Some e.1
  found_value [] place key e cut at is = absurd (grind arith)
  found_value (x ∷ es) zero key e cut at is =
      let same : x ≡ e = cc in
      lookup_head (nat_eq key) x es (eq-eqb key x.0 (sym is ∙ ap (λ y. y.0) (sym same))) ∙ ap (λ y. Some y.1) same
  found_value (x ∷ es) (suc place) key e cut at is =
      lookup_tail (nat_eq key) x es (ne_eqb key x.0 (λ same. absurd (omega (arith, cut.below.0)))) ∙ found_value es place key e (record { below = cut.below.1; from = cut.from }) at is

  pub none_from : (es : List (ℕ × V)) (key : ℕ) → AreFrom (key + 1) es → value_at es key ≡ None
  none_from [] key from = refl
  none_from (x ∷ es) key from = lookup_tail (nat_eq key) x es (ne_eqb key x.0 (λ same. absurd (omega (arith, from.0)))) ∙ none_from es key from.1

  pub absent_value : (es : List (ℕ × V)) (place key : ℕ) → AreRising es → IsCut key es place → ((e : ℕ × V) → slice_get es place ≡ Some e → e.0 ≢ key) → value_at es key ≡ None
  absent_value [] place key rising cut other = refl
  absent_value (x ∷ es) zero key rising cut other =
      none_from (x ∷ es) key (rising_after (key + 1) x es rising (omega (arith, cut.from.0, other x refl)))
  absent_value (x ∷ es) (suc place) key rising cut other =
      lookup_tail (nat_eq key) x es (ne_eqb key x.0 (λ same. absurd (omega (arith, cut.below.0)))) ∙ absent_value es place key rising.1 (record { below = cut.below.1; from = cut.from }) other

  later_above : (key : ℕ) (xs : List (ℕ × V)) (cs : List (List (ℕ × V))) → AreRising (xs ++ whole cs) → (0 < length cs → key < first_key (chunk_at cs 0)) → AreFrom (key + 1) (whole cs)
  later_above key xs [] rising next = tt
  later_above key xs ([] ∷ cs) rising next = absurd (omega (arith, next (omega arith)))
  later_above key xs ((e ∷ es) ∷ cs) rising next = rising_after (key + 1) e (es ++ whole cs) (rising_second xs (e ∷ es ++ whole cs) rising) (omega (arith, next (omega arith)))

  below_value : (xs ys : List (ℕ × V)) (key : ℕ) → AreBelow key xs → value_at (xs ++ ys) key ≡ value_at ys key
  below_value [] ys key below = refl
  below_value (x ∷ xs) ys key below = lookup_tail (nat_eq key) x (xs ++ ys) (ne_eqb key x.0 (λ same. absurd (omega (arith, below.0)))) ∙ below_value xs ys key below.1

  -- a key that is above all of its chunk isn't there
  pub past_value : (cs : List (List (ℕ × V))) (i key : ℕ) → i < length cs → AreRising (whole cs) → (0 < i → first_key (chunk_at cs i) ≤ key) → 0 < length (chunk_at cs i)
      → (suc i < length cs → key < first_key (chunk_at cs (suc i))) → AreBelow key (chunk_at cs i) → value_at (whole cs) key ≡ None
  past_value [] i key inside rising first some next below = absurd (omega arith)
  past_value (c ∷ cs) zero key inside rising first some next below =
      below_value c (whole cs) key below ∙ none_from (whole cs) key (later_above key c cs rising (λ more. next (omega arith)))
  past_value (c ∷ cs) (suc i) key inside rising first some next below =
      let head = first_of (chunk_at cs i) some in
      let at = get_in cs i 0 head.0 (omega arith) head.1 in
      below_value c (whole cs) key (rising_before key c (whole cs) (before cs i + 0) head.0 rising at (omega (arith, first (omega arith), head.2)))
      ∙ past_value cs i key (omega arith) (rising_second c (whole cs) rising) (λ more. first (omega arith)) some (λ more. next (omega arith)) below

  pub found_remove : (es : List (ℕ × V)) (place key : ℕ) (e : ℕ × V) → IsCut key es place → slice_get es place ≡ Some e → e.0 ≡ key → remove es place ≡ remove_entry (nat_eq key) es
  found_remove [] place key e cut at is = absurd (grind arith)
  found_remove (x ∷ es) zero key e cut at is =
      let same : x ≡ e = cc in
      ap (λ t. cond t es (x ∷ remove_entry (nat_eq key) es)) (sym (eq-eqb key x.0 (sym is ∙ ap (λ y. y.0) (sym same))))
  found_remove (x ∷ es) (suc place) key e cut at is =
      ap (λ rest. x ∷ rest) (found_remove es place key e (record { below = cut.below.1; from = cut.from }) at is)
      ∙ ap (λ t. cond t es (x ∷ remove_entry (nat_eq key) es)) (sym (ne_eqb key x.0 (λ same. absurd (omega (arith, cut.below.0)))))

  pub found-set : (es : List (ℕ × V)) (place key : ℕ) (value : V) (e : ℕ × V) → IsCut key es place → slice_get es place ≡ Some e → e.0 ≡ key → slice_set es place (key, value) ≡ set_value (nat_eq key) es value
  found-set [] place key value e cut at is = absurd (grind arith)
  found-set (x ∷ es) zero key value e cut at is =
      let same : x ≡ e = cc in
      let keys : x.0 ≡ key = ap (λ y. y.0) same ∙ is in
      ap (λ k. (k, value) ∷ es) (sym keys) ∙ ap (λ t. cond t ((x.0, value) ∷ es) (x ∷ set_value (nat_eq key) es value)) (sym (eq-eqb key x.0 (sym keys)))
  found-set (x ∷ es) (suc place) key value e cut at is =
      ap (λ rest. x ∷ rest) (found-set es place key value e (record { below = cut.below.1; from = cut.from }) at is)
      ∙ ap (λ t. cond t ((x.0, value) ∷ es) (x ∷ set_value (nat_eq key) es value)) (sym (ne_eqb key x.0 (λ same. absurd (omega (arith, cut.below.0)))))

  -- a key that is absent isn't the first
  other_key : (key : ℕ) (x : ℕ × V) (es : List (ℕ × V)) → value_at (x ∷ es) key ≡ None → key ≡ x.0 → ⊥
  other_key key x es absent same = let head = lookup_head (nat_eq key) x es (eq-eqb key x.0 same) in cc

  pub absent_insert : (es : List (ℕ × V)) (place key : ℕ) (value : V) → AreRising es → place ≤ length es → IsCut key es place → value_at es key ≡ None → insert es place (key, value) ≡ insert_entry nat_cmp es key value
  absent_insert [] zero key value rising within cut absent = refl
  absent_insert [] (suc place) key value rising within cut absent = absurd (omega arith)
  absent_insert (x ∷ es) zero key value rising within cut absent =
      let other : key < x.0 = omega (arith, cut.from.0, other_key key x es absent) in
      ap (λ r. match_ordering r ((key, value) ∷ x ∷ es) ((x.0, value) ∷ es) (x ∷ insert_entry nat_cmp es key value)) (sym (cmp_less key x.0 other))
  absent_insert (x ∷ es) (suc place) key value rising within cut absent =
      let tail = lookup_tail (nat_eq key) x es (ne_eqb key x.0 (λ same. absurd (omega (arith, cut.below.0)))) in
      ap (λ rest. x ∷ rest) (absent_insert es place key value rising.1 (omega arith) (record { below = cut.below.1; from = cut.from }) (sym tail ∙ absent))
      ∙ ap (λ r. match_ordering r ((key, value) ∷ x ∷ es) ((x.0, value) ∷ es) (x ∷ insert_entry nat_cmp es key value)) (sym (cmp_greater key x.0 cut.below.0))

  all_from : (key : ℕ) (es : List (ℕ × V)) → AreFrom key es → es ≡ filter (λ e. nat_le key e.0) es
  all_from key [] from = refl
  all_from key (x ∷ es) from = ap (λ rest. x ∷ rest) (all_from key es from.1) ∙ ap (λ t. cond t (x ∷ filter (λ e. nat_le key e.0) es) (filter (λ e. nat_le key e.0) es)) (sym (le-leb key x.0 from.0))

  pub cut_filter : (es : List (ℕ × V)) (place key : ℕ) → IsCut key es place → drop place es ≡ filter (λ e. nat_le key e.0) es
  cut_filter [] zero key cut = refl
  cut_filter [] (suc place) key cut = refl
  cut_filter (x ∷ es) zero key cut = all_from key (x ∷ es) cut.from
  cut_filter (x ∷ es) (suc place) key cut =
      cut_filter es place key (record { below = cut.below.1; from = cut.from })
      ∙ ap (λ t. cond t (x ∷ filter (λ e. nat_le key e.0) es) (filter (λ e. nat_le key e.0) es)) (sym (lt-leb key x.0 cut.below.0))

  -- the keys still rise
  pub rising-remove : (es : List (ℕ × V)) (place : ℕ) → AreRising es → AreRising (remove es place)
  rising-remove [] zero rising = tt
  rising-remove [] (suc place) rising = tt
  rising-remove (x ∷ es) zero rising = rising.1
  rising-remove (x ∷ es) (suc place) rising = (from-remove (x.0 + 1) es place rising.0, rising-remove es place rising.1)
    where
      from-remove : (key : ℕ) (xs : List (ℕ × V)) (n : ℕ) → AreFrom key xs → AreFrom key (remove xs n)
      from-remove key [] zero from = tt
      from-remove key [] (suc n) from = tt
      from-remove key (y ∷ xs) zero from = from.1
      from-remove key (y ∷ xs) (suc n) from = (from.0, from-remove key xs n from.1)

  from-insert : (low : ℕ) (xs : List (ℕ × V)) (n : ℕ) (e : ℕ × V) → AreFrom low xs → low ≤ e.0 → AreFrom low (insert xs n e)
  from-insert low [] zero e from here = (here, tt)
  from-insert low [] (suc n) e from here = (here, tt)
  from-insert low (y ∷ xs) zero e from here = (here, from)
  from-insert low (y ∷ xs) (suc n) e from here = (from.0, from-insert low xs n e from.1 here)

  pub rising-insert : (es : List (ℕ × V)) (place key : ℕ) (value : V) → AreRising es → IsCut key es place → value_at es key ≡ None → AreRising (insert es place (key, value))
  rising-insert [] zero key value rising cut absent = (tt, tt)
  rising-insert [] (suc place) key value rising cut absent = (tt, tt)
  rising-insert (x ∷ es) zero key value rising cut absent =
      let other : key < x.0 = omega (arith, cut.from.0, other_key key x es absent) in
      (rising_after (key + 1) x es rising (omega arith), rising)
  rising-insert (x ∷ es) (suc place) key value rising cut absent =
      let tail = lookup_tail (nat_eq key) x es (ne_eqb key x.0 (λ same. absurd (omega (arith, cut.below.0)))) in
      (from-insert (x.0 + 1) es place (key, value) rising.0 (omega (arith, cut.below.0)), rising-insert es place key value rising.1 (record { below = cut.below.1; from = cut.from }) (sym tail ∙ absent))

  from-set : (low : ℕ) (xs : List (ℕ × V)) (n : ℕ) (key : ℕ) (value : V) (e : ℕ × V) → AreFrom low xs → slice_get xs n ≡ Some e → e.0 ≡ key → AreFrom low (slice_set xs n (key, value))
  from-set low [] n key value e from at is = tt
  from-set low (y ∷ xs) zero key value e from at is =
      let same : y ≡ e = cc in
      (subst (λ k. low ≤ k) (ap (λ z. z.0) same ∙ is) from.0, from.1)
  from-set low (y ∷ xs) (suc n) key value e from at is = (from.0, from-set low xs n key value e from.1 at is)

  pub rising-set : (es : List (ℕ × V)) (place key : ℕ) (value : V) (e : ℕ × V) → AreRising es → slice_get es place ≡ Some e → e.0 ≡ key → AreRising (slice_set es place (key, value))
  rising-set [] place key value e rising at is = tt
  rising-set (x ∷ es) zero key value e rising at is =
      let same : x ≡ e = cc in
      (subst (λ k. AreFrom (k + 1) es) (ap (λ z. z.0) same ∙ is) rising.0, rising.1)
  rising-set (x ∷ es) (suc place) key value e rising at is = (from-set (x.0 + 1) es place key value e rising.0 at is, rising-set es place key value e rising.1 at is)

  -- nothing is taken out where the key is absent
  pub absent_remove : (es : List (ℕ × V)) (key : ℕ) → value_at es key ≡ None → es ≡ remove_entry (nat_eq key) es
  absent_remove [] key absent = refl
  absent_remove (x ∷ es) key absent = by_test (absent_remove es key) (nat_eq key x.0) refl
    where
      by_test : (value_at es key ≡ None → es ≡ remove_entry (nat_eq key) es) → (b : Bool) → b ≡ nat_eq key x.0 → x ∷ es ≡ remove_entry (nat_eq key) (x ∷ es)
      by_test rest true is = let head = lookup_head (nat_eq key) x es (sym is) in cc
      by_test rest false is =
          ap (λ left. x ∷ left) (rest (sym (lookup_tail (nat_eq key) x es (sym is)) ∙ absent))
          ∙ ap (λ t. cond t es (x ∷ remove_entry (nat_eq key) es)) is

-- the first item that passes a test
pub find-filter : {X : Type 0} (p : X → Bool) (xs : List X) → find p xs ≡ slice_get (filter p xs) 0
find-filter p [] = refl
find-filter p (x ∷ xs) = by_test (find-filter p xs) (p x) refl
  where
    by_test : find p xs ≡ slice_get (filter p xs) 0 → (b : Bool) → b ≡ p x → find p (x ∷ xs) ≡ slice_get (filter p (x ∷ xs)) 0
    by_test rest true is = ap (λ t. cond t (Some x) (find p xs)) (sym is) ∙ ap (λ t. slice_get (cond t (x ∷ filter p xs) (filter p xs)) 0) is
    by_test rest false is = ap (λ t. cond t (Some x) (find p xs)) (sym is) ∙ rest ∙ ap (λ t. slice_get (cond t (x ∷ filter p xs) (filter p xs)) 0) is

-- what an iterator gives is the first of what it had left
pub yields_first : {A B : Type 0} (view : A → B) (r : Option A) (s t : List B) → YieldsFirstBy view (λ rest. rest) s r t → option_map view r ≡ slice_get s 0
yields_first view None s t gives = sym (ap (λ xs. slice_get xs 0) gives.0)
yields_first view (Some x) s t gives = sym (ap (λ xs. slice_get xs 0) gives)
