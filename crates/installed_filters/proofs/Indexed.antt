-- The endpoints of all numbers in one list, as they come and go.
use Rattle.std.proofs.Common.{◌≡◌, ◌<◌, ◌+◌, ◌-◌, ◌/◌, ◌%◌, ◌==◌, ◌&&◌, ℕ, zero, suc, Bool, true, false, cond, Option, Some, None, is_some, List, [], ◌∷◌, ◌++◌, length, refl, ap, sym, ◌∙◌, subst, arith}
use Rattle.std.specs.Prelude.{if◌then◌else◌}
use Rattle.std.proofs.lemmas.Bool.Decides.{Decides-eqb}
use Rattle.std.proofs.lemmas.Nat.{div-mul-add, mod-mul-add, div-add-mod'}
use Rattle.chunked.specs.Maps.{SortedMap, value_at}
use Rattle.installed_filters.specs.Counts.{counted, number_of, no_counts, ends_at, reach_at, numbers, reach_key, is_reach_key, AreIndexed, AreSmall}

-- Keys

pub eq_yes : (a b : ℕ) → a ≡ b → (a == b) ≡ true
eq_yes a b same = (Decides-eqb a b).1 same

pub yes_eq : (a b : ℕ) → (a == b) ≡ true → a ≡ b
yes_eq a b e = (Decides-eqb a b).0 e

pub eq_no : (a b : ℕ) → (a ≡ b → ⊥) → (a == b) ≡ false
eq_no a b other = by_test (a == b) refl
  where
    by_test : (t : Bool) → (a == b) ≡ t → (a == b) ≡ false
    by_test true e = absurd (other (yes_eq a b e))
    by_test false e = e

pub key_endpoint : (endpoint number : ℕ) → number < numbers → reach_key endpoint number / numbers ≡ endpoint
key_endpoint endpoint number lt = div-mul-add endpoint numbers number lt

pub key_number : (endpoint number : ℕ) → number < numbers → reach_key endpoint number % numbers ≡ number
key_number endpoint number lt = mod-mul-add endpoint numbers number lt

pub key_of : (key : ℕ) → reach_key (key / numbers) (key % numbers) ≡ key
key_of key = div-add-mod' key numbers

-- a key is one of two numbers where they are its parts
pub key_parts : (endpoint number key : ℕ) → number < numbers → (key == reach_key endpoint number) ≡ ((key % numbers == number) && (key / numbers == endpoint))
key_parts endpoint number key lt = by_tests (key % numbers == number) refl (key / numbers == endpoint) refl
  where
    by_tests : (a : Bool) → (key % numbers == number) ≡ a → (b : Bool) → (key / numbers == endpoint) ≡ b → (key == reach_key endpoint number) ≡ ((key % numbers == number) && (key / numbers == endpoint))
    by_tests true s true t =
        let n = yes_eq (key % numbers) number s in
        let e = yes_eq (key / numbers) endpoint t in
        eq_yes key (reach_key endpoint number) (sym (key_of key) ∙ (ap (λ (m : ℕ). reach_key (key / numbers) m) n ∙ ap (λ (m : ℕ). reach_key m number) e)) ∙ sym (ap (λ (u : Bool). u && (key / numbers == endpoint)) s ∙ t)
    by_tests false s b t =
        eq_no key (reach_key endpoint number) (λ same. let n = eq_yes (key % numbers) number (ap (λ (k : ℕ). k % numbers) same ∙ key_number endpoint number lt) in cc) ∙ sym (ap (λ (u : Bool). u && (key / numbers == endpoint)) s)
    by_tests true s false t =
        eq_no key (reach_key endpoint number) (λ same. let e = eq_yes (key / numbers) endpoint (ap (λ (k : ℕ). k / numbers) same ∙ key_endpoint endpoint number lt) in cc) ∙ sym (ap (λ (u : Bool). u && (key / numbers == endpoint)) s ∙ t)

-- One endpoint of one number comes, stays or goes

pub some_if : (c : Bool) (a b : Option ℕ) → is_some (cond c a b) ≡ cond c (is_some a) (is_some b)
some_if true a b = refl
some_if false a b = refl

at_grown : (ends : List (SortedMap ℕ)) (m : ℕ) → ends_at (ends ++ no_counts ∷ []) m ≡ ends_at ends m
at_grown [] zero = refl
at_grown [] (suc m) = refl
at_grown (e ∷ ends) zero = refl
at_grown (e ∷ ends) (suc m) = at_grown ends m

length_grown : (ends : List (SortedMap ℕ)) → length (ends ++ no_counts ∷ []) ≡ length ends + 1
length_grown [] = refl
length_grown (e ∷ ends) = ap suc (length_grown ends) ∙ omega arith

module _ {V : Type 0} where
  pub indexed_after : (ends ends' : List (SortedMap ℕ)) (order order' : List (ℕ × V)) (number endpoint : ℕ) (there : Bool) → AreIndexed ends order → number < length ends → endpoint < 65536 → length ends' ≡ length ends
      → ((m q : ℕ) → is_some (reach_at ends' m q) ≡ cond ((m == number) && (q == endpoint)) there (is_some (reach_at ends m q)))
      → ((key : ℕ) → is_some (value_at order' key) ≡ cond (key == reach_key endpoint number) there (is_some (value_at order key))) → AreIndexed ends' order'
  indexed_after ends ends' order order' number endpoint there h inside small long counts keys = record {
    each = λ key. keys key ∙ (ap (λ (t : Bool). cond (key == reach_key endpoint number) there t) (h.each key)
        ∙ (ap (λ (t : Bool). cond t there (is_reach_key ends key)) (key_parts endpoint number key (let few = h.few in omega arith)) ∙ sym (counts (key % numbers) (key / numbers))));
    small = λ m q some. by_test m q some;
    few = let few = h.few in omega arith;
  }
    where
      both : (a b : Bool) → (a && b) ≡ true → b ≡ true
      both true b e = e
      both false b e = absurd cc

      by_test : (m q : ℕ) → is_some (reach_at ends' m q) ≡ true → q < 65536
      by_test m q some = by_own ((m == number) && (q == endpoint)) refl
        where
          by_own : (u : Bool) → ((m == number) && (q == endpoint)) ≡ u → q < 65536
          by_own true f = let is = yes_eq q endpoint (both (m == number) (q == endpoint) f) in omega arith
          by_own false f = h.small m q (sym (counts m q ∙ rw f refl) ∙ some)

  pub indexed_none : (order : List (ℕ × V)) → order ≡ [] → AreIndexed [] order
  indexed_none order none = record {
    each = λ key. ap (λ (es : List (ℕ × V)). is_some (value_at es key)) none;
    small = λ m q some. absurd cc;
    few = omega arith;
  }

  -- a number more, whose program has no endpoint
  pub indexed_grown : (ends ends' : List (SortedMap ℕ)) (order : List (ℕ × V)) → length ends < numbers → ends' ≡ ends ++ no_counts ∷ [] → AreIndexed ends order → AreIndexed ends' order
  indexed_grown ends ends' order lt is h = subst (λ (es : List (SortedMap ℕ)). AreIndexed es order) (sym is) (record {
    each = λ key. h.each key ∙ ap (λ (c : SortedMap ℕ). is_some (value_at c.entries (key / numbers))) (sym (at_grown ends (key % numbers)));
    small = λ m q some. h.small m q (ap (λ (c : SortedMap ℕ). is_some (value_at c.entries q)) (sym (at_grown ends m)) ∙ some);
    few = let long = length_grown ends in omega arith;
  })

-- In the words of a call

-- counts that change at one endpoint of one number
pub some_counted : (ends ends' : List (SortedMap ℕ)) (number endpoint count : ℕ) → ((m q : ℕ) → reach_at ends' m q ≡ (if (m == number) && (q == endpoint) then counted count else reach_at ends m q))
    → (m q : ℕ) → is_some (reach_at ends' m q) ≡ cond ((m == number) && (q == endpoint)) (is_some (counted count)) (is_some (reach_at ends m q))
some_counted ends ends' number endpoint count counts m q = ap is_some (counts m q) ∙ some_if ((m == number) && (q == endpoint)) (counted count) (reach_at ends m q)

-- and what is there afterwards
pub there_after : (ends ends' : List (SortedMap ℕ)) (number endpoint count : ℕ) → ((m q : ℕ) → reach_at ends' m q ≡ (if (m == number) && (q == endpoint) then counted count else reach_at ends m q))
    → reach_at ends' number endpoint ≡ counted count
there_after ends ends' number endpoint count counts = counts number endpoint ∙ rw (eq_yes number number refl, eq_yes endpoint endpoint refl) refl

pub some_unit : {V : Type 0} (c : Bool) (v : V) (b : Option V) → is_some (cond c (Some v) b) ≡ cond c true (is_some b)
some_unit true v b = refl
some_unit false v b = refl

pub none_unit : {V : Type 0} (c : Bool) (b : Option V) → is_some (cond c (None) b) ≡ cond c false (is_some b)
none_unit true b = refl
none_unit false b = refl

pub not_some : {V : Type 0} (o : Option V) → is_some o ≡ false → o ≡ None
not_some None e = refl
not_some (Some v) e = absurd cc

-- where nothing changes
pub stays_if : (c there : Bool) (b : Bool) → (c ≡ true → b ≡ there) → b ≡ cond c there b
stays_if true there b same = same refl
stays_if false there b same = refl

some_more : (n : ℕ) → is_some (counted (n + 1)) ≡ true
some_more n = let next : suc n ≡ n + 1 = omega arith in subst (λ (m : ℕ). is_some (counted m) ≡ true) next refl

some_less : (o : Option ℕ) → is_some (counted (number_of o - 1)) ≡ true → is_some o ≡ true
some_less None e = absurd cc
some_less (Some n) e = refl

module _ {V : Type 0} where
  pub live_key : (ends : List (SortedMap ℕ)) (order : List (ℕ × V)) (number endpoint : ℕ) → AreIndexed ends order → number < length ends
      → is_some (value_at order (reach_key endpoint number)) ≡ is_some (reach_at ends number endpoint)
  live_key ends order number endpoint h inside =
      let low : number < numbers = let few = h.few in omega arith in
      h.each (reach_key endpoint number)
      ∙ (ap (λ (m : ℕ). is_some (reach_at ends m (reach_key endpoint number / numbers))) (key_number endpoint number low) ∙ ap (λ (q : ℕ). is_some (reach_at ends number q)) (key_endpoint endpoint number low))

  at_key : (ends : List (SortedMap ℕ)) (order : List (ℕ × V)) (number endpoint : ℕ) → AreIndexed ends order → number < length ends → (key : ℕ) → (key == reach_key endpoint number) ≡ true
      → is_some (value_at order key) ≡ is_some (reach_at ends number endpoint)
  at_key ends order number endpoint h inside key e = ap (λ (k : ℕ). is_some (value_at order k)) (yes_eq key (reach_key endpoint number) e) ∙ live_key ends order number endpoint h inside

  module _ (ends ends' : List (SortedMap ℕ)) (order : List (ℕ × V)) (number endpoint : ℕ) (h : AreIndexed ends order) (inside : number < length ends) (small : endpoint < 65536) (long : length ends' ≡ length ends) where
    abbrev pub Counts : ℕ → Type 0
    Counts count = (m q : ℕ) → reach_at ends' m q ≡ (if (m == number) && (q == endpoint) then counted count else reach_at ends m q)

    pub added_new : (order' : List (ℕ × V)) (v : V) → Counts (number_of (reach_at ends number endpoint) + 1)
        → ((key : ℕ) → value_at order' key ≡ (if key == reach_key endpoint number then Some v else value_at order key)) → AreIndexed ends' order'
    added_new order' v counts puts = indexed_after ends ends' order order' number endpoint true h inside small long
        (λ m q. some_counted ends ends' number endpoint (number_of (reach_at ends number endpoint) + 1) counts m q
        ∙ ap (λ (t : Bool). cond ((m == number) && (q == endpoint)) t (is_some (reach_at ends m q))) (some_more (number_of (reach_at ends number endpoint))))
        (λ key. ap is_some (puts key) ∙ some_unit (key == reach_key endpoint number) v (value_at order key))

    pub added_old : is_some (reach_at ends number endpoint) ≡ true → Counts (number_of (reach_at ends number endpoint) + 1) → AreIndexed ends' order
    added_old there counts = indexed_after ends ends' order order number endpoint true h inside small long
        (λ m q. some_counted ends ends' number endpoint (number_of (reach_at ends number endpoint) + 1) counts m q
        ∙ ap (λ (t : Bool). cond ((m == number) && (q == endpoint)) t (is_some (reach_at ends m q))) (some_more (number_of (reach_at ends number endpoint))))
        (λ key. stays_if (key == reach_key endpoint number) true (is_some (value_at order key)) (λ e. at_key ends order number endpoint h inside key e ∙ there))

    pub taken_last : (order' : List (ℕ × V)) → is_some (reach_at ends' number endpoint) ≡ false → Counts (number_of (reach_at ends number endpoint) - 1)
        → ((key : ℕ) → value_at order' key ≡ (if key == reach_key endpoint number then None else value_at order key)) → AreIndexed ends' order'
    taken_last order' gone counts puts = indexed_after ends ends' order order' number endpoint false h inside small long
        (λ m q. some_counted ends ends' number endpoint (number_of (reach_at ends number endpoint) - 1) counts m q
        ∙ ap (λ (t : Bool). cond ((m == number) && (q == endpoint)) t (is_some (reach_at ends m q)))
        (ap is_some (sym (there_after ends ends' number endpoint (number_of (reach_at ends number endpoint) - 1) counts)) ∙ gone))
        (λ key. ap is_some (puts key) ∙ none_unit (key == reach_key endpoint number) (value_at order key))

    pub taken_one : is_some (reach_at ends' number endpoint) ≡ true → Counts (number_of (reach_at ends number endpoint) - 1) → AreIndexed ends' order
    taken_one there counts = indexed_after ends ends' order order number endpoint true h inside small long
        (λ m q. some_counted ends ends' number endpoint (number_of (reach_at ends number endpoint) - 1) counts m q
        ∙ ap (λ (t : Bool). cond ((m == number) && (q == endpoint)) t (is_some (reach_at ends m q))) still)
        (λ key. stays_if (key == reach_key endpoint number) true (is_some (value_at order key))
        (λ e. at_key ends order number endpoint h inside key e ∙ some_less (reach_at ends number endpoint) still))
      where
        still : is_some (counted (number_of (reach_at ends number endpoint) - 1)) ≡ true
        still = ap is_some (sym (there_after ends ends' number endpoint (number_of (reach_at ends number endpoint) - 1) counts)) ∙ there

pub small_after : (entries entries' : List (ℕ × ℕ)) (endpoint : ℕ) (value : Option ℕ) → endpoint < 65536 → AreSmall entries → ((q : ℕ) → value_at entries' q ≡ (if q == endpoint then value else value_at entries q)) → AreSmall entries'
small_after entries entries' endpoint value lt small puts q some = by_test (q == endpoint) refl
  where
    by_test : (t : Bool) → (q == endpoint) ≡ t → q < 65536
    by_test true e = let is = yes_eq q endpoint e in omega arith
    by_test false e = small q (ap is_some (sym (puts q ∙ rw e refl)) ∙ some)
