-- Entries in the order of their keys.
use Rattle.std.proofs.Common.{◌≡◌, ◌<◌, ◌≤◌, ◌+◌, ◌==◌, nat_eq, nat_le, nat_cmp, ℕ, Bool, true, false, cond, Option, Some, None, is_some, Less, List, [], ◌∷◌, filter, refl, ap, sym, ◌∙◌, arith}
use Rattle.std.specs.List.{AllByRecursion}
use Rattle.std.specs.List.Sorted.{IsStrictlySortedBy}
use Rattle.std.specs.Map.{keys_of}
use Rattle.std.proofs.lemmas.Bool.Decides.{nat_tests}
use Rattle.std.proofs.lemmas.Map.Entries.{lookup-filter-keys}
use Rattle.chunked.specs.Maps.{value_at}
use Rattle.installed_filters.proofs.Booked.{eq_yes, yes_eq}

-- keys that rise from a number on
abbrev pub KeysFrom : {V : Type 0} → ℕ → List (ℕ × V) → Type 0
KeysFrom low [] = Unit {0}
KeysFrom low (e ∷ es) = (low ≤ e.0) × KeysFrom (e.0 + 1) es

after_key : {V : Type 0} (low : ℕ) (es : List (ℕ × V)) → AllByRecursion (λ k. nat_cmp low k ≡ Less) (keys_of es) → IsStrictlySortedBy nat_cmp (keys_of es) → KeysFrom (low + 1) es
unfolding IsStrictlySortedBy
after_key low [] all h = tt
after_key low (e ∷ es) all h =
    let less : nat_cmp low e.0 ≡ Less = all.0 in
    let below : low < e.0 = grind (arith, nat_tests) in
    (omega arith, after_key e.0 es h.0 h.1)

pub rising : {V : Type 0} (es : List (ℕ × V)) → IsStrictlySortedBy nat_cmp (keys_of es) → KeysFrom 0 es
unfolding IsStrictlySortedBy
rising [] h = tt
rising (e ∷ es) h = (omega arith, after_key e.0 es h.0 h.1)

pub lower : {V : Type 0} (low from : ℕ) (es : List (ℕ × V)) → low ≤ from → KeysFrom from es → KeysFrom low es
lower low from [] le h = tt
lower low from (e ∷ es) le h = (omega (arith, h.0), h.1)

pub kept_from : {V : Type 0} (p : ℕ × V → Bool) (from : ℕ) (es : List (ℕ × V)) → KeysFrom from es → KeysFrom from (filter p es)
kept_from p from [] h = tt
kept_from {V} p from (e ∷ es) h = by_test (p e) refl (kept_from p (e.0 + 1) es h.1)
  where
    by_test : (b : Bool) → p e ≡ b → KeysFrom (e.0 + 1) (filter p es) → KeysFrom from (filter p (e ∷ es))
    by_test true t rest = rw t (h.0, rest)
    by_test false t rest = rw t (lower from (e.0 + 1) (filter p es) (omega (arith, h.0)) rest)

pub filtered : {V : Type 0} (low from : ℕ) (es : List (ℕ × V)) → KeysFrom from es → KeysFrom low (filter (λ e. nat_le low e.0) es)
filtered low from [] h = tt
filtered {V} low from (e ∷ es) h = by_test (nat_le low e.0) refl (filtered low (e.0 + 1) es h.1)
  where
    by_test : (b : Bool) → nat_le low e.0 ≡ b → KeysFrom low (filter (λ (f : ℕ × V). nat_le low f.0) es) → KeysFrom low (filter (λ (f : ℕ × V). nat_le low f.0) (e ∷ es))
    by_test true t rest = let le : low ≤ e.0 = grind (arith, nat_tests) in rw t (le, kept_from (λ (f : ℕ × V). nat_le low f.0) (e.0 + 1) es h.1)
    by_test false t rest = rw t rest

at_keys : {V : Type 0} (low key : ℕ) (es : List (ℕ × V)) → KeysFrom low es → is_some (value_at es key) ≡ true → low ≤ key
at_keys low key [] h there = absurd cc
at_keys low key (e ∷ es) h there = by_test (nat_eq key e.0) refl (at_keys (e.0 + 1) key es h.1)
  where
    by_test : (b : Bool) → nat_eq key e.0 ≡ b → (is_some (value_at es key) ≡ true → e.0 + 1 ≤ key) → low ≤ key
    by_test true t rest = let same = yes_eq key e.0 t in omega (arith, h.0)
    by_test false t rest = omega (arith, h.0, rest (rw t at there))

pub no_value : {V : Type 0} (o : Option V) → is_some o ≡ false → o ≡ None
no_value None h = refl
no_value (Some v) h = absurd cc

-- no key below the first one is there
pub not_before : {V : Type 0} (low key : ℕ) (es : List (ℕ × V)) → KeysFrom low es → key < low → is_some (value_at es key) ≡ false
not_before low key es h lt = by_test (is_some (value_at es key)) refl
  where
    by_test : (b : Bool) → is_some (value_at es key) ≡ b → is_some (value_at es key) ≡ false
    by_test true t = absurd (let le = at_keys low key es h t in omega arith)
    by_test false t = t

pub at_filtered : {V : Type 0} (low key : ℕ) (es : List (ℕ × V)) → value_at (filter (λ e. nat_le low e.0) es) key ≡ cond (nat_le low key) (value_at es key) None
at_filtered low key es = lookup-filter-keys (nat_eq key) (nat_le low) (nat_le low key) (λ k t. ap (nat_le low) (sym (yes_eq key k t))) es

pub at_head : {V : Type 0} (e : ℕ × V) (es : List (ℕ × V)) → value_at (e ∷ es) e.0 ≡ Some e.1
at_head e es = rw (eq_yes e.0 e.0 refl) refl

pub at_tail : {V : Type 0} (key : ℕ) (e : ℕ × V) (es : List (ℕ × V)) → (key == e.0) ≡ false → value_at (e ∷ es) key ≡ value_at es key
at_tail key e es off = rw off refl

-- Entries with the same values are the same

one_value : {V : Type 0} (a b : V) → Some a ≡ Some b → a ≡ b
one_value a b is = cc

first_key : {V : Type 0} (e f : ℕ × V) (es fs : List (ℕ × V)) → KeysFrom (f.0 + 1) fs → ((key : ℕ) → value_at (e ∷ es) key ≡ value_at (f ∷ fs) key) → f.0 ≤ e.0
first_key e f es fs h same = at_keys f.0 e.0 (f ∷ fs) (omega arith, h) (ap is_some (sym (same e.0) ∙ at_head e es))

pub alike : {V : Type 0} (a b : ℕ) (es fs : List (ℕ × V)) → KeysFrom a es → KeysFrom b fs → ((key : ℕ) → value_at es key ≡ value_at fs key) → es ≡ fs
alike a b [] [] h k same = refl
alike a b [] (f ∷ fs) h k same = absurd (let x = same f.0 ∙ at_head f fs in cc)
alike a b (e ∷ es) [] h k same = absurd (let x = sym (same e.0) ∙ at_head e es in cc)
alike {V} a b (e ∷ es) (f ∷ fs) h k same =
    ap (λ (x : ℕ × V). x ∷ es) head ∙ ap (λ (xs : List (ℕ × V)). f ∷ xs) (alike (e.0 + 1) (f.0 + 1) es fs h.1 k.1 (λ key. later key (key == e.0) refl))
  where
    key_is : e.0 ≡ f.0
    key_is = let below = first_key e f es fs k.1 same in let above = first_key f e fs es h.1 (λ key. sym (same key)) in omega arith

    value_is : e.1 ≡ f.1
    value_is = one_value e.1 f.1 (sym (at_head e es) ∙ (same e.0 ∙ (ap (value_at (f ∷ fs)) key_is ∙ at_head f fs)))

    head : e ≡ f
    head = ap (λ (n : ℕ). (n, e.1)) key_is ∙ ap (λ (v : V). (f.0, v)) value_is

    later : (key : ℕ) (t : Bool) → (key == e.0) ≡ t → value_at es key ≡ value_at fs key
    later key true t =
        let is = yes_eq key e.0 t in
        let here = key_is in
        no_value (value_at es key) (not_before (e.0 + 1) key es h.1 (omega arith)) ∙ sym (no_value (value_at fs key) (not_before (f.0 + 1) key fs k.1 (omega arith)))
    later key false t =
        let other : (key == f.0) ≡ false = ap (λ (n : ℕ). key == n) (sym key_is) ∙ t in
        sym (at_tail key e es t) ∙ (same key ∙ at_tail key f fs other)
