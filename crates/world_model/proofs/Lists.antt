-- Reading lists by place after a write, a map or an append.
use Rattle.std.proofs.Common.{◌≡◌, ◌<◌, ◌≤◌, ◌⊎◌, inl, inr, ℕ, zero, suc, Bool, true, false, None, Some, List, [], ◌∷◌, ◌++◌, length, map, slice_get, slice_set, refl, ap, arith, replicate}
use Rattle.std.specs.List.{list_all}

pub get-set_same : {A : Type 0} (xs : List A) (i : ℕ) (x y : A) → slice_get xs i ≡ Some y → slice_get (slice_set xs i x) i ≡ Some x
get-set_same [] i x y h = absurd cc
get-set_same (z ∷ xs) zero x y h = refl
get-set_same (z ∷ xs) (suc i) x y h = get-set_same xs i x y h

pub get-set_other : {A : Type 0} (xs : List A) (i j : ℕ) (x : A) → (i ≡ j → ⊥) → slice_get (slice_set xs i x) j ≡ slice_get xs j
get-set_other [] i j x h = refl
get-set_other (z ∷ xs) zero zero x h = absurd (h refl)
get-set_other (z ∷ xs) zero (suc j) x h = refl
get-set_other (z ∷ xs) (suc i) zero x h = refl
get-set_other (z ∷ xs) (suc i) (suc j) x h = get-set_other xs i j x (λ e. h (ap suc e))

pub length-slice_set : {A : Type 0} (xs : List A) (i : ℕ) (x : A) → length (slice_set xs i x) ≡ length xs
length-slice_set [] i x = refl
length-slice_set (z ∷ xs) zero x = refl
length-slice_set (z ∷ xs) (suc i) x = ap suc (length-slice_set xs i x)

-- what a mapped list has at a place comes from the list
pub get_map : {A B : Type 0} (f : A → B) (xs : List A) (i : ℕ) (y : B) → slice_get (map f xs) i ≡ Some y → (x : A) × (slice_get xs i ≡ Some x) × (y ≡ f x)
get_map f [] i y h = absurd cc
get_map f (x ∷ xs) zero y h = (x, refl, cc)
get_map f (x ∷ xs) (suc i) y h = get_map f xs i y h

pub get_replicate : {A : Type 0} (n i : ℕ) (x : A) → i < n → slice_get (replicate n x) i ≡ Some x
get_replicate zero i x h = absurd (omega arith)
get_replicate (suc n) zero x h = refl
get_replicate (suc n) (suc i) x h = get_replicate n i x (omega arith)

-- what a list has at a place, with one more at its end, is the last or was there
pub get_more : {A : Type 0} (xs : List A) (y x : A) (i : ℕ) → slice_get (xs ++ y ∷ []) i ≡ Some x → ((i ≡ length xs) × (x ≡ y)) ⊎ ((i < length xs) × (slice_get xs i ≡ Some x))
get_more [] y x zero h = inl (refl, cc)
get_more [] y x (suc i) h = absurd cc
get_more (z ∷ xs) y x zero h = inr (omega arith, h)
get_more (z ∷ xs) y x (suc i) h = shift (get_more xs y x i h)
  where
    shift : ((i ≡ length xs) × (x ≡ y)) ⊎ ((i < length xs) × (slice_get xs i ≡ Some x)) → ((suc i ≡ length (z ∷ xs)) × (x ≡ y)) ⊎ ((suc i < length (z ∷ xs)) × (slice_get xs i ≡ Some x))
    shift (inl e) = inl (ap suc e.0, e.1)
    shift (inr e) = inr (omega (arith, e.0), e.1)

pub all_true : (xs : List Bool) → list_all (λ x. x) xs ≡ true → (i : ℕ) (b : Bool) → slice_get xs i ≡ Some b → b ≡ true
all_true [] h i b at = absurd cc
all_true (true ∷ xs) h zero b at = cc
all_true (true ∷ xs) h (suc i) b at = all_true xs h i b at
all_true (false ∷ xs) h i b at = absurd cc

pub some_false : (xs : List Bool) → list_all (λ x. x) xs ≡ false → (i : ℕ) × (slice_get xs i ≡ Some false)
some_false [] h = absurd cc
some_false (true ∷ xs) h = let r = some_false xs h in (suc r.0, r.1)
some_false (false ∷ xs) h = (0, refl)

pub same_or_not : (i j : ℕ) → (i ≡ j) ⊎ (i ≡ j → ⊥)
same_or_not zero zero = inl refl
same_or_not zero (suc j) = inr (λ e. omega (arith, e))
same_or_not (suc i) zero = inr (λ e. omega (arith, e))
same_or_not (suc i) (suc j) = shift (same_or_not i j)
  where
    shift : ((i ≡ j) ⊎ (i ≡ j → ⊥)) → (suc i ≡ suc j) ⊎ (suc i ≡ suc j → ⊥)
    shift (inl e) = inl (ap suc e)
    shift (inr ne) = inr (λ e. ne (omega (arith, e)))

pub empty_list : {A : Type 0} (xs : List A) → length xs ≡ 0 → xs ≡ []
empty_list [] h = refl
empty_list (x ∷ xs) h = absurd (omega (arith, h))

pub get_end : {A : Type 0} (xs : List A) (y : A) → slice_get (xs ++ y ∷ []) (length xs) ≡ Some y
get_end [] y = refl
get_end (x ∷ xs) y = get_end xs y

pub beyond : {A : Type 0} (xs : List A) (i : ℕ) → length xs ≤ i → slice_get xs i ≡ None
beyond [] i h = refl
beyond (x ∷ xs) zero h = absurd (omega arith)
beyond (x ∷ xs) (suc i) h = beyond xs i (omega arith)
