-- Items of lists by their places.
use Rattle.std.proofs.Common.{◌≡◌, ◌<◌, ◌+◌, ◌⊎◌, inl, inr, ℕ, zero, suc, Some, List, [], ◌∷◌, ◌++◌, length, slice_get, refl, ap, arith}

pub get_front : {A : Type 0} (xs ys : List A) (i : ℕ) (x : A) → slice_get xs i ≡ Some x → slice_get (xs ++ ys) i ≡ Some x
get_front [] ys i x h = absurd cc
get_front (y ∷ xs) ys zero x h = h
get_front (y ∷ xs) ys (suc i) x h = get_front xs ys i x h

pub last : {A : Type 0} (xs : List A) (x : A) → slice_get (xs ++ x ∷ []) (length xs) ≡ Some x
last [] x = refl
last (y ∷ xs) x = last xs x

pub split : {A : Type 0} (xs : List A) (y : A) (i : ℕ) (x : A) → slice_get (xs ++ y ∷ []) i ≡ Some x → (slice_get xs i ≡ Some x) ⊎ ((i ≡ length xs) × (y ≡ x))
split [] y zero x h = inr (refl, cc)
split [] y (suc i) x h = absurd cc
split (z ∷ xs) y zero x h = inl h
split (z ∷ xs) y (suc i) x h = by_rest (split xs y i x h)
  where
    by_rest : (slice_get xs i ≡ Some x) ⊎ ((i ≡ length xs) × (y ≡ x)) → (slice_get (z ∷ xs) (suc i) ≡ Some x) ⊎ ((suc i ≡ length (z ∷ xs)) × (y ≡ x))
    by_rest (inl e) = inl e
    by_rest (inr e) = inr (ap suc e.0, e.1)

pub get_at : {A : Type 0} (xs : List A) (i : ℕ) → i < length xs → (x : A) × (slice_get xs i ≡ Some x)
get_at [] i lt = absurd (omega arith)
get_at (x ∷ xs) zero lt = (x, refl)
get_at (x ∷ xs) (suc i) lt = get_at xs i (omega arith)

-- an item of two lists
pub get_later : {A : Type 0} (xs ys : List A) (i n : ℕ) → n ≡ length xs + i → slice_get (xs ++ ys) n ≡ slice_get ys i
get_later [] ys i n e = let same : n ≡ i = omega (arith, e) in ap (slice_get ys) same
get_later (x ∷ xs) ys i zero e = absurd (omega (arith, e))
get_later (x ∷ xs) ys i (suc n) e = get_later xs ys i n (omega (arith, e))

pub in_either : {A : Type 0} (xs ys : List A) (i : ℕ) (x : A) → slice_get (xs ++ ys) i ≡ Some x → (slice_get xs i ≡ Some x) ⊎ ((k : ℕ) × (i ≡ length xs + k) × (slice_get ys k ≡ Some x))
in_either [] ys i x at = inr (i, omega arith, at)
in_either (y ∷ xs) ys zero x at = inl at
in_either {A} (y ∷ xs) ys (suc i) x at = by_rest (in_either xs ys i x at)
  where
    by_rest : (slice_get xs i ≡ Some x) ⊎ ((k : ℕ) × (i ≡ length xs + k) × (slice_get ys k ≡ Some x))
        → (slice_get (y ∷ xs) (suc i) ≡ Some x) ⊎ ((k : ℕ) × (suc i ≡ length (y ∷ xs) + k) × (slice_get ys k ≡ Some x))
    by_rest (inl e) = inl e
    by_rest (inr e) = inr (e.0, omega (arith, e.1), e.2)
