-- A list that is read from its beginning.
use Rattle.std.proofs.Common.{◌≡◌, ◌≢◌, ◌+◌, ◌<◌, ◌≤◌, ℕ, zero, suc, List, [], ◌∷◌, ◌++◌, take, drop, map, length, get_or, Some, refl, sym, ap, subst, ◌∙◌, arith, add-one}
use Rattle.std.proofs.lemmas.List.{length-map}
use Rattle.ump_ring.specs.declared.piece.Piece.{Piece}
use Rattle.ump_ring.specs.Pieces.{bytes_of}
use Rattle.core_links.specs.Views.{first_of, last_in}

module _ {A : Type 0} where
  take_next : (xs : List A) (i : ℕ) → take (suc i) xs ≡ take i xs ++ take 1 (drop i xs)
  take_next xs zero = refl
  take_next [] (suc i) = refl
  take_next (x ∷ xs) (suc i) = ap (λ (l : List A). x ∷ l) (take_next xs i)

  drop_next : (xs : List A) (i : ℕ) → drop (suc i) xs ≡ drop 1 (drop i xs)
  drop_next xs zero = refl
  drop_next [] (suc i) = refl
  drop_next (x ∷ xs) (suc i) = drop_next xs i

  -- one more is read
  pub take_one_more : (xs : List A) (i : ℕ) → take (i + 1) xs ≡ take i xs ++ take 1 (drop i xs)
  take_one_more xs i = ap (λ (n : ℕ). take n xs) (add-one i) ∙ take_next xs i

  pub drop_one_more : (xs : List A) (i : ℕ) → drop (i + 1) xs ≡ drop 1 (drop i xs)
  drop_one_more xs i = ap (λ (n : ℕ). drop n xs) (add-one i) ∙ drop_next xs i

  -- something is left to be read
  pub some_left : (xs : List A) (i : ℕ) → i < length xs → drop i xs ≢ []
  some_left [] i lt = λ e. let no : ⊥ = omega (arith, lt) in no
  some_left (x ∷ xs) zero lt = λ e. cc
  some_left (x ∷ xs) (suc i) lt = some_left xs i (omega (arith, lt))

-- the one that is read next is the last one read then
last_is_first : (xs : List (List ℕ)) (i : ℕ) → i < length xs → last_in (take (suc i) xs) ≡ first_of (drop i xs)
last_is_first [] i lt = absurd (let no : ⊥ = omega (arith, lt) in no)
last_is_first (x ∷ xs) zero lt = refl
last_is_first (x ∷ []) (suc i) lt = absurd (let no : ⊥ = omega (arith, lt) in no)
last_is_first (x ∷ y ∷ xs) (suc i) lt = last_is_first (y ∷ xs) i (omega (arith, lt))

pub last_read : (xs : List (List ℕ)) (i : ℕ) → i < length xs → last_in (take (i + 1) xs) ≡ first_of (drop i xs)
last_read xs i lt = ap (λ (n : ℕ). last_in (take n xs)) (add-one i) ∙ last_is_first xs i lt

-- the first of those not read stands at the place after those read
pub first_left : (vs : List (Piece)) (i : ℕ) (d : Piece) → i < length vs → first_of (drop i (map bytes_of vs)) ≡ Some (bytes_of (get_or vs i d))
first_left [] i d lt = absurd (let no : ⊥ = omega (arith, lt) in no)
first_left (v ∷ vs) zero d lt = refl
first_left (v ∷ vs) (suc i) d lt = first_left vs i d (omega (arith, lt))

-- and the last of those read at the place before
pub last_left : (vs : List (Piece)) (n i : ℕ) (d : Piece) → n ≡ i + 1 → n ≤ length vs → last_in (take n (map bytes_of vs)) ≡ Some (bytes_of (get_or vs i d))
last_left vs n i d is le =
    let lt : i < length vs = omega (arith, is, le) in
    ap (λ (k : ℕ). last_in (take k (map bytes_of vs))) is
    ∙ last_read (map bytes_of vs) i (subst (λ (k : ℕ). i < k) (sym (length-map vs bytes_of)) lt)
    ∙ first_left vs i d lt
