-- The messages before a front, among those that pass a test.
use Rattle.std.proofs.Common.{◌≡◌, ℕ, zero, suc, ◌+◌, ◌<◌, ◌≤◌, Bool, true, false, cond, List, [], ◌∷◌, length, take, drop, refl, ap, sym, ◌∙◌, arith, zero-add, length-append}
use Rattle.std.specs.Prelude.{filter, slice_get, min, not}
use Rattle.std.specs.List.{position_or_len}
use Rattle.std.proofs.lemmas.List.{take-append-drop, take_all, length-drop}
use Rattle.std.proofs.lemmas.List.Elements.{filter-append}
use Rattle.std.proofs.Math.Seq.{take-add}

module _ {X : Type 0} (p : X → Bool) where
  -- the first that passes
  first_step : (b : Bool) (x : X) (xs : List X) → slice_get (filter p xs) 0 ≡ slice_get xs (position_or_len p xs)
      → slice_get (cond b (x ∷ filter p xs) (filter p xs)) 0 ≡ slice_get (x ∷ xs) (cond (not b) (1 + position_or_len p xs) 0)
  first_step true x xs h = refl
  first_step false x xs h = let e : 1 + position_or_len p xs ≡ suc (position_or_len p xs) = omega arith in rw e h

  first_passes : (xs : List X) → slice_get (filter p xs) 0 ≡ slice_get xs (position_or_len p xs)
  first_passes [] = refl
  first_passes (x ∷ xs) = first_step (p x) x xs (first_passes xs)

  -- the first that passes from a place on
  next_step : (b : Bool) (x : X) (xs : List X) (n k : ℕ) → slice_get (filter p xs) (length (filter p (take n xs))) ≡ slice_get xs (n + k)
      → slice_get (cond b (x ∷ filter p xs) (filter p xs)) (length (cond b (x ∷ filter p (take n xs)) (filter p (take n xs)))) ≡ slice_get (x ∷ xs) (suc n + k)
  next_step true x xs n k h = let e : suc n + k ≡ suc (n + k) = omega arith in rw e h
  next_step false x xs n k h = let e : suc n + k ≡ suc (n + k) = omega arith in rw e h

  pub next_passes : (n : ℕ) (xs : List X) → slice_get (filter p xs) (length (filter p (take n xs))) ≡ slice_get xs (n + position_or_len p (drop n xs))
  next_passes zero xs = rw zero-add (first_passes xs)
  next_passes (suc n) [] = refl
  next_passes (suc n) (x ∷ xs) = next_step (p x) x xs n (position_or_len p (drop n xs)) (next_passes n xs)

  -- one passes up to the first that does, with it
  one_step : (b : Bool) (x : X) (xs : List X) → (position_or_len p xs < length xs → length (filter p (take (position_or_len p xs + 1) xs)) ≡ 1)
      → cond (not b) (1 + position_or_len p xs) 0 < suc (length xs)
      → length (cond b (x ∷ filter p (take (cond (not b) (1 + position_or_len p xs) 0) xs)) (filter p (take (cond (not b) (1 + position_or_len p xs) 0) xs))) ≡ 1
  one_step true x xs h within = refl
  one_step false x xs h within =
      let e : 1 + position_or_len p xs ≡ position_or_len p xs + 1 = omega arith in
      rw e (h (omega arith))

  one_passes : (xs : List X) → position_or_len p xs < length xs → length (filter p (take (position_or_len p xs + 1) xs)) ≡ 1
  one_passes [] within = absurd (omega arith)
  one_passes (x ∷ xs) within =
      let e : position_or_len p (x ∷ xs) + 1 ≡ suc (position_or_len p (x ∷ xs)) = omega arith in
      rw e (one_step (p x) x xs (one_passes xs) within)

  none_step : (b : Bool) (x : X) (xs : List X) → (length xs ≤ position_or_len p xs → length (filter p xs) ≡ 0)
      → suc (length xs) ≤ cond (not b) (1 + position_or_len p xs) 0 → length (cond b (x ∷ filter p xs) (filter p xs)) ≡ 0
  none_step true x xs h past = absurd (omega arith)
  none_step false x xs h past = h (omega arith)

  none_passes : (xs : List X) → length xs ≤ position_or_len p xs → length (filter p xs) ≡ 0
  none_passes [] past = refl
  none_passes (x ∷ xs) past = none_step (p x) x xs (none_passes xs) past

  -- those that pass up to a place, and after it
  pub parts : (n : ℕ) (xs : List X) → length (filter p xs) ≡ length (filter p (take n xs)) + length (filter p (drop n xs))
  parts n xs = ap (λ t. length (filter p t)) (sym (take-append-drop n xs)) ∙ ap length (filter-append p (take n xs) (drop n xs)) ∙ length-append (filter p (take n xs)) (filter p (drop n xs))

  pub parts_to : (n k : ℕ) (xs : List X) → length (filter p (take (n + k) xs)) ≡ length (filter p (take n xs)) + length (filter p (take k (drop n xs)))
  parts_to n k xs = ap (λ t. length (filter p t)) (take-add n k xs) ∙ ap length (filter-append p (take n xs) (take k (drop n xs))) ∙ length-append (filter p (take n xs)) (filter p (take k (drop n xs)))

  -- one more passes, where there is one
  pub counts_next : (n : ℕ) (xs : List X) → n + position_or_len p (drop n xs) < length xs
      → length (filter p (take (n + position_or_len p (drop n xs) + 1) xs)) ≡ min (length (filter p (take n xs)) + 1) (length (filter p xs))
  counts_next n xs within =
      let k : ℕ = position_or_len p (drop n xs) in
      let more : k < length (drop n xs) = rw length-drop (omega arith) in
      let one = one_passes (drop n xs) more in
      let e : n + k + 1 ≡ n + (k + 1) = omega arith in
      let to = parts_to n (k + 1) xs in
      let all = parts n xs in
      let rest = parts (k + 1) (drop n xs) in
      rw e (omega arith)

  pub counts_all : (n : ℕ) (xs : List X) → length xs ≤ n + position_or_len p (drop n xs)
      → length (filter p (take (length xs) xs)) ≡ min (length (filter p (take n xs)) + 1) (length (filter p xs))
  counts_all n xs past =
      let none = none_passes (drop n xs) (rw length-drop (omega arith)) in
      let all = parts n xs in
      let whole : take (length xs) xs ≡ xs = take_all (length xs) xs (omega arith) in
      rw whole (omega arith)
