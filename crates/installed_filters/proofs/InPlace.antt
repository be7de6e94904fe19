-- A list whose items are changed one after the other.
use Rattle.std.proofs.Common.{◌≡◌, ◌∙◌, ◌<◌, ◌≤◌, ◌+◌, ℕ, zero, suc, List, [], ◌∷◌, ◌++◌, length, map, take, drop, get_or, Some, slice_get, slice_set, refl, ap, sym, arith}
use Rattle.std.proofs.lemmas.Option.{slice_get_within, slice_get-get_or}
use Rattle.filter_group.proofs.Sides.{one_thing}

module _ {X : Type 0} (f : X → X) where
  -- the list once so many of its items were changed
  abbrev pub changed : List X → ℕ → List X
  changed xs count = map f (take count xs) ++ drop count xs

  pub not_yet : (xs : List X) (i : ℕ) → i < length xs → slice_get (changed xs i) i ≡ slice_get xs i
  not_yet [] i low = absurd (omega arith)
  not_yet (x ∷ xs) zero low = refl
  not_yet (x ∷ xs) (suc i) low = not_yet xs i (omega arith)

  pub one_more : (xs : List X) (i : ℕ) (x : X) → slice_get xs i ≡ Some x → slice_set (changed xs i) i (f x) ≡ changed xs (i + 1)
  one_more [] i x at = absurd (let low = slice_get_within {A = X} [] i x at in omega arith)
  one_more (y ∷ ys) zero x at = ap (λ (z : X). f z ∷ ys) (sym (one_thing (y ∷ ys) 0 y x refl at))
  one_more (y ∷ ys) (suc i) x at =
      let e : suc (i + 1) ≡ suc i + 1 = omega arith in
      ap (λ (zs : List X). f y ∷ zs) (one_more ys i x at) ∙ ap (changed (y ∷ ys)) e

  pub all_changed : (xs : List X) (i : ℕ) → length xs ≤ i → changed xs i ≡ map f xs
  all_changed [] zero all = refl
  all_changed [] (suc i) all = refl
  all_changed (x ∷ xs) zero all = absurd (omega arith)
  all_changed (x ∷ xs) (suc i) all = ap (λ (ys : List X). f x ∷ ys) (all_changed xs i (omega arith))

  pub still_long : (xs : List X) (i : ℕ) → length (changed xs i) ≡ length xs
  still_long [] zero = refl
  still_long [] (suc i) = refl
  still_long (x ∷ xs) zero = refl
  still_long (x ∷ xs) (suc i) = ap suc (still_long xs i)

  pub next_changed : (xs ys : List X) (i : ℕ) (y d : X) → ys ≡ changed xs i → i < length ys → y ≡ f (get_or ys i d) → slice_set ys i y ≡ changed xs (i + 1)
  next_changed xs ys i y d are low is =
      let long = ap length are in
      let as_long = still_long xs i in
      let at : slice_get xs i ≡ Some (get_or ys i d) =
      sym (not_yet xs i (omega arith)) ∙ (ap (λ (zs : List X). slice_get zs i) (sym are) ∙ slice_get-get_or ys i d low) in
      ap (λ (zs : List X). slice_set zs i y) are ∙ (ap (slice_set (changed xs i) i) is ∙ one_more xs i (get_or ys i d) at)
