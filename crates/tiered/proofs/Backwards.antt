-- Edits of lists that lie in reverse.
use Rattle.std.proofs.Common.{◌≡◌, ◌+◌, ◌-◌, ◌++◌, ℕ, zero, suc, List, [], ◌∷◌, length, take, drop, reverse, replicate, slice_get, slice_set, get_or, Some, refl, sym, ap, ◌∙◌, append_assoc, arith}
use Rattle.std.specs.List.{insert, remove}
use Rattle.std.proofs.lemmas.List.{length-reverse, length-drop, reverse-append, take-append-drop, get_or-reverse, get_or_default, set_split, set_at, replicate_more}
use Rattle.tiered.proofs.Parts.{insert_second, remove_second, get_read, parted}

module _ {T : Type 0} where
  -- an item between two parts
  around : (xs ys : List T) (x : T) → reverse (xs ++ x ∷ ys) ≡ reverse ys ++ x ∷ reverse xs
  around xs ys x =
      reverse-append xs (x ∷ ys)
      ∙ ap (λ zs. zs ++ reverse xs) (reverse-append (x ∷ []) ys)
      ∙ append_assoc (reverse ys) (x ∷ []) (reverse xs)

  pub reverse-insert : (xs : List T) (n k : ℕ) (item : T) → n + k ≡ length xs → reverse (insert xs n item) ≡ insert (reverse xs) k item
  reverse-insert xs n k item place =
      let front = take n xs in
      let rest = drop n xs in
      let count : k ≡ length (reverse rest) + 0 = omega (arith, length-reverse rest, length-drop n xs) in
      around front rest item
      ∙ sym (insert_second (reverse rest) (reverse front) 0 k item count)
      ∙ ap (λ ys. insert ys k item) (sym (reverse-append front rest) ∙ ap reverse (take-append-drop n xs))

  pub reverse-remove : (xs : List T) (n k : ℕ) (x : T) → n + suc k ≡ length xs → x ≡ get_or xs n x → reverse (remove xs n) ≡ remove (reverse xs) k
  reverse-remove xs n k x place read =
      let front = take n xs in
      let rest = drop (suc n) xs in
      let count : k ≡ length (reverse rest) + 0 = omega (arith, length-reverse rest, length-drop (suc n) xs) in
      reverse-append front rest
      ∙ sym (remove_second (reverse rest) (x ∷ reverse front) 0 k count)
      ∙ ap (λ ys. remove ys k) (sym (around front rest x) ∙ ap reverse (sym (parted xs n x (omega arith) read)))

  pub reverse-get : (xs : List T) (n k : ℕ) (x : T) → n + suc k ≡ length xs → x ≡ get_or xs n x → slice_get (reverse xs) k ≡ Some x
  reverse-get xs n k x place read =
      let back : length xs - 1 - k ≡ n = omega arith in
      get_read (reverse xs) k x (omega (arith, length-reverse xs))
      (read ∙ ap (λ m. get_or xs m x) (sym back) ∙ sym (get_or-reverse xs k x (omega arith)))

  pub reverse-set : (xs : List T) (n k : ℕ) (item : T) → n + suc k ≡ length xs → reverse (slice_set xs n item) ≡ slice_set (reverse xs) k item
  reverse-set xs n k item place =
      let front = take n xs in
      let rest = drop (suc n) xs in
      let x = get_or xs n item in
      let count : length (reverse rest) ≡ k = omega (arith, length-reverse rest, length-drop (suc n) xs) in
      ap reverse (set_split xs n item (omega arith))
      ∙ around front rest item
      ∙ sym (set_at (reverse rest) x (reverse front) item k count)
      ∙ ap (λ ys. slice_set ys k item)
      (sym (around front rest x) ∙ ap reverse (sym (parted xs n x (omega arith) (get_or_default xs n item x (omega arith)))))

  pub reverse-replicate : (n : ℕ) (x : T) → reverse (replicate n x) ≡ replicate n x
  reverse-replicate zero x = refl
  reverse-replicate (suc n) x =
      let more : n + 1 ≡ suc n = omega arith in
      reverse-append (x ∷ []) (replicate n x)
      ∙ ap (λ ys. ys ++ x ∷ []) (reverse-replicate n x)
      ∙ replicate_more n x
      ∙ ap (λ m. replicate m x) more
