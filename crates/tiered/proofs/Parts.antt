-- Edits in the first of two lists, or in the second.
use Rattle.std.proofs.Common.{◌≡◌, ◌+◌, ◌<◌, ◌≤◌, ◌++◌, ℕ, zero, suc, List, [], ◌∷◌, length, slice_get, slice_set, Some, take, drop, get_or, refl, sym, ap, ◌∙◌, arith}
use Rattle.std.specs.List.{insert, remove}

module _ {T : Type 0} where
  pub insert_first : (xs ys : List T) (i : ℕ) (item : T) → i ≤ length xs → insert (xs ++ ys) i item ≡ insert xs i item ++ ys
  insert_first xs ys zero item within = refl
  insert_first [] ys (suc i) item within = absurd (omega arith)
  insert_first (x ∷ xs) ys (suc i) item within = ap (λ rest. x ∷ rest) (insert_first xs ys i item (omega arith))

  pub insert_second : (xs ys : List T) (i n : ℕ) (item : T) → n ≡ length xs + i → insert (xs ++ ys) n item ≡ xs ++ insert ys i item
  insert_second [] ys i n item is = let same : n ≡ i = omega arith in ap (λ m. insert ys m item) same
  insert_second (x ∷ xs) ys i zero item is = absurd (omega arith)
  insert_second (x ∷ xs) ys i (suc n) item is = ap (λ rest. x ∷ rest) (insert_second xs ys i n item (omega arith))

  pub remove_first : (xs ys : List T) (i : ℕ) → i < length xs → remove (xs ++ ys) i ≡ remove xs i ++ ys
  remove_first [] ys i within = absurd (omega arith)
  remove_first (x ∷ xs) ys zero within = refl
  remove_first (x ∷ xs) ys (suc i) within = ap (λ rest. x ∷ rest) (remove_first xs ys i (omega arith))

  pub remove_second : (xs ys : List T) (i n : ℕ) → n ≡ length xs + i → remove (xs ++ ys) n ≡ xs ++ remove ys i
  remove_second [] ys i n is = let same : n ≡ i = omega arith in ap (λ m. remove ys m) same
  remove_second (x ∷ xs) ys i zero is = absurd (omega arith)
  remove_second (x ∷ xs) ys i (suc n) is = ap (λ rest. x ∷ rest) (remove_second xs ys i n (omega arith))

  pub set_first : (xs ys : List T) (i : ℕ) (item : T) → i < length xs → slice_set (xs ++ ys) i item ≡ slice_set xs i item ++ ys
  set_first [] ys i item within = absurd (omega arith)
  set_first (x ∷ xs) ys zero item within = refl
  set_first (x ∷ xs) ys (suc i) item within = ap (λ rest. x ∷ rest) (set_first xs ys i item (omega arith))

  pub set_second : (xs ys : List T) (i n : ℕ) (item : T) → n ≡ length xs + i → slice_set (xs ++ ys) n item ≡ xs ++ slice_set ys i item
  set_second [] ys i n item is = let same : n ≡ i = omega arith in ap (λ m. slice_set ys m item) same
  set_second (x ∷ xs) ys i zero item is = absurd (omega arith)
  set_second (x ∷ xs) ys i (suc n) item is = ap (λ rest. x ∷ rest) (set_second xs ys i n item (omega arith))

  pub get_first : (xs ys : List T) (i : ℕ) → i < length xs → slice_get (xs ++ ys) i ≡ slice_get xs i
  get_first [] ys i within = absurd (omega arith)
  get_first (x ∷ xs) ys zero within = refl
  get_first (x ∷ xs) ys (suc i) within = get_first xs ys i (omega arith)

  pub get_second : (xs ys : List T) (i n : ℕ) → n ≡ length xs + i → slice_get (xs ++ ys) n ≡ slice_get ys i
  get_second [] ys i n is = let same : n ≡ i = omega arith in ap (λ m. slice_get ys m) same
  get_second (x ∷ xs) ys i zero is = absurd (omega arith)
  get_second (x ∷ xs) ys i (suc n) is = get_second xs ys i n (omega arith)

  -- what is read at a place, from one list and then another
  pub get_read : (xs : List T) (i : ℕ) (x : T) → i < length xs → x ≡ get_or xs i x → slice_get xs i ≡ Some x
  get_read [] i x within read = absurd (omega arith)
  get_read (y ∷ xs) zero x within read = ap (λ z. Some z) (sym read)
  get_read (y ∷ xs) (suc i) x within read = get_read xs i x (omega arith) read

  -- a list is its items before a place, the one there and those after it
  pub parted : (xs : List T) (i : ℕ) (x : T) → i < length xs → x ≡ get_or xs i x → xs ≡ take i xs ++ (x ∷ drop (suc i) xs)
  parted [] i x within read = absurd (omega arith)
  parted (y ∷ xs) zero x within read = ap (λ z. z ∷ xs) (sym read)
  parted (y ∷ xs) (suc i) x within read = ap (λ rest. y ∷ rest) (parted xs i x (omega arith) read)

  pub read_through : (xs : List T) (i : ℕ) (old out : T) → out ≡ old → old ≡ get_or xs i old → out ≡ get_or xs i out
  read_through xs i old out is read = is ∙ read ∙ ap (get_or xs i) (sym is)
