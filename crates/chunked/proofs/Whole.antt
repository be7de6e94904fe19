-- What a list in chunks is once its chunks are changed.
use Rattle.std.proofs.Common.{◌≡◌, ◌+◌, ◌<◌, ◌≤◌, ◌++◌, ℕ, zero, suc, List, [], ◌∷◌, length, slice_get, slice_set, Some, take, drop, refl, sym, ap, ◌∙◌, append_assoc, arith}
use Rattle.std.specs.List.{insert, remove}
use Rattle.std.proofs.lemmas.List.{set-get_or, drop-append-le}
use Rattle.chunked.specs.Chunks.{whole, chunk_at, before}

-- an edit in the first of two lists, or in the second
insert_first : {T : Type 0} (xs ys : List T) (i : ℕ) (item : T) → i ≤ length xs → insert (xs ++ ys) i item ≡ insert xs i item ++ ys
insert_first xs ys zero item within = refl
insert_first [] ys (suc i) item within = absurd (omega arith)
insert_first (x ∷ xs) ys (suc i) item within = ap (λ rest. x ∷ rest) (insert_first xs ys i item (omega arith))

insert_second : {T : Type 0} (xs ys : List T) (i n : ℕ) (item : T) → n ≡ length xs + i → insert (xs ++ ys) n item ≡ xs ++ insert ys i item
insert_second [] ys i n item is = let same : n ≡ i = omega arith in ap (λ m. insert ys m item) same
insert_second (x ∷ xs) ys i zero item is = absurd (omega arith)
insert_second (x ∷ xs) ys i (suc n) item is = ap (λ rest. x ∷ rest) (insert_second xs ys i n item (omega arith))

remove_first : {T : Type 0} (xs ys : List T) (i : ℕ) → i < length xs → remove (xs ++ ys) i ≡ remove xs i ++ ys
remove_first [] ys i within = absurd (omega arith)
remove_first (x ∷ xs) ys zero within = refl
remove_first (x ∷ xs) ys (suc i) within = ap (λ rest. x ∷ rest) (remove_first xs ys i (omega arith))

remove_second : {T : Type 0} (xs ys : List T) (i n : ℕ) → n ≡ length xs + i → remove (xs ++ ys) n ≡ xs ++ remove ys i
remove_second [] ys i n is = let same : n ≡ i = omega arith in ap (λ m. remove ys m) same
remove_second (x ∷ xs) ys i zero is = absurd (omega arith)
remove_second (x ∷ xs) ys i (suc n) is = ap (λ rest. x ∷ rest) (remove_second xs ys i n (omega arith))

set_first : {T : Type 0} (xs ys : List T) (i : ℕ) (item : T) → i < length xs → slice_set (xs ++ ys) i item ≡ slice_set xs i item ++ ys
set_first [] ys i item within = absurd (omega arith)
set_first (x ∷ xs) ys zero item within = refl
set_first (x ∷ xs) ys (suc i) item within = ap (λ rest. x ∷ rest) (set_first xs ys i item (omega arith))

set_second : {T : Type 0} (xs ys : List T) (i n : ℕ) (item : T) → n ≡ length xs + i → slice_set (xs ++ ys) n item ≡ xs ++ slice_set ys i item
set_second [] ys i n item is = let same : n ≡ i = omega arith in ap (λ m. slice_set ys m item) same
set_second (x ∷ xs) ys i zero item is = absurd (omega arith)
set_second (x ∷ xs) ys i (suc n) item is = ap (λ rest. x ∷ rest) (set_second xs ys i n item (omega arith))

get_first : {T : Type 0} (xs ys : List T) (i : ℕ) (item : T) → slice_get xs i ≡ Some item → slice_get (xs ++ ys) i ≡ Some item
get_first [] ys i item at = absurd (grind arith)
get_first (x ∷ xs) ys zero item at = at
get_first (x ∷ xs) ys (suc i) item at = get_first xs ys i item at

get_second : {T : Type 0} (xs ys : List T) (i n : ℕ) → n ≡ length xs + i → slice_get (xs ++ ys) n ≡ slice_get ys i
get_second [] ys i n is = let same : n ≡ i = omega arith in ap (λ m. slice_get ys m) same
get_second (x ∷ xs) ys i zero is = absurd (omega arith)
get_second (x ∷ xs) ys i (suc n) is = get_second xs ys i n (omega arith)

-- a list whose chunk at a place is this one
pub whole-set : {T : Type 0} (chunks : List (List T)) (i : ℕ) (c : List T) → i < length chunks → whole (slice_set chunks i c) ≡ whole (take i chunks) ++ (c ++ whole (drop (suc i) chunks))
whole-set [] i c inside = absurd (omega arith)
whole-set (d ∷ chunks) zero c inside = refl
whole-set (d ∷ chunks) (suc i) c inside = ap (λ rest. d ++ rest) (whole-set chunks i c (omega arith)) ∙ sym (append_assoc d (whole (take i chunks)) (c ++ whole (drop (suc i) chunks)))

-- a list around one of its chunks
pub whole_around : {T : Type 0} (chunks : List (List T)) (i : ℕ) → i < length chunks → whole chunks ≡ whole (take i chunks) ++ (chunk_at chunks i ++ whole (drop (suc i) chunks))
whole_around chunks i inside = ap whole (sym (set-get_or chunks i [])) ∙ whole-set chunks i (chunk_at chunks i) inside

-- a chunk gets an item
pub put_in : {T : Type 0} (chunks : List (List T)) (i offset : ℕ) (item : T) → i < length chunks → offset ≤ length (chunk_at chunks i) → whole (slice_set chunks i (insert (chunk_at chunks i) offset item)) ≡ insert (whole chunks) (before chunks i + offset) item
put_in chunks i offset item inside within =
    whole-set chunks i (insert (chunk_at chunks i) offset item) inside
    ∙ ap (λ rest. whole (take i chunks) ++ rest) (sym (insert_first (chunk_at chunks i) (whole (drop (suc i) chunks)) offset item within))
    ∙ sym (insert_second (whole (take i chunks)) (chunk_at chunks i ++ whole (drop (suc i) chunks)) offset (before chunks i + offset) item refl)
    ∙ ap (λ xs. insert xs (before chunks i + offset) item) (sym (whole_around chunks i inside))

-- a chunk loses an item
pub taken_out : {T : Type 0} (chunks : List (List T)) (i offset : ℕ) → i < length chunks → offset < length (chunk_at chunks i) → whole (slice_set chunks i (remove (chunk_at chunks i) offset)) ≡ remove (whole chunks) (before chunks i + offset)
taken_out chunks i offset inside within =
    whole-set chunks i (remove (chunk_at chunks i) offset) inside
    ∙ ap (λ rest. whole (take i chunks) ++ rest) (sym (remove_first (chunk_at chunks i) (whole (drop (suc i) chunks)) offset within))
    ∙ sym (remove_second (whole (take i chunks)) (chunk_at chunks i ++ whole (drop (suc i) chunks)) offset (before chunks i + offset) refl)
    ∙ ap (λ xs. remove xs (before chunks i + offset)) (sym (whole_around chunks i inside))

-- an item of a chunk is replaced
pub set_in : {T : Type 0} (chunks : List (List T)) (i offset : ℕ) (item : T) → i < length chunks → offset < length (chunk_at chunks i) → whole (slice_set chunks i (slice_set (chunk_at chunks i) offset item)) ≡ slice_set (whole chunks) (before chunks i + offset) item
set_in chunks i offset item inside within =
    whole-set chunks i (slice_set (chunk_at chunks i) offset item) inside
    ∙ ap (λ rest. whole (take i chunks) ++ rest) (sym (set_first (chunk_at chunks i) (whole (drop (suc i) chunks)) offset item within))
    ∙ sym (set_second (whole (take i chunks)) (chunk_at chunks i ++ whole (drop (suc i) chunks)) offset (before chunks i + offset) item refl)
    ∙ ap (λ xs. slice_set xs (before chunks i + offset) item) (sym (whole_around chunks i inside))

-- an item of a chunk is one of the list
pub get_in : {T : Type 0} (chunks : List (List T)) (i offset : ℕ) (item : T) → i < length chunks → slice_get (chunk_at chunks i) offset ≡ Some item → slice_get (whole chunks) (before chunks i + offset) ≡ Some item
get_in chunks i offset item inside at =
    ap (λ xs. slice_get xs (before chunks i + offset)) (whole_around chunks i inside)
    ∙ get_second (whole (take i chunks)) (chunk_at chunks i ++ whole (drop (suc i) chunks)) offset (before chunks i + offset) refl
    ∙ get_first (chunk_at chunks i) (whole (drop (suc i) chunks)) offset item at

-- a chunk is replaced by two
pub whole_parted : {T : Type 0} (chunks : List (List T)) (i : ℕ) (front back : List T) → i < length chunks → whole (insert (slice_set chunks i front) (suc i) back) ≡ whole (slice_set chunks i (front ++ back))
whole_parted [] i front back inside = absurd (omega arith)
whole_parted (d ∷ chunks) zero front back inside = sym (append_assoc front back (whole chunks))
whole_parted (d ∷ chunks) (suc i) front back inside = ap (λ rest. d ++ rest) (whole_parted chunks i front back (omega arith))

-- two chunks are replaced by both together
pub whole_joined : {T : Type 0} (chunks : List (List T)) (i : ℕ) → suc i < length chunks → whole (slice_set (remove chunks (suc i)) i (chunk_at chunks i ++ chunk_at chunks (suc i))) ≡ whole chunks
whole_joined [] i inside = absurd (omega arith)
whole_joined (c ∷ []) i inside = absurd (omega arith)
whole_joined (c ∷ d ∷ chunks) zero inside = append_assoc c d (whole chunks)
whole_joined (c ∷ d ∷ chunks) (suc i) inside = ap (λ rest. c ++ rest) (whole_joined (d ∷ chunks) i (omega arith))

-- an empty chunk is left out
pub whole_without : {T : Type 0} (chunks : List (List T)) (i : ℕ) → chunk_at chunks i ≡ [] → whole (remove chunks i) ≡ whole chunks
whole_without [] zero empty = refl
whole_without [] (suc i) empty = refl
whole_without (c ∷ chunks) zero empty = ap (λ front. front ++ whole chunks) (sym empty)
whole_without (c ∷ chunks) (suc i) empty = ap (λ rest. c ++ rest) (whole_without chunks i empty)

pub drop_second : {T : Type 0} (xs ys : List T) (i n : ℕ) → n ≡ length xs + i → drop n (xs ++ ys) ≡ drop i ys
drop_second [] ys i n is = let same : n ≡ i = omega arith in ap (λ m. drop m ys) same
drop_second (x ∷ xs) ys i zero is = absurd (omega arith)
drop_second (x ∷ xs) ys i (suc n) is = drop_second xs ys i n (omega arith)

-- the items from one of a chunk on
pub drop_in : {T : Type 0} (chunks : List (List T)) (i offset : ℕ) → i < length chunks → offset ≤ length (chunk_at chunks i) → drop (before chunks i + offset) (whole chunks) ≡ drop offset (chunk_at chunks i) ++ whole (drop (suc i) chunks)
drop_in chunks i offset inside within =
    ap (drop (before chunks i + offset)) (whole_around chunks i inside)
    ∙ drop_second (whole (take i chunks)) (chunk_at chunks i ++ whole (drop (suc i) chunks)) offset (before chunks i + offset) refl
    ∙ drop-append-le offset (chunk_at chunks i) (whole (drop (suc i) chunks)) within
