-- Lists of filters, built up one by one.
use Rattle.std.proofs.Common.{◌≡◌, ◌<◌, ◌≤◌, ◌+◌, ◌-◌, ◌==◌, ◌⊎◌, inl, inr, ℕ, zero, suc, Bool, true, false, cond, Some, None, List, [], ◌∷◌, ◌++◌, map, filter, length, take, drop, slice_get, get_or, slice_index_or, Contains, refl, ap, sym, ◌∙◌, subst, arith, add-one, append-nil, leb}
use Rattle.std.proofs.lemmas.List.Sums.{sum_by-append}
use Rattle.std.proofs.lemmas.Bool.Decides.{nat_tests}
use Rattle.std.specs.List.{find}
use Rattle.bpf_insn.specs.declared.insn.Insn.{Insn}
use Rattle.filter_table.specs.Listed.{ListedFilter}
use Rattle.filter_table.specs.Tables.{instructions_of, replaced}

pub three : (a b : ℕ) → (a < b) ⊎ ((a ≡ b) ⊎ (b < a))
three a b = grind arith

pub get_some : {A : Type 0} (xs : List A) (i : ℕ) (d : A) → i < length xs → slice_get xs i ≡ Some (get_or xs i d)
get_some [] i d lt = absurd (omega arith)
get_some (x ∷ xs) zero d lt = refl
get_some (x ∷ xs) (suc i) d lt = get_some xs i d (omega arith)

-- Elements of lists

pub never : {A : Type 0} (x : A) → Contains [] x → ⊥
never x h = absurd (omega (arith, h.1))

pub in_head : {A : Type 0} (y : A) (ys : List A) → Contains (y ∷ ys) y
in_head y ys = (0, omega arith, refl)

pub in_tail : {A : Type 0} (y : A) (ys : List A) (x : A) → Contains ys x → Contains (y ∷ ys) x
in_tail y ys x h = (suc h.0, omega (arith, h.1), h.2)

pub first_or_later : {A : Type 0} (y : A) (ys : List A) (x : A) → Contains (y ∷ ys) x → (y ≡ x) ⊎ Contains ys x
first_or_later {A} y ys x h = by_place h.0 h.1 h.2
  where
    by_place : (k : ℕ) → k < length (y ∷ ys) → slice_index_or (y ∷ ys) k x ≡ x → (y ≡ x) ⊎ Contains ys x
    by_place zero lt e = inl e
    by_place (suc k) lt e = inr (k, omega arith, e)

pub in_map : {A B : Type 0} (f : A → B) (xs : List A) (x : A) → Contains xs x → Contains (map f xs) (f x)
in_map f [] x h = absurd (never x h)
in_map {A} f (y ∷ xs) x h = by_place (first_or_later y xs x h) (in_map f xs x)
  where
    by_place : (y ≡ x) ⊎ Contains xs x → (Contains xs x → Contains (map f xs) (f x)) → Contains (map f (y ∷ xs)) (f x)
    by_place (inl same) rest = subst (λ (z : A). Contains (f y ∷ map f xs) (f z)) same (in_head (f y) (map f xs))
    by_place (inr later) rest = in_tail (f y) (map f xs) (f x) (rest later)

pub was_mapped : {A B : Type 0} (f : A → B) (xs : List A) (y : B) → Contains (map f xs) y → (x : A) × Contains xs x × (f x ≡ y)
was_mapped f [] y h = absurd (never y h)
was_mapped {A} f (x ∷ xs) y h = by_place (first_or_later (f x) (map f xs) y h) (was_mapped f xs y)
  where
    by_place : (f x ≡ y) ⊎ Contains (map f xs) y → (Contains (map f xs) y → (z : A) × Contains xs z × (f z ≡ y)) → (z : A) × Contains (x ∷ xs) z × (f z ≡ y)
    by_place (inl same) rest = (x, in_head x xs, same)
    by_place (inr later) rest = let r = rest later in (r.0, in_tail x xs r.0 r.1, r.2)

pub in_filter : {A : Type 0} (p : A → Bool) (xs : List A) (x : A) → Contains xs x → p x ≡ true → Contains (filter p xs) x
in_filter p [] x h t = absurd (never x h)
in_filter p (y ∷ xs) x h t = by_test (p y) refl (first_or_later y xs x h) (λ later. in_filter p xs x later t)
  where
    by_test : (b : Bool) → p y ≡ b → (y ≡ x) ⊎ Contains xs x → (Contains xs x → Contains (filter p xs) x) → Contains (filter p (y ∷ xs)) x
    by_test true e (inl same) rest = rw e (subst (Contains (y ∷ filter p xs)) same (in_head y (filter p xs)))
    by_test true e (inr later) rest = rw e (in_tail y (filter p xs) x (rest later))
    by_test false e (inl same) rest = absurd (let is = ap p same in cc)
    by_test false e (inr later) rest = rw e (rest later)

pub from_filter : {A : Type 0} (p : A → Bool) (xs : List A) (x : A) → Contains (filter p xs) x → Contains xs x × (p x ≡ true)
from_filter p [] x h = absurd (never x h)
from_filter p (y ∷ xs) x h = by_test (p y) refl (from_filter p xs x)
  where
    first : p y ≡ true → (Contains (filter p xs) x → Contains xs x × (p x ≡ true)) → (y ≡ x) ⊎ Contains (filter p xs) x → Contains (y ∷ xs) x × (p x ≡ true)
    first e rest (inl same) = (subst (Contains (y ∷ xs)) same (in_head y xs), ap p (sym same) ∙ e)
    first e rest (inr later) = let r = rest later in (in_tail y xs x r.0, r.1)

    by_test : (b : Bool) → p y ≡ b → (Contains (filter p xs) x → Contains xs x × (p x ≡ true)) → Contains (y ∷ xs) x × (p x ≡ true)
    by_test true e rest = first e rest (first_or_later y (filter p xs) x (rw e at h))
    by_test false e rest = let r = rest (rw e at h) in (in_tail y xs x r.0, r.1)

-- Lists up to a place

take_suc : {A : Type 0} (xs : List A) (i : ℕ) (x : A) → slice_get xs i ≡ Some x → take (suc i) xs ≡ take i xs ++ x ∷ []
take_suc [] i x h = absurd cc
take_suc (y ∷ xs) zero x h = cc
take_suc (y ∷ xs) (suc i) x h = ap (λ l. y ∷ l) (take_suc xs i x h)

pub take_at : {A : Type 0} (xs : List A) (i : ℕ) (x : A) → slice_get xs i ≡ Some x → take (i + 1) xs ≡ take i xs ++ x ∷ []
take_at xs i x h = ap (λ n. take n xs) (add-one i) ∙ take_suc xs i x h

drop_suc : {A : Type 0} (xs : List A) (i : ℕ) (x : A) → slice_get xs i ≡ Some x → drop i xs ≡ x ∷ drop (suc i) xs
drop_suc [] i x h = absurd cc
drop_suc (y ∷ xs) zero x h = cc
drop_suc (y ∷ xs) (suc i) x h = drop_suc xs i x h

pub drop_at : {A : Type 0} (xs : List A) (i : ℕ) (x : A) → slice_get xs i ≡ Some x → drop i xs ≡ x ∷ drop (i + 1) xs
drop_at xs i x h = drop_suc xs i x h ∙ ap (λ n. x ∷ drop n xs) (sym (add-one i))

pub filter-append : {A : Type 0} (p : A → Bool) (xs ys : List A) → filter p (xs ++ ys) ≡ filter p xs ++ filter p ys
filter-append p [] ys = refl
filter-append p (x ∷ xs) ys = by_kept (p x) refl (filter-append p xs ys)
  where
    by_kept : (k : Bool) → p x ≡ k → filter p (xs ++ ys) ≡ filter p xs ++ filter p ys → filter p ((x ∷ xs) ++ ys) ≡ filter p (x ∷ xs) ++ filter p ys
    by_kept true k rest = rw k (ap (λ l. x ∷ l) rest)
    by_kept false k rest = rw k rest

pub filter_one : {A : Type 0} (p : A → Bool) (xs : List A) (i : ℕ) (x : A) → slice_get xs i ≡ Some x → p x ≡ true → filter p (take (i + 1) xs) ≡ filter p (take i xs) ++ x ∷ []
filter_one p xs i x at t = ap (filter p) (take_at xs i x at) ∙ (filter-append p (take i xs) (x ∷ []) ∙ rw t refl)

pub filter_none : {A : Type 0} (p : A → Bool) (xs : List A) (i : ℕ) (x : A) → slice_get xs i ≡ Some x → p x ≡ false → filter p (take (i + 1) xs) ≡ filter p (take i xs)
filter_none p xs i x at f = ap (filter p) (take_at xs i x at) ∙ (filter-append p (take i xs) (x ∷ []) ∙ rw f (append-nil (filter p (take i xs))))

pub map-append' : {A B : Type 0} (f : A → B) (xs ys : List A) → map f (xs ++ ys) ≡ map f xs ++ map f ys
map-append' f [] ys = refl
map-append' f (x ∷ xs) ys = ap (λ l. f x ∷ l) (map-append' f xs ys)

pub instructions-append : (xs ys : List ListedFilter) → instructions_of (xs ++ ys) ≡ instructions_of xs + instructions_of ys
instructions-append xs ys = sum_by-append (λ (f : ListedFilter). length f.program) xs ys

pub instructions-push : (xs : List ListedFilter) (x : ListedFilter) → instructions_of (xs ++ x ∷ []) ≡ instructions_of xs + length x.program
instructions-push xs x = instructions-append xs (x ∷ []) ∙ omega arith

take-drop' : {A : Type 0} (xs : List A) (i : ℕ) (x : A) → slice_get xs i ≡ Some x → (ys : List A) × (xs ≡ take i xs ++ x ∷ ys)
take-drop' [] i x h = absurd cc
take-drop' (y ∷ xs) zero x h = (xs, cc)
take-drop' (y ∷ xs) (suc i) x h = let r = take-drop' xs i x h in (r.0, ap (λ l. y ∷ l) r.1)

pub fits_at : (xs : List ListedFilter) (i : ℕ) (x : ListedFilter) → slice_get xs i ≡ Some x → instructions_of (take i xs) + length x.program ≤ instructions_of xs
fits_at xs i x h =
    let r = take-drop' xs i x h in
    let whole : instructions_of xs ≡ instructions_of (take i xs ++ x ∷ r.0) = ap instructions_of r.1 in
    let parts = instructions-append (take i xs) (x ∷ r.0) in
    let one = instructions-append (x ∷ []) r.0 in
    omega (arith, whole, parts, one)

-- a filter that replaces, or stays
abbrev pub swapped : ℕ → List Insn → ListedFilter → ListedFilter
swapped id program f = cond (f.id == id) (record f { program = program }) f

pub map-get : {A B : Type 0} (f : A → B) (xs : List A) (i : ℕ) (x : A) → slice_get xs i ≡ Some x → slice_get (map f xs) i ≡ Some (f x)
map-get f [] i x h = absurd cc
map-get f (y ∷ xs) zero x h = cc
map-get f (y ∷ xs) (suc i) x h = map-get f xs i x h

map-take : {A B : Type 0} (f : A → B) (i : ℕ) (xs : List A) → take i (map f xs) ≡ map f (take i xs)
map-take f zero xs = refl
map-take f (suc i) [] = refl
map-take f (suc i) (x ∷ xs) = ap (λ l. f x ∷ l) (map-take f i xs)

pub replaced_at : (xs : List ListedFilter) (i id : ℕ) (program : List Insn) (x : ListedFilter) → slice_get xs i ≡ Some x
    → replaced (take (i + 1) xs) id program ≡ replaced (take i xs) id program ++ swapped id program x ∷ []
replaced_at xs i id program x h = ap (λ l. replaced l id program) (take_at xs i x h) ∙ map-append' (swapped id program) (take i xs) (x ∷ [])

pub replaced-fits : (xs : List ListedFilter) (i id : ℕ) (program : List Insn) (x : ListedFilter) → slice_get xs i ≡ Some x
    → instructions_of (replaced (take i xs) id program) + length (swapped id program x).program ≤ instructions_of (replaced xs id program)
replaced-fits xs i id program x h =
    let fits = fits_at (replaced xs id program) i (swapped id program x) (map-get (swapped id program) xs i x h) in
    let same : instructions_of (take i (replaced xs id program)) ≡ instructions_of (replaced (take i xs) id program) = ap instructions_of (map-take (swapped id program) i xs) in
    omega (arith, fits, same)

-- a search that went past the first ones
pub find_at : (p : ListedFilter → Bool) (xs : List ListedFilter) (i : ℕ) (x : ListedFilter) → slice_get xs i ≡ Some x → find p (take i xs) ≡ None → p x ≡ true → find p xs ≡ Some x
find_at p [] i x h n t = absurd cc
find_at p (y ∷ xs) zero x h n t = let same : y ≡ x = cc in rw (same, t) refl
find_at p (y ∷ xs) (suc i) x h n t = by_test (p y) refl (λ m. find_at p xs i x h m t)
  where
    by_test : (b : Bool) → p y ≡ b → (find p (take i xs) ≡ None → find p xs ≡ Some x) → find p (y ∷ xs) ≡ Some x
    by_test true e rest = absurd (let z = rw e at n in cc)
    by_test false e rest = rw e (rest (rw e at n))

find_suc : (p : ListedFilter → Bool) (xs : List ListedFilter) (i : ℕ) (x : ListedFilter) → slice_get xs i ≡ Some x → find p (take i xs) ≡ None → p x ≡ false → find p (take (suc i) xs) ≡ None
find_suc p [] i x h n t = absurd cc
find_suc p (y ∷ xs) zero x h n t = let same : y ≡ x = cc in rw (same, t) refl
find_suc p (y ∷ xs) (suc i) x h n t = by_test (p y) refl (λ m. find_suc p xs i x h m t)
  where
    by_test : (b : Bool) → p y ≡ b → (find p (take i xs) ≡ None → find p (take (suc i) xs) ≡ None) → find p (take (suc (suc i)) (y ∷ xs)) ≡ None
    by_test true e rest = absurd (let z = rw e at n in cc)
    by_test false e rest = rw e (rest (rw e at n))

pub find_past : (p : ListedFilter → Bool) (xs : List ListedFilter) (i : ℕ) (x : ListedFilter) → slice_get xs i ≡ Some x → find p (take i xs) ≡ None → p x ≡ false → find p (take (i + 1) xs) ≡ None
find_past p xs i x h n t = ap (λ k. find p (take k xs)) (add-one i) ∙ find_suc p xs i x h n t

-- The steps of the loops

pub eq_true : (a b : ℕ) → a ≡ b → (a == b) ≡ true
eq_true a b e = grind (arith, nat_tests)

pub eq_false : (a b : ℕ) → (a ≡ b → ⊥) → (a == b) ≡ false
eq_false a b e = grind (arith, nat_tests)

pub is_swapped : (id : ℕ) (program : List Insn) (x : ListedFilter) → (x.id == id) ≡ true → record x { program = program } ≡ swapped id program x
is_swapped id program x t = rw t refl

pub not_swapped : (id : ℕ) (program : List Insn) (x : ListedFilter) → (x.id == id) ≡ false → x ≡ swapped id program x
not_swapped id program x t = rw t refl

-- the budget that is left
pub left_more : (id : ℕ) (program : List Insn) (xs : List ListedFilter) (i left count budget : ℕ) (x : ListedFilter) → slice_get xs i ≡ Some x
    → instructions_of (replaced (take i xs) id program) + left ≡ budget → count ≡ length (swapped id program x).program → count ≤ left
    → instructions_of (replaced (take (i + 1) xs) id program) + (left - count) ≡ budget
left_more id program xs i left count budget x h b s le =
    let more = ap instructions_of (replaced_at xs i id program x h) ∙ instructions-push (replaced (take i xs) id program) (swapped id program x) in
    omega (arith, more)

pub over_left : (id : ℕ) (program : List Insn) (xs : List ListedFilter) (i left count budget : ℕ) (x : ListedFilter) → slice_get xs i ≡ Some x
    → instructions_of (replaced (take i xs) id program) + left ≡ budget → count ≡ length (swapped id program x).program → left < count
    → false ≡ leb (instructions_of (replaced xs id program)) budget
over_left id program xs i left count budget x h b s lt =
    let fits = replaced-fits xs i id program x h in
    let over : budget < instructions_of (replaced xs id program) = omega arith in
    grind (arith, nat_tests)
