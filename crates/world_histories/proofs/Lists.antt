-- Lists of histories, by core.
use Rattle.std.proofs.Common.{◌≡◌, ◌+◌, ◌<◌, ◌≤◌, ◌⊎◌, inl, inr, ℕ, zero, suc, Some, List, [], ◌∷◌, ◌++◌, length, map, slice_get, slice_set, refl, ap, sym, ◌∙◌, subst, arith, append_assoc}
use Rattle.std.proofs.lemmas.List.{append-nil}
use mathlib.Core.List.{IsPrefix}
use Rattle.world_model.proofs.Lists.{get-set_same, get-set_other, same_or_not}
use Rattle.world_histories.specs.declared.history.Stamped.{Stamped}

-- what a list with one changed place has at a place
pub set_cases : {A : Type 0} (xs : List A) (i : ℕ) (y old : A) → slice_get xs i ≡ Some old → (j : ℕ) (x : A) → slice_get (slice_set xs i y) j ≡ Some x
    → ((i ≡ j) × (x ≡ y)) ⊎ ((i ≡ j → ⊥) × (slice_get xs j ≡ Some x))
set_cases {A} xs i y old at j x here = by_place (same_or_not i j)
  where
    by_place : ((i ≡ j) ⊎ (i ≡ j → ⊥)) → ((i ≡ j) × (x ≡ y)) ⊎ ((i ≡ j → ⊥) × (slice_get xs j ≡ Some x))
    by_place (inl e) =
        let here' : slice_get (slice_set xs i y) i ≡ Some x = subst (λ (k : ℕ). slice_get (slice_set xs i y) k ≡ Some x) (sym e) here in
        let s = get-set_same xs i y old at in
        inl (e, cc)
    by_place (inr ne) = inr (ne, sym (get-set_other xs i j y ne) ∙ here)

pub prefix_more : {A : Type 0} (xs ys more : List A) → IsPrefix xs ys → IsPrefix xs (ys ++ more)
prefix_more xs ys more p = (p.0 ++ more, sym (append_assoc xs p.0 more) ∙ ap (λ zs. zs ++ more) p.1)

pub prefix_self : {A : Type 0} (xs : List A) → IsPrefix xs xs
prefix_self xs = ([], append-nil xs)

pub prefix_then : {A : Type 0} (xs ys zs : List A) → IsPrefix xs ys → IsPrefix ys zs → IsPrefix xs zs
prefix_then xs ys zs p q = (p.0 ++ q.0, sym (append_assoc xs p.0 q.0) ∙ (ap (λ x. x ++ q.0) p.1 ∙ q.1))

-- the first of a front stands in the box, or it comes later
pub front_is : {A : Type 0} (m : A) (taken box later : List A) → IsPrefix (m ∷ taken) (box ++ later) → ((ms : List A) → later ≡ m ∷ ms → ⊥) → (rest : List A) × (box ≡ m ∷ rest) × IsPrefix taken (rest ++ later)
front_is m taken [] later p none = absurd (none (taken ++ p.0) (sym p.1))
front_is {A} m taken (x ∷ rest) later p none =
    let same : (m ∷ taken) ++ p.0 ≡ (x ∷ rest) ++ later = p.1 in
    let first : x ≡ m = cc in
    let tail : taken ++ p.0 ≡ rest ++ later = cc in
    (rest, ap (λ y. y ∷ rest) first, (p.0, tail))

-- the same, with the rest
pub front_at : {A : Type 0} (m : A) (taken left box later : List A) → (m ∷ taken) ++ left ≡ box ++ later → ((ms : List A) → later ≡ m ∷ ms → ⊥) → (rest : List A) × (box ≡ m ∷ rest) × (taken ++ left ≡ rest ++ later)
front_at m taken left [] later e none = absurd (none (taken ++ left) (sym e))
front_at {A} m taken left (x ∷ rest) later e none =
    let first : x ≡ m = cc in
    let tail : taken ++ left ≡ rest ++ later = cc in
    (rest, ap (λ y. y ∷ rest) first, tail)

pub get_next : {A : Type 0} (xs : List A) (y : A) (ys : List A) → slice_get (xs ++ y ∷ ys) (length xs) ≡ Some y
get_next [] y ys = refl
get_next (x ∷ xs) y ys = get_next xs y ys

pub less_or_not : (m n : ℕ) → (m ≤ n) ⊎ (n < m)
less_or_not zero n = inl (omega arith)
less_or_not (suc m) zero = inr (omega arith)
less_or_not (suc m) (suc n) = shift (less_or_not m n)
  where
    shift : ((m ≤ n) ⊎ (n < m)) → (suc m ≤ suc n) ⊎ (suc n < suc m)
    shift (inl le) = inl (omega arith)
    shift (inr lt) = inr (omega arith)

pub less_or_same : (m n : ℕ) → m ≤ n → (m < n) ⊎ (m ≡ n)
less_or_same m n le = by_order (less_or_not n m)
  where
    by_order : ((n ≤ m) ⊎ (m < n)) → (m < n) ⊎ (m ≡ n)
    by_order (inl ge) = inr (omega arith)
    by_order (inr lt) = inl lt

-- where an item of a mapped list comes from
pub record Found {A B : Type 0} (f : A → B) (xs : List A) (before : List B) (y : B) (after : List B) : Type 0 where
  pub front : List A
  pub item : A
  pub rest : List A
  pub is_split : xs ≡ front ++ item ∷ rest
  pub is_front : map f front ≡ before
  pub is_item : f item ≡ y
  pub is_rest : map f rest ≡ after

not_empty : {B : Type 0} (before after : List B) (y : B) → [] ≡ before ++ y ∷ after → ⊥
not_empty [] after y e = cc
not_empty (b ∷ bs) after y e = cc

found_more : {A B : Type 0} (f : A → B) (x : A) (xs : List A) (b : B) (bs after : List B) (y : B) → f x ≡ b → Found f xs bs y after → Found f (x ∷ xs) (b ∷ bs) y after
found_more {A} {B} f x xs b bs after y first r = record {
  front = x ∷ r.front;
  item = r.item;
  rest = r.rest;
  is_split = ap (λ (ys : List A). x ∷ ys) r.is_split;
  is_front = ap (λ (z : B). z ∷ map f r.front) first ∙ ap (λ (ys : List B). b ∷ ys) r.is_front;
  is_item = r.is_item;
  is_rest = r.is_rest;
}

pub found : {A B : Type 0} (f : A → B) (xs : List A) (before after : List B) (y : B) → map f xs ≡ before ++ y ∷ after → Found f xs before y after
found f [] before after y e = absurd (not_empty before after y e)
found f (x ∷ xs) [] after y e = record { front = []; item = x; rest = xs; is_split = refl; is_front = refl; is_item = cc; is_rest = cc }
found f (x ∷ xs) (b ∷ bs) after y e = found_more f x xs b bs after y (cc) (found f xs bs after y (cc))

-- The events that are left

pub size : List (List Stamped) → ℕ
size [] = 0
size (h ∷ hs) = length h + size hs

pub size_set : (hs : List (List Stamped)) (i : ℕ) (s : Stamped) (later : List Stamped) → slice_get hs i ≡ Some (s ∷ later) → size hs ≡ suc (size (slice_set hs i later))
unfolding size
size_set [] i s later at = absurd cc
size_set (h ∷ hs) zero s later at = let e : h ≡ s ∷ later = cc in omega (arith, ap length e)
size_set (h ∷ hs) (suc i) s later at = omega (arith, size_set hs i s later at)

-- the first event that is left: by stamp, then by core
pub record Least (hs : List (List Stamped)) : Type 0 where
  pub core : ℕ
  pub first : Stamped
  pub later : List Stamped
  pub here : slice_get hs core ≡ Some (first ∷ later)
  pub before_all : (j : ℕ) (t : Stamped) (rest : List Stamped) → slice_get hs j ≡ Some (t ∷ rest) → (first.stamp < t.stamp) ⊎ ((first.stamp ≡ t.stamp) × (core ≤ j))

abbrev pub NoneLeft : List (List Stamped) → Type 0
NoneLeft hs = (j : ℕ) (h : List Stamped) → slice_get hs j ≡ Some h → h ≡ []

pub least_of : (hs : List (List Stamped)) → NoneLeft hs ⊎ Least hs
least_of [] = inl (λ j h at. absurd cc)
least_of ([] ∷ hs) = by_rest (least_of hs)
  where
    none : NoneLeft hs → NoneLeft ([] ∷ hs)
    none n zero h at = cc
    none n (suc j) h at = n j h at

    before : (l : Least hs) → (j : ℕ) (t : Stamped) (rest : List Stamped) → slice_get ([] ∷ hs) j ≡ Some (t ∷ rest) → (l.first.stamp < t.stamp) ⊎ ((l.first.stamp ≡ t.stamp) × (suc l.core ≤ j))
    before l zero t rest at = absurd (let e : ◌≡◌ {A = List Stamped} [] (t ∷ rest) = cc in cc)
    before l (suc j) t rest at = next (l.before_all j t rest at)
      where
        next : ((l.first.stamp < t.stamp) ⊎ ((l.first.stamp ≡ t.stamp) × (l.core ≤ j))) → (l.first.stamp < t.stamp) ⊎ ((l.first.stamp ≡ t.stamp) × (suc l.core ≤ suc j))
        next (inl lt) = inl lt
        next (inr e) = inr (e.0, omega (arith, e.1))

    by_rest : (NoneLeft hs ⊎ Least hs) → NoneLeft ([] ∷ hs) ⊎ Least ([] ∷ hs)
    by_rest (inl n) = inl (none n)
    by_rest (inr l) = inr (record { core = suc l.core; first = l.first; later = l.later; here = l.here; before_all = before l })
least_of ((s ∷ later) ∷ hs) = by_rest (least_of hs)
  where
    alone : NoneLeft hs → (j : ℕ) (t : Stamped) (rest : List Stamped) → slice_get ((s ∷ later) ∷ hs) j ≡ Some (t ∷ rest) → (s.stamp < t.stamp) ⊎ ((s.stamp ≡ t.stamp) × (0 ≤ j))
    alone n zero t rest at = inr (let e : s ≡ t = cc in ap (λ (x : Stamped). x.stamp) e, omega arith)
    alone n (suc j) t rest at = absurd (let e = n j (t ∷ rest) at in cc)

    mine : (l : Least hs) → s.stamp ≤ l.first.stamp → (j : ℕ) (t : Stamped) (rest : List Stamped) → slice_get ((s ∷ later) ∷ hs) j ≡ Some (t ∷ rest) → (s.stamp < t.stamp) ⊎ ((s.stamp ≡ t.stamp) × (0 ≤ j))
    mine l le zero t rest at = inr (let e : s ≡ t = cc in ap (λ (x : Stamped). x.stamp) e, omega arith)
    mine l le (suc j) t rest at = next (l.before_all j t rest at)
      where
        next : ((l.first.stamp < t.stamp) ⊎ ((l.first.stamp ≡ t.stamp) × (l.core ≤ j))) → (s.stamp < t.stamp) ⊎ ((s.stamp ≡ t.stamp) × (0 ≤ suc j))
        next (inl lt) = inl (omega (arith, le, lt))
        next (inr e) = at_most (less_or_same s.stamp t.stamp (omega (arith, le, e.0)))
          where
            at_most : ((s.stamp < t.stamp) ⊎ (s.stamp ≡ t.stamp)) → (s.stamp < t.stamp) ⊎ ((s.stamp ≡ t.stamp) × (0 ≤ suc j))
            at_most (inl lt) = inl lt
            at_most (inr same) = inr (same, omega arith)

    theirs : (l : Least hs) → l.first.stamp < s.stamp → (j : ℕ) (t : Stamped) (rest : List Stamped) → slice_get ((s ∷ later) ∷ hs) j ≡ Some (t ∷ rest) → (l.first.stamp < t.stamp) ⊎ ((l.first.stamp ≡ t.stamp) × (suc l.core ≤ j))
    theirs l lt zero t rest at = inl (let e : s ≡ t = cc in omega (arith, lt, ap (λ (x : Stamped). x.stamp) e))
    theirs l lt (suc j) t rest at = next (l.before_all j t rest at)
      where
        next : ((l.first.stamp < t.stamp) ⊎ ((l.first.stamp ≡ t.stamp) × (l.core ≤ j))) → (l.first.stamp < t.stamp) ⊎ ((l.first.stamp ≡ t.stamp) × (suc l.core ≤ suc j))
        next (inl less) = inl less
        next (inr e) = inr (e.0, omega (arith, e.1))

    by_rest : (NoneLeft hs ⊎ Least hs) → NoneLeft ((s ∷ later) ∷ hs) ⊎ Least ((s ∷ later) ∷ hs)
    by_rest (inl n) = inr (record { core = 0; first = s; later = later; here = refl; before_all = alone n })
    by_rest (inr l) = inr (by_order (less_or_not s.stamp l.first.stamp))
      where
        by_order : ((s.stamp ≤ l.first.stamp) ⊎ (l.first.stamp < s.stamp)) → Least ((s ∷ later) ∷ hs)
        by_order (inl le) = record { core = 0; first = s; later = later; here = refl; before_all = mine l le }
        by_order (inr lt) = record { core = suc l.core; first = l.first; later = l.later; here = l.here; before_all = theirs l lt }
