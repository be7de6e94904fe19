-- Places that are empty, or whose requests enter elsewhere.
use Rattle.std.proofs.Common.{◌≡◌, ◌≢◌, ◌<◌, ◌≤◌, ◌+◌, ◌⊎◌, inl, inr, ℕ, zero, suc, Option, Some, None, List, [], ◌∷◌, ◌++◌, length, slice_get, slice_set, get_or, refl, ap, sym, ◌∙◌, subst, arith, length-append}
use Rattle.world_model.proofs.Lists.{length-slice_set}
use Rattle.sim_engine.specs.declared.requests.PendingRequest.{PendingRequest}
use Rattle.sim_engine.specs.Pending.{left, FirstAt, NoneAt}
use Rattle.sim_engine.specs.Keeping.{EmptyBefore, NoneBefore, IsWellAsked, IsKept}

pub get_at : {A : Type 0} (xs : List A) (i : ℕ) (x : A) → i < length xs → x ≡ get_or xs i x → slice_get xs i ≡ Some x
get_at [] i x lt h = absurd (omega arith)
get_at (y ∷ xs) zero x lt h = ap (λ z. Some z) (sym h)
get_at (y ∷ xs) (suc i) x lt h = get_at xs i x (omega arith) h

some_is : {A : Type 0} (x y : A) → Some x ≡ Some y → x ≡ y
some_is x y e = cc

less_or_at : (k n : ℕ) → k < n + 1 → (k < n) ⊎ (k ≡ n)
less_or_at k n h = grind arith

pub none_more : (places : List (Option PendingRequest)) (home n : ℕ) (place : Option PendingRequest) → NoneBefore places home n → slice_get places n ≡ Some place → n < length places → ((request : PendingRequest) → place ≡ Some request → request.home ≢ home) → NoneBefore places home (n + 1)
none_more places home n place h at lt none = record { inside = omega arith; none = λ k request less here. by (less_or_at k n less) request here }
  where
    by : {k : ℕ} → (k < n) ⊎ (k ≡ n) → (request : PendingRequest) → slice_get places k ≡ Some (Some request) → request.home ≢ home
    by {k} (inl less) request here = h.none k request less here
    by {k} (inr same) request here = none request (some_is place (Some request) (sym at ∙ (ap (slice_get places) (sym same) ∙ here)))

pub kept_from : (places : List (Option PendingRequest)) (first : ℕ) (firsts : List ℕ) (home from : ℕ) → IsKept places first firsts → (from ≡ 0) ⊎ (slice_get firsts home ≡ Some from) → NoneBefore places home from
kept_from places first firsts home from kept (inl none) = rw none (record { inside = omega arith; none = λ k request less here. absurd (omega arith) })
kept_from places first firsts home from kept (inr at) = kept.homes home from at

-- no request enters at a core that isn't there
pub none_above : (places : List (Option PendingRequest)) (first : ℕ) (firsts : List ℕ) (home : ℕ) → IsKept places first firsts → 64 ≤ home → NoneBefore places home (length places)
none_above places first firsts home kept above = record { inside = omega arith; none = λ k request less here. λ (same : request.home ≡ home). omega (arith, (kept.asked k request here).low, same, above) }

pub kept_note : (places : List (Option PendingRequest)) (first : ℕ) (firsts firsts' : List ℕ) (home place : ℕ) → IsKept places first firsts → NoneBefore places home place
    → ((core from : ℕ) → slice_get firsts' core ≡ Some from → (slice_get firsts core ≡ Some from) ⊎ ((core ≡ home) × (from ≡ place))) → IsKept places first firsts'
kept_note places first firsts firsts' home place kept none noted = record { asked = kept.asked; empty = kept.empty; homes = λ core from at. by core from (noted core from at) }
  where
    by : (core from : ℕ) → (slice_get firsts core ≡ Some from) ⊎ ((core ≡ home) × (from ≡ place)) → NoneBefore places core from
    by core from (inl at) = kept.homes core from at
    by core from (inr same) = rw (same.0, same.1) none

pub set_get : (xs : List ℕ) (i v k x : ℕ) → slice_get (slice_set xs i v) k ≡ Some x → (slice_get xs k ≡ Some x) ⊎ ((k ≡ i) × (x ≡ v))
set_get [] i v k x h = absurd cc
set_get (y ∷ xs) zero v zero x h = inr (refl, cc)
set_get (y ∷ xs) zero v (suc k) x h = inl h
set_get (y ∷ xs) (suc i) v zero x h = inl h
set_get (y ∷ xs) (suc i) v (suc k) x h = by (set_get xs i v k x h)
  where
    by : (slice_get xs k ≡ Some x) ⊎ ((k ≡ i) × (x ≡ v)) → (slice_get (y ∷ xs) (suc k) ≡ Some x) ⊎ ((suc k ≡ suc i) × (x ≡ v))
    by (inl e) = inl e
    by (inr e) = inr (ap suc e.0, e.1)

-- One request more, or one less

pushed_get : (xs : List (Option PendingRequest)) (x : Option PendingRequest) (k : ℕ) (r : PendingRequest) → slice_get (xs ++ x ∷ []) k ≡ Some (Some r) → (slice_get xs k ≡ Some (Some r)) ⊎ ((k ≡ length xs) × (x ≡ Some r))
pushed_get [] x zero r h = inr (refl, cc)
pushed_get [] x (suc k) r h = absurd cc
pushed_get (y ∷ xs) x zero r h = inl h
pushed_get (y ∷ xs) x (suc k) r h = by (pushed_get xs x k r h)
  where
    by : (slice_get xs k ≡ Some (Some r)) ⊎ ((k ≡ length xs) × (x ≡ Some r)) → (slice_get (y ∷ xs) (suc k) ≡ Some (Some r)) ⊎ ((suc k ≡ length (y ∷ xs)) × (x ≡ Some r))
    by (inl e) = inl e
    by (inr e) = inr (ap suc e.0, e.1)

removed_get : (xs : List (Option PendingRequest)) (i k : ℕ) (r : PendingRequest) → slice_get (slice_set xs i None) k ≡ Some (Some r) → slice_get xs k ≡ Some (Some r)
removed_get [] i k r h = absurd cc
removed_get (x ∷ xs) zero zero r h = absurd cc
removed_get (x ∷ xs) zero (suc k) r h = h
removed_get (x ∷ xs) (suc i) zero r h = h
removed_get (x ∷ xs) (suc i) (suc k) r h = removed_get xs i k r h

module _ (places : List (Option PendingRequest)) (first : ℕ) (firsts : List ℕ) (kept : IsKept places first firsts) where
  pub kept_push : (request : PendingRequest) → IsWellAsked request → IsKept (places ++ Some request ∷ []) first firsts
  kept_push request asked = record {
    asked = λ k r at. by_asked k r (pushed_get places (Some request) k r at);
    empty = record { inside = omega (arith, kept.empty.inside, long); empty = λ k r less at. by_empty k r less (pushed_get places (Some request) k r at) };
    homes = λ home from at. let none = kept.homes home from at in
        record { inside = omega (arith, none.inside, long); none = λ k r less here. by_home home from none k r less (pushed_get places (Some request) k r here) };
  }
    where
      long : length (places ++ Some request ∷ []) ≡ length places + 1
      long = length-append places (Some request ∷ [])

      by_asked : (k : ℕ) (r : PendingRequest) → (slice_get places k ≡ Some (Some r)) ⊎ ((k ≡ length places) × (Some request ≡ Some r)) → IsWellAsked r
      by_asked k r (inl e) = kept.asked k r e
      by_asked k r (inr e) = let same : request ≡ r = some_is request r e.1 in subst IsWellAsked same asked

      by_empty : (k : ℕ) (r : PendingRequest) → k < first → (slice_get places k ≡ Some (Some r)) ⊎ ((k ≡ length places) × (Some request ≡ Some r)) → ⊥
      by_empty k r less (inl e) = kept.empty.empty k r less e
      by_empty k r less (inr e) = omega (arith, less, e.0, kept.empty.inside)

      by_home : (home from : ℕ) → NoneBefore places home from → (k : ℕ) (r : PendingRequest) → k < from → (slice_get places k ≡ Some (Some r)) ⊎ ((k ≡ length places) × (Some request ≡ Some r)) → r.home ≢ home
      by_home home from none k r less (inl e) = none.none k r less e
      by_home home from none k r less (inr e) = absurd (omega (arith, less, e.0, none.inside))

  pub kept_remove : (place : ℕ) → IsKept (slice_set places place None) first firsts
  kept_remove place = record {
    asked = λ k r at. kept.asked k r (removed_get places place k r at);
    empty = record { inside = omega (arith, kept.empty.inside, long); empty = λ k r less at. kept.empty.empty k r less (removed_get places place k r at) };
    homes = λ home from at. let none = kept.homes home from at in
        record { inside = omega (arith, none.inside, long); none = λ k r less here. none.none k r less (removed_get places place k r here) };
  }
    where
      long : length (slice_set places place None) ≡ length places
      long = length-slice_set places place None

-- The requests that are left

tail_none : (place : Option PendingRequest) (places : List (Option PendingRequest)) (home n : ℕ) → NoneBefore (place ∷ places) home (suc n) → NoneBefore places home n
tail_none place places home n h = record { inside = omega (arith, h.inside); none = λ k request less here. h.none (suc k) request (omega arith) here }

tail_empty : (place : Option PendingRequest) (places : List (Option PendingRequest)) (n : ℕ) → EmptyBefore (place ∷ places) (suc n) → EmptyBefore places n
tail_empty place places n h = record { inside = omega (arith, h.inside); empty = λ k request less here. h.empty (suc k) request (omega arith) here }

pub none_left : (places : List (Option PendingRequest)) (home : ℕ) → NoneBefore places home (length places) → NoneAt home (left places)
none_left [] home h = cc
none_left (None ∷ places) home h = none_left places home (tail_none None places home (length places) h)
none_left (Some request ∷ places) home h = (h.none 0 request (omega arith) refl, none_left places home (tail_none (Some request) places home (length places) h))

pub first_left : (places : List (Option PendingRequest)) (home place : ℕ) (request : PendingRequest) → slice_get places place ≡ Some (Some request) → request.home ≡ home → NoneBefore places home place
    → FirstAt home (left places) request (left (slice_set places place None))
first_left [] home place request at here h = absurd cc
first_left (None ∷ places) home zero request at here h = absurd cc
first_left (Some other ∷ places) home zero request at here h =
    let same : other ≡ request = cc at in
    record { earlier = []; later = left places; is = ap (λ (r : PendingRequest). r ∷ left places) same; at_home = here; none_earlier = cc; without = refl }
first_left (None ∷ places) home (suc place) request at here h = first_left places home place request at here (tail_none None places home place h)
first_left (Some other ∷ places) home (suc place) request at here h =
    let rest = first_left places home place request at here (tail_none (Some other) places home place h) in
    record {
      earlier = other ∷ rest.earlier;
      later = rest.later;
      is = ap (λ (rs : List PendingRequest). other ∷ rs) rest.is;
      at_home = here;
      none_earlier = (h.none 0 other (omega arith) refl, rest.none_earlier);
      without = ap (λ (rs : List PendingRequest). other ∷ rs) rest.without;
    }

pub empty_left : (places : List (Option PendingRequest)) → EmptyBefore places (length places) → left places ≡ []
empty_left [] h = refl
empty_left (None ∷ places) h = empty_left places (tail_empty None places (length places) h)
empty_left (Some request ∷ places) h = absurd (h.empty 0 request (omega arith) refl)

pub next_left : (places : List (Option PendingRequest)) (place : ℕ) (request : PendingRequest) → slice_get places place ≡ Some (Some request) → EmptyBefore places place → left places ≡ request ∷ left (slice_set places place None)
next_left [] place request at h = absurd cc
next_left (None ∷ places) zero request at h = absurd cc
next_left (Some other ∷ places) zero request at h = let same : other ≡ request = cc at in ap (λ (r : PendingRequest). r ∷ left places) same
next_left (None ∷ places) (suc place) request at h = next_left places place request at (tail_empty None places place h)
next_left (Some other ∷ places) (suc place) request at h = absurd (h.empty 0 other (omega arith) refl)

pub left_push : (places : List (Option PendingRequest)) (request : PendingRequest) → left (places ++ Some request ∷ []) ≡ left places ++ request ∷ []
left_push [] request = refl
left_push (None ∷ places) request = left_push places request
left_push (Some other ∷ places) request = ap (λ (rs : List PendingRequest). other ∷ rs) (left_push places request)
