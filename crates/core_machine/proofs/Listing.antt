-- Cores as one list, one after another.
use Rattle.std.proofs.Common.{◌≡◌, ◌<◌, ◌≤◌, ◌+◌, ◌⊎◌, inl, inr, ℕ, zero, suc, All, Some, List, [], ◌∷◌, length, map, slice_get, slice_index_or, slice_set, refl, sym, ap, subst, ◌∙◌, arith}
use Rattle.std.proofs.lemmas.Option.{slice_get_within, slice_get-get_or}
use Rattle.world_model.proofs.Lists.{get-set_same, get-set_other, length-slice_set, same_or_not}
use Rattle.core_machine.specs.Machines.{RingCore}
use Rattle.core_machine.specs.declared.halt.Halt.{Halt}
use Rattle.core_machine.specs.Rounds.{Keeps, GoesOn, AllGoOn, AllKeep, HaltsAmong, Halts, CoreRests, AreAtRest, HasAllDecided}
use Rattle.core_machine.proofs.Turning.{keeps_itself}

-- the cores of a list that has a first one
pub whole_of : {A : Type 0} (f : A → RingCore) (xs : List A) (x : A) (rest : List A) → xs ≡ x ∷ rest → map f xs ≡ f x ∷ map f rest
whole_of {A} f xs x rest e = ap (λ (l : List A). map f l) e

-- a core that was indexed
pub get_core : {A : Type 0} (f : A → RingCore) (xs : List A) (k : ℕ) (x : A) → slice_get xs k ≡ Some x → slice_get (map f xs) k ≡ Some (f x)
get_core f [] k x e = absurd cc
get_core f (y ∷ ys) zero x e = let same : y ≡ x = cc in ap (λ z. Some (f z)) same
get_core f (y ∷ ys) (suc k) x e = get_core f ys k x e

below_or_not : (a b : ℕ) → (a < b) ⊎ (b ≤ a)
below_or_not zero zero = inr (omega arith)
below_or_not zero (suc b) = inl (omega arith)
below_or_not (suc a) zero = inr (omega arith)
below_or_not (suc a) (suc b) = elim (below_or_not a b) [ inl h ↦ inl (omega (arith, h)) | inr h ↦ inr (omega (arith, h)) ]

map_length : {A : Type 0} (f : A → RingCore) (xs : List A) → length (map f xs) ≡ length xs
map_length f [] = refl
map_length f (x ∷ xs) = ap suc (map_length f xs)

pub indexed_core : {A : Type 0} (f : A → RingCore) (xs : List A) (k : ℕ) (d : A) → k < length xs → slice_get (map f xs) k ≡ Some (f (slice_index_or xs k d))
indexed_core f xs k d lt = get_core f xs k (slice_index_or xs k d) (slice_get-get_or xs k d lt)

-- as many cores as there were
pub map_end : {A : Type 0} (f : A → RingCore) (xs : List A) (k : ℕ) → length xs ≤ k → length (map f xs) ≤ k
map_end f xs k le = omega (arith, le, map_length f xs)

-- one of a list changed so, and the others stayed
pub one_set : {A : Type 0} (R : A → A → Type 0) (old : List A) (place : ℕ) (core becomes : A) → slice_get old place ≡ Some core → R core becomes → ((c : A) → R c c)
    → (i : ℕ) (c d : A) → slice_get old i ≡ Some c → slice_get (slice_set old place becomes) i ≡ Some d → R c d
one_set {A} R old place core becomes at changed itself i c d at_c at_d = by_place (same_or_not place i)
  where
    by_place : (place ≡ i) ⊎ (place ≡ i → ⊥) → R c d
    by_place (inl e) =
        let same_c : core ≡ c = cc (at, at_c, e) in
        let set = get-set_same old place becomes core at in
        let same_d : becomes ≡ d = cc (set, at_d, e) in
        subst (λ (x : A). R x d) same_c (subst (λ (x : A). R core x) same_d changed)
    by_place (inr ne) =
        let there = get-set_other old place i becomes ne in
        let same : c ≡ d = cc (at_c, at_d, there) in
        subst (λ (x : A). R c x) same (itself c)

-- Turned one after another

-- so many cores took a turn that goes on, and the others none
pub record Turned (count : ℕ) (old new : List RingCore) : Type 0 where
  pub all : length new ≡ length old
  pub done : (i : ℕ) (c d : RingCore) → i < count → slice_get old i ≡ Some c → slice_get new i ≡ Some d → GoesOn c d
  pub still : (i : ℕ) (c d : RingCore) → count ≤ i → slice_get old i ≡ Some c → slice_get new i ≡ Some d → d ≡ c

pub turned_none : (cores : List RingCore) → Turned 0 cores cores
turned_none cores = record { all = refl; done = λ i c d lt. absurd (omega (arith, lt)); still = λ i c d le at at'. cc }

-- the next core took one
module _ (k : ℕ) (old new : List RingCore) (c d : RingCore) (was : Turned k old new) (at : slice_get new k ≡ Some c) where
  now : slice_get (slice_set new k d) k ≡ Some d
  now = get-set_same new k d c at

  same_first : (x : RingCore) → slice_get old k ≡ Some x → c ≡ x
  same_first x at_x = was.still k x c (omega arith) at_x at

  pub turned_more : GoesOn c d → Turned (k + 1) old (slice_set new k d)
  turned_more goes = record {
    all = length-slice_set new k d ∙ was.all;
    done = λ i x y lt at_x at_y. by_place i x y lt at_x at_y (same_or_not k i);
    still = λ i x y le at_x at_y. was.still i x y (omega (arith, le)) at_x (sym (get-set_other new k i d (λ e. omega (arith, e, le))) ∙ at_y);
  }
    where
      by_place : (i : ℕ) (x y : RingCore) → i < k + 1 → slice_get old i ≡ Some x → slice_get (slice_set new k d) i ≡ Some y → ((k ≡ i) ⊎ (k ≡ i → ⊥)) → GoesOn x y
      by_place i x y lt at_x at_y (inl e) =
          let first : c ≡ x = same_first x (subst (λ (n : ℕ). slice_get old n ≡ Some x) (sym e) at_x) in
          let there : slice_get (slice_set new k d) k ≡ Some y = subst (λ (n : ℕ). slice_get (slice_set new k d) n ≡ Some y) (sym e) at_y in
          let here = now in
          let last : d ≡ y = cc in
          subst (λ (z : RingCore). GoesOn z y) first (subst (λ (z : RingCore). GoesOn c z) last goes)
      by_place i x y lt at_x at_y (inr n) = was.done i x y (omega (arith, n, lt)) at_x (sym (get-set_other new k i d n) ∙ at_y)

  pub halted_keep : Keeps c d → AllKeep old (slice_set new k d)
  halted_keep keeps i x y at_x at_y = by_place (same_or_not k i)
    where
      others : (k ≡ i → ⊥) → slice_get new i ≡ Some y
      others n = sym (get-set_other new k i d n) ∙ at_y

      by_order : (k ≡ i → ⊥) → ((i < k) ⊎ (k ≤ i)) → Keeps x y
      by_order n (inl lt) = (was.done i x y lt at_x (others n)).keeps
      by_order n (inr le) = subst (λ (z : RingCore). Keeps x z) (sym (was.still i x y le at_x (others n))) (keeps_itself x)

      by_place : ((k ≡ i) ⊎ (k ≡ i → ⊥)) → Keeps x y
      by_place (inl e) =
          let first : c ≡ x = same_first x (subst (λ (n : ℕ). slice_get old n ≡ Some x) (sym e) at_x) in
          let there : slice_get (slice_set new k d) k ≡ Some y = subst (λ (n : ℕ). slice_get (slice_set new k d) n ≡ Some y) (sym e) at_y in
          let here = now in
          let last : d ≡ y = cc in
          subst (λ (z : RingCore). Keeps z y) first (subst (λ (z : RingCore). Keeps c z) last keeps)
      by_place (inr n) = by_order n (below_or_not i k)

  pub halted_at : (lists : Type 0) (number : ℕ) (why : Halt) → d.number ≡ number → Halts lists why d → HaltsAmong lists number why (slice_set new k d)
  halted_at lists number why is halts = record { place = k; halted = d; there = now; number_is = is; halts = halts }

-- all took one
pub all_turned : (k : ℕ) (old new : List RingCore) → length new ≤ k → Turned k old new → AllGoOn old new
all_turned k old new end was = record { all = was.all; each = λ i c d at at'. was.done i c d (let inside = slice_get_within new i d at' in omega (arith, inside, end)) at at' }

pub turned_keep : (k : ℕ) (old new : List RingCore) → length new ≤ k → Turned k old new → AllKeep old new
turned_keep k old new end was i c d at at' = ((all_turned k old new end was).each i c d at at').keeps

-- At rest

-- the first so many are at rest
pub record Resting (count : ℕ) (cores : List RingCore) : Type 0 where
  pub rest : (i : ℕ) (c : RingCore) → i < count → slice_get cores i ≡ Some c → CoreRests c
  pub decided : (i : ℕ) (c : RingCore) → i < count → slice_get cores i ≡ Some c → HasAllDecided c

pub resting_none : (cores : List RingCore) → Resting 0 cores
resting_none cores = record { rest = λ i c lt. absurd (omega (arith, lt)); decided = λ i c lt. absurd (omega (arith, lt)) }

one_more : (P : RingCore → Type 0) (k : ℕ) (cores : List RingCore) (c : RingCore) → slice_get cores k ≡ Some c → P c → ((i : ℕ) (x : RingCore) → i < k → slice_get cores i ≡ Some x → P x)
    → (i : ℕ) (x : RingCore) → i < k + 1 → slice_get cores i ≡ Some x → P x
one_more P k cores c at here before i x lt at_x = by_place (same_or_not k i)
  where
    by_place : ((k ≡ i) ⊎ (k ≡ i → ⊥)) → P x
    by_place (inl e) =
        let there : slice_get cores k ≡ Some x = subst (λ (n : ℕ). slice_get cores n ≡ Some x) (sym e) at_x in
        let same : c ≡ x = cc in
        subst P same here
    by_place (inr n) = before i x (omega (arith, n, lt)) at_x

pub resting_more : (k : ℕ) (cores : List RingCore) (c : RingCore) → slice_get cores k ≡ Some c → CoreRests c → HasAllDecided c → Resting k cores → Resting (k + 1) cores
resting_more k cores c at rests decided was = record { rest = one_more CoreRests k cores c at rests was.rest; decided = one_more HasAllDecided k cores c at decided was.decided }

each_of : (P : RingCore → Type 0) (k : ℕ) (cores : List RingCore) → length cores ≤ k → ((i : ℕ) (x : RingCore) → i < k → slice_get cores i ≡ Some x → P x) → All P cores
each_of P k cores end each i d lt = each i _ (omega (arith, lt, end)) (slice_get-get_or cores i d lt)

pub all_resting : (k : ℕ) (cores : List RingCore) → length cores ≤ k → Resting k cores → AreAtRest cores × All HasAllDecided cores
all_resting k cores end was = (each_of CoreRests k cores end was.rest, each_of HasAllDecided k cores end was.decided)

-- one that is not at rest is among them
pub one_restless : (cores : List RingCore) (k : ℕ) (c : RingCore) → slice_get cores k ≡ Some c → AreAtRest cores → CoreRests c
one_restless cores k c at all =
    let lt = slice_get_within cores k c at in
    let read = slice_get-get_or cores k c lt in
    let same : slice_index_or cores k c ≡ c = cc in
    subst CoreRests same (all k c lt)
