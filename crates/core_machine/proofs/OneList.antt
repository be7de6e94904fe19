-- The least of the events that come first is the next of the one list.
use Rattle.std.proofs.Common.{slice_index_or, ◌≡◌, ◌<◌, ◌≤◌, ◌⊎◌, inl, inr, ℕ, zero, suc, Some, List, [], ◌∷◌, ◌++◌, length, slice_get, slice_set, refl, sym, ap, subst, ◌∙◌, arith, append_assoc}
use Rattle.std.proofs.lemmas.List.{length-map, map-append, append-nil}
use Rattle.std.specs.Borrow.{Bor}
use Rattle.world_events.specs.declared.event.Done.{Done}
use Rattle.world_model.proofs.Lists.{get-set_same, get-set_other, length-slice_set, same_or_not}
use Rattle.world_histories.specs.declared.history.Stamped.{Stamped}
use Rattle.world_histories.specs.Merging.{core_of, part, IsBefore, IsInOrder, Merged, listed, as_listed}
use Rattle.world_histories.proofs.Lists.{size, size_set}
use Rattle.world_histories.proofs.Parts.{part_own, part_other, placed}
use Rattle.world_histories.proofs.Merge.{one_run, run_of, first_of_core, rest_in_order}
use Rattle.core_machine.specs.Merges.{ListsAll, ListsRuns, shown_histories, NoneLeft, IsLeast}
use Rattle.core_machine.proofs.Least.{shown_at}
use Rattle.std.proofs.lemmas.Option.{slice_get_within}
use Rattle.filter_table.proofs.Positions.{get_at}

heads : (x y : Stamped) (xs ys : List Stamped) → x ∷ xs ≡ y ∷ ys → x ≡ y
heads x y xs ys e = cc

not_before : (s x : Stamped) (core j : ℕ) → core_of s.done.event ≡ core → core_of x.done.event ≡ j → ((s.stamp < x.stamp) ⊎ ((s.stamp ≡ x.stamp) × (core ≤ j))) → IsBefore x s → ⊥
not_before s x core j is is_x (inl a) (inl b) = omega (arith, a, b)
not_before s x core j is is_x (inl a) (inr b) = omega (arith, a, b.0)
not_before s x core j is is_x (inr a) (inl b) = omega (arith, a.0, b)
not_before s x core j is is_x (inr a) (inr b) = omega (arith, a.1, b.1, is, is_x)

-- what is left of the list belongs to what is left of the histories
pub record IsRest (left : List (List Stamped)) (rest : List Stamped) : Type 0 where
  pub in_order : IsInOrder rest
  pub of_each : (core : ℕ) (h : List Stamped) → slice_get left core ≡ Some h → part core rest ≡ h
  pub of_cores : (n : ℕ) (x : Stamped) → slice_get rest n ≡ Some x → core_of x.done.event < length left

least_is_first : (rest : List Stamped) (left : List (List Stamped)) (core : ℕ) → IsRest left rest → (l : IsLeast left core) → (rest' : List Stamped) × (rest ≡ l.event ∷ rest')
least_is_first [] left core r l = absurd (let e = r.of_each core (l.event ∷ l.later) l.here in cc)
least_is_first (x ∷ xs) left core r l = by_core (same_or_not (core_of x.done.event) core)
  where
    mine : part core (x ∷ xs) ≡ l.event ∷ l.later
    mine = r.of_each core (l.event ∷ l.later) l.here

    is_core : core_of l.event.done.event ≡ core
    is_core = (placed core (x ∷ xs) [] l.event l.later mine).is_core

    own : part (core_of x.done.event) (x ∷ xs) ≡ x ∷ part (core_of x.done.event) xs
    own = part_own (core_of x.done.event) x xs refl

    at : (h : List Stamped) × (slice_get left (core_of x.done.event) ≡ Some h)
    at = get_at left (core_of x.done.event) (r.of_cores 0 x refl)

    its : slice_get left (core_of x.done.event) ≡ Some (x ∷ part (core_of x.done.event) xs)
    its = at.1 ∙ ap (λ (h : List Stamped). Some h) (sym (r.of_each (core_of x.done.event) at.0 at.1) ∙ own)

    by_core : ((core_of x.done.event ≡ core) ⊎ (core_of x.done.event ≡ core → ⊥)) → (rest' : List Stamped) × ((x ∷ xs) ≡ l.event ∷ rest')
    by_core (inl e) =
        let same : x ≡ l.event = heads x l.event (part core xs) l.later (sym (part_own core x xs e) ∙ mine) in
        (xs, ap (λ (y : Stamped). y ∷ xs) same)
    by_core (inr ne) = absurd (not_before l.event x core (core_of x.done.event) is_core refl (l.before_all (core_of x.done.event) x (part (core_of x.done.event) xs) its)
        (first_of_core x l.event xs l.later r.in_order (λ e. ne (e ∙ is_core)) (subst (λ (k : ℕ). part k (x ∷ xs) ≡ l.event ∷ l.later) (sym is_core) mine)))

rest_after : (rest : List Stamped) (left : List (List Stamped)) (core : ℕ) (event : Stamped) (later : List Stamped) → slice_get left core ≡ Some (event ∷ later) → IsRest left (event ∷ rest) → IsRest (slice_set left core later) rest
rest_after rest left core event later here r = record {
  in_order = rest_in_order event rest r.in_order;
  of_each = λ k h at. by_core k h at (same_or_not core k);
  of_cores = λ n x at. omega (arith, r.of_cores (suc n) x at, length-slice_set left core later);
}
  where
    mine : part core (event ∷ rest) ≡ event ∷ later
    mine = r.of_each core (event ∷ later) here

    is_core : core_of event.done.event ≡ core
    is_core = (placed core (event ∷ rest) [] event later mine).is_core

    by_core : (k : ℕ) (h : List Stamped) → slice_get (slice_set left core later) k ≡ Some h → ((core ≡ k) ⊎ (core ≡ k → ⊥)) → part k rest ≡ h
    by_core k h at (inl e) =
        let at' : slice_get (slice_set left core later) core ≡ Some h = subst (λ (n : ℕ). slice_get (slice_set left core later) n ≡ Some h) (sym e) at in
        let set = get-set_same left core later (event ∷ later) here in
        let is : later ≡ h = cc in
        let own : event ∷ part core rest ≡ event ∷ later = sym (part_own core event rest is_core) ∙ mine in
        let same : part core rest ≡ later = cc in
        subst (λ (n : ℕ). part n rest ≡ h) e (same ∙ is)
    by_core k h at (inr ne) = sym (part_other k event rest (λ e. ne (sym is_core ∙ e))) ∙ r.of_each k h (sym (get-set_other left core k later ne) ∙ at)

-- these events of the list are done
pub record Merging (merged : List Stamped) (left : List (List Stamped)) (list : List Done) : Type 0 where
  pub done : List Stamped
  pub rest : List Stamped
  pub split : merged ≡ done ++ rest
  pub list_is : list ≡ as_listed done
  pub is_rest : IsRest left rest

-- whatever list the events make
abbrev pub MergesSo : List (List Stamped) → List (List Stamped) → List Done → Type 0
MergesSo all left list = (core0 : List Stamped) (others : List (List Stamped)) (merged : List Stamped) → all ≡ core0 ∷ others → Merged core0 others merged → Merging merged left list

pub merges_next : (all left : List (List Stamped)) (list : List Done) (core : ℕ) (l : IsLeast left core) → MergesSo all left list → MergesSo all (slice_set left core l.later) (list ++ listed l.event ∷ [])
merges_next all left list core l was = λ core0 others merged e m.
    let w = was core0 others merged e m in
    let f = least_is_first w.rest left core w.is_rest l in
    record {
      done = w.done ++ l.event ∷ [];
      rest = f.0;
      split = w.split ∙ ap (λ (r : List Stamped). w.done ++ r) f.1 ∙ sym (append_assoc w.done (l.event ∷ []) f.0);
      list_is = ap (λ (d : List Done). d ++ listed l.event ∷ []) w.list_is ∙ sym (map-append listed w.done (l.event ∷ []));
      is_rest = rest_after f.0 left core l.event l.later l.here (subst (λ (r : List Stamped). IsRest left r) f.1 w.is_rest);
    }

no_rest : (left : List (List Stamped)) (rest : List Stamped) → NoneLeft left → IsRest left rest → rest ≡ []
no_rest left [] none r = refl
no_rest left (x ∷ xs) none r =
    let at = get_at left (core_of x.done.event) (r.of_cores 0 x refl) in
    absurd (let e : x ∷ part (core_of x.done.event) xs ≡ [] = sym (part_own (core_of x.done.event) x xs refl) ∙ (r.of_each (core_of x.done.event) at.0 at.1 ∙ none (core_of x.done.event) at.0 at.1) in cc)

pub merged_all : (all left : List (List Stamped)) (list : List Done) → NoneLeft left → MergesSo all left list → ListsAll all list
merged_all all left list none was core0 others merged e m =
    let w = was core0 others merged e m in
    let whole : w.done ≡ merged = sym (w.split ∙ ap (λ (r : List Stamped). w.done ++ r) (no_rest left w.rest none w.is_rest) ∙ append-nil w.done) in
    w.list_is ∙ ap as_listed whole

pub runs : (all : List (List Stamped)) (list : List Done) → ListsAll all list → ListsRuns all list
runs all list lists = λ limits budget budgets core0 others end ends e h.
    let o = one_run limits budget budgets core0 others end ends h in
    record { merged = o.merged; is_merged = o.is_merged; is_listed = lists core0 others o.merged e o.is_merged; run = run_of limits budget budgets core0 others end ends o.merged h o.is_merged }

-- a slice is put in place of another
pub shown_set : (left : List (Bor (List Stamped))) (core : ℕ) (h : Bor (List Stamped)) → shown_histories (slice_set left core h) ≡ slice_set (shown_histories left) core h.now
shown_set [] core h = refl
shown_set (x ∷ xs) zero h = refl
shown_set (x ∷ xs) (suc core) h = ap (λ (l : List (List Stamped)). x.now ∷ l) (shown_set xs core h)

-- the first event is split off the slice of its core
pub record SplitsOff (left : List (Bor (List Stamped))) (core : ℕ) (l : IsLeast (shown_histories left) core) (event : Stamped) (later : Bor (List Stamped)) : Type 0 where
  pub event_is : event ≡ l.event
  pub left_is : shown_histories (slice_set left core later) ≡ slice_set (shown_histories left) core l.later

pub splits_off : (left : List (Bor (List Stamped))) (core : ℕ) (l : IsLeast (shown_histories left) core) (h later : Bor (List Stamped)) (event : Stamped) → h ≡ slice_index_or left core h → h.now ≡ event ∷ later.now → SplitsOff left core l event later
splits_off left core l h later event e split =
    let inside : core < length left = omega (arith, slice_get_within (shown_histories left) core (l.event ∷ l.later) l.here, length-map left (λ (b : Bor (List Stamped)). b.now)) in
    let at : Some (event ∷ later.now) ≡ Some (l.event ∷ l.later) = sym (shown_at left core h e inside ∙ ap (λ (x : List Stamped). Some x) split) ∙ l.here in
    let first : event ≡ l.event = cc in
    let rest : later.now ≡ l.later = cc in
    record { event_is = first; left_is = shown_set left core later ∙ ap (λ (x : List Stamped). slice_set (shown_histories left) core x) rest }

pub merges_step : (all : List (List Stamped)) (left : List (Bor (List Stamped))) (list : List Done) (core : ℕ) (l : IsLeast (shown_histories left) core) (event : Stamped) (later : Bor (List Stamped)) → SplitsOff left core l event later
    → MergesSo all (shown_histories left) list → MergesSo all (shown_histories (slice_set left core later)) (list ++ listed event ∷ [])
merges_step all left list core l event later s was =
    let next = merges_next all (shown_histories left) list core l was in
    rw (s.left_is, s.event_is) next

pub size_step : (left : List (Bor (List Stamped))) (core : ℕ) (l : IsLeast (shown_histories left) core) (event : Stamped) (later : Bor (List Stamped)) → SplitsOff left core l event later
    → size (shown_histories (slice_set left core later)) < size (shown_histories left)
size_step left core l event later s = omega (arith, ap size s.left_is, size_set (shown_histories left) core l.event l.later l.here)
