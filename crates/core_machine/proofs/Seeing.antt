-- Cores that are looked at beside core 0, one after another.
use Rattle.std.proofs.Common.{◌≡◌, ◌≢◌, ◌<◌, ◌≤◌, ◌+◌, ◌⊎◌, inl, inr, ℕ, Some, List, length, slice_get, slice_set, refl, sym, ap, subst, ◌∙◌, arith}
use Rattle.std.proofs.lemmas.Option.{slice_get_within}
use Rattle.world_model.proofs.Lists.{get-set_same, get-set_other, length-slice_set, same_or_not}
use Rattle.filter_table.proofs.Positions.{get_at}
use Rattle.core_links.specs.Views.{LinkView}
use Rattle.core_links.specs.Flows.{Flow, IsExact, LooksAt, ring_flow, ring_capacity}
use Rattle.core_links.specs.RingSlots.{own_of, ring_view, AreJoinedLinks}
use Rattle.core_links.specs.RingLaws.{SameLinks-itself}
use Rattle.core_machine.specs.Machines.{RingCore}
use Rattle.core_machine.specs.Looking.{IsLookedAt, AreLookedAt, TookInOrder, EachTookInOrder, AreExactCores, EachIsExact, HaveOwnLinks, LooksOnlyAt}
use Rattle.core_machine.proofs.Agreeing.{same_view, took_before}
use Rattle.core_machine.proofs.Joined.{looked_itself, looked_along}
use Rattle.core_machine.proofs.Machines.{joined_links, ring_same}

exact_as : (k k' : ℕ) (v v' w w' : LinkView) (f f' g g' : Flow) → k' ≡ k → v' ≡ v → w' ≡ w → f' ≡ f → g' ≡ g → IsExact k v w f g → IsExact k' v' w' f' g'
exact_as k k' v v' w w' f f' g g' ek ev ew ef eg x = rw (ek, ev, ew, ef, eg) x

-- two cores that were looked at are exact still where others were looked at since
exact_later : (first first' other : RingCore) → IsLookedAt first first' → ring_flow first'.links (own_of other.links) ≡ ring_flow first.links (own_of other.links) → AreExactCores first other → AreExactCores first' other
exact_later first first' other l same x = (
  exact_as _ _ _ _ _ _ _ _ _ _ (ring_same first.links first'.links (own_of other.links) l.links) (same_view _ _ (l.views (own_of other.links))) (ap (λ (n : ℕ). ring_view other.links n) l.links.own) same (ap (λ (n : ℕ). ring_flow other.links n) l.links.own) x.0,
  exact_as _ _ _ _ _ _ _ _ _ _ (ap (λ (n : ℕ). ring_capacity other.links n) l.links.own) (ap (λ (n : ℕ). ring_view other.links n) l.links.own) (same_view _ _ (l.views (own_of other.links))) (ap (λ (n : ℕ). ring_flow other.links n) l.links.own) same x.1,
)

-- the first so many of the others were looked at, and core 0 beside them
pub record Looking (count : ℕ) (first first' : RingCore) (old new : List RingCore) : Type 0 where
  pub all : length new ≡ length old
  pub core0 : IsLookedAt first first'
  pub looked : (i : ℕ) (c d : RingCore) → slice_get old i ≡ Some c → slice_get new i ≡ Some d → IsLookedAt c d
  pub still : (i : ℕ) (c d : RingCore) → count ≤ i → slice_get old i ≡ Some c → slice_get new i ≡ Some d → d ≡ c
  pub took : (i : ℕ) (c : RingCore) → i < count → slice_get old i ≡ Some c → TookInOrder first c
  pub exact : (i : ℕ) (d : RingCore) → i < count → slice_get new i ≡ Some d → AreExactCores first' d
  pub only : (p : ℕ) → ((i : ℕ) (c : RingCore) → i < count → slice_get old i ≡ Some c → p ≢ own_of c.links) → ring_flow first'.links p ≡ ring_flow first.links p

pub looking_none : (first : RingCore) (others : List RingCore) → Looking 0 first first others others
looking_none first others = record {
  all = refl;
  core0 = looked_itself first;
  looked = λ i c d at at'. (let same : c ≡ d = cc in subst (λ (x : RingCore). IsLookedAt c x) same (looked_itself c));
  still = λ i c d le at at'. cc;
  took = λ i c lt. absurd (omega (arith, lt));
  exact = λ i d lt. absurd (omega (arith, lt));
  only = λ p apart. refl;
}

module _ (k : ℕ) (first mid : RingCore) (old new : List RingCore) (c : RingCore) (was : Looking k first mid old new) (at : slice_get new k ≡ Some c) where
  -- the next core is as it was
  was_there : slice_get old k ≡ Some c
  was_there =
      let inside = slice_get_within new k c at in
      let x = get_at old k (let long = was.all in omega (arith, inside, long)) in
      x.1 ∙ ap (λ (y : RingCore). Some y) (sym (was.still k x.0 c (omega arith) x.1 at))

  -- its links are joined to those of core 0 still
  pub next_joined : ((i : ℕ) (x : RingCore) → slice_get old i ≡ Some x → AreJoinedLinks first.links x.links) → AreJoinedLinks mid.links c.links
  next_joined joined = joined_links first.links mid.links c.links c.links was.core0.links (SameLinks-itself c.links) (joined k c was_there)

  module _ (own : HaveOwnLinks old) (first' d : RingCore) (l : IsLookedAt mid first') (m : IsLookedAt c d) (took : TookInOrder mid c) (exact : AreExactCores first' d) (only : LooksAt (own_of c.links) mid.links first'.links) where
    now : slice_get (slice_set new k d) k ≡ Some d
    now = get-set_same new k d c at

    there_now : (i : ℕ) (y : RingCore) → k ≡ i → slice_get (slice_set new k d) i ≡ Some y → d ≡ y
    there_now i y e at_y = let here = now in let there : slice_get (slice_set new k d) k ≡ Some y = subst (λ (n : ℕ). slice_get (slice_set new k d) n ≡ Some y) (sym e) at_y in cc

    there_then : (i : ℕ) (x : RingCore) → k ≡ i → slice_get old i ≡ Some x → c ≡ x
    there_then i x e at_x = let here = was_there in let there : slice_get old k ≡ Some x = subst (λ (n : ℕ). slice_get old n ≡ Some x) (sym e) at_x in cc

    elsewhere : (i : ℕ) (y : RingCore) → (k ≡ i → ⊥) → slice_get (slice_set new k d) i ≡ Some y → slice_get new i ≡ Some y
    elsewhere i y n at_y = sym (get-set_other new k i d n) ∙ at_y

    -- the links of another are to another core
    apart : (i : ℕ) (y : RingCore) → (k ≡ i → ⊥) → slice_get new i ≡ Some y → own_of y.links ≢ own_of c.links
    apart i y n at_y e =
        let inside = slice_get_within new i y at_y in
        let x = get_at old i (let long = was.all in omega (arith, inside, long)) in
        n (sym (own i k x.0 c x.1 was_there (sym (was.looked i x.0 y x.1 at_y).links.own ∙ e)))

    pub looking_more : Looking (k + 1) first first' old (slice_set new k d)
    looking_more = record {
      all = length-slice_set new k d ∙ was.all;
      core0 = looked_along first mid first' was.core0 l;
      looked = λ i x y at_x at_y. looked_at i x y at_x at_y (same_or_not k i);
      still = λ i x y le at_x at_y. was.still i x y (omega (arith, le)) at_x (elsewhere i y (λ e. omega (arith, e, le)) at_y);
      took = λ i x lt at_x. took_at i x lt at_x (same_or_not k i);
      exact = λ i y lt at_y. exact_at i y lt at_y (same_or_not k i);
      only = λ p none. only.1 p (none k c (omega arith) was_there) ∙ was.only p (λ i x lt at_x. none i x (omega (arith, lt)) at_x);
    }
      where
        looked_at : (i : ℕ) (x y : RingCore) → slice_get old i ≡ Some x → slice_get (slice_set new k d) i ≡ Some y → ((k ≡ i) ⊎ (k ≡ i → ⊥)) → IsLookedAt x y
        looked_at i x y at_x at_y (inl e) = subst (λ (z : RingCore). IsLookedAt z y) (there_then i x e at_x) (subst (λ (z : RingCore). IsLookedAt c z) (there_now i y e at_y) m)
        looked_at i x y at_x at_y (inr n) = was.looked i x y at_x (elsewhere i y n at_y)

        took_at : (i : ℕ) (x : RingCore) → i < k + 1 → slice_get old i ≡ Some x → ((k ≡ i) ⊎ (k ≡ i → ⊥)) → TookInOrder first x
        took_at i x lt at_x (inl e) = subst (λ (z : RingCore). TookInOrder first z) (there_then i x e at_x) (took_before first mid c c was.core0 (looked_itself c) took)
        took_at i x lt at_x (inr n) = was.took i x (omega (arith, n, lt)) at_x

        exact_at : (i : ℕ) (y : RingCore) → i < k + 1 → slice_get (slice_set new k d) i ≡ Some y → ((k ≡ i) ⊎ (k ≡ i → ⊥)) → AreExactCores first' y
        exact_at i y lt at_y (inl e) = subst (λ (z : RingCore). AreExactCores first' z) (there_now i y e at_y) exact
        exact_at i y lt at_y (inr n) = exact_later mid first' y l (only.1 (own_of y.links) (apart i y n (elsewhere i y n at_y))) (was.exact i y (omega (arith, n, lt)) (elsewhere i y n at_y))

-- all were looked at
pub record AllLooked (first first' : RingCore) (old new : List RingCore) : Type 0 where
  pub others : AreLookedAt old new
  pub each : EachTookInOrder first old
  pub exact : EachIsExact first' new
  pub only : LooksOnlyAt old first first'

pub all_looked_at : (k : ℕ) (first first' : RingCore) (old new : List RingCore) → length new ≤ k → Looking k first first' old new → AllLooked first first' old new
all_looked_at k first first' old new end was = record {
  others = record { all = was.all; each = was.looked };
  each = λ i c at. was.took i c (let inside = slice_get_within old i c at in let long = was.all in omega (arith, inside, long, end)) at;
  exact = λ i d at. was.exact i d (let inside = slice_get_within new i d at in omega (arith, inside, end)) at;
  only = λ p none. was.only p (λ i c lt at. none i c at);
}
