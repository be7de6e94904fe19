-- Cores that are looked at one after another.
use Rattle.std.proofs.Common.{◌≡◌, inl, inr, ℕ, zero, suc, List, [], ◌∷◌, length, Some, slice_get, refl, sym, ap, ◌∙◌, subst, arith}
use mathlib.Core.List.{IsPrefix}
use Rattle.core_links.specs.declared.ring_links.RingLinks.{RingLinks}
use Rattle.core_links.specs.Flows.{Flow, IsExact, IsLooked, LooksAt, ring_flow, ring_capacity}
use Rattle.core_links.specs.RingSlots.{own_of, ring_view, AreJoinedLinks}
use Rattle.core_links.specs.RingLaws.{SameLinks-itself}
use Rattle.std.proofs.lemmas.Option.{slice_get_within}
use Rattle.filter_table.proofs.Positions.{get_at}
use Rattle.world_model.proofs.Lists.{same_or_not}
use Rattle.core_loop.specs.Cores.{Stands}
use Rattle.core_links.specs.Views.{LinkView, IsSameView}
use Rattle.core_loop.specs.Standing.{AreBeside}
use Rattle.core_loop.specs.Turning.{HasStopped}
use Rattle.core_loop.proofs.Stopped.{same_stopped}
use Rattle.core_machine.specs.Machines.{RingCore, IsPeer, AreMachine, IsMachine}
use Rattle.core_machine.specs.Conclusions.{Concludes, OfMachine}
use Rattle.core_machine.specs.Looking.{IsLookedAt, AreLookedAt, IsExactRing, TookInOrder, EachTookInOrder, AreExactCores, EachIsExact, HaveOwnLinks, LooksOnlyAt}
use Rattle.core_machine.proofs.Lists.{first_same, rest_same}
use Rattle.core_machine.proofs.Machines.{joined_links, ring_same}
use Rattle.core_machine.proofs.Joined.{looked_itself, beside_at, stood}
use Rattle.core_machine.proofs.Ends.{concludes}
use Rattle.filter_table.specs.Limits.{TableLimits}
use Rattle.core_machine.proofs.Unstopped.{IsExactCore}

-- a view that was looked at is the view
pub same_view : (v w : LinkView) → IsSameView v w → w ≡ v
same_view v w s =
    let a : w ≡ record { sent = w.sent; taken = w.taken; kept = w.kept; stopped = w.stopped; ready = w.ready; told = w.told } = refl in
    let b : record { sent = v.sent; taken = v.taken; kept = v.kept; stopped = v.stopped; ready = v.ready; told = v.told } ≡ v = refl in
    a ∙ (rw (s.sent, s.taken, s.kept, s.stopped, s.ready, s.told) b)

-- lines over one link alone were looked at
pub looked_lines : (peer : ℕ) (old new : RingLinks) → LooksAt peer old new → (p : ℕ) → IsLooked (ring_flow old p) (ring_flow new p)
looked_lines peer old new at p = elim (same_or_not p peer) [
  | inl e ↦ subst (λ (n : ℕ). IsLooked (ring_flow old n) (ring_flow new n)) (sym e) at.0
  | inr apart ↦ record { out = ap (λ (f : Flow). f.out) (at.1 p apart); come = ap (λ (f : Flow). f.come) (at.1 p apart) }
]

exact_as : (k k' : ℕ) (v v' w w' : LinkView) (f f' g g' : Flow) → k' ≡ k → v' ≡ v → w' ≡ w → f' ≡ f → g' ≡ g → IsExact k v w f g → IsExact k' v' w' f' g'
exact_as k k' v v' w w' f f' g g' ek ev ew ef eg x = rw (ek, ev, ew, ef, eg) x

-- two cores that were looked at are exact still where others were looked at since
exact_later : (first first' other : RingCore) → IsLookedAt first first' → ring_flow first'.links (own_of other.links) ≡ ring_flow first.links (own_of other.links) → AreExactCores first other → AreExactCores first' other
exact_later first first' other l same x = (
  exact_as _ _ _ _ _ _ _ _ _ _ (ring_same first.links first'.links (own_of other.links) l.links) (same_view _ _ (l.views (own_of other.links))) (ap (λ (n : ℕ). ring_view other.links n) l.links.own) same (ap (λ (n : ℕ). ring_flow other.links n) l.links.own) x.0,
  exact_as _ _ _ _ _ _ _ _ _ _ (ap (λ (n : ℕ). ring_capacity other.links n) l.links.own) (ap (λ (n : ℕ). ring_view other.links n) l.links.own) (same_view _ _ (l.views (own_of other.links))) (ap (λ (n : ℕ). ring_flow other.links n) l.links.own) same x.1,
)

exact_before : (i j i' j' : ℕ) (from from' to to' : RingCore) → i ≡ i' → j ≡ j' → IsLookedAt from from' → IsLookedAt to to' → IsExactRing (ring_view from'.links i') (ring_view to'.links j') → IsExactRing (ring_view from.links i) (ring_view to.links j)
exact_before i j i' j' from from' to to' e f l m x =
    rw (e, f) (subst (λ (v : LinkView). IsExactRing v (ring_view to.links j')) (same_view (ring_view from.links i') (ring_view from'.links i') (l.views i'))
    (subst (λ (v : LinkView). IsExactRing (ring_view from'.links i') v) (same_view (ring_view to.links j') (ring_view to'.links j') (m.views j')) x))

-- what stopped it once it was looked at had stopped it
stopped_before : (old new : RingCore) → IsLookedAt old new → HasStopped new.cores new.clock new.part (ring_view new.links) new.stopped → HasStopped old.cores old.clock old.part (ring_view old.links) old.stopped
stopped_before old new l h =
    let there = same_stopped new.cores new.clock new.part (ring_view new.links) (ring_view old.links) new.stopped (λ p. sym (same_view (ring_view old.links p) (ring_view new.links p) (l.views p))) h in
    subst (λ (x : RingCore). HasStopped x.cores x.clock x.part (ring_view old.links) x.stopped) l.core there

-- what two cores took once they were looked at, they took
pub took_before : (first first' other other' : RingCore) → IsLookedAt first first' → IsLookedAt other other' → TookInOrder first' other' → TookInOrder first other
took_before first first' other other' l m t = record {
  up = before (own_of other.links) (own_of first.links) (own_of other'.links) (own_of first'.links) (sym m.links.own) (sym l.links.own) t.up;
  down = after (own_of other.links) (own_of first.links) (own_of other'.links) (own_of first'.links) (sym m.links.own) (sym l.links.own) t.down;
  exact_up = exact_before (own_of first.links) (own_of other.links) (own_of first'.links) (own_of other'.links) other other' first first' (sym l.links.own) (sym m.links.own) m l t.exact_up;
  exact_down = exact_before (own_of other.links) (own_of first.links) (own_of other'.links) (own_of first'.links) first first' other other' (sym m.links.own) (sym l.links.own) l m t.exact_down;
  stands = stood other other' m t.stands;
  stopped = stopped_before other other' m t.stopped;
}
  where
    before : (i j i' j' : ℕ) → i ≡ i' → j ≡ j' → IsPrefix (ring_view first'.links i').taken (ring_view other'.links j').sent → IsPrefix (ring_view first.links i).taken (ring_view other.links j).sent
    before i j i' j' e f h = rw (e, f, sym (l.views i').taken, sym (m.views j').sent) h

    after : (i j i' j' : ℕ) → i ≡ i' → j ≡ j' → IsPrefix (ring_view other'.links j').taken (ring_view first'.links i').sent → IsPrefix (ring_view other.links j).taken (ring_view first.links i).sent
    after i j i' j' e f h = rw (e, f, sym (m.views j').taken, sym (l.views i').sent) h

pub none_looked : AreLookedAt [] []
none_looked = record { all = refl; each = λ i c d at. absurd (cc) }

pub more_looked : (c d : RingCore) (cs ds : List RingCore) → IsLookedAt c d → AreLookedAt cs ds → AreLookedAt (c ∷ cs) (d ∷ ds)
more_looked c d cs ds first rest = record { all = ap suc rest.all; each = at_each }
  where
    at_each : (i : ℕ) (x y : RingCore) → slice_get (c ∷ cs) i ≡ Some x → slice_get (d ∷ ds) i ≡ Some y → IsLookedAt x y
    at_each zero x y e f = let is_x : c ≡ x = cc in let is_y : d ≡ y = cc in subst (λ (z : RingCore). IsLookedAt z y) is_x (subst (λ (z : RingCore). IsLookedAt c z) is_y first)
    at_each (suc i) x y e f = rest.each i x y e f

pub more_took : (first first' c : RingCore) (cs : List RingCore) → IsLookedAt first first' → TookInOrder first c → EachTookInOrder first' cs → EachTookInOrder first (c ∷ cs)
more_took first first' c cs l t rest zero x e = let is_x : c ≡ x = cc in subst (λ (z : RingCore). TookInOrder first z) is_x t
more_took first first' c cs l t rest (suc k) x e = took_before first first' x x l (looked_itself x) (rest k x e)

peer : (limits : TableLimits) (budget : ℕ) (budgets : List ℕ) (first : RingCore) (others : List RingCore) (k : ℕ) (c : RingCore) → AreMachine limits budget budgets first others → slice_get others k ≡ Some c → (b : ℕ) × IsPeer (length budgets) k limits b first c
peer limits budget budgets first others k c machine at =
    let b = get_at budgets k (omega (arith, slice_get_within others k c at, machine.all)) in
    (b.0, machine.peers k b.0 c b.1 at)

pub more_exact : (first first' c c' : RingCore) (cs cs' : List RingCore) → HaveOwnLinks (c ∷ cs) → IsLookedAt c c' → AreExactCores first c' → IsLookedAt first first' → LooksOnlyAt cs first first' → EachIsExact first' cs' → EachIsExact first' (c' ∷ cs')
more_exact first first' c c' cs cs' own l x l' only rest zero d at =
    let is : c' ≡ d = cc in
    subst (λ (y : RingCore). AreExactCores first' y) is (exact_later first first' c' l' (only (own_of c'.links) (λ k e at_e same. absurd (omega (arith, own 0 (suc k) c e refl at_e (sym l.links.own ∙ same))))) x)
more_exact first first' c c' cs cs' own l x l' only rest (suc k) d at = rest k d at

pub more_only : (first mid first' c : RingCore) (cs : List RingCore) → LooksAt (own_of c.links) first.links mid.links → LooksOnlyAt cs mid first' → LooksOnlyAt (c ∷ cs) first first'
more_only first mid first' c cs at only p apart = only p (λ k d at_d. apart (suc k) d at_d) ∙ at.1 p (apart 0 c refl)

pub rest_own : (c : RingCore) (cs : List RingCore) → HaveOwnLinks (c ∷ cs) → HaveOwnLinks cs
rest_own c cs own j k x y at_x at_y e = omega (arith, own (suc j) (suc k) x y at_x at_y e)

pub none_exact : (first : RingCore) → EachIsExact first []
none_exact first k c at = absurd cc

pub none_only : (first : RingCore) → LooksOnlyAt [] first first
none_only first p apart = refl

pub all_own : (limits : TableLimits) (budget : ℕ) (budgets : List ℕ) (first : RingCore) (others : List RingCore) → AreMachine limits budget budgets first others → HaveOwnLinks others
all_own limits budget budgets first others machine j k c d at_c at_d e = omega (arith, e, (peer limits budget budgets first others j c machine at_c).1.place.links_are, (peer limits budget budgets first others k d machine at_d).1.place.links_are)

-- the links of core 0 are joined to those of the others still
pub rest_joined : (first first' c : RingCore) (cs : List RingCore) → IsLookedAt first first' → ((k : ℕ) (x : RingCore) → slice_get (c ∷ cs) k ≡ Some x → AreJoinedLinks first.links x.links)
    → (k : ℕ) (x : RingCore) → slice_get cs k ≡ Some x → AreJoinedLinks first'.links x.links
rest_joined first first' c cs l joined k x at = joined_links first.links first'.links x.links x.links l.links (SameLinks-itself x.links) (joined (suc k) x at)

pub first_joined : (first : RingCore) (others : List RingCore) (c : RingCore) (cs : List RingCore) → others ≡ c ∷ cs → ((k : ℕ) (x : RingCore) → slice_get others k ≡ Some x → AreJoinedLinks first.links x.links)
    → AreJoinedLinks first.links c.links
first_joined first others c cs e joined = joined 0 c (ap (λ (l : List RingCore). slice_get l 0) e)

pub rest_joined_of : (first first' : RingCore) (others : List RingCore) (c : RingCore) (cs : List RingCore) → others ≡ c ∷ cs → IsLookedAt first first'
    → ((k : ℕ) (x : RingCore) → slice_get others k ≡ Some x → AreJoinedLinks first.links x.links) → (k : ℕ) (x : RingCore) → slice_get cs k ≡ Some x → AreJoinedLinks first'.links x.links
rest_joined_of first first' others c cs e l joined = rest_joined first first' c cs l (λ k x at. joined k x (ap (λ (m : List RingCore). slice_get m k) e ∙ at))

pub all_joined : (limits : TableLimits) (budget : ℕ) (budgets : List ℕ) (first : RingCore) (others : List RingCore) → AreMachine limits budget budgets first others
    → (k : ℕ) (c : RingCore) → slice_get others k ≡ Some c → AreJoinedLinks first.links c.links
all_joined limits budget budgets first others machine k c at = (peer limits budget budgets first others k c machine at).1.joined

pub agrees : (limits : TableLimits) (budget : ℕ) (budgets : List ℕ) (first first' : RingCore) (others : List RingCore) → AreMachine limits budget budgets first others → IsLookedAt first first' → Stands ring_view first'
    → HasStopped first'.cores first'.clock first'.part (ring_view first'.links) first'.stopped → EachTookInOrder first others → Concludes limits budget budgets first others
agrees limits budget budgets first first' others machine looked stands stopped took =
    concludes limits budget budgets first others machine (stood first first' looked stands) (λ k c at. (took k c at).stands) (λ k c at. beside k c at) (stopped_before first first' looked stopped) (λ k c at. exact k c at)
  where
    exact : (k : ℕ) (c : RingCore) → slice_get others k ≡ Some c → IsExactCore k first c
    exact k c at =
        let p = (peer limits budget budgets first others k c machine at).1 in
        let t = took k c at in
        let own : own_of c.links ≡ suc k = p.place.links_are in
        let own0 : own_of first.links ≡ 0 = machine.place.links_are in
        record {
          up = subst (λ (n : ℕ). IsExactRing (ring_view c.links 0) (ring_view first.links n)) own (subst (λ (n : ℕ). IsExactRing (ring_view c.links n) (ring_view first.links (own_of c.links))) own0 t.exact_up);
          down = subst (λ (n : ℕ). IsExactRing (ring_view first.links n) (ring_view c.links 0)) own (subst (λ (n : ℕ). IsExactRing (ring_view first.links (own_of c.links)) (ring_view c.links n)) own0 t.exact_down);
          stopped = t.stopped;
        }

    beside : (k : ℕ) (c : RingCore) → slice_get others k ≡ Some c → AreBeside k (ring_view first.links) (ring_view c.links)
    beside k c at =
        let p = (peer limits budget budgets first others k c machine at).1 in
        let t = took k c at in
        beside_at k (own_of c.links) (own_of first.links) first first c c p.place.links_are machine.place.links_are (looked_itself first) (looked_itself c) t.up t.down

-- what holds of the first core and the others holds of them as one list
pub of_machine : (cores : List RingCore) (first : RingCore) (others : List RingCore) → cores ≡ first ∷ others
    → ((limits : TableLimits) (budget : ℕ) (budgets : List ℕ) → AreMachine limits budget budgets first others → Concludes limits budget budgets first others) → OfMachine cores Concludes
of_machine cores first others whole agree limits budget budgets a rest e machine =
    let same : first ∷ others ≡ a ∷ rest = sym whole ∙ e in
    let is_first = first_same first a others rest same in
    let is_rest = rest_same first a others rest same in
    subst (λ (x : RingCore). Concludes limits budget budgets x rest) is_first
    (subst (λ (l : List RingCore). Concludes limits budget budgets first l) is_rest
    (agree limits budget budgets (subst (λ (x : RingCore). AreMachine limits budget budgets x others) (sym is_first) (subst (λ (l : List RingCore). AreMachine limits budget budgets a l) (sym is_rest) machine))))

-- a machine has a core
pub some_cores : (limits : TableLimits) (budget : ℕ) (budgets : List ℕ) (cores : List RingCore) → IsMachine limits budget budgets cores → length cores ≡ 0 → ⊥
some_cores limits budget budgets [] machine none = machine
some_cores limits budget budgets (first ∷ others) machine none = omega (arith, none)
