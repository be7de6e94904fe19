-- Each round in which something is left to do leaves less work ahead.
use Rattle.std.proofs.Common.{◌≡◌, ◌∙◌, ◌+◌, ◌-◌, ◌*◌, ◌<◌, ◌≤◌, ◌⊎◌, inl, inr, ℕ, zero, suc, false, All, Option, Some, None, List, [], ◌∷◌, length, map, get_or, slice_get, refl, sym, ap, subst, arith}
use Rattle.std.proofs.lemmas.Option.{slice_get_within, get_or_from_slice_get}
use Rattle.filter_table.proofs.Positions.{get_at}
use Rattle.world_model.proofs.Lists.{get_map}
use Rattle.filter_table.specs.Limits.{TableLimits}
use Rattle.filter_table.specs.declared.operation.Op.{Op}
use Rattle.two_phase.specs.Coordinators.{CoordinatorPlace, Idle}
use Rattle.world_model.specs.Cases.{outgoing}
use Rattle.world_histories.specs.Histories.{unstamped, OtherState, sent_to, sent_by}
use Rattle.world_progress.specs.Remaining.{steps, total}
use Rattle.core_links.specs.Views.{LinkView}
use Rattle.core_links.specs.Slots.{place_view}
use Rattle.core_links.specs.declared.ring_links.Link.{Link}
use Rattle.core_links.specs.RingSlots.{own_of, link_view, ring_view}
use Rattle.core_links.specs.Flows.{Flow, IsStill, FlowsOn, IsExact, IsResting, ring_flow, ring_capacity}
use Rattle.core_steps.specs.declared.core0.Core0.{Core0}
use Rattle.core_steps.specs.declared.core0.Told.{Told}
use Rattle.core_steps.specs.declared.other_core.OtherCore.{OtherCore}
use Rattle.core_steps.specs.Core0Steps.{core0_place, TakesUp}
use Rattle.core_loop.specs.declared.part.Part.{Part}
use Rattle.core_loop.specs.declared.part.Part.TheVariants as part
use Rattle.core_loop.specs.Carrying.{CanCarry}
use Rattle.core_loop.specs.Choosing.{ShowsNothing, IsLeastShowing, NoMessageNow}
use Rattle.core_loop.specs.Beginning.{CanBegin0, CanBeginNext, HasNothingUnderWay}
use Rattle.core_loop.specs.Keeping.{IsCore0, IsOtherCore, replica_of}
use Rattle.core_loop.specs.Resting.{AreResting}
use Rattle.core_machine.specs.Beside.{Waits0, Idles0, IdlesOther, IsFront, AreKnown, IsStillRing, IsStillCore, NothingIsLeft}
use Rattle.core_machine.proofs.Still.{still_rests}
use Rattle.core_machine.specs.Machines.{RingCore, AreMachine, IsPeer}
use Rattle.core_machine.specs.Looking.{IsLookedAt, AreLookedAt, EachIsExact}
use Rattle.core_machine.specs.Conclusions.{histories_of, views_of, StandsAt0, StandsAtOther, Concludes}
use Rattle.core_machine.proofs.Along.{histories_same, views_same}
use Rattle.core_machine.specs.Ahead.{asked, requests_of, events_in_all, events_ahead, lines_ahead, lines_in_all, work_ahead}
use Rattle.core_machine.specs.Rounds.{CoreRests, AreAtRest}
use Rattle.core_machine.proofs.Turning.{Passed, Stayed, went_passed}
use Rattle.core_machine.proofs.Counting.{AllWent, Counted, counted, same_requests, steps_within}
use Rattle.core_machine.proofs.Lines.{RingMoved, LinkMoved, LinkStill, AllStill, FallsBetween, coded_long, sent_down, sent_up_most, lines_fall, lines_most}

-- Numbers

pub times : (k m n : ℕ) → m ≤ n → m * k ≤ n * k
times k zero n le = omega arith
times k (suc m) zero le = absurd (omega (arith, le))
times k (suc m) (suc n) le = let rest = times k m n (omega (arith, le)) in omega (arith, rest)

-- an event less, whatever lines it adds, or no event more and a line less
event_less : (k e e' l l' : ℕ) → e' < e → l' < k → e' * k + l' < e * k + l
event_less k e e' l l' lt below = let rest = times k (suc e') e (omega (arith, lt)) in omega (arith, rest, below)

line_less : (k e e' l l' : ℕ) → e' ≤ e → l' < l → e' * k + l' < e * k + l
line_less k e e' l l' le lt = let rest = times k e' e le in omega (arith, rest, lt)

-- Lists

get_mapped : {A B : Type 0} (f : A → B) (xs : List A) (i : ℕ) (x : A) → slice_get xs i ≡ Some x → slice_get (map f xs) i ≡ Some (f x)
get_mapped f [] i x e = absurd cc
get_mapped {A} f (y ∷ ys) zero x e = (let same : y ≡ x = cc in ap (λ (z : A). Some (f z)) same)
get_mapped f (y ∷ ys) (suc i) x e = get_mapped f ys i x e

all_of : (P : RingCore → Type 0) (cs : List RingCore) → ((k : ℕ) (c : RingCore) → slice_get cs k ≡ Some c → P c) → All P cs
all_of P cs each = λ k d lt. let c = get_at cs k lt in subst P (sym (get_or_from_slice_get cs k c.0 d c.1)) (each k c.0 c.1)

steps_of_one : (cs : List RingCore) (k : ℕ) (c : RingCore) → slice_get cs k ≡ Some c → steps (unstamped c.history) ≤ total steps (histories_of cs)
steps_of_one [] k c at = absurd cc
steps_of_one (x ∷ cs) zero c at = let same : x ≡ c = cc in subst (λ (y : RingCore). steps (unstamped y.history) ≤ total steps (histories_of (x ∷ cs))) same (omega arith)
steps_of_one (x ∷ cs) (suc k) c at = let rest = steps_of_one cs k c at in omega (arith, rest)

looked_requests : (cs ds : List RingCore) → AreLookedAt cs ds → requests_of ds ≡ requests_of cs
looked_requests [] [] l = refl
looked_requests [] (d ∷ ds) l = absurd (let e = l.all in omega (arith, e))
looked_requests (c ∷ cs) [] l = absurd (let e = l.all in omega (arith, e))
looked_requests (c ∷ cs) (d ∷ ds) l =
    let first = ap (λ (x : RingCore). length (asked x)) (l.each 0 c d refl refl).core in
    let rest = looked_requests cs ds (record { all = (let e = l.all in omega (arith, e)); each = λ i x y at at'. l.each (suc i) x y at at' }) in
    omega (arith, first, rest)

-- Rings, by the places of their ends

pub record ExactPair (first c : RingCore) (entry : ℕ) : Type 0 where
  pub down : IsExact (ring_capacity first.links (suc entry)) (ring_view first.links (suc entry)) (ring_view c.links 0) (ring_flow first.links (suc entry)) (ring_flow c.links 0)
  pub up : IsExact (ring_capacity c.links 0) (ring_view c.links 0) (ring_view first.links (suc entry)) (ring_flow c.links 0) (ring_flow first.links (suc entry))

exact_pair : (first c : RingCore) (entry m n : ℕ) → m ≡ 0 → n ≡ suc entry
    → IsExact (ring_capacity first.links n) (ring_view first.links n) (ring_view c.links m) (ring_flow first.links n) (ring_flow c.links m)
    → IsExact (ring_capacity c.links m) (ring_view c.links m) (ring_view first.links n) (ring_flow c.links m) (ring_flow first.links n) → ExactPair first c entry
exact_pair first c entry m n e f x y = record {
  down = subst (λ (i : ℕ). IsExact (ring_capacity first.links (suc entry)) (ring_view first.links (suc entry)) (ring_view c.links i) (ring_flow first.links (suc entry)) (ring_flow c.links i)) e
      (subst (λ (j : ℕ). IsExact (ring_capacity first.links j) (ring_view first.links j) (ring_view c.links m) (ring_flow first.links j) (ring_flow c.links m)) f x);
  up = subst (λ (i : ℕ). IsExact (ring_capacity c.links i) (ring_view c.links i) (ring_view first.links (suc entry)) (ring_flow c.links i) (ring_flow first.links (suc entry))) e
      (subst (λ (j : ℕ). IsExact (ring_capacity c.links m) (ring_view c.links m) (ring_view first.links j) (ring_flow c.links m) (ring_flow first.links j)) f y);
}

pub pair_of : (limits : TableLimits) (budget : ℕ) (budgets : List ℕ) (first : RingCore) (others : List RingCore) → AreMachine limits budget budgets first others → EachIsExact first others → (k : ℕ) (c : RingCore) → slice_get others k ≡ Some c → ExactPair first c k
pair_of limits budget budgets first others machine exact k c at =
    let b = get_at budgets k (omega (arith, slice_get_within others k c at, machine.all)) in
    let x = exact k c at in
    exact_pair first c k (own_of first.links) (own_of c.links) machine.place.links_are (machine.peers k b.0 c b.1 at).place.links_are x.0 x.1

-- each holds a line
pub record HoldPair (first c : RingCore) (entry : ℕ) : Type 0 where
  pub down : 1 ≤ ring_capacity first.links (suc entry)
  pub up : 1 ≤ ring_capacity c.links 0

pub hold_pair : (limits : TableLimits) (budget : ℕ) (budgets : List ℕ) (first : RingCore) (others : List RingCore) → AreMachine limits budget budgets first others → (k : ℕ) (c : RingCore) → slice_get others k ≡ Some c → HoldPair first c k
hold_pair limits budget budgets first others machine k c at =
    let b = get_at budgets k (omega (arith, slice_get_within others k c at, machine.all)) in
    let p = machine.peers k b.0 c b.1 at in
    record {
      down = subst (λ (n : ℕ). 1 ≤ ring_capacity first.links n) p.place.links_are p.holds.0;
      up = subst (λ (n : ℕ). 1 ≤ ring_capacity c.links n) machine.place.links_are p.holds.1;
    }

-- a ring of at least a line, of which both ends know all
pub record KnownRing (out come : Flow) : Type 0 where
  pub capacity : ℕ
  pub some : 1 ≤ capacity
  pub known : AreKnown capacity out come

-- the two rings between core 0 and another
pub record KnownPair (first c : RingCore) (entry : ℕ) : Type 0 where
  pub down : KnownRing (ring_flow first.links (suc entry)) (ring_flow c.links 0)
  pub up : KnownRing (ring_flow c.links 0) (ring_flow first.links (suc entry))

abbrev pub EachIsKnown : RingCore → List RingCore → Type 0
EachIsKnown first others = (k : ℕ) (c : RingCore) → slice_get others k ≡ Some c → KnownPair first c k

known_of : (capacity : ℕ) (from to : LinkView) (out come : Flow) → 1 ≤ capacity → IsExact capacity from to out come → KnownRing out come
known_of capacity from to out come some x = record { capacity = capacity; some = some; known = record { below = omega (arith, x.ends.items); items = omega (arith, x.ends.items); places = x.ends.places } }

pub each_known : (limits : TableLimits) (budget : ℕ) (budgets : List ℕ) (first : RingCore) (others : List RingCore) → AreMachine limits budget budgets first others → EachIsExact first others → EachIsKnown first others
each_known limits budget budgets first others machine exact k c at =
    let p = pair_of limits budget budgets first others machine exact k c at in
    let h = hold_pair limits budget budgets first others machine k c at in
    record { down = known_of _ _ _ _ _ h.down p.down; up = known_of _ _ _ _ _ h.up p.up }

still_flow : (v w : Flow) → FlowsOn v w → w.out ≡ v.out → w.come ≡ v.come → IsStill v w
still_flow v w on out come = record { out = out; come = come; room = omega (arith, on.room, out); known = omega (arith, on.known, come) }

front_of : (capacity : ℕ) (from to : LinkView) (out come out' come' : Flow) → IsExact capacity from to out' come' → out'.out ≡ out.out → come'.come ≡ come.come → IsFront from to out come
front_of capacity from to out come out' come' x e f = record { front = x.front; going = x.going; all = λ ready same. x.all ready (e ∙ (same ∙ sym f)) }

-- What idle turns say

moved : (P : ℕ → Part → (ℕ → LinkView) → Type 0) (n n' : ℕ) (x x' : Part) (v v' : ℕ → LinkView) → n ≡ n' → x ≡ x' → v ≡ v' → P n x v → P n' x' v'
moved P n n' x x' v v' e f g h = subst (λ (a : ℕ). P a x' v') e (subst (λ (b : Part). P n b v') f (subst (λ (c : ℕ → LinkView). P n x c) g h))

idles0 : (n : ℕ) (core : Core0) (pending : List Op) (view : ℕ → LinkView) (flow : ℕ → Flow) → (view 0).kept ≡ [] → NoMessageNow (suc n) (part.Core0 core) view → (CanBeginNext (suc n) (part.Core0 core) pending view → ⊥)
    → ((p : ℕ) → (view p).ready ≡ false → (flow p).room ≡ 0) → (((p : ℕ) → p < suc n → ShowsNothing (view p)) → (p : ℕ) → p < suc n → (flow p).known ≡ 0) → Idles0 n core pending view flow
idles0 n core pending view flow itself message request full dry = record {
  itself = itself;
  no_message = by_message message;
  no_request = λ can. request (subst (λ (k : ℕ). CanBegin0 k core pending view) (sym less) can);
  full = full;
  dry = dry;
}
  where
    less : suc n - 1 ≡ n
    less = omega arith

    by_message : NoMessageNow (suc n) (part.Core0 core) view → ((p : ℕ) → p < suc n → ShowsNothing (view p)) ⊎ ((peer : ℕ) × IsLeastShowing (suc n) view peer × Waits0 n core peer view)
    by_message (inl all) = inl all
    by_message (inr w) = inr (w.0, w.1, (w.2.0, w.2.1, subst (λ (k : ℕ). (core' : Core0) (told : Told) → TakesUp core w.0 w.2.0.message core' told → CanCarry k (outgoing told.step (core0_place core')) view → ⊥) less w.2.2.1))

idles_other : (n : ℕ) (core : OtherCore) (pending : List Op) (view : ℕ → LinkView) (flow : ℕ → Flow) → NoMessageNow (suc n) (part.OtherCore core) view → (CanBeginNext (suc n) (part.OtherCore core) pending view → ⊥)
    → ((p : ℕ) → (view p).ready ≡ false → (flow p).room ≡ 0) → (((p : ℕ) → p < suc n → ShowsNothing (view p)) → (p : ℕ) → p < suc n → (flow p).known ≡ 0) → IdlesOther n core pending view (flow 0)
idles_other n core pending view flow message request full dry = record {
  no_message = by_message message;
  no_request = request;
  full = full 0;
  dry = λ all. dry all 0 (omega arith);
}
  where
    by_message : NoMessageNow (suc n) (part.OtherCore core) view → ((p : ℕ) → p < suc n → ShowsNothing (view p)) ⊎ ((view 0).ready ≡ false)
    by_message (inl all) = inl all
    by_message (inr w) = inr w.2.0

abbrev other_of : OtherCore → Part → OtherCore
other_of d (part.Core0 core) = d
other_of d (part.OtherCore core) = core

-- The cores did nothing but move lines, if they did that
pub record DidNothing (f m l : RingCore) (os ms ls : List RingCore) : Type 0 where
  pub passed : (i : ℕ) (c d : RingCore) → slice_get (f ∷ os) i ≡ Some c → slice_get (m ∷ ms) i ≡ Some d → Passed c d
  pub most : work_ahead (l ∷ ls) ≤ work_ahead (f ∷ os)
  pub still : AllStill f l 1 os ls

-- Turns of some cores, and then all are looked at

module _ (limits : TableLimits) (budget : ℕ) (budgets : List ℕ) (f m l : RingCore) (os ms ls : List RingCore) (all_went : AllWent Passed (f ∷ os) (m ∷ ms))
    (looked : AreLookedAt (m ∷ ms) (l ∷ ls)) (machine' : AreMachine limits budget budgets l ls) (exact' : EachIsExact l ls) (con : Concludes limits budget budgets l ls) where
  look0 : IsLookedAt m l
  look0 = looked.each 0 m l refl refl

  long : length ls ≡ length os
  long = let e = looked.all in let g = all_went.all in omega (arith, e, g)

  same_events : events_in_all (l ∷ ls) ≡ events_in_all (f ∷ os)
  same_events = rw (long, looked_requests (m ∷ ms) (l ∷ ls) looked, same_requests Passed (f ∷ os) (m ∷ ms) all_went) refl

  same_most : lines_in_all (l ∷ ls) ≡ lines_in_all (f ∷ os)
  same_most = rw (same_events, long) refl

  same_steps : total steps (histories_of (l ∷ ls)) ≡ total steps (histories_of (m ∷ ms))
  same_steps = ap (total steps) (histories_same (m ∷ ms) (l ∷ ls) looked)

  within : total steps (histories_of (l ∷ ls)) ≤ events_in_all (l ∷ ls)
  within = steps_within limits budget budgets l ls con.end con.ends machine'.all con.computation

  few_messages : (k : ℕ) (c : RingCore) → slice_get ls k ≡ Some c → length (ring_view l.links (1 + k)).sent + length (ring_view c.links 0).sent ≤ events_in_all (l ∷ ls)
  few_messages k c at =
      let lt : k < length budgets = omega (arith, slice_get_within ls k c at, machine'.all) in
      let b = get_at budgets k lt in
      let d = get_at con.ends k (omega (arith, lt, con.beside.all_ends)) in
      let s = (con.beside.others k b.0 c.history (ring_view c.links) d.0 b.1 (get_mapped (λ (x : RingCore). x.history) ls k c at) (get_mapped (λ (x : RingCore). ring_view x.links) ls k c at) d.1).0 in
      let down = sent_down (length budgets) budget _ l.history con.end con.beside.first.sent con.beside.first.taken k con.beside.first.is_history in
      let down_long = coded_long (ring_view l.links (suc k)).sent (sent_to k con.beside.first.sent) (con.beside.first.has_sent k lt) in
      let up = sent_up_most k b.0 _ c.history d.0 s.taken s.is_history in
      let up_long = coded_long (ring_view c.links 0).sent (sent_by c.history) s.has_sent in
      let own = steps_of_one ls k c at in
      let e : suc k ≡ 1 + k = omega arith in
      subst (λ (i : ℕ). length (ring_view l.links i).sent + length (ring_view c.links 0).sent ≤ events_in_all (l ∷ ls)) e (omega (arith, down, down_long, up, up_long, own, within))

  few_lines : lines_ahead (l ∷ ls) ≤ lines_in_all (l ∷ ls)
  few_lines = lines_most (events_in_all (l ∷ ls)) l 1 ls few_messages

  -- where a core did an event
  event_falls : total steps (histories_of (f ∷ os)) < total steps (histories_of (m ∷ ms)) → work_ahead (l ∷ ls) < work_ahead (f ∷ os)
  event_falls lt = subst (λ (k : ℕ). events_ahead (l ∷ ls) * (1 + lines_in_all (l ∷ ls)) + lines_ahead (l ∷ ls) < events_ahead (f ∷ os) * (1 + k) + lines_ahead (f ∷ os)) same_most
      (event_less (1 + lines_in_all (l ∷ ls)) (events_ahead (f ∷ os)) (events_ahead (l ∷ ls)) (lines_ahead (f ∷ os)) (lines_ahead (l ∷ ls)) (omega (arith, lt, same_steps, within, same_events)) (omega (arith, few_lines)))

  -- where none did
  module _ (each_passed : (i : ℕ) (c d : RingCore) → slice_get (f ∷ os) i ≡ Some c → slice_get (m ∷ ms) i ≡ Some d → Passed c d) (grow : total steps (histories_of (f ∷ os)) ≤ total steps (histories_of (m ∷ ms))) where
    passed0 : Passed f m
    passed0 = each_passed 0 f m refl refl

    ring_moved : (a am b : RingCore) (p : ℕ) (c cm d : RingCore) (q : ℕ) → Passed a am → IsLookedAt am b → Passed c cm → IsLookedAt cm d
        → IsExact (ring_capacity b.links p) (ring_view b.links p) (ring_view d.links q) (ring_flow b.links p) (ring_flow d.links q) → RingMoved a.links b.links p c.links d.links q
    ring_moved a am b p c cm d q s h t k x = record {
      sent = (h.views p).sent ∙ s.sent p;
      out = omega (arith, (s.lines p).out, (h.lines p).out);
      come = omega (arith, (t.lines q).come, (k.lines q).come);
      below = omega (arith, x.ends.items);
      within = x.within;
    }

    moved_at : (k : ℕ) (c d : RingCore) → slice_get os k ≡ Some c → slice_get ls k ≡ Some d → LinkMoved f l (1 + k) c d
    moved_at k c d at at' =
        let x = get_at ms k (let e = all_went.all in omega (arith, slice_get_within os k c at, e)) in
        let s = each_passed (suc k) c x.0 at x.1 in
        let h = looked.each (suc k) x.0 d x.1 at' in
        let p = pair_of limits budget budgets l ls machine' exact' k d at' in
        let e : suc k ≡ 1 + k = omega arith in
        subst (λ (i : ℕ). LinkMoved f l i c d) e
        (record { down = ring_moved f m l (suc k) c x.0 d 0 passed0 look0 s h p.down; up = ring_moved c x.0 d 0 f m l (suc k) s h passed0 look0 p.up })

    line_falls : lines_ahead (l ∷ ls) < lines_ahead (f ∷ os) → work_ahead (l ∷ ls) < work_ahead (f ∷ os)
    line_falls lt = subst (λ (k : ℕ). events_ahead (l ∷ ls) * (1 + lines_in_all (l ∷ ls)) + lines_ahead (l ∷ ls) < events_ahead (f ∷ os) * (1 + k) + lines_ahead (f ∷ os)) same_most
        (line_less (1 + lines_in_all (l ∷ ls)) (events_ahead (f ∷ os)) (events_ahead (l ∷ ls)) (lines_ahead (f ∷ os)) (lines_ahead (l ∷ ls)) (omega (arith, grow, same_steps, same_events)) lt)

    no_more : lines_ahead (l ∷ ls) ≡ lines_ahead (f ∷ os) → work_ahead (l ∷ ls) ≤ work_ahead (f ∷ os)
    no_more same = subst (λ (k : ℕ). events_ahead (l ∷ ls) * (1 + lines_in_all (l ∷ ls)) + lines_ahead (l ∷ ls) ≤ events_ahead (f ∷ os) * (1 + k) + lines_ahead (f ∷ os)) same_most
        (let fewer = times (1 + lines_in_all (l ∷ ls)) (events_ahead (l ∷ ls)) (events_ahead (f ∷ os)) (omega (arith, grow, same_steps, same_events)) in omega (arith, fewer, same))

    moves_or_not : (work_ahead (l ∷ ls) < work_ahead (f ∷ os)) ⊎ DidNothing f m l os ms ls
    moves_or_not = by_lines (lines_fall f l 1 os ls long moved_at)
      where
        by_lines : FallsBetween f l 1 os ls → (work_ahead (l ∷ ls) < work_ahead (f ∷ os)) ⊎ DidNothing f m l os ms ls
        by_lines (inl lt) = inl (line_falls lt)
        by_lines (inr same) = inr (record { passed = each_passed; most = no_more same.0; still = same.1 })

  pub falls_or_not : (work_ahead (l ∷ ls) < work_ahead (f ∷ os)) ⊎ DidNothing f m l os ms ls
  falls_or_not = by_count (counted Passed (f ∷ os) (m ∷ ms) all_went)
    where
      by_count : Counted Passed (f ∷ os) (m ∷ ms) → (work_ahead (l ∷ ls) < work_ahead (f ∷ os)) ⊎ DidNothing f m l os ms ls
      by_count c = by_either c.either
        where
          by_either : (total steps (histories_of (f ∷ os)) < total steps (histories_of (m ∷ ms))) ⊎ ((i : ℕ) (x y : RingCore) → slice_get (f ∷ os) i ≡ Some x → slice_get (m ∷ ms) i ≡ Some y → Passed x y)
              → (work_ahead (l ∷ ls) < work_ahead (f ∷ os)) ⊎ DidNothing f m l os ms ls
          by_either (inl lt) = inl (event_falls lt)
          by_either (inr passed) = moves_or_not passed c.grow

-- Where no core did an event and no line moved, all are at rest

module _ (limits : TableLimits) (budget : ℕ) (budgets : List ℕ) (f m l : RingCore) (os ms ls : List RingCore) (known : EachIsKnown f os) (all : length ms ≡ length os)
    (stayed : (i : ℕ) (c d : RingCore) → slice_get (f ∷ os) i ≡ Some c → slice_get (m ∷ ms) i ≡ Some d → Stayed c d) (looked : AreLookedAt (m ∷ ms) (l ∷ ls))
    (machine' : AreMachine limits budget budgets l ls) (exact' : EachIsExact l ls) (con : Concludes limits budget budgets l ls) (still : AllStill f l 1 os ls) where
  stayed0 : Stayed f m
  stayed0 = stayed 0 f m refl refl

  seen0 : IsLookedAt m l
  seen0 = looked.each 0 m l refl refl

  long_after : length ls ≡ length os
  long_after = let e = looked.all in omega (arith, e, all)

  others_cores : (k : ℕ) (d : RingCore) → slice_get ls k ≡ Some d → (b : ℕ) × IsPeer (length budgets) k limits b l d
  others_cores k d at = let b = get_at budgets k (omega (arith, slice_get_within ls k d at, machine'.all)) in (b.0, machine'.peers k b.0 d b.1 at)

  same_view0 : ring_view m.links ≡ ring_view l.links
  same_view0 = sym (views_same m l seen0)

  cores0 : m.cores ≡ suc (length budgets)
  cores0 = sym (ap (λ (x : RingCore). x.cores) seen0.core) ∙ machine'.place.cores_are

  -- the ring from the one core to the other, which stayed
  still_ring : (a am b : RingCore) (p : ℕ) (c cm d : RingCore) (q : ℕ) → Stayed a am → IsLookedAt am b → Stayed c cm → IsLookedAt cm d
      → KnownRing (ring_flow a.links p) (ring_flow c.links q)
      → IsExact (ring_capacity b.links p) (ring_view b.links p) (ring_view d.links q) (ring_flow b.links p) (ring_flow d.links q)
      → (ring_flow b.links p).out ≡ (ring_flow a.links p).out → (ring_flow d.links q).come ≡ (ring_flow c.links q).come
      → (ring_flow b.links p).come ≡ (ring_flow a.links p).come → (ring_flow d.links q).out ≡ (ring_flow c.links q).out
      → IsStillRing (ring_view b.links p) (ring_view d.links q) (ring_flow a.links p) (ring_flow am.links p) (ring_flow c.links q) (ring_flow cm.links q)
  still_ring a am b p c cm d q s h t k x y out come come' out' = record {
    capacity = x.capacity;
    some = x.some;
    known = x.known;
    still_out = still_flow (ring_flow a.links p) (ring_flow am.links p) (s.lines p) (sym (h.lines p).out ∙ out) (sym (h.lines p).come ∙ come');
    still_in = still_flow (ring_flow c.links q) (ring_flow cm.links q) (t.lines q) (sym (k.lines q).out ∙ out') (sym (k.lines q).come ∙ come);
    after = front_of (ring_capacity b.links p) (ring_view b.links p) (ring_view d.links q) (ring_flow am.links p) (ring_flow cm.links q) (ring_flow b.links p) (ring_flow d.links q) y (h.lines p).out (k.lines q).come;
  }

  -- another core, before and after the round
  record Mate (k : ℕ) (d : RingCore) : Type 0 where
    c : RingCore
    cm : RingCore
    at : slice_get os k ≡ Some c
    at_m : slice_get ms k ≡ Some cm
    stayed_k : Stayed c cm
    looked_k : IsLookedAt cm d
    still_k : LinkStill f l (suc k) c d
    before : KnownPair f c k
    after : ExactPair l d k

  mate : (k : ℕ) (d : RingCore) → slice_get ls k ≡ Some d → Mate k d
  mate k d at' =
      let c = get_at os k (omega (arith, slice_get_within ls k d at', long_after)) in
      let x = get_at ms k (omega (arith, slice_get_within os k c.0 c.1, all)) in
      let e : 1 + k ≡ suc k = omega arith in
      record {
        c = c.0;
        cm = x.0;
        at = c.1;
        at_m = x.1;
        stayed_k = stayed (suc k) c.0 x.0 c.1 x.1;
        looked_k = looked.each (suc k) x.0 d x.1 at';
        still_k = subst (λ (i : ℕ). LinkStill f l i c.0 d) e (still k c.0 d c.1 at');
        before = known k c.0 c.1;
        after = pair_of limits budget budgets l ls machine' exact' k d at';
      }

  -- the parts of the others, by entry
  abbrev spare : OtherCore
  spare = record { replica = replica_of l.part; participant = record { last = 0; voted = None; outstanding = false } }

  abbrev core_at : ℕ → OtherCore
  core_at k = other_of spare (get_or ls k l).part

  abbrev pending_at : ℕ → List Op
  pending_at k = (get_or ls k l).pending

  abbrev flow_before : ℕ → Flow
  flow_before k = ring_flow (get_or os k f).links 0

  abbrev flow_after : ℕ → Flow
  flow_after k = ring_flow (get_or ms k m).links 0

  idles_at : (k : ℕ) (d : RingCore) (core : OtherCore) → slice_get ls k ≡ Some d → d.part ≡ part.OtherCore core → (x : Mate k d) → IdlesOther (length budgets) core d.pending (ring_view d.links) (ring_flow x.cm.links 0)
  idles_at k d core at is x =
      let v : ring_view x.cm.links ≡ ring_view d.links = sym (views_same x.cm d x.looked_k) in
      let c : x.cm.cores ≡ suc (length budgets) = sym (ap (λ (y : RingCore). y.cores) x.looked_k.core) ∙ (others_cores k d at).1.place.cores_are in
      let y : x.cm.part ≡ part.OtherCore core = sym (ap (λ (y : RingCore). y.part) x.looked_k.core) ∙ is in
      let q : d.pending ≡ x.cm.pending = ap (λ (y : RingCore). y.pending) x.looked_k.core in
      let s = x.stayed_k in
      idles_other (length budgets) core d.pending (ring_view d.links) (ring_flow x.cm.links) (moved NoMessageNow _ _ _ _ _ _ c y v s.no_message)
      (moved (λ (a : ℕ) (b : Part) (w : ℕ → LinkView). CanBeginNext a b d.pending w → ⊥) _ _ _ _ _ _ c y v (subst (λ (o : List Op). CanBeginNext x.cm.cores x.cm.part o (ring_view x.cm.links) → ⊥) (sym q) s.no_request))
      (subst (λ (w : ℕ → LinkView). (p : ℕ) → (w p).ready ≡ false → (ring_flow x.cm.links p).room ≡ 0) v s.full)
      (moved (λ (a : ℕ) (b : Part) (w : ℕ → LinkView). ((p : ℕ) → p < a → ShowsNothing (w p)) → (p : ℕ) → p < a → (ring_flow x.cm.links p).known ≡ 0) _ _ _ _ _ _ c y v s.dry)

  still_core : (k : ℕ) (d : RingCore) (core : OtherCore) (e : OtherState) → slice_get ls k ≡ Some d → d.part ≡ part.OtherCore core → IsOtherCore core d.clock e → (x : Mate k d)
      → IsStillCore (length budgets) k core d.pending e (ring_view l.links) (ring_view d.links) (ring_flow f.links) (ring_flow m.links) (ring_flow x.c.links 0) (ring_flow x.cm.links 0)
  still_core k d core e at is stands x = record {
    clock = d.clock;
    is_other = stands;
    up = still_ring x.c x.cm d 0 f m l (suc k) x.stayed_k x.looked_k stayed0 seen0 x.before.up x.after.up x.still_k.up.out x.still_k.up.come x.still_k.down.come x.still_k.down.out;
    down = still_ring f m l (suc k) x.c x.cm d 0 stayed0 seen0 x.stayed_k x.looked_k x.before.down x.after.down x.still_k.down.out x.still_k.down.come x.still_k.up.come x.still_k.up.out;
    idles = idles_at k d core at is x;
  }

  -- it by entry
  by_entry : (k : ℕ) (v : ℕ → LinkView) (e : OtherState) (d : RingCore) (core : OtherCore) → slice_get ls k ≡ Some d → v ≡ ring_view d.links → d.part ≡ part.OtherCore core → IsOtherCore core d.clock e
      → IsStillCore (length budgets) k (core_at k) (pending_at k) e (ring_view l.links) v (ring_flow f.links) (ring_flow m.links) (flow_before k) (flow_after k)
  by_entry k v e d core at is_v is s =
      let x = mate k d at in
      let here : get_or ls k l ≡ d = get_or_from_slice_get ls k d l at in
      let here_o : get_or os k f ≡ x.c = get_or_from_slice_get os k x.c f x.at in
      let here_m : get_or ms k m ≡ x.cm = get_or_from_slice_get ms k x.cm m x.at_m in
      let is_core : core_at k ≡ core = ap (λ (c : RingCore). other_of spare c.part) here ∙ ap (λ (y : Part). other_of spare y) is in
      let before : flow_before k ≡ ring_flow x.c.links 0 = ap (λ (c : RingCore). ring_flow c.links 0) here_o in
      let after : flow_after k ≡ ring_flow x.cm.links 0 = ap (λ (c : RingCore). ring_flow c.links 0) here_m in
      subst (λ (y : OtherCore). IsStillCore (length budgets) k y (pending_at k) e (ring_view l.links) v (ring_flow f.links) (ring_flow m.links) (flow_before k) (flow_after k)) (sym is_core)
      (subst (λ (y : List Op). IsStillCore (length budgets) k core y e (ring_view l.links) v (ring_flow f.links) (ring_flow m.links) (flow_before k) (flow_after k)) (sym (ap (λ (c : RingCore). c.pending) here))
      (subst (λ (y : Flow). IsStillCore (length budgets) k core d.pending e (ring_view l.links) v (ring_flow f.links) (ring_flow m.links) y (flow_after k)) (sym before)
      (subst (λ (y : Flow). IsStillCore (length budgets) k core d.pending e (ring_view l.links) v (ring_flow f.links) (ring_flow m.links) (ring_flow x.c.links 0) y) (sym after)
      (subst (λ (y : ℕ → LinkView). IsStillCore (length budgets) k core d.pending e (ring_view l.links) y (ring_flow f.links) (ring_flow m.links) (ring_flow x.c.links 0) (ring_flow x.cm.links 0)) (sym is_v)
      (still_core k d core e at is s x)))))

  still_at : (k : ℕ) (v : ℕ → LinkView) (e : OtherState) → slice_get (views_of ls) k ≡ Some v → slice_get con.ends k ≡ Some e
      → IsStillCore (length budgets) k (core_at k) (pending_at k) e (ring_view l.links) v (ring_flow f.links) (ring_flow m.links) (flow_before k) (flow_after k)
  still_at k v e at_v at_e = by_part d.0.part refl (con.ends_other k d.0 e d.1 at_e)
    where
      d : (d : RingCore) × (slice_get ls k ≡ Some d) × (v ≡ ring_view d.links)
      d = get_map (λ (c : RingCore). ring_view c.links) ls k v at_v

      by_part : (y : Part) → d.0.part ≡ y → StandsAtOther y d.0.clock e → IsStillCore (length budgets) k (core_at k) (pending_at k) e (ring_view l.links) v (ring_flow f.links) (ring_flow m.links) (flow_before k) (flow_after k)
      by_part (part.Core0 core) is s = absurd s
      by_part (part.OtherCore core) is s = by_entry k v e d.0 core d.1 d.2 is s

  all_left : (core : Core0) → l.part ≡ part.Core0 core → IsCore0 (length budgets) core l.clock con.end → NothingIsLeft (ring_view l.links) (views_of ls) con.end con.ends l.pending pending_at (ring_flow m.links) flow_after
  all_left core is home = still_rests limits budget budgets l.history (histories_of ls) (ring_view l.links) (views_of ls) con.end con.ends con.beside core l.clock l.pending core_at pending_at (ring_flow f.links) (ring_flow m.links) flow_before flow_after home
      (idles0 (length budgets) core l.pending (ring_view l.links) (ring_flow m.links) no_itself (moved NoMessageNow _ _ _ _ _ _ cores0 y same_view0 stayed0.no_message)
      (moved (λ (a : ℕ) (b : Part) (w : ℕ → LinkView). CanBeginNext a b l.pending w → ⊥) _ _ _ _ _ _ cores0 y same_view0 (subst (λ (o : List Op). CanBeginNext m.cores m.part o (ring_view m.links) → ⊥) (sym q) stayed0.no_request))
      (subst (λ (w : ℕ → LinkView). (p : ℕ) → (w p).ready ≡ false → (ring_flow m.links p).room ≡ 0) same_view0 stayed0.full)
      (moved (λ (a : ℕ) (b : Part) (w : ℕ → LinkView). ((p : ℕ) → p < a → ShowsNothing (w p)) → (p : ℕ) → p < a → (ring_flow m.links p).known ≡ 0) _ _ _ _ _ _ cores0 y same_view0 stayed0.dry))
      still_at
    where
      no_itself : (ring_view l.links 0).kept ≡ []
      no_itself = ap (λ (o : Option Link). (place_view link_view o).kept) machine'.no_itself

      y : m.part ≡ part.Core0 core
      y = sym (ap (λ (x : RingCore). x.part) seen0.core) ∙ is

      q : l.pending ≡ m.pending
      q = ap (λ (x : RingCore). x.pending) seen0.core

  -- so each core is at rest
  first_rests : (core : Core0) → l.part ≡ part.Core0 core → IsCore0 (length budgets) core l.clock con.end → NothingIsLeft (ring_view l.links) (views_of ls) con.end con.ends l.pending pending_at (ring_flow m.links) flow_after → CoreRests l
  first_rests core is home left = record {
    none_pending = left.none0;
    nothing_under_way = subst (λ (x : Part). HasNothingUnderWay l.cores x (ring_view l.links)) (sym is) (phase, λ entry lt. (at_entry entry (omega (arith, lt, machine'.place.cores_are))).ready);
    links = subst (λ (i : ℕ). AreResting i l.cores (ring_view l.links) (ring_flow l.links)) (sym machine'.place.number_is) (λ entry lt. at_entry entry (omega (arith, lt, machine'.place.cores_are)));
  }
    where
      phase : core.coordinator.phase ≡ Idle
      phase = sym (ap (λ (x : CoordinatorPlace). x.phase) home.place_is) ∙ left.at_rest.idle

      at_entry : (entry : ℕ) → entry < (length budgets) → IsResting (ring_view l.links (suc entry)) (ring_flow l.links (suc entry))
      at_entry entry lt =
          let d = get_at ls entry (omega (arith, lt, machine'.all)) in
          let e = get_at con.ends entry (omega (arith, lt, con.beside.all_ends)) in
          let x = mate entry d.0 d.1 in
          let at_v = get_mapped (λ (c : RingCore). ring_view c.links) ls entry d.0 d.1 in
          let up = left.up entry (ring_view d.0.links) e.0 at_v e.1 in
          let down = left.down entry (ring_view d.0.links) e.0 at_v e.1 in
          let here_m : get_or ms entry m ≡ x.cm = get_or_from_slice_get ms entry x.cm m x.at_m in
          let received : (ring_flow x.cm.links 0).out ≡ (ring_flow m.links (suc entry)).come = subst (λ (c : RingCore). (ring_flow c.links 0).out ≡ (ring_flow m.links (suc entry)).come) here_m up.received in
          record { none_kept = up.none_kept; ready = down.ready; none_known = omega (arith, x.after.up.ends.items, received, (x.looked_k.lines 0).out, (seen0.lines (suc entry)).come) }

  other_rests : (k : ℕ) (d : RingCore) → slice_get ls k ≡ Some d → NothingIsLeft (ring_view l.links) (views_of ls) con.end con.ends l.pending pending_at (ring_flow m.links) flow_after → CoreRests d
  other_rests k d at left = by_part d.part refl (con.ends_other k d e.0 at e.1)
    where
      e : (e : OtherState) × (slice_get con.ends k ≡ Some e)
      e = get_at con.ends k (omega (arith, slice_get_within ls k d at, machine'.all, con.beside.all_ends))

      x : Mate k d
      x = mate k d at

      resting : IsResting (ring_view d.links 0) (ring_flow d.links 0)
      resting =
          let at_v = get_mapped (λ (c : RingCore). ring_view c.links) ls k d at in
          let up = left.up k (ring_view d.links) e.0 at_v e.1 in
          let down = left.down k (ring_view d.links) e.0 at_v e.1 in
          let here_m : get_or ms k m ≡ x.cm = get_or_from_slice_get ms k x.cm m x.at_m in
          let received : (ring_flow m.links (suc k)).out ≡ (ring_flow x.cm.links 0).come = subst (λ (c : RingCore). (ring_flow m.links (suc k)).out ≡ (ring_flow c.links 0).come) here_m down.received in
          record { none_kept = down.none_kept; ready = up.ready; none_known = omega (arith, x.after.down.ends.items, received, (x.looked_k.lines 0).come, (seen0.lines (suc k)).out) }

      by_part : (y : Part) → d.part ≡ y → StandsAtOther y d.clock e.0 → CoreRests d
      by_part (part.Core0 core) is s = absurd s
      by_part (part.OtherCore core) is s = record {
        none_pending = subst (λ (c : RingCore). c.pending ≡ []) (get_or_from_slice_get ls k d l at) (left.none k e.0 e.1);
        nothing_under_way = subst (λ (y : Part). HasNothingUnderWay d.cores y (ring_view d.links)) (sym is) (sym s.outstanding_is ∙ (left.at_rest.others k e.0 e.1).0);
        links = subst (λ (i : ℕ). AreResting i d.cores (ring_view d.links) (ring_flow d.links)) (sym (others_cores k d at).1.place.number_is) resting;
      }

  pub all_rest : AreAtRest (l ∷ ls)
  all_rest = by_part l.part refl con.ends0
    where
      each : (core : Core0) → l.part ≡ part.Core0 core → IsCore0 (length budgets) core l.clock con.end → (k : ℕ) (c : RingCore) → slice_get (l ∷ ls) k ≡ Some c → CoreRests c
      each core is home zero c at = let same : l ≡ c = cc in subst CoreRests same (first_rests core is home (all_left core is home))
      each core is home (suc k) c at = other_rests k c at (all_left core is home)

      by_part : (x : Part) → l.part ≡ x → StandsAt0 (length budgets) x l.clock con.end → AreAtRest (l ∷ ls)
      by_part (part.OtherCore core) is s = absurd s
      by_part (part.Core0 core) is s = all_of CoreRests (l ∷ ls) (each core is s)

-- One round

module _ (limits : TableLimits) (budget : ℕ) (budgets : List ℕ) (f m l : RingCore) (os ms ls : List RingCore) (machine : AreMachine limits budget budgets f os) (exact : EachIsExact f os) (all_went : AllWent Stayed (f ∷ os) (m ∷ ms))
    (looked : AreLookedAt (m ∷ ms) (l ∷ ls)) (machine' : AreMachine limits budget budgets l ls) (exact' : EachIsExact l ls) (con : Concludes limits budget budgets l ls) where
  passed_all : AllWent Passed (f ∷ os) (m ∷ ms)
  passed_all = record { all = all_went.all; each = λ i c d at at'. went_passed c d (all_went.each i c d at at') }

  rests : DidNothing f m l os ms ls → ((i : ℕ) (c d : RingCore) → slice_get (f ∷ os) i ≡ Some c → slice_get (m ∷ ms) i ≡ Some d → Stayed c d) → AreAtRest (l ∷ ls)
  rests n stayed = all_rest limits budget budgets f m l os ms ls (each_known limits budget budgets f os machine exact) (let e = all_went.all in omega (arith, e)) stayed looked machine' exact' con n.still

  pub falls : AreAtRest (l ∷ ls) ⊎ (work_ahead (l ∷ ls) < work_ahead (f ∷ os))
  falls = by_count (counted Stayed (f ∷ os) (m ∷ ms) all_went)
    where
      by_nothing : ((i : ℕ) (c d : RingCore) → slice_get (f ∷ os) i ≡ Some c → slice_get (m ∷ ms) i ≡ Some d → Stayed c d) → (work_ahead (l ∷ ls) < work_ahead (f ∷ os)) ⊎ DidNothing f m l os ms ls → AreAtRest (l ∷ ls) ⊎ (work_ahead (l ∷ ls) < work_ahead (f ∷ os))
      by_nothing stayed (inl lt) = inr lt
      by_nothing stayed (inr n) = inl (rests n stayed)

      by_count : Counted Stayed (f ∷ os) (m ∷ ms) → AreAtRest (l ∷ ls) ⊎ (work_ahead (l ∷ ls) < work_ahead (f ∷ os))
      by_count c = by_either c.either
        where
          by_either : (total steps (histories_of (f ∷ os)) < total steps (histories_of (m ∷ ms))) ⊎ ((i : ℕ) (x y : RingCore) → slice_get (f ∷ os) i ≡ Some x → slice_get (m ∷ ms) i ≡ Some y → Stayed x y)
              → AreAtRest (l ∷ ls) ⊎ (work_ahead (l ∷ ls) < work_ahead (f ∷ os))
          by_either (inl lt) = inr (event_falls limits budget budgets f m l os ms ls passed_all looked machine' exact' con lt)
          by_either (inr stayed) = by_nothing stayed (falls_or_not limits budget budgets f m l os ms ls passed_all looked machine' exact' con)
