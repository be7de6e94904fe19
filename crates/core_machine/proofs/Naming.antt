-- Turns of the cores that have something to do.
use Rattle.std.proofs.Common.{◌≡◌, ◌≢◌, ◌∙◌, ◌+◌, ◌*◌, ◌<◌, ◌≤◌, ◌⊎◌, inl, inr, ℕ, zero, suc, Bool, true, false, cond, Option, Some, List, [], ◌∷◌, ◌++◌, length, length-append, slice_get, slice_set, refl, sym, ap, subst, arith}
use Rattle.std.proofs.lemmas.Option.{slice_get_within}
use Rattle.std.proofs.lemmas.Bool.{cases_lt}
use Rattle.filter_table.proofs.Positions.{get_at}
use Rattle.world_model.proofs.Lists.{get-set_same, get-set_other, length-slice_set, same_or_not}
use Rattle.world_model.proofs.Submissions.{eq_self, eq_other}
use Rattle.filter_table.specs.Limits.{TableLimits}
use Rattle.world_histories.specs.declared.history.Stamped.{Stamped}
use Rattle.core_links.specs.declared.ring_links.Link.{Link}
use Rattle.core_links.specs.declared.ring_links.RingLinks.{RingLinks}
use Rattle.core_links.specs.RingSlots.{SameLinks, ring_view}
use Rattle.core_links.specs.Flows.{Flow, IsExact, IsExactAt, IsLooked, HasMoved, place_flow, ring_flow, ring_capacity}
use Rattle.core_loop.specs.Cores.{SameCore}
use Rattle.core_machine.specs.Machines.{RingCore, IsMachine, AreSameCores}
use Rattle.core_machine.specs.Looking.{IsLookedAt, AreLookedAt, AreExactMachine}
use Rattle.core_machine.specs.Conclusions.{Conclude}
use Rattle.core_machine.proofs.Along.{same_itself}
use Rattle.core_machine.proofs.Joined.{looked_along}
use Rattle.core_machine.proofs.Machines.{machine_ran}
use Rattle.core_machine.specs.Ahead.{work_ahead}
use Rattle.core_machine.specs.Rounds.{DidEvent, Idled, AreSeen, AreAtRest}
use Rattle.core_machine.specs.Naming.{Awake, names, NamedTurn, IsAsked, NamedTurns, count_awake, turns_ahead, AllAwake, NoneAwake}
use Rattle.core_machine.proofs.Turning.{Passed, Stayed, Went, keeps_itself, went_once, went_passed}
use Rattle.core_machine.proofs.Counting.{AllWent}
use Rattle.core_machine.proofs.Lines.{AllStill, LinkStill}
use Rattle.core_machine.proofs.Falling.{KnownRing, EachIsKnown, DidNothing, times, pair_of, hold_pair, falls_or_not, all_rest}
use Rattle.core_machine.proofs.Listing.{one_set}
use Rattle.core_machine.proofs.Rounding.{all_looked, kept_same}

-- Cores that face each other: core 0 and another. The link of each to the other is at the other's place.

abbrev pub Facing : ℕ → ℕ → Type 0
Facing zero zero = ⊥
Facing zero (suc k) = Unit {0}
Facing (suc k) zero = Unit {0}
Facing (suc i) (suc k) = ⊥

facing_back : (i j : ℕ) → Facing i j → Facing j i
facing_back zero zero f = absurd f
facing_back zero (suc k) f = tt
facing_back (suc k) zero f = tt
facing_back (suc i) (suc k) f = absurd f

facing_other : (i j : ℕ) → Facing i j → i ≢ j
facing_other zero zero f = absurd f
facing_other zero (suc k) f = λ e. omega (arith, e)
facing_other (suc k) zero f = λ e. omega (arith, e)
facing_other (suc i) (suc k) f = absurd f

abbrev ExactTo : RingCore → ℕ → RingCore → ℕ → Type 0
ExactTo c i d j = IsExact (ring_capacity c.links j) (ring_view c.links j) (ring_view d.links i) (ring_flow c.links j) (ring_flow d.links i)

facing_exact : (limits : TableLimits) (budget : ℕ) (budgets : List ℕ) (cores : List RingCore) → IsMachine limits budget budgets cores → AreExactMachine cores → (i j : ℕ) (c d : RingCore) → Facing i j → slice_get cores i ≡ Some c → slice_get cores j ≡ Some d
    → (1 ≤ ring_capacity c.links j) × ExactTo c i d j
facing_exact limits budget budgets [] machine exact i j c d f at at' = absurd machine
facing_exact limits budget budgets (first ∷ others) machine exact zero zero c d f at at' = absurd f
facing_exact limits budget budgets (first ∷ others) machine exact zero (suc k) c d f at at' =
    let same : first ≡ c = cc in
    subst (λ (x : RingCore). (1 ≤ ring_capacity x.links (suc k)) × ExactTo x 0 d (suc k)) same ((hold_pair limits budget budgets first others machine k d at').down, (pair_of limits budget budgets first others machine exact k d at').down)
facing_exact limits budget budgets (first ∷ others) machine exact (suc k) zero c d f at at' =
    let same : first ≡ d = cc in
    subst (λ (x : RingCore). (1 ≤ ring_capacity c.links 0) × ExactTo c (suc k) x 0) same ((hold_pair limits budget budgets first others machine k c at).up, (pair_of limits budget budgets first others machine exact k c at).up)
facing_exact limits budget budgets (first ∷ others) machine exact (suc i) (suc j) c d f at at' = absurd f

-- Cores that sleep

-- a core knows of all lines that the other sent, and of all places that are free
pub record KnowsEnd (own peer : Flow) : Type 0 where
  pub capacity : ℕ
  pub some : 1 ≤ capacity
  pub items : peer.out ≤ own.come + own.known
  pub places : capacity + peer.come ≤ own.room + own.out

knows_same : (own peer peer' : Flow) → IsLooked peer peer' → KnowsEnd own peer → KnowsEnd own peer'
knows_same own peer peer' same k = record { capacity = k.capacity; some = k.some; items = omega (arith, k.items, same.out); places = omega (arith, k.places, same.come) }

-- the core as its last turn left it, in which it could do no more, and which was only looked at since; it knows all of its rings
pub record Sleeps (cores : List RingCore) (i : ℕ) (c turned : RingCore) : Type 0 where
  pub stays : Stayed turned turned
  pub looked : IsLookedAt turned c
  pub knows : (j : ℕ) (d : RingCore) → Facing i j → slice_get cores j ≡ Some d → KnowsEnd (ring_flow turned.links j) (ring_flow d.links i)

pub record Known (limits : TableLimits) (budget : ℕ) (budgets : List ℕ) (awake : Awake) (cores : List RingCore) : Type 0 where
  pub machine : IsMachine limits budget budgets cores
  pub exact : AreExactMachine cores
  pub asleep : (i : ℕ) (c : RingCore) → slice_get cores i ≡ Some c → awake i ≡ false → (turned : RingCore) × Sleeps cores i c turned

stays_idle : (old new : RingCore) → Idled old new → Stayed new new
stays_idle old new i = record {
  history = refl;
  sent = λ p. refl;
  lines = λ p. record { out = omega arith; come = omega arith; room = omega arith; known = omega arith };
  no_message = i.no_message;
  no_request = i.no_request;
  full = i.full;
  dry = i.dry;
}

-- a core with no turn
went_none : (c : RingCore) → Went Passed c c
went_none c = record {
  keeps = keeps_itself c;
  either = inr (record { history = refl; sent = λ p. refl; lines = λ p. record { out = omega arith; come = omega arith; room = omega arith; known = omega arith } });
}

-- Lists of which one core changed

set_same : (old : List RingCore) (place : ℕ) (core becomes : RingCore) → slice_get old place ≡ Some core → SameCore SameLinks core becomes → AreSameCores old (slice_set old place becomes)
set_same old place core becomes at k = record { all = length-slice_set old place becomes; each = one_set (SameCore SameLinks) old place core becomes at k same_itself }

-- A named turn

module _ (limits : TableLimits) (budget : ℕ) (budgets : List ℕ) (awake awake' : Awake) (old new : List RingCore) (k : Known limits budget budgets awake old) (t : NamedTurn awake awake' old new) where
  abbrev mid : List RingCore
  mid = slice_set old t.place t.becomes

  mid_machine : IsMachine limits budget budgets mid
  mid_machine = machine_ran limits budget budgets old mid k.machine (set_same old t.place t.core t.becomes t.there t.turn.goes_on.keeps.same)

  long : length new ≡ length old
  long = t.seen.looked.all ∙ length-slice_set old t.place t.becomes

  new_machine : IsMachine limits budget budgets new
  new_machine = machine_ran limits budget budgets mid new mid_machine (kept_same mid new t.seen.looked.all (all_looked mid new t.seen.looked))

  -- what stands at a place before, in the middle and after
  record Stands (i : ℕ) (c' : RingCore) : Type 0 where
    c : RingCore
    m : RingCore
    at : slice_get old i ≡ Some c
    at_mid : slice_get mid i ≡ Some m
    looked : IsLookedAt m c'

  stands : (i : ℕ) (c' : RingCore) → slice_get new i ≡ Some c' → Stands i c'
  stands i c' at' =
      let lt = slice_get_within new i c' at' in
      let c = get_at old i (omega (arith, lt, long)) in
      let m = get_at mid i (omega (arith, lt, t.seen.looked.all)) in
      record { c = c.0; m = m.0; at = c.1; at_mid = m.1; looked = t.seen.looked.each i m.0 c' m.1 at' }

  turned_at : (i : ℕ) (c' : RingCore) → (s : Stands i c') → t.place ≡ i → (s.c ≡ t.core) × (s.m ≡ t.becomes)
  turned_at i c' s e =
      let set = get-set_same old t.place t.becomes t.core t.there in
      let s_at = s.at in
      let s_mid = s.at_mid in
      let there = t.there in
      (cc (s_at, there, e), cc (set, s_mid, e))

  other_at : (i : ℕ) (c' : RingCore) → (s : Stands i c') → (t.place ≡ i → ⊥) → s.m ≡ s.c
  other_at i c' s ne =
      let there = get-set_other old t.place i t.becomes ne in
      let s_at = s.at in
      let s_mid = s.at_mid in
      cc (s_at, s_mid, there)

  -- the lines of a core that didn't turn are as they were
  other_lines : (i : ℕ) (c' : RingCore) → (s : Stands i c') → (t.place ≡ i → ⊥) → (p : ℕ) → IsLooked (ring_flow s.c.links p) (ring_flow c'.links p)
  other_lines i c' s ne p = subst (λ (x : RingCore). IsLooked (ring_flow x.links p) (ring_flow c'.links p)) (other_at i c' s ne) (s.looked.lines p)

  -- it now sleeps, since it could do no more
  itself_sleeps : (c' : RingCore) → slice_get new t.place ≡ Some c' → Idled t.core t.becomes → Sleeps new t.place c' t.becomes
  itself_sleeps c' at' idled = record {
    stays = stays_idle t.core t.becomes idled;
    looked = subst (λ (x : RingCore). IsLookedAt x c') (turned_at t.place c' s refl).1 s.looked;
    knows = λ j d' facing at_d. knows j d' facing (stands j d' at_d);
  }
    where
      s : Stands t.place c'
      s = stands t.place c' at'

      knows : (j : ℕ) (d' : RingCore) → Facing t.place j → Stands j d' → KnowsEnd (ring_flow t.becomes.links j) (ring_flow d'.links t.place)
      knows j d' facing x =
          let here = facing_exact limits budget budgets old k.machine k.exact t.place j t.core x.c facing t.there x.at in
          let back = facing_exact limits budget budgets old k.machine k.exact j t.place x.c t.core (facing_back t.place j facing) x.at t.there in
          let on = idled.lines j in
          let same = other_lines j d' x (facing_other t.place j facing) t.place in
          record {
            capacity = ring_capacity t.core.links j;
            some = here.0;
            items = omega (arith, back.1.ends.items, on.known, same.out);
            places = omega (arith, here.1.ends.places, on.room, same.come);
          }

  -- another that slept and wasn't named sleeps on
  other_sleeps : (i : ℕ) (c' turned : RingCore) → (s : Stands i c') → (t.place ≡ i → ⊥) → names t.becomes i ≡ false → Sleeps old i s.c turned → Sleeps new i c' turned
  other_sleeps i c' turned s ne unnamed a = record {
    stays = a.stays;
    looked = looked_along turned s.c c' a.looked (subst (λ (x : RingCore). IsLookedAt x c') (other_at i c' s ne) s.looked);
    knows = λ j d' facing at_d. knows j d' facing (stands j d' at_d);
  }
    where
      knows : (j : ℕ) (d' : RingCore) → Facing i j → Stands j d' → KnowsEnd (ring_flow turned.links j) (ring_flow d'.links i)
      knows j d' facing x = knows_same _ _ _ (by_place (same_or_not t.place j)) (a.knows j x.c facing x.at)
        where
          by_place : (t.place ≡ j) ⊎ (t.place ≡ j → ⊥) → IsLooked (ring_flow x.c.links i) (ring_flow d'.links i)
          by_place (inl e) =
              let at_j = turned_at j d' x e in
              let still = t.turn.still i unnamed in
              let c_is = ap (λ (y : RingCore). ring_flow y.links i) at_j.0 in
              let seen : IsLooked (ring_flow t.becomes.links i) (ring_flow d'.links i) = subst (λ (y : RingCore). IsLooked (ring_flow y.links i) (ring_flow d'.links i)) at_j.1 (x.looked.lines i) in
              subst (λ (v : Flow). IsLooked v (ring_flow d'.links i)) (sym c_is) (record { out = seen.out ∙ still.out; come = seen.come ∙ still.come })
          by_place (inr n) = other_lines j d' x n i

  unnamed_of : (b named : Bool) → cond b true named ≡ false → (b ≡ false) × (named ≡ false)
  unnamed_of true named e = absurd cc
  unnamed_of false named e = (refl, e)

  now_asleep : (i : ℕ) (c' : RingCore) → slice_get new i ≡ Some c' → awake' i ≡ false → (turned : RingCore) × Sleeps new i c' turned
  now_asleep i c' at' asleep = by_place (same_or_not t.place i)
    where
      by_place : (t.place ≡ i) ⊎ (t.place ≡ i → ⊥) → (turned : RingCore) × Sleeps new i c' turned
      by_place (inl e) =
          let idled = t.wakes.sleeps (ap awake' e ∙ asleep) in
          let at : slice_get new t.place ≡ Some c' = ap (λ (n : ℕ). slice_get new n) e ∙ at' in
          (t.becomes, subst (λ (n : ℕ). Sleeps new n c' t.becomes) e (itself_sleeps c' at idled))
      by_place (inr ne) =
          let both = unnamed_of (awake i) (names t.becomes i) (sym (t.wakes.others i (λ e. ne (sym e))) ∙ asleep) in
          let s = stands i c' at' in
          let a = k.asleep i s.c s.at both.0 in
          (a.0, other_sleeps i c' a.0 s ne both.1 a.1)

  turn_known : Known limits budget budgets awake' new
  turn_known = record { machine = new_machine; exact = t.seen.exact; asleep = now_asleep }

  turn_concludes : Conclude limits budget budgets new
  turn_concludes = t.seen.concludes limits budget budgets mid_machine

  -- All went on, of which one turned

  all_went : AllWent Passed old mid
  all_went = record {
    all = length-slice_set old t.place t.becomes;
    each = one_set (Went Passed) old t.place t.core t.becomes t.there (went_passed t.core t.becomes (went_once t.core t.becomes t.turn.goes_on)) went_none;
  }

  -- Where the turn did nothing, it named none

  abbrev Unmoved : Type 0
  Unmoved = (i : ℕ) (c : RingCore) → Facing t.place i → slice_get old i ≡ Some c → IsLooked (ring_flow t.core.links i) (ring_flow t.becomes.links i)

  no_event : t.becomes.history ≡ t.core.history → DidEvent t.core t.becomes → ⊥
  no_event same d = omega (arith, ap (λ (h : List Stamped). length h) (sym same ∙ d.1.history), length-append t.core.history (d.0 ∷ []))

  unnamed : Unmoved → (i : ℕ) → i < length old → i ≢ t.place → names t.becomes i ≡ false
  unnamed still i lt ne = by_name (names t.becomes i) refl
    where
      peer : (c : RingCore) × (slice_get old i ≡ Some c)
      peer = get_at old i lt

      none_there : (cores : List RingCore) (place j : ℕ) (c : RingCore) → IsMachine limits budget budgets cores → slice_get cores (suc place) ≡ Some c → names c (suc j) ≡ false
      none_there [] place j c machine at = absurd machine
      none_there (first ∷ others) place j c machine at =
          let b = get_at budgets place (omega (arith, slice_get_within others place c at, machine.all)) in
          ap (λ (o : Option Link). (place_flow o).moved) ((machine.peers place b.0 c b.1 at).no_other j)

      by_places : (place j : ℕ) → t.place ≡ place → i ≡ j → names t.becomes i ≡ true → ⊥
      by_places zero zero e f named = ne (f ∙ sym e)
      by_places zero (suc j) e f named = by_moved (still i peer.0 (subst (λ (n : ℕ). Facing n i) (sym e) (subst (λ (n : ℕ). Facing 0 n) (sym f) tt)) peer.1) (t.turn.moved i named)
        where
          by_moved : IsLooked (ring_flow t.core.links i) (ring_flow t.becomes.links i) → HasMoved (ring_flow t.core.links i) (ring_flow t.becomes.links i) → ⊥
          by_moved l (inl o) = omega (arith, l.out, o)
          by_moved l (inr c) = omega (arith, l.come, c)
      by_places (suc place) zero e f named = by_moved (still i peer.0 (subst (λ (n : ℕ). Facing n i) (sym e) (subst (λ (n : ℕ). Facing (suc place) n) (sym f) tt)) peer.1) (t.turn.moved i named)
        where
          by_moved : IsLooked (ring_flow t.core.links i) (ring_flow t.becomes.links i) → HasMoved (ring_flow t.core.links i) (ring_flow t.becomes.links i) → ⊥
          by_moved l (inl o) = omega (arith, l.out, o)
          by_moved l (inr c) = omega (arith, l.come, c)
      by_places (suc place) (suc j) e f named =
          let at : slice_get mid (suc place) ≡ Some t.becomes = subst (λ (n : ℕ). slice_get mid n ≡ Some t.becomes) e (get-set_same old t.place t.becomes t.core t.there) in
          let none : names t.becomes i ≡ false = ap (λ (n : ℕ). names t.becomes n) f ∙ none_there mid place j t.becomes mid_machine at in
          let both : true ≡ false = sym named ∙ none in
          cc

      by_name : (b : Bool) → names t.becomes i ≡ b → names t.becomes i ≡ false
      by_name false e = e
      by_name true e = absurd (by_places t.place i refl refl e)

-- Numbers

turns_less : (w w' n c c' : ℕ) → w' < w → c' ≤ n → w' * (1 + n) + c' < w * (1 + n) + c
turns_less w w' n c c' less most = let rest = times (1 + n) (suc w') w (omega (arith, less)) in omega (arith, rest, most)

turns_fewer : (w w' n c c' : ℕ) → w' ≤ w → c' < c → w' * (1 + n) + c' < w * (1 + n) + c
turns_fewer w w' n c c' most fewer = let rest = times (1 + n) w' w most in omega (arith, rest, fewer)

count_most : (awake : Awake) (n : ℕ) → count_awake awake n ≤ n
count_most awake zero = omega arith
count_most awake (suc n) = by_bool (awake n) (count_most awake n)
  where
    by_bool : (b : Bool) → count_awake awake n ≤ n → cond b 1 0 + count_awake awake n ≤ suc n
    by_bool true le = omega (arith, le)
    by_bool false le = omega (arith, le)

count_same : (awake awake' : Awake) (n : ℕ) → ((i : ℕ) → i < n → awake' i ≡ awake i) → count_awake awake' n ≡ count_awake awake n
count_same awake awake' zero same = refl
count_same awake awake' (suc n) same =
    let rest = count_same awake awake' n (λ i lt. same i (omega (arith, lt))) in
    let last = ap {B = ℕ} (λ (b : Bool). cond b 1 0) (same n (omega arith)) in
    omega (arith, rest, last)

below : (place n : ℕ) → place < suc n → (place ≡ n → ⊥) → place < n
below place n lt ne = by_cases (cases_lt place n)
  where
    by_cases : (place < n) ⊎ (n ≤ place) → place < n
    by_cases (inl l) = l
    by_cases (inr le) = absurd (ne (omega (arith, lt, le)))

count_fewer : (awake awake' : Awake) (n place : ℕ) → place < n → awake place ≡ true → awake' place ≡ false → ((i : ℕ) → i < n → i ≢ place → awake' i ≡ awake i) → count_awake awake' n < count_awake awake n
count_fewer awake awake' zero place lt was is same = absurd (omega (arith, lt))
count_fewer awake awake' (suc n) place lt was is same =
    by_place (λ below. count_fewer awake awake' n place below was is (λ i less other. same i (omega (arith, less)) other)) (same_or_not place n)
  where
    by_place : (place < n → count_awake awake' n < count_awake awake n) → (place ≡ n) ⊎ (place ≡ n → ⊥) → count_awake awake' (suc n) < count_awake awake (suc n)
    by_place fewer (inl e) =
        let rest = count_same awake awake' n (λ i less. same i (omega (arith, less)) (λ f. omega (arith, e, f, less))) in
        let before = ap {B = ℕ} (λ (b : Bool). cond b 1 0) (ap awake (sym e) ∙ was) in
        let after = ap {B = ℕ} (λ (b : Bool). cond b 1 0) (ap awake' (sym e) ∙ is) in
        omega (arith, rest, before, after)
    by_place fewer (inr ne) =
        let rest = fewer (below place n lt ne) in
        let last = ap {B = ℕ} (λ (b : Bool). cond b 1 0) (same n (omega arith) (λ e. ne (sym e))) in
        omega (arith, rest, last)

-- Turns that leave less work, or that did nothing

record HasNothing (old mid new : List RingCore) : Type 0 where
  passed : (i : ℕ) (c d : RingCore) → slice_get old i ≡ Some c → slice_get mid i ≡ Some d → Passed c d
  most : work_ahead new ≤ work_ahead old
  still : (i j : ℕ) (c d : RingCore) → Facing i j → slice_get old i ≡ Some c → slice_get mid i ≡ Some d → j < length old → IsLooked (ring_flow c.links j) (ring_flow d.links j)

still_lines : (f m l : RingCore) (os ms ls : List RingCore) → AllStill f l 1 os ls → AreLookedAt (m ∷ ms) (l ∷ ls) → length ms ≡ length os → (i j : ℕ) (c d : RingCore) → Facing i j
    → slice_get (f ∷ os) i ≡ Some c → slice_get (m ∷ ms) i ≡ Some d → j < length (f ∷ os) → IsLooked (ring_flow c.links j) (ring_flow d.links j)
still_lines f m l os ms ls still looked long zero zero c d facing at at' lt = absurd facing
still_lines f m l os ms ls still looked long zero (suc k) c d facing at at' lt =
    let o = get_at os k (omega (arith, lt)) in
    let x = get_at ls k (let e = looked.all in omega (arith, lt, e, long)) in
    let e : 1 + k ≡ suc k = omega arith in
    let s : LinkStill f l (suc k) o.0 x.0 = subst (λ (n : ℕ). LinkStill f l n o.0 x.0) e (still k o.0 x.0 o.1 x.1) in
    let seen = (looked.each 0 m l refl refl).lines (suc k) in
    let same_c : f ≡ c = cc in
    let same_d : m ≡ d = cc in
    subst (λ (y : RingCore). IsLooked (ring_flow y.links (suc k)) (ring_flow d.links (suc k))) same_c
    (subst (λ (y : RingCore). IsLooked (ring_flow f.links (suc k)) (ring_flow y.links (suc k))) same_d (record { out = sym seen.out ∙ s.down.out; come = sym seen.come ∙ s.up.come }))
still_lines f m l os ms ls still looked long (suc k) zero c d facing at at' lt =
    let x = get_at ls k (let e = looked.all in omega (arith, slice_get_within os k c at, e, long)) in
    let e : 1 + k ≡ suc k = omega arith in
    let s : LinkStill f l (suc k) c x.0 = subst (λ (n : ℕ). LinkStill f l n c x.0) e (still k c x.0 at x.1) in
    let seen = (looked.each (suc k) d x.0 at' x.1).lines 0 in
    record { out = sym seen.out ∙ s.up.out; come = sym seen.come ∙ s.down.come }
still_lines f m l os ms ls still looked long (suc i) (suc j) c d facing at at' lt = absurd facing

falls_or_has_nothing : (limits : TableLimits) (budget : ℕ) (budgets : List ℕ) (old mid new : List RingCore) → AllWent Passed old mid → AreLookedAt mid new → IsMachine limits budget budgets new → AreExactMachine new → Conclude limits budget budgets new
    → (work_ahead new < work_ahead old) ⊎ HasNothing old mid new
falls_or_has_nothing limits budget budgets old mid [] went looked machine exact con = absurd machine
falls_or_has_nothing limits budget budgets old [] (l ∷ ls) went looked machine exact con = absurd (let e = looked.all in omega (arith, e))
falls_or_has_nothing limits budget budgets [] (m ∷ ms) (l ∷ ls) went looked machine exact con = absurd (let e = went.all in omega (arith, e))
falls_or_has_nothing limits budget budgets (f ∷ os) (m ∷ ms) (l ∷ ls) went looked machine exact con = by_nothing (falls_or_not limits budget budgets f m l os ms ls went looked machine exact con)
  where
    by_nothing : (work_ahead (l ∷ ls) < work_ahead (f ∷ os)) ⊎ DidNothing f m l os ms ls → (work_ahead (l ∷ ls) < work_ahead (f ∷ os)) ⊎ HasNothing (f ∷ os) (m ∷ ms) (l ∷ ls)
    by_nothing (inl lt) = inl lt
    by_nothing (inr n) = inr (record { passed = n.passed; most = n.most; still = still_lines f m l os ms ls n.still looked (let e = went.all in omega (arith, e)) })

pub turn_fewer : (limits : TableLimits) (budget : ℕ) (budgets : List ℕ) (awake awake' : Awake) (old new : List RingCore) → Known limits budget budgets awake old → NamedTurn awake awake' old new → turns_ahead awake' new < turns_ahead awake old
turn_fewer limits budget budgets awake awake' old new k t =
    subst (λ (n : ℕ). work_ahead new * (1 + n) + count_awake awake' n < turns_ahead awake old) (sym same)
    (by_work (falls_or_has_nothing limits budget budgets old turned new (all_went limits budget budgets awake awake' old new k t) t.seen.looked (new_machine limits budget budgets awake awake' old new k t) t.seen.exact (turn_concludes limits budget budgets awake awake' old new k t)))
  where
    turned : List RingCore
    turned = slice_set old t.place t.becomes

    same : length new ≡ length old
    same = t.seen.looked.all ∙ length-slice_set old t.place t.becomes

    by_work : (work_ahead new < work_ahead old) ⊎ HasNothing old turned new → work_ahead new * (1 + length old) + count_awake awake' (length old) < turns_ahead awake old
    by_work (inl lt) = turns_less (work_ahead old) (work_ahead new) (length old) (count_awake awake (length old)) (count_awake awake' (length old)) lt (count_most awake' (length old))
    by_work (inr n) = turns_fewer (work_ahead old) (work_ahead new) (length old) (count_awake awake (length old)) (count_awake awake' (length old)) n.most
        (count_fewer awake awake' (length old) t.place (slice_get_within old t.place t.core t.there) t.is_awake (asleep (awake' t.place) refl) others)
      where
        here : slice_get turned t.place ≡ Some t.becomes
        here = get-set_same old t.place t.becomes t.core t.there

        asleep : (b : Bool) → awake' t.place ≡ b → awake' t.place ≡ false
        asleep false e = e
        asleep true e = absurd (no_event limits budget budgets awake awake' old new k t (n.passed t.place t.core t.becomes t.there here).history (t.wakes.more e))

        others : (i : ℕ) → i < length old → i ≢ t.place → awake' i ≡ awake i
        others i lt ne = t.wakes.others i ne ∙ by_bool (awake i) (names t.becomes i) (unnamed limits budget budgets awake awake' old new k t (λ j c facing at. n.still t.place j t.core t.becomes facing t.there here (slice_get_within old j c at)) i lt ne)
          where
            by_bool : (b named : Bool) → named ≡ false → cond b true named ≡ b
            by_bool true named e = refl
            by_bool false named e = e

-- Requests between turns

set_exact : (old : List RingCore) (place : ℕ) (core x : RingCore) → slice_get old place ≡ Some core → x.links ≡ core.links → AreExactMachine old → AreExactMachine (slice_set old place x)
set_exact [] place core x at same exact = absurd cc
set_exact (first ∷ others) zero core x at same exact = λ k c at_c.
    let is : first ≡ core = cc in
    subst (λ (r : RingLinks). IsExactAt r c.links × IsExactAt c.links r) (sym (same ∙ ap (λ (y : RingCore). y.links) (sym is))) (exact k c at_c)
set_exact (first ∷ others) (suc n) core x at same exact = λ k c at_c. by_place k c at_c (same_or_not n k)
  where
    by_place : (k : ℕ) (c : RingCore) → slice_get (slice_set others n x) k ≡ Some c → (n ≡ k) ⊎ (n ≡ k → ⊥) → IsExactAt first.links c.links × IsExactAt c.links first.links
    by_place k c at_c (inl e) =
        let set = get-set_same others n x core at in
        let is : x ≡ c = cc (set, at_c, e) in
        subst (λ (r : RingLinks). IsExactAt first.links r × IsExactAt r first.links) (sym same ∙ ap (λ (y : RingCore). y.links) is) (exact n core at)
    by_place k c at_c (inr ne) = exact k c (sym (get-set_other others n k x ne) ∙ at_c)

module _ (limits : TableLimits) (budget : ℕ) (budgets : List ℕ) (awake awake' : Awake) (old new : List RingCore) (k : Known limits budget budgets awake old) (a : IsAsked awake awake' old new) where
  abbrev asked_core : RingCore
  asked_core = record a.core { pending = a.core.pending ++ a.op ∷ [] }

  abbrev asked_list : List RingCore
  asked_list = slice_set old a.place asked_core

  same_asked : SameCore SameLinks a.core asked_core
  same_asked = let s = same_itself a.core in record { number = refl; cores = refl; limits = refl; budget = refl; links = s.links; intake = s.intake }

  is_awake : awake' a.place ≡ true
  is_awake = a.wakes a.place ∙ ap (λ (b : Bool). cond b true (awake a.place)) (eq_self a.place)

  asleep_before : (i : ℕ) → (a.place ≡ i → ⊥) → awake' i ≡ false → awake i ≡ false
  asleep_before i ne asleep = sym (a.wakes i ∙ ap (λ (b : Bool). cond b true (awake i)) (eq_other i a.place (λ e. ne (sym e)))) ∙ asleep

  -- the links of all are as they were
  links_at : (j : ℕ) (d' : RingCore) → slice_get asked_list j ≡ Some d' → (d : RingCore) × (slice_get old j ≡ Some d) × (d'.links ≡ d.links)
  links_at j d' at = by_place (same_or_not a.place j)
    where
      by_place : (a.place ≡ j) ⊎ (a.place ≡ j → ⊥) → (d : RingCore) × (slice_get old j ≡ Some d) × (d'.links ≡ d.links)
      by_place (inl e) =
          let set = get-set_same old a.place asked_core a.core a.there in
          let is : asked_core ≡ d' = cc (set, at, e) in
          (a.core, subst (λ (n : ℕ). slice_get old n ≡ Some a.core) e a.there, ap (λ (y : RingCore). y.links) (sym is))
      by_place (inr ne) = (d', sym (get-set_other old a.place j asked_core ne) ∙ at, refl)

  sleeps_on : (i : ℕ) (c turned : RingCore) → Sleeps old i c turned → Sleeps asked_list i c turned
  sleeps_on i c turned s = record {
    stays = s.stays;
    looked = s.looked;
    knows = λ j d' facing at. (let d = links_at j d' at in subst (λ (r : RingLinks). KnowsEnd (ring_flow turned.links j) (ring_flow r i)) (sym d.2) (s.knows j d.0 facing d.1));
  }

  asked_asleep : (i : ℕ) (c : RingCore) → slice_get asked_list i ≡ Some c → awake' i ≡ false → (turned : RingCore) × Sleeps asked_list i c turned
  asked_asleep i c at asleep = by_place (same_or_not a.place i)
    where
      by_place : (a.place ≡ i) ⊎ (a.place ≡ i → ⊥) → (turned : RingCore) × Sleeps asked_list i c turned
      by_place (inl e) = absurd (let both : true ≡ false = sym is_awake ∙ (ap awake' e ∙ asleep) in cc)
      by_place (inr ne) =
          let s = k.asleep i c (sym (get-set_other old a.place i asked_core ne) ∙ at) (asleep_before i ne asleep) in
          (s.0, sleeps_on i c s.0 s.1)

  ask_known : Known limits budget budgets awake' new
  ask_known = subst (λ (cs : List RingCore). Known limits budget budgets awake' cs) (sym a.new_is) (record {
    machine = machine_ran limits budget budgets old asked_list k.machine (set_same old a.place a.core asked_core a.there same_asked);
    exact = set_exact old a.place a.core asked_core a.there refl k.exact;
    asleep = asked_asleep;
  })

  ask_inside : a.place < length new
  ask_inside = omega (arith, slice_get_within old a.place a.core a.there, length-slice_set old a.place asked_core, ap (λ (cs : List RingCore). length cs) a.new_is)

-- Where none has anything to do, all are at rest

-- a list with something of each place
chosen : (Q : ℕ → RingCore → RingCore → Type 0) (xs : List RingCore) → ((i : ℕ) (x : RingCore) → slice_get xs i ≡ Some x → (y : RingCore) × Q i x y)
    → (ys : List RingCore) × (length ys ≡ length xs) × ((i : ℕ) (x y : RingCore) → slice_get xs i ≡ Some x → slice_get ys i ≡ Some y → Q i x y)
chosen Q [] each = ([], refl, λ i x y at. absurd cc)
chosen Q (x ∷ xs) each =
    let first = each 0 x refl in
    let rest = chosen (λ (i : ℕ). Q (suc i)) xs (λ i y at. each (suc i) y at) in
    (first.0 ∷ rest.0, ap suc rest.1, all first.0 rest.0 first.1 rest.2)
  where
    all : (y : RingCore) (ys : List RingCore) → Q 0 x y → ((i : ℕ) (a b : RingCore) → slice_get xs i ≡ Some a → slice_get ys i ≡ Some b → Q (suc i) a b)
        → (i : ℕ) (a b : RingCore) → slice_get (x ∷ xs) i ≡ Some a → slice_get (y ∷ ys) i ≡ Some b → Q i a b
    all y ys q r zero a b at at' = (let same_a : x ≡ a = cc in let same_b : y ≡ b = cc in subst (λ (z : RingCore). Q 0 z b) same_a (subst (λ (z : RingCore). Q 0 x z) same_b q))
    all y ys q r (suc i) a b at at' = r i a b at at'

known_ring : (out come out' come' : Flow) → IsLooked out out' → IsLooked come come' → KnowsEnd out come' → KnowsEnd come out' → come'.come ≤ out'.out → KnownRing out come
known_ring out come out' come' o c a b below = record {
  capacity = a.capacity;
  some = a.some;
  known = record { below = omega (arith, below, o.out, c.come); items = omega (arith, b.items, o.out); places = omega (arith, a.places, c.come) };
}

all_asleep : (limits : TableLimits) (budget : ℕ) (budgets : List ℕ) (cores turned : List RingCore) → IsMachine limits budget budgets cores → AreExactMachine cores → Conclude limits budget budgets cores → length turned ≡ length cores
    → ((i : ℕ) (c t : RingCore) → slice_get cores i ≡ Some c → slice_get turned i ≡ Some t → Sleeps cores i c t) → AreAtRest cores
all_asleep limits budget budgets [] turned machine exact con long sleeps = absurd machine
all_asleep limits budget budgets (l ∷ ls) [] machine exact con long sleeps = absurd (omega (arith, long))
all_asleep limits budget budgets (l ∷ ls) (m ∷ ms) machine exact con long sleeps =
    all_rest limits budget budgets m m l ms ms ls known refl stayed looked machine exact con still
  where
    sleeper : (i : ℕ) (t : RingCore) → slice_get (m ∷ ms) i ≡ Some t → (c : RingCore) × (slice_get (l ∷ ls) i ≡ Some c) × Sleeps (l ∷ ls) i c t
    sleeper i t at =
        let c = get_at (l ∷ ls) i (omega (arith, slice_get_within (m ∷ ms) i t at, long)) in
        (c.0, c.1, sleeps i c.0 t c.1 at)

    stayed : (i : ℕ) (c d : RingCore) → slice_get (m ∷ ms) i ≡ Some c → slice_get (m ∷ ms) i ≡ Some d → Stayed c d
    stayed i c d at at' = (let same : c ≡ d = cc in subst (λ (x : RingCore). Stayed c x) same (sleeper i c at).2.stays)

    looked : AreLookedAt (m ∷ ms) (l ∷ ls)
    looked = record { all = sym long; each = λ i t c at at'. (sleeps i c t at' at).looked }

    first : Sleeps (l ∷ ls) 0 l m
    first = sleeps 0 l m refl refl

    known : EachIsKnown m ms
    known k t at =
        let s = sleeper (suc k) t at in
        let p = pair_of limits budget budgets l ls machine exact k s.0 s.1 in
        record {
          down = known_ring (ring_flow m.links (suc k)) (ring_flow t.links 0) (ring_flow l.links (suc k)) (ring_flow s.0.links 0) (first.looked.lines (suc k)) (s.2.looked.lines 0) (first.knows (suc k) s.0 tt s.1) (s.2.knows 0 l tt refl) (omega (arith, p.down.ends.items));
          up = known_ring (ring_flow t.links 0) (ring_flow m.links (suc k)) (ring_flow s.0.links 0) (ring_flow l.links (suc k)) (s.2.looked.lines 0) (first.looked.lines (suc k)) (s.2.knows 0 l tt refl) (first.knows (suc k) s.0 tt s.1) (omega (arith, p.up.ends.items));
        }

    still : AllStill m l 1 ms ls
    still k t c at at' =
        let e : suc k ≡ 1 + k = omega arith in
        let s = sleeps (suc k) c t at' at in
        subst (λ (n : ℕ). LinkStill m l n t c) e (record {
          down = record { out = (first.looked.lines (suc k)).out; come = (s.looked.lines 0).come };
          up = record { out = (s.looked.lines 0).out; come = (first.looked.lines (suc k)).come };
        })

none_awake_rests : (limits : TableLimits) (budget : ℕ) (budgets : List ℕ) (awake : Awake) (cores : List RingCore) → Known limits budget budgets awake cores → Conclude limits budget budgets cores → NoneAwake (length cores) awake → AreAtRest cores
none_awake_rests limits budget budgets awake cores k con none =
    let c = chosen (λ (i : ℕ) (x y : RingCore). Sleeps cores i x y) cores (λ i x at. k.asleep i x at (none i (slice_get_within cores i x at))) in
    all_asleep limits budget budgets cores c.0 k.machine k.exact con c.1 c.2

-- Turns one after another

known_first : (limits : TableLimits) (budget : ℕ) (budgets : List ℕ) (awake : Awake) (old first : List RingCore) → IsMachine limits budget budgets old → AreSeen old first → AllAwake awake → Known limits budget budgets awake first
known_first limits budget budgets awake old first machine seen all = record {
  machine = machine_ran limits budget budgets old first machine (kept_same old first seen.looked.all (all_looked old first seen.looked));
  exact = seen.exact;
  asleep = λ i c at asleep. absurd (let both : true ≡ false = sym (all i) ∙ asleep in cc);
}

pub turns_known : (limits : TableLimits) (budget : ℕ) (budgets : List ℕ) (steps : ℕ) (awake awake' : Awake) (first last : List RingCore) → Known limits budget budgets awake first → NamedTurns steps awake awake' first last → Known limits budget budgets awake' last
turns_known limits budget budgets zero awake awake' first last k t = subst (λ (x : Awake). Known limits budget budgets x last) (sym t.0) (subst (λ (x : List RingCore). Known limits budget budgets awake x) (sym t.1) k)
turns_known limits budget budgets (suc steps) awake awake' first last k t = by_step (turns_known limits budget budgets steps awake t.0 first t.1 k t.2) t.3
  where
    by_step : Known limits budget budgets t.0 t.1 → NamedTurn t.0 awake' t.1 last ⊎ IsAsked t.0 awake' t.1 last → Known limits budget budgets awake' last
    by_step m (inl x) = turn_known limits budget budgets t.0 awake' t.1 last m x
    by_step m (inr x) = ask_known limits budget budgets t.0 awake' t.1 last m x

machine_some : (limits : TableLimits) (budget : ℕ) (budgets : List ℕ) (cores : List RingCore) → IsMachine limits budget budgets cores → 0 < length cores
machine_some limits budget budgets [] machine = absurd machine
machine_some limits budget budgets (first ∷ others) machine = omega arith

pub named_rest : (limits : TableLimits) (budget : ℕ) (budgets : List ℕ) (steps : ℕ) (awake awake' : Awake) (old first last : List RingCore) → IsMachine limits budget budgets old → AreSeen old first → AllAwake awake → NamedTurns steps awake awake' first last
    → NoneAwake (length last) awake' → AreAtRest last
named_rest limits budget budgets zero awake awake' old first last machine seen all t none =
    let k = turns_known limits budget budgets zero awake awake' first last (known_first limits budget budgets awake old first machine seen all) t in
    absurd (let both : true ≡ false = sym (ap (λ (x : Awake). x 0) t.0 ∙ all 0) ∙ none 0 (machine_some limits budget budgets last k.machine) in cc)
named_rest limits budget budgets (suc steps) awake awake' old first last machine seen all t none = by_step (turns_known limits budget budgets steps awake t.0 first t.1 (known_first limits budget budgets awake old first machine seen all) t.2) t.3
  where
    by_step : Known limits budget budgets t.0 t.1 → NamedTurn t.0 awake' t.1 last ⊎ IsAsked t.0 awake' t.1 last → AreAtRest last
    by_step m (inl x) = none_awake_rests limits budget budgets awake' last (turn_known limits budget budgets t.0 awake' t.1 last m x) (turn_concludes limits budget budgets t.0 awake' t.1 last m x) none
    by_step m (inr x) = absurd (let both : true ≡ false = sym (is_awake limits budget budgets t.0 awake' t.1 last m x) ∙ none x.place (ask_inside limits budget budgets t.0 awake' t.1 last m x) in cc)

pub named_fewer : (limits : TableLimits) (budget : ℕ) (budgets : List ℕ) (steps : ℕ) (awake between awake' : Awake) (old first mid last : List RingCore) → IsMachine limits budget budgets old → AreSeen old first → AllAwake awake → NamedTurns steps awake between first mid
    → NamedTurn between awake' mid last → turns_ahead awake' last < turns_ahead between mid
named_fewer limits budget budgets steps awake between awake' old first mid last machine seen all t x =
    turn_fewer limits budget budgets between awake' mid last (turns_known limits budget budgets steps awake between first mid (known_first limits budget budgets awake old first machine seen all) t) x
