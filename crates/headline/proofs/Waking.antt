-- Turns of the cores that have something to do, one after another.
use Rattle.std.proofs.Common.{◌≡◌, ◌≢◌, ◌∙◌, ◌+◌, ◌++◌, ◌<◌, ◌≤◌, ◌⊎◌, ℕ, zero, suc, Bool, true, false, cond, Option, None, Some, List, [], ◌∷◌, length, map, replicate, slice_get, slice_set, slice_index_or, get_or, inl, inr, refl, sym, ap, subst, arith}
use Rattle.std.specs.Prelude.{option_to_list}
use Rattle.std.proofs.lemmas.Bool.{cases_lt}
use Rattle.std.proofs.lemmas.List.{get_or-set_same, get_or-set_other, get_or_past}
use Rattle.filter_table.specs.Limits.{TableLimits}
use Rattle.filter_table.specs.declared.decision.Decision.{Decision}
use Rattle.world_model.proofs.Lists.{length-slice_set}
use Rattle.world_histories.specs.declared.history.Stamped.{Stamped}
use Rattle.core_links.specs.Flows.{IsLooked, HasMoved, ring_flow}
use Rattle.core_links.specs.RingSlots.{ring_view, SameLinks}
use Rattle.core_loop.specs.declared.cause.Cause.{Cause}
use Rattle.core_loop.specs.declared.cause.Turn.{Turn}
use Rattle.core_loop.specs.declared.cause.Turn.TheVariants as turn
use Rattle.core_loop.specs.Answering.{decisions}
use Rattle.core_loop.specs.Cores.{SameCore, NothingDone, DidOne, begun}
use Rattle.core_machine.specs.Machines.{RingCore, IsMachine}
use Rattle.core_machine.proofs.Lists.{get_indexed}
use Rattle.core_machine.specs.Rounds.{AreSeen, AreAtRest, Idled, halt_of}
use Rattle.core_machine.specs.Naming.{Awake, AllAwake, NoneAwake, NamingTurn, Wakes, NamedTurn, NamedTurns, names, turns_ahead}
use Rattle.core_machine.proofs.Answering.{Answered, answered_none}
use Rattle.core_machine.proofs.Naming.{named_rest, named_fewer}
use Rattle.core_machine.specs.declared.step.Task.TheVariants as task
use Rattle.core_machine.specs.declared.step.StepOutcome.TheVariants.{Turned}
use Rattle.core_machine.specs.Steps.{did, decided}
use Rattle.core_machine.specs.Driving.{CoreDrives, AreDriven, IsRunning}
use Rattle.core_machine.proofs.Steps.{driven_none, driven_one, driven_same, placed}
use Rattle.core_machine.proofs.Tasks.{turned}
use Rattle.headline.specs.Waking.{Halts, awake_of, turn_of_core}

-- the cores were looked at and took such turns since
pub record Named (limits : TableLimits) (budget : ℕ) (budgets : List ℕ) (awake : Awake) (cores : List RingCore) : Type 0 where
  pub old : List RingCore
  pub first : List RingCore
  pub start : Awake
  pub count : ℕ
  pub machine : IsMachine limits budget budgets old
  pub seen : AreSeen old first
  pub all : AllAwake start
  pub turns : NamedTurns count start awake first cores

pub named_start : (limits : TableLimits) (budget : ℕ) (budgets : List ℕ) (awake : Awake) (old first : List RingCore) → IsMachine limits budget budgets old → AreSeen old first → AllAwake awake → Named limits budget budgets awake first
named_start limits budget budgets awake old first machine seen all = record { old = old; first = first; start = awake; count = 0; machine = machine; seen = seen; all = all; turns = (refl, refl) }

pub named_more : (limits : TableLimits) (budget : ℕ) (budgets : List ℕ) (awake awake' : Awake) (cores new : List RingCore) → Named limits budget budgets awake cores → NamedTurn awake awake' cores new → Named limits budget budgets awake' new
named_more limits budget budgets awake awake' cores new n t = record { old = n.old; first = n.first; start = n.start; count = suc n.count; machine = n.machine; seen = n.seen; all = n.all; turns = (awake, cores, n.turns, inl t) }

pub named_rests : (limits : TableLimits) (budget : ℕ) (budgets : List ℕ) (awake : Awake) (cores : List RingCore) → Named limits budget budgets awake cores → NoneAwake (length cores) awake → AreAtRest cores
named_rests limits budget budgets awake cores n none = named_rest limits budget budgets n.count n.start awake n.old n.first cores n.machine n.seen n.all n.turns none

pub named_less : (limits : TableLimits) (budget : ℕ) (budgets : List ℕ) (awake awake' : Awake) (cores new : List RingCore) → Named limits budget budgets awake cores → NamedTurn awake awake' cores new → turns_ahead awake' new < turns_ahead awake cores
named_less limits budget budgets awake awake' cores new n t = named_fewer limits budget budgets n.count n.start awake awake' n.old n.first cores new n.machine n.seen n.all n.turns t

-- A turn

naming_of : (t : Turn) (old new : RingCore) → Answered t old new → ((p : ℕ) → names new p ≡ false → IsLooked (ring_flow old.links p) (ring_flow new.links p))
    → (old.stopped ≡ None → (p : ℕ) → names new p ≡ true → HasMoved (ring_flow old.links p) (ring_flow new.links p))
    → (((cause : Cause) → t ≡ turn.Stopped cause → ⊥) → (old.stopped ≡ None) × (new.stopped ≡ None)) → halt_of t ≡ None → NamingTurn old new
naming_of (turn.Did s d) old new a still moved running goes = record { goes_on = answered_none (turn.Did s d) old new a; still = still; moved = moved (running (λ cause is. cc)).0 }
naming_of turn.Idle old new a still moved running goes = record { goes_on = answered_none turn.Idle old new a; still = still; moved = moved (running (λ cause is. cc)).0 }
naming_of (turn.Stopped cause) old new a still moved running goes = absurd (cc)
naming_of turn.Spent old new a still moved running goes = absurd (cc)
naming_of turn.NoMemory old new a still moved running goes = absurd (cc)

idled_of : (t : Turn) (old new : RingCore) → Answered t old new → halt_of t ≡ None → ((s : Stamped) (d : Option Decision) → t ≡ turn.Did s d → ⊥) → Idled old new
idled_of (turn.Did s d) old new a goes none = absurd (none s d refl)
idled_of turn.Idle old new a goes none = a.idles refl (a.other (λ s d is. cc))
idled_of (turn.Stopped cause) old new a goes none = absurd (cc)
idled_of turn.Spent old new a goes none = absurd (cc)
idled_of turn.NoMemory old new a goes none = absurd (cc)

-- a core that halts and hasn't stopped lacks a number or memory
pub running_halts : (t : Turn) → Halts t → IsRunning (Turned t) → (t ≡ turn.Spent) ⊎ (t ≡ turn.NoMemory)
running_halts (turn.Did s d) halts running = absurd halts
running_halts turn.Idle halts running = absurd halts
running_halts (turn.Stopped cause) halts running = absurd running
running_halts turn.Spent halts running = inl refl
running_halts turn.NoMemory halts running = inr refl

-- which cores have something to do after it, by the entries of a list
wakes_of : (place : ℕ) (t : Turn) (old new : RingCore) (list set after : List Bool) (event : Bool) → Answered t old new → halt_of t ≡ None → (event ≡ true → (s : Stamped) × (d : Option Decision) × (t ≡ turn.Did s d))
    → (event ≡ false → (s : Stamped) (d : Option Decision) → t ≡ turn.Did s d → ⊥) → set ≡ slice_set list place event → place < length list → awake_of after place ≡ awake_of set place
    → ((i : ℕ) → i ≢ place → awake_of after i ≡ cond (awake_of set i) true (names new i)) → Wakes place old new (awake_of list) (awake_of after)
wakes_of place t old new list set after event a goes did none is inside itself others = record {
  more = λ e. let w = did (sym at ∙ e) in (w.0, a.did w.0 w.1 w.2, a.leave w.0 w.1 w.2);
  sleeps = λ e. idled_of t old new a goes (none (sym at ∙ e));
  others = λ i ne. others i ne ∙ ap (λ (b : Bool). cond b true (names new i)) (ap (λ (l : List Bool). get_or l i true) is ∙ get_or-set_other list place i event true ne);
}
  where
    at : awake_of after place ≡ event
    at = itself ∙ (ap (λ (l : List Bool). get_or l place true) is ∙ get_or-set_same list place event true inside)

pub named_of : (place : ℕ) (t : Turn) (cores new : List RingCore) (old becomes : RingCore) (list set after : List Bool) (event : Bool) → slice_get cores place ≡ Some old → awake_of list place ≡ true → Answered t old becomes
    → ((p : ℕ) → names becomes p ≡ false → IsLooked (ring_flow old.links p) (ring_flow becomes.links p))
    → (old.stopped ≡ None → (p : ℕ) → names becomes p ≡ true → HasMoved (ring_flow old.links p) (ring_flow becomes.links p))
    → (((cause : Cause) → t ≡ turn.Stopped cause → ⊥) → (old.stopped ≡ None) × (becomes.stopped ≡ None))
    → (event ≡ true → (s : Stamped) × (d : Option Decision) × (t ≡ turn.Did s d)) → (event ≡ false → (s : Stamped) (d : Option Decision) → t ≡ turn.Did s d → ⊥)
    → set ≡ slice_set list place event → place < length list → awake_of after place ≡ awake_of set place → ((i : ℕ) → i ≢ place → awake_of after i ≡ cond (awake_of set i) true (names becomes i))
    → AreSeen (slice_set cores place becomes) new → halt_of t ≡ None → NamedTurn (awake_of list) (awake_of after) cores new
named_of place t cores new old becomes list set after event there awake a still moved running did none is inside itself others seen goes = record {
  place = place;
  core = old;
  becomes = becomes;
  there = there;
  is_awake = awake;
  turn = naming_of t old becomes a still moved running goes;
  wakes = wakes_of place t old becomes list set after event a goes did none is inside itself others;
  seen = seen;
}

-- The entries of those that a core names are set, one after another

-- those of the cores before this one
pub record Waked (core count : ℕ) (named_by : RingCore) (old new : List Bool) : Type 0 where
  pub each : length new ≡ length old
  pub itself : awake_of new core ≡ awake_of old core
  pub passed : (i : ℕ) → i ≢ core → i < count → awake_of new i ≡ cond (awake_of old i) true (names named_by i)
  pub ahead : (i : ℕ) → i ≢ core → count ≤ i → awake_of new i ≡ awake_of old i

pub waked_none : (core : ℕ) (named_by : RingCore) (list : List Bool) → Waked core 0 named_by list list
waked_none core named_by list = record { each = refl; itself = refl; passed = λ i ne lt. absurd (omega (arith, lt)); ahead = λ i ne le. refl }

pub waked_set : (core p : ℕ) (named_by : RingCore) (old mid : List Bool) → Waked core p named_by old mid → (p ≡ core → ⊥) → names named_by p ≡ true → p < length mid → Waked core (p + 1) named_by old (slice_set mid p true)
waked_set core p named_by old mid w ne named inside = record {
  each = length-slice_set mid p true ∙ w.each;
  itself = get_or-set_other mid p core true true (λ e. ne (sym e)) ∙ w.itself;
  passed = λ i other lt. by_place i other lt (cases_lt i p);
  ahead = λ i other le. get_or-set_other mid p i true true (λ e. omega (arith, le, e)) ∙ w.ahead i other (omega (arith, le));
}
  where
    by_bool : (b n : Bool) → n ≡ true → true ≡ cond b true n
    by_bool true n e = refl
    by_bool false n e = sym e

    by_place : (i : ℕ) → (i ≡ core → ⊥) → i < p + 1 → ((i < p) ⊎ (p ≤ i)) → awake_of (slice_set mid p true) i ≡ cond (awake_of old i) true (names named_by i)
    by_place i other lt (inl less) = get_or-set_other mid p i true true (λ e. omega (arith, less, e)) ∙ w.passed i other less
    by_place i other lt (inr le) =
        let e : p ≡ i = omega (arith, le, lt) in
        subst (λ (n : ℕ). awake_of (slice_set mid p true) n ≡ cond (awake_of old n) true (names named_by n)) e (get_or-set_same mid p true true inside ∙ by_bool (awake_of old p) (names named_by p) named)

pub waked_kept : (core p : ℕ) (named_by : RingCore) (old mid : List Bool) → Waked core p named_by old mid → ((p ≡ core → ⊥) → names named_by p ≡ false) → Waked core (p + 1) named_by old mid
waked_kept core p named_by old mid w unnamed = record {
  each = w.each;
  itself = w.itself;
  passed = λ i other lt. by_place i other lt (cases_lt i p);
  ahead = λ i other le. w.ahead i other (omega (arith, le));
}
  where
    by_bool : (b n : Bool) → n ≡ false → b ≡ cond b true n
    by_bool true n e = refl
    by_bool false n e = sym e

    by_place : (i : ℕ) → (i ≡ core → ⊥) → i < p + 1 → ((i < p) ⊎ (p ≤ i)) → awake_of mid i ≡ cond (awake_of old i) true (names named_by i)
    by_place i other lt (inl less) = w.passed i other less
    by_place i other lt (inr le) =
        let e : p ≡ i = omega (arith, le, lt) in
        w.ahead i other le ∙ by_bool (awake_of old i) (names named_by i) (subst (λ (n : ℕ). names named_by n ≡ false) e (unnamed (λ same. other (sym e ∙ same))))

pub waked_all : (core count : ℕ) (named_by : RingCore) (old new : List Bool) → Waked core count named_by old new → length old ≤ count → (i : ℕ) → (i ≡ core → ⊥) → awake_of new i ≡ cond (awake_of old i) true (names named_by i)
waked_all core count named_by old new w le i other = by_place (cases_lt i (length old))
  where
    by_place : ((i < length old) ⊎ (length old ≤ i)) → awake_of new i ≡ cond (awake_of old i) true (names named_by i)
    by_place (inl lt) = w.passed i other (omega (arith, lt, le))
    by_place (inr beyond) = get_or_past new i true (omega (arith, beyond, w.each)) ∙ sym (ap (λ (b : Bool). cond b true (names named_by i)) (get_or_past old i true beyond))

-- Lists of cores

pub map_itself : (cores : List RingCore) → map (λ (c : RingCore). c) cores ≡ cores
map_itself [] = refl
map_itself (c ∷ cores) = ap (λ (l : List RingCore). c ∷ l) (map_itself cores)

pub all_set : (n : ℕ) → AllAwake (awake_of (replicate n true))
all_set zero i = refl
all_set (suc n) zero = refl
all_set (suc n) (suc i) = all_set n i

-- One core of a machine has taken a turn

pub indexed_at : (cores : List RingCore) (core place : ℕ) (read : RingCore) → place ≡ core → read ≡ slice_index_or cores place read → core < length cores → slice_get cores place ≡ Some (slice_index_or cores place read)
indexed_at cores core place read from is inside =
    get_indexed cores place read is (subst (λ (n : ℕ). n < length cores) (sym from) inside) ∙ ap (λ (x : RingCore). Some x) is

turned_at : (limits : TableLimits) (budget : ℕ) (budgets : List ℕ) (core place : ℕ) (t : Turn) (cores : List RingCore) (old new : RingCore) → IsMachine limits budget budgets cores → place ≡ core → slice_get cores place ≡ Some old
    → CoreDrives (did old.number (task.Turn false) (Turned t)) [] (decided (Turned t)) old new → AreDriven (turn_of_core core ∷ []) (Turned t ∷ []) cores (slice_set cores place new)
turned_at limits budget budgets core place t cores old new machine is there drives =
    subst (λ (n : ℕ). AreDriven (turn_of_core n ∷ []) (Turned t ∷ []) cores (slice_set cores place new)) is
    (driven_one (turn_of_core place) (Turned t) cores old new there (placed limits budget budgets cores cores machine (driven_same [] [] cores cores (driven_none cores)) place old there) tt drives)

-- by the clauses of the turn
pub turn_driven : (limits : TableLimits) (budget : ℕ) (budgets : List ℕ) (core place : ℕ) (t : Turn) (cores : List RingCore) (read old new : RingCore) → IsMachine limits budget budgets cores → core < length cores → place ≡ core → read ≡ slice_index_or cores place read
    → old ≡ slice_index_or cores place read → SameCore SameLinks old new → begun new.history ++ new.pending ≡ begun old.history ++ old.pending
    → ((s : Stamped) (d : Option Decision) → t ≡ turn.Did s d → DidOne ring_view old new s)
    → ((s : Stamped) (d : Option Decision) → t ≡ turn.Did s d → decisions new.history ≡ decisions old.history ++ option_to_list d)
    → (((s : Stamped) (d : Option Decision) → t ≡ turn.Did s d → ⊥) → NothingDone ring_view old new) → AreDriven (turn_of_core core ∷ []) (Turned t ∷ []) cores (slice_set cores place new)
turn_driven limits budget budgets core place t cores read old new machine inside from at is same requests one decision none =
    turned_at limits budget budgets core place t cores old new machine from (indexed_at cores core place read from at inside ∙ ap (λ (x : RingCore). Some x) (sym is)) (turned old.number false t old new same requests one decision none)
