-- What the log and the decisions of a machine keep to, by its events in the order of a run, or in that of its cores' steps.
use Rattle.std.proofs.Common.{◌≡◌, ◌+◌, ◌≤◌, ◌++◌, ◌∷◌, ◌⊎◌, inl, inr, ℕ, zero, suc, Bool, true, false, cond, Some, List, [], length, slice_get, refl, ap, sym, ◌∙◌, subst, arith, None, ◌==◌}
use Rattle.std.proofs.lemmas.List.{map-append}
use Rattle.filter_table.specs.Limits.{TableLimits}
use Rattle.filter_table.specs.declared.operation.Op.{Op}
use Rattle.filter_table.specs.Tables.{table, Allowed}
use Rattle.filter_table.specs.declared.decision.Decision.{Decision}
use Rattle.filter_table.specs.declared.decision.Decision.TheVariants.{Committed, Refused}
use Rattle.filter_table.specs.declared.decision.Vote.TheVariants as vote
use Rattle.world_events.specs.declared.event.Event.{Event}
use Rattle.world_events.specs.declared.event.Event.TheVariants.{Take}
use Rattle.world_events.specs.declared.event.Answer.{Answer}
use Rattle.world_events.specs.declared.event.Answer.TheVariants.{TookPrepare}
use Rattle.world_events.specs.declared.event.Done.{Done}
use Rattle.world_model.specs.Worlds.{World, Run}
use Rattle.world_model.specs.Agreement.{IsSoundLog}
use Rattle.world_model.specs.Committed.{log_of}
use Rattle.world_model.specs.Decisions.{IsEntryAt}
use Rattle.world_model.specs.Readings.{version_of}
use Rattle.world_model.proofs.RunLaws.{run_agrees, run_limits}
use Rattle.world_model.proofs.SoundLogs.{run_sound}
use Rattle.world_histories.specs.declared.history.Stamped.{Stamped}
use Rattle.world_histories.specs.Histories.{unstamped}
use Rattle.world_histories.specs.Merging.{core_of, part, as_short, listed, as_listed}
use Rattle.core_loop.specs.Answering.{own_decision, is_own}
use Rattle.core_machine.proofs.Logs.{run_log}
use Rattle.headline.specs.Decided.{events_at, decided_from, decided_in}
use Rattle.headline.specs.Headline.{begun_in}
use Rattle.headline.specs.Judged.{AreRightful, AreAllowed, IsRefused, IsSince, IsDecisionOn, AreJudged, AreCommittedOnce, AreAllNamed}
use Rattle.headline.proofs.Ordering.{begun_at, SameParts}
use Rattle.headline.proofs.Listed.{begun_in_same, log_same, version_same, events_part}
use Rattle.headline.proofs.Judging.{run_judged, run_once, run_named}

pub record Laws (limits : TableLimits) (budgets : List ℕ) (events : List Done) : Type 0 where
  pub rightful : AreRightful limits (log_of events)
  pub allowed : AreAllowed limits budgets (log_of events)
  pub judged : AreJudged limits budgets events
  pub once : AreCommittedOnce events

-- every request that was begun is decided
abbrev pub AllDecided : List Done → Type 0
AllDecided events = (core : ℕ) → length (begun_in core events) ≤ length (decided_in core events)

pub run_laws : (limits : TableLimits) (budget : ℕ) (budgets : List ℕ) (events : List Done) (w : World) → Run limits budget budgets events w → Laws limits (budget ∷ budgets) events
run_laws limits budget budgets events w run = record {
  rightful = λ v f le at. (sound.sound v le).rightful f at;
  allowed = λ v b op first at. (let same : budget ≡ b = (let x : Some budget ≡ Some b = first in cc) in subst (λ (n : ℕ). Allowed (table limits (log_of events) v) n op None) same (allowed v op at));
  judged = run_judged limits budget budgets events w run;
  once = run_once limits budget budgets events w run;
}
  where
    log : w.log ≡ log_of events
    log = run_log limits budget budgets events w run

    limits_are : w.limits ≡ limits
    limits_are = run_limits limits budget budgets events w run

    sound : IsSoundLog limits (log_of events)
    sound = subst (λ (l : List Op). IsSoundLog limits l) log (subst (λ (m : TableLimits). IsSoundLog m w.log) limits_are (run_sound limits budget budgets events w run))

    allowed : (v : ℕ) (op : Op) → slice_get (log_of events) v ≡ Some op → Allowed (table limits (log_of events) v) budget op None
    allowed = subst (λ (l : List Op). (v : ℕ) (op : Op) → slice_get l v ≡ Some op → Allowed (table limits l v) budget op None) log
        (subst (λ (m : TableLimits). (v : ℕ) (op : Op) → slice_get w.log v ≡ Some op → Allowed (table m w.log v) budget op None) limits_are (run_agrees limits budget budgets events w run).allowed)

-- Another list that tells the same of each core

module _ (limits : TableLimits) (budgets : List ℕ) (events list : List Done) (log : log_of events ≡ log_of list) (decided : (core : ℕ) → decided_in core events ≡ decided_in core list) (begun : (core : ℕ) → begun_in core events ≡ begun_in core list)
    (since : (core number version : ℕ) → IsSince list core number version → IsSince events core number version) where
  decision_as : (core number : ℕ) (op : Op) (d : Decision) → IsDecisionOn limits budgets list core number op d → IsDecisionOn limits budgets events core number op d
  decision_as core number op (Committed version id) h = (h.0, subst (λ (l : List Op). IsEntryAt limits l h.0 op version id) (sym log) h.1)
  decision_as core number op (Refused by why) h = (
    h.0,
    omega (arith, h.1, ap length log),
    since core number h.0 h.2,
    subst (λ (l : List Op). IsRefused budgets (table limits l h.0) op by why) (sym log) h.3,
  )

  pub laws_as : Laws limits budgets list → Laws limits budgets events
  laws_as laws = record {
    rightful = subst (AreRightful limits) (sym log) laws.rightful;
    allowed = subst (AreAllowed limits budgets) (sym log) laws.allowed;
    judged = λ core number d at. (
        let j = laws.judged core number d (ap (λ (ds : List Decision). slice_get ds number) (sym (decided core)) ∙ at) in
        (j.0, ap (λ (ops : List Op). slice_get ops number) (begun core) ∙ j.1, decision_as core number j.0 d j.2)
        );
    once = λ core other n n' version id id' at at'. laws.once core other n n' version id id' (ap (λ (ds : List Decision). slice_get ds n) (sym (decided core)) ∙ at) (ap (λ (ds : List Decision). slice_get ds n') (sym (decided other)) ∙ at');
  }

  pub named_as : AreAllNamed list → AreAllNamed events
  named_as all v within =
      let n = all v (omega (arith, within, ap length log)) in
      (n.0, n.1, n.2, ap (λ (ds : List Decision). slice_get ds n.1) (decided n.0) ∙ n.3)

  pub all_as : AllDecided events → AllDecided list
  all_as all core = omega (arith, all core, ap length (decided core), ap length (begun core))

-- A take that is listed as short tells what it tells without

decision_same : (own : Bool) (event : Event) (answer : Answer) → own_decision own (as_short event answer) answer ≡ own_decision own event answer
decision_same true (Take to from short) (TookPrepare txn vote.NoMemory) = refl
decision_same false (Take to from short) (TookPrepare txn vote.NoMemory) = refl
decision_same own event answer = refl

own_same : (own : Bool) (event : Event) (answer : Answer) → is_own own (as_short event answer) ≡ is_own own event
own_same own (Take to from short) (TookPrepare txn vote.NoMemory) = refl
own_same own event answer = refl

from_same : (own : Bool) (xs : List Stamped) → decided_from own (unstamped xs) ≡ decided_from own (as_listed xs)
from_same own [] = refl
from_same own (x ∷ xs) =
    ap (λ (ds : List Decision). own_decision own x.done.event x.done.answer ++ ds) (from_same (is_own own x.done.event) xs)
    ∙ (ap (λ (b : Bool). own_decision own x.done.event x.done.answer ++ decided_from b (as_listed xs)) (sym (own_same own x.done.event x.done.answer))
    ∙ ap (λ (ds : List Decision). ds ++ decided_from (is_own own (as_short x.done.event x.done.answer)) (as_listed xs)) (sym (decision_same own x.done.event x.done.answer)))

core_same : (event : Event) (answer : Answer) → core_of (as_short event answer) ≡ core_of event
core_same (Take to from short) (TookPrepare txn vote.NoMemory) = refl
core_same event answer = refl

listed_at : (core : ℕ) (xs : List Stamped) → events_at core (as_listed xs) ≡ as_listed (part core xs)
listed_at core [] = refl
listed_at core (x ∷ xs) = by_test (core_of x.done.event == core) (ap (λ (n : ℕ). n == core) (core_same x.done.event x.done.answer)) (listed_at core xs)
  where
    by_test : (b : Bool) → (core_of (as_short x.done.event x.done.answer) == core) ≡ b → events_at core (as_listed xs) ≡ as_listed (part core xs)
        → cond (core_of (as_short x.done.event x.done.answer) == core) (listed x ∷ events_at core (as_listed xs)) (events_at core (as_listed xs)) ≡ as_listed (cond b (x ∷ part core xs) (part core xs))
    by_test true e rest = ap (λ (b : Bool). cond b (listed x ∷ events_at core (as_listed xs)) (events_at core (as_listed xs))) e ∙ ap (λ (ds : List Done). listed x ∷ ds) rest
    by_test false e rest = ap (λ (b : Bool). cond b (listed x ∷ events_at core (as_listed xs)) (events_at core (as_listed xs))) e ∙ rest

decided_same : (core : ℕ) (xs : List Stamped) → decided_in core (unstamped xs) ≡ decided_in core (as_listed xs)
decided_same core xs = ap (decided_from false) (events_part core xs) ∙ (from_same false (part core xs) ∙ ap (decided_from false) (sym (listed_at core xs)))

-- a front of events, as stamped ones
record FrontOf (xs : List Stamped) (front rest : List Done) : Type 0 where
  first : List Stamped
  left : List Stamped
  is_split : xs ≡ first ++ left
  is_first : unstamped first ≡ front

front_of_stamped : (xs : List Stamped) (front rest : List Done) → unstamped xs ≡ front ++ rest → FrontOf xs front rest
front_of_stamped xs [] rest e = record { first = []; left = xs; is_split = refl; is_first = refl }
front_of_stamped [] (y ∷ front) rest e = absurd (cc)
front_of_stamped (x ∷ xs) (y ∷ front) rest e =
    let same : x.done ≡ y = cc in
    let tail : unstamped xs ≡ front ++ rest = cc in
    let f = front_of_stamped xs front rest tail in
    record { first = x ∷ f.first; left = f.left; is_split = ap (λ (l : List Stamped). x ∷ l) f.is_split; is_first = rw (same, f.is_first) refl }

since_same : (xs : List Stamped) (core number version : ℕ) → IsSince (as_listed xs) core number version → IsSince (unstamped xs) core number version
since_same xs core number version h front rest e few =
    let f = front_of_stamped (part core xs) front rest (sym (events_part core xs) ∙ e) in
    let there : events_at core (as_listed xs) ≡ as_listed f.first ++ as_listed f.left = listed_at core xs ∙ (ap as_listed f.is_split ∙ map-append listed f.first f.left) in
    let begun : length (begun_in core (as_listed f.first)) ≤ number = omega (arith, few, ap length (begun_in_same core f.first), ap (λ (ds : List Done). length (begun_in core ds)) f.is_first) in
    let its = h (as_listed f.first) (as_listed f.left) there begun in
    omega (arith, its, version_same core f.first, ap (version_of core) f.is_first)

pub laws_listed : (limits : TableLimits) (budgets : List ℕ) (xs : List Stamped) → Laws limits budgets (as_listed xs) → Laws limits budgets (unstamped xs)
laws_listed limits budgets xs = laws_as limits budgets (unstamped xs) (as_listed xs) (log_same xs) (λ core. decided_same core xs) (λ core. begun_in_same core xs) (since_same xs)

-- A list with the same events of each core

decided_parts : (events list : List Done) → SameParts events list → (core : ℕ) → decided_in core events ≡ decided_in core list
decided_parts events list same core = ap (decided_from false) (same core)

begun_parts : (events list : List Done) → SameParts events list → (core : ℕ) → begun_in core events ≡ begun_in core list
begun_parts events list same core = begun_at core events ∙ (ap (begun_in core) (same core) ∙ sym (begun_at core list))

since_parts : (events list : List Done) → SameParts events list → (core number version : ℕ) → IsSince list core number version → IsSince events core number version
since_parts events list same core number version h front rest e few = h front rest (sym (same core) ∙ e) few

pub laws_parts : (limits : TableLimits) (budgets : List ℕ) (events : List Done) (xs : List Stamped) → SameParts events (unstamped xs) → log_of events ≡ log_of (unstamped xs) → Laws limits budgets (as_listed xs) → Laws limits budgets events
laws_parts limits budgets events xs same log laws =
    laws_as limits budgets events (unstamped xs) log (decided_parts events (unstamped xs) same) (begun_parts events (unstamped xs) same) (since_parts events (unstamped xs) same) (laws_listed limits budgets xs laws)

-- and where every request that was begun is decided, every entry of the log is named
pub named_parts : (limits : TableLimits) (budgets : List ℕ) (events : List Done) (xs : List Stamped) → SameParts events (unstamped xs) → log_of events ≡ log_of (unstamped xs) → (AllDecided (as_listed xs) → AreAllNamed (as_listed xs)) → AllDecided events → AreAllNamed events
named_parts limits budgets events xs same log named all =
    named_as limits budgets events (unstamped xs) log (decided_parts events (unstamped xs) same) (begun_parts events (unstamped xs) same) (since_parts events (unstamped xs) same)
    (named_as limits budgets (unstamped xs) (as_listed xs) (log_same xs) (λ core. decided_same core xs) (λ core. begun_in_same core xs) (since_same xs)
    (named (all_as limits budgets (unstamped xs) (as_listed xs) (log_same xs) (λ core. decided_same core xs) (λ core. begun_in_same core xs) (since_same xs)
    (all_as limits budgets events (unstamped xs) log (decided_parts events (unstamped xs) same) (begun_parts events (unstamped xs) same) (since_parts events (unstamped xs) same) all))))
