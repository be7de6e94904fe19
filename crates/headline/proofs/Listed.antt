-- Events as the cores of a machine did them, and as the list of a run has them.
use Rattle.std.proofs.Common.{◌≡◌, ◌==◌, ◌+◌, ◌++◌, ◌∷◌, ℕ, zero, suc, Bool, true, false, cond, Some, List, [], length, refl, ap, sym, ◌∙◌, subst, arith}
use Rattle.std.specs.Prelude.{fold, count_by}
use Rattle.std.proofs.lemmas.List.{map-append}
use Rattle.std.proofs.lemmas.Option.{slice_get_within}
use Rattle.filter_table.specs.Limits.{TableLimits}
use Rattle.filter_table.specs.declared.operation.Op.{Op}
use Rattle.filter_table.specs.declared.decision.Vote.TheVariants as vote
use Rattle.filter_table.specs.Tables.{table}
use Rattle.table_replica.specs.Shown.{ReplicaState}
use Rattle.filter_table.proofs.Positions.{get_at}
use Rattle.world_events.specs.declared.event.Event.{Event}
use Rattle.world_events.specs.declared.event.Event.TheVariants.{Start, Submit, StartFor, Take, Rx}
use Rattle.world_events.specs.declared.event.Answer.{Answer}
use Rattle.world_events.specs.declared.event.Answer.TheVariants.{TookPrepare}
use Rattle.world_events.specs.declared.event.Done.{Done}
use Rattle.world_model.specs.Worlds.{World, boot, HappensStartFor, Run}
use Rattle.world_model.specs.Decisions.{DeliversBy, Delivers}
use Rattle.world_model.specs.Readings.{commits_at, version_of, Request, sent}
use Rattle.world_model.proofs.Runs.{runs_split}
use Rattle.world_model.proofs.Known.{run_known}
use Rattle.world_model.proofs.RunLaws.{run_waits}
use Rattle.world_histories.specs.declared.history.Stamped.{Stamped}
use Rattle.world_histories.specs.Histories.{unstamped}
use Rattle.world_histories.specs.Merging.{Merged, core_of, part, as_short, listed, as_listed}
use Rattle.world_histories.specs.Answers.{begins_for}
use Rattle.world_histories.proofs.Lists.{Found, found}
use Rattle.world_histories.proofs.Merge.{run_of}
use Rattle.world_histories.proofs.Requests.{Tracks, run_tracks}
use Rattle.core_machine.specs.Machines.{RingCore}
use Rattle.core_machine.specs.Conclusions.{Concludes, histories_of}
use Rattle.core_machine.specs.Merges.{ListsRuns}
use Rattle.headline.specs.Headline.{ShowTables, begun_by, begun_in}
use Rattle.world_model.specs.Committed.{Told, nothing_told, told_with, log_of}
use Rattle.headline.specs.Decided.{events_at}
use Rattle.headline.specs.Starts.{started_for, submitted_by, submitted_in, StartOneByOne}
use Rattle.headline.proofs.Ordering.{count_first, submitted_count}

-- A take that is listed as short tells what it tells without

told_same : (t : Told) (event : Event) (answer : Answer) → told_with t (record { event = as_short event answer; answer = answer }) ≡ told_with t (record { event = event; answer = answer })
told_same t (Take to from short) (TookPrepare txn vote.NoMemory) = refl
told_same t event answer = refl

pub commits_same : (core : ℕ) (event : Event) (answer : Answer) → commits_at core (as_short event answer) answer ≡ commits_at core event answer
commits_same zero (Take to from short) (TookPrepare txn vote.NoMemory) = refl
commits_same (suc i) (Take to from short) (TookPrepare txn vote.NoMemory) = refl
commits_same core event answer = refl

submits_same : (core : ℕ) (event : Event) (answer : Answer) → submitted_by core (as_short event answer) ≡ submitted_by core event
submits_same core (Take to from short) (TookPrepare txn vote.NoMemory) = refl
submits_same core event answer = refl

begun_same : (core : ℕ) (event : Event) (answer : Answer) → begun_by core (as_short event answer) ≡ begun_by core event
begun_same core (Take to from short) (TookPrepare txn vote.NoMemory) = refl
begun_same core event answer = refl

starts_same : (core : ℕ) (event : Event) (answer : Answer) → begins_for core (as_short event answer) ≡ begins_for core event
starts_same core (Take to from short) (TookPrepare txn vote.NoMemory) = refl
starts_same core event answer = refl

fold_same : (t : Told) (xs : List Stamped) → fold told_with t (unstamped xs) ≡ fold told_with t (as_listed xs)
fold_same t [] = refl
fold_same t (x ∷ xs) = fold_same (told_with t x.done) xs ∙ ap (λ (u : Told). fold told_with u (as_listed xs)) (sym (told_same t x.done.event x.done.answer))

pub log_same : (xs : List Stamped) → log_of (unstamped xs) ≡ log_of (as_listed xs)
log_same xs = ap (λ (t : Told). t.committed) (fold_same nothing_told xs)

count_same : (p : Event → Answer → Bool) → ((event : Event) (answer : Answer) → p (as_short event answer) answer ≡ p event answer) → (xs : List Stamped)
    → count_by (λ (d : Done). p d.event d.answer) (unstamped xs) ≡ count_by (λ (d : Done). p d.event d.answer) (as_listed xs)
count_same p same [] = refl
count_same p same (x ∷ xs) =
    let first : count_by (λ (d : Done). p d.event d.answer) (unstamped (x ∷ xs)) ≡ cond (p x.done.event x.done.answer) 1 0 + count_by (λ (d : Done). p d.event d.answer) (unstamped xs) = count_first (λ (d : Done). p d.event d.answer) x.done (unstamped xs) in
    let listed_first : count_by (λ (d : Done). p d.event d.answer) (as_listed (x ∷ xs)) ≡ cond (p (as_short x.done.event x.done.answer) x.done.answer) 1 0 + count_by (λ (d : Done). p d.event d.answer) (as_listed xs) = count_first (λ (d : Done). p d.event d.answer) (listed x) (as_listed xs) in
    omega (arith, first, listed_first, ap {B = ℕ} (λ (b : Bool). cond b 1 0) (same x.done.event x.done.answer), count_same p same xs)

pub version_same : (core : ℕ) (xs : List Stamped) → version_of core (unstamped xs) ≡ version_of core (as_listed xs)
version_same core xs = count_same (commits_at core) (commits_same core) xs

pub started_same : (core : ℕ) (xs : List Stamped) → started_for core (unstamped xs) ≡ started_for core (as_listed xs)
started_same core xs = count_same (λ (e : Event) (a : Answer). begins_for core e) (starts_same core) xs

pub submitted_same : (core : ℕ) (xs : List Stamped) → submitted_in core (unstamped xs) ≡ submitted_in core (as_listed xs)
submitted_same core [] = refl
submitted_same core (x ∷ xs) = rw (submits_same core x.done.event x.done.answer, submitted_same core xs) refl

pub begun_in_same : (core : ℕ) (xs : List Stamped) → begun_in core (unstamped xs) ≡ begun_in core (as_listed xs)
begun_in_same core [] = refl
begun_in_same core (x ∷ xs) = rw (begun_same core x.done.event x.done.answer, begun_in_same core xs) refl

-- So what holds of the list of a run holds of the events as the cores did them

pub tables_same : (limits : TableLimits) (xs : List Stamped) (replicas : List ReplicaState) → ShowTables limits (as_listed xs) replicas → ShowTables limits (unstamped xs) replicas
tables_same limits xs replicas h core r at =
    let s = h core r at in
    record {
      numbered = s.numbered ∙ sym (version_same core xs);
      shown = s.shown ∙ (ap (table limits (log_of (as_listed xs))) (sym (version_same core xs)) ∙ ap (λ (l : List Op). table limits l (version_of core (unstamped xs))) (sym (log_same xs)));
    }

listed_at : (xs : List Stamped) (before after : List Done) (d : Done) → (f : Found (λ (s : Stamped). s.done) xs before d after) → as_listed xs ≡ as_listed f.front ++ listed f.item ∷ as_listed f.rest
listed_at xs before after d f = ap as_listed f.is_split ∙ map-append listed f.front (f.item ∷ f.rest)

delivers_by : (limits : TableLimits) (log : List Op) (xs : List Stamped) (event : Event) (answer : Answer) → DeliversBy limits log (as_listed xs) (as_short event answer) answer → DeliversBy limits log (unstamped xs) event answer
delivers_by limits log xs (Rx core number packet floor) answer h = rw (version_same core xs) h
delivers_by limits log xs (Start op) answer h = tt
delivers_by limits log xs (Submit core op) answer h = tt
delivers_by limits log xs (StartFor core) answer h = tt
delivers_by limits log xs (Take to from short) answer h = tt

pub delivers_same : (limits : TableLimits) (xs : List Stamped) → Delivers limits (log_of (as_listed xs)) (as_listed xs) → Delivers limits (log_of (unstamped xs)) (unstamped xs)
delivers_same limits xs h before after done e =
    let f = found (λ (s : Stamped). s.done) xs before after done e in
    let its = delivers_by limits (log_of (as_listed xs)) f.front f.item.done.event f.item.done.answer (h (as_listed f.front) (as_listed f.rest) (listed f.item) (listed_at xs before after done f)) in
    let there = subst (λ (ds : List Done). DeliversBy limits (log_of (as_listed xs)) ds f.item.done.event f.item.done.answer) f.is_front its in
    let this = subst (λ (d : Done). DeliversBy limits (log_of (as_listed xs)) before d.event d.answer) f.is_item there in
    subst (λ (log : List Op). DeliversBy limits log before done.event done.answer) (sym (log_same xs)) this

pub starts_one : (xs : List Stamped) → StartOneByOne (as_listed xs) → StartOneByOne (unstamped xs)
starts_one xs h before after core answer e =
    let start : Done = record { event = StartFor core; answer = answer } in
    let f = found (λ (s : Stamped). s.done) xs before after start e in
    let same : listed f.item ≡ start = ap (λ (d : Done). record { event = as_short d.event d.answer; answer = d.answer }) f.is_item in
    let at : as_listed xs ≡ as_listed f.front ++ start ∷ as_listed f.rest = listed_at xs before after start f ∙ ap (λ (d : Done). as_listed f.front ++ d ∷ as_listed f.rest) same in
    let counted : length (submitted_in core (unstamped f.front)) ≡ started_for core (unstamped f.front) + 1 = rw (submitted_same core f.front, started_same core f.front) (h (as_listed f.front) (as_listed f.rest) core answer at) in
    subst (λ (ds : List Done). length (submitted_in core ds) ≡ started_for core ds + 1) f.is_front counted

-- In a run core 0 starts the requests of a core one by one

pub run_starts : (limits : TableLimits) (budget : ℕ) (budgets : List ℕ) (events : List Done) (w : World) → Run limits budget budgets events w → StartOneByOne events
run_starts limits budget budgets events w run before after zero answer e =
    let s = runs_split (boot limits budget budgets) w before (record { event = StartFor 0; answer = answer } ∷ after) (subst (λ (xs : List Done). Run limits budget budgets xs w) e run) in
    absurd s.2.1
run_starts limits budget budgets events w run before after (suc i) answer e =
    let s = runs_split (boot limits budget budgets) w before (record { event = StartFor (suc i); answer = answer } ∷ after) (subst (λ (xs : List Done). Run limits budget budgets xs w) e run) in
    let h : HappensStartFor s.0 i s.2.0 answer = s.2.1 in
    let starts = h.here.starts in
    let is_sent = run_waits limits budget budgets before s.0 s.1 i starts.op starts.is_waiting in
    let known = run_known limits budget budgets before s.0 s.1 in
    let p = get_at s.0.peers i (omega (arith, slice_get_within s.0.requests.waiting i (Some starts.op) starts.is_waiting, known.waiting_long, known.cores)) in
    let k : Tracks (suc i) before (sent starts.op) = subst (λ (r : Request). Tracks (suc i) before r) is_sent (run_tracks limits budget budgets before s.0 s.1 i p.0 p.1) in
    omega (arith, k.counted, submitted_count (suc i) before)

-- The one list of the events

pub merged_lists : (limits : TableLimits) (budget : ℕ) (budgets : List ℕ) (first : RingCore) (others : List RingCore) → (con : Concludes limits budget budgets first others) → ListsRuns (histories_of (first ∷ others)) (as_listed con.right.merged)
merged_lists limits budget budgets first others con m b bs core0 rest end ends e computes =
    let first_is : first.history ≡ core0 = cc in
    let rest_is : histories_of others ≡ rest = cc in
    let merged : Merged core0 rest con.right.merged = subst (λ (h : List Stamped). Merged h rest con.right.merged) first_is (subst (λ (hs : List (List Stamped)). Merged first.history hs con.right.merged) rest_is con.right.is_merged) in
    record { merged = con.right.merged; is_merged = merged; is_listed = refl; run = run_of m b bs core0 rest end ends con.right.merged computes merged }

-- The events of a core

pub events_part : (core : ℕ) (xs : List Stamped) → events_at core (unstamped xs) ≡ unstamped (part core xs)
events_part core [] = refl
events_part core (x ∷ xs) = by_test (core_of x.done.event == core) (events_part core xs)
  where
    by_test : (b : Bool) → events_at core (unstamped xs) ≡ unstamped (part core xs) → cond b (x.done ∷ events_at core (unstamped xs)) (events_at core (unstamped xs)) ≡ unstamped (cond b (x ∷ part core xs) (part core xs))
    by_test true rest = ap (λ (ds : List Done). x.done ∷ ds) rest
    by_test false rest = rest
