-- What a run tells of each core: that other cores commit nothing for it, and how many of its requests were submitted and started.
use Rattle.std.proofs.Common.{◌≡◌, ◌+◌, ◌<◌, ◌≤◌, ◌++◌, ◌∷◌, ◌⊎◌, inl, inr, ℕ, zero, suc, Bool, true, false, cond, Some, List, [], length, refl, ap, sym, ◌∙◌, subst, arith}
use Rattle.std.proofs.lemmas.List.Sums.{sum_by-append}
use Rattle.std.proofs.lemmas.Option.{slice_get_within}
use Rattle.filter_table.specs.Limits.{TableLimits}
use Rattle.filter_table.specs.declared.operation.Op.{Op}
use Rattle.filter_table.proofs.Positions.{get_at}
use Rattle.world_events.specs.declared.event.Event.{Event}
use Rattle.world_events.specs.declared.event.Event.TheVariants.{Start, Submit, StartFor, Take, Rx}
use Rattle.world_events.specs.declared.event.Answer.{Answer}
use Rattle.world_events.specs.declared.event.Done.{Done}
use Rattle.world_model.specs.Worlds.{World, boot, HappensStartFor, Happens, Runs, Run}
use Rattle.world_model.specs.Readings.{commits_at, version_of, Request, unsent, sent, numbered, settled, request_of}
use Rattle.world_model.proofs.Runs.{runs_split}
use Rattle.world_model.proofs.Known.{run_known}
use Rattle.world_model.proofs.Lists.{same_or_not}
use Rattle.world_model.proofs.Submissions.{eq_self, eq_other}
use Rattle.world_histories.specs.declared.history.Stamped.{Stamped}
use Rattle.world_histories.specs.Histories.{unstamped}
use Rattle.world_histories.specs.Merging.{core_of, part, listed, as_listed}
use Rattle.world_histories.specs.Answers.{begins_for}
use Rattle.world_histories.proofs.Parts.{part_other}
use Rattle.world_histories.proofs.Tells.{tells_of_cores}
use Rattle.world_histories.proofs.Requests.{submits_by, submits_of, begins_of, waiting_in, run_tracks}
use Rattle.headline.specs.Starts.{started_for, submitted_in, StartOneByOne}
use Rattle.headline.proofs.Ordering.{Silent, count_first, submitted_count}
use Rattle.headline.proofs.Listed.{commits_same, submitted_same}

-- Of other cores no commit is told

abbrev pub commits : ℕ → Done → Bool
commits core d = commits_at core d.event d.answer

quiet_one : (core : ℕ) (w w' : World) (x : Stamped) → (core_of x.done.event ≡ core → ⊥) → Happens w (listed x).event w' x.done.answer → commits core x.done ≡ false
quiet_one core w w' x ne h =
    let tells = (tells_of_cores w w' (x ∷ []) (w', h, refl)).versions core in
    let none : part core (x ∷ []) ≡ [] = part_other core x [] ne in
    let one : version_of core (as_listed (x ∷ [])) ≡ cond (commits core (listed x)) 1 0 + 0 = count_first (commits core) (listed x) [] in
    false_from (commits core x.done) (omega (arith, one, tells, ap (λ (ds : List Stamped). version_of core (unstamped ds)) none, ap {B = ℕ} (λ (b : Bool). cond b 1 0) (commits_same core x.done.event x.done.answer)))
  where
    false_from : (b : Bool) → cond {A = ℕ} b 1 0 ≡ 0 → b ≡ false
    false_from true e = absurd (omega (arith, e))
    false_from false e = refl

pub quiet_runs : (core : ℕ) (w w' : World) (xs : List Stamped) → Runs w (as_listed xs) w' → Silent (commits core) core (unstamped xs)
quiet_runs core w w' [] r = tt
quiet_runs core w w' (x ∷ xs) r = (λ ne. quiet_one core w r.0 x ne r.1, quiet_runs core r.0 w' xs r.2)

-- How many requests a core submitted and core 0 started, by a run

pub record Counts (limits : TableLimits) (budget : ℕ) (budgets : List ℕ) (told : List Done) : Type 0 where
  pub events : List Done
  pub world : World
  pub run : Run limits budget budgets events world
  pub submits : (core : ℕ) → submits_of core told ≡ submits_of core events
  pub starts : (core : ℕ) → begins_of core told ≡ begins_of core events

pub submits_of_same : (core : ℕ) (xs : List Stamped) → submits_of core (unstamped xs) ≡ submits_of core (as_listed xs)
submits_of_same core xs = submitted_count core (unstamped xs) ∙ (ap (λ (ops : List Op). length ops) (submitted_same core xs) ∙ sym (submitted_count core (as_listed xs)))

record StartsIn (core : ℕ) (events : List Done) : Type 0 where
  before : List Done
  after : List Done
  answer : Answer
  is_split : events ≡ before ++ record { event = StartFor core; answer = answer } ∷ after

starts_in : (core : ℕ) (events : List Done) → 0 < begins_of core events → StartsIn core events
starts_in core [] some = absurd (omega (arith, some))
starts_in core (d ∷ events) some = by_event d.event refl (starts_in core events)
  where
    first : begins_of core (d ∷ events) ≡ cond (begins_for core d.event) 1 0 + begins_of core events
    first = count_first (λ (x : Done). begins_for core x.event) d events

    later : begins_for core d.event ≡ false → (0 < begins_of core events → StartsIn core events) → StartsIn core (d ∷ events)
    later none rest =
        let s = rest (omega (arith, some, first, ap {B = ℕ} (λ (b : Bool). cond b 1 0) none)) in
        record { before = d ∷ s.before; after = s.after; answer = s.answer; is_split = ap (λ (ds : List Done). d ∷ ds) s.is_split }

    by_event : (e : Event) → e ≡ d.event → (0 < begins_of core events → StartsIn core events) → StartsIn core (d ∷ events)
    by_event (StartFor from) is rest = by_core (same_or_not from core)
      where
        by_core : ((from ≡ core) ⊎ (from ≡ core → ⊥)) → StartsIn core (d ∷ events)
        by_core (inl e) = record { before = []; after = events; answer = d.answer; is_split = ap (λ (x : Event). record { event = x; answer = d.answer } ∷ events) (sym is ∙ ap StartFor e) }
        by_core (inr ne) = later (ap (begins_for core) (sym is) ∙ eq_other from core ne) rest
    by_event (Start op) is rest = later (ap (begins_for core) (sym is)) rest
    by_event (Submit from op) is rest = later (ap (begins_for core) (sym is)) rest
    by_event (Take to from short) is rest = later (ap (begins_for core) (sym is)) rest
    by_event (Rx to number packet floor) is rest = later (ap (begins_for core) (sym is)) rest

-- the core that core 0 starts a request for is another of the machine
run_inside : (limits : TableLimits) (budget : ℕ) (budgets : List ℕ) (events : List Done) (w : World) → Run limits budget budgets events w → (core : ℕ) → StartsIn core events → (i : ℕ) × (core ≡ suc i) × (i < length budgets)
run_inside limits budget budgets events w run zero s =
    let r = runs_split (boot limits budget budgets) w s.before (record { event = StartFor 0; answer = s.answer } ∷ s.after) (subst (λ (xs : List Done). Run limits budget budgets xs w) s.is_split run) in
    absurd r.2.1
run_inside limits budget budgets events w run (suc i) s =
    let r = runs_split (boot limits budget budgets) w s.before (record { event = StartFor (suc i); answer = s.answer } ∷ s.after) (subst (λ (xs : List Done). Run limits budget budgets xs w) s.is_split run) in
    let h : HappensStartFor r.0 i r.2.0 s.answer = r.2.1 in
    let starts = h.here.starts in
    let known = run_known limits budget budgets s.before r.0 r.1 in
    (i, refl, omega (arith, slice_get_within r.0.requests.waiting i (Some starts.op) starts.is_waiting, known.waiting_long))

run_counts : (limits : TableLimits) (budget : ℕ) (budgets : List ℕ) (events : List Done) (w : World) → Run limits budget budgets events w → (i : ℕ) → i < length budgets → (begins_of (suc i) events ≤ submits_of (suc i) events) × (submits_of (suc i) events ≤ begins_of (suc i) events + 1)
run_counts limits budget budgets events w run i lt =
    let p = get_at w.peers i (omega (arith, lt, (run_known limits budget budgets events w run).cores)) in
    let k = run_tracks limits budget budgets events w run i p.0 p.1 in
    let most = at_most (request_of (suc i) events) in
    (omega (arith, k.counted), omega (arith, k.counted, most))
  where
    at_most : (r : Request) → waiting_in r ≤ 1
    at_most (sent op) = omega arith
    at_most unsent = omega arith
    at_most (numbered op txn) = omega arith
    at_most (settled op decision) = omega arith

-- One event more

pub nothing_left : (before after : List Done) (d : Done) → [] ≡ before ++ d ∷ after → ⊥
nothing_left [] after d e = cc
nothing_left (b ∷ before) after d e = cc

split_last : (events before after : List Done) (d last : Done) → events ++ last ∷ [] ≡ before ++ d ∷ after → ((before ≡ events) × (last ≡ d)) ⊎ ((rest : List Done) × (events ≡ before ++ d ∷ rest))
split_last [] [] after d last e = inl (refl, cc)
split_last [] (b ∷ before) after d last e = absurd (nothing_left before after d cc)
split_last (x ∷ events) [] after d last e = (let same : x ≡ d = cc in inr (events, ap (λ (y : Done). y ∷ events) same))
split_last (x ∷ events) (b ∷ before) after d last e =
    let same : x ≡ b = cc in
    let tail : events ++ last ∷ [] ≡ before ++ d ∷ after = cc in
    elim (split_last events before after d last tail) [
      | inl h ↦ inl (rw (same, h.0) refl, h.1)
      | inr h ↦ inr (h.0, rw same (ap (λ (ds : List Done). b ∷ ds) h.1))
    ]

pub order_one : (limits : TableLimits) (budget : ℕ) (budgets : List ℕ) (events : List Done) (d : Done) → Counts limits budget budgets events → Counts limits budget budgets (events ++ d ∷ []) → StartOneByOne events → StartOneByOne (events ++ d ∷ [])
order_one limits budget budgets events d counts counts' order before after core answer e = elim (split_last events before after (record { event = StartFor core; answer = answer }) d e) [
  | inl h ↦ subst (λ (ds : List Done). length (submitted_in core ds) ≡ started_for core ds + 1) (sym h.0) (last h.1)
  | inr h ↦ order before h.0 core answer h.1
]
  where
    last : d ≡ record { event = StartFor core; answer = answer } → length (submitted_in core events) ≡ started_for core events + 1
    last is =
        let no_submit : submits_of core (events ++ d ∷ []) ≡ submits_of core events + 0 = sum_by-append (λ (x : Done). cond (submits_by core x.event) 1 0) events (d ∷ []) ∙ ap (λ (x : Done). submits_of core events + submits_of core (x ∷ [])) is in
        let start : Done = record { event = StartFor core; answer = answer } in
        let one_start : begins_of core (events ++ d ∷ []) ≡ begins_of core events + 1 =
        omega (arith, sum_by-append (λ (x : Done). cond (begins_for core x.event) 1 0) events (d ∷ []), ap (λ (x : Done). begins_of core (x ∷ [])) is, count_first (λ (x : Done). begins_for core x.event) start [], ap {B = ℕ} (λ (b : Bool). cond b 1 0) (eq_self core)) in
        let more = counts'.starts core in
        let there = run_inside limits budget budgets counts'.events counts'.world counts'.run core (starts_in core counts'.events (omega (arith, one_start, more))) in
        let i = there.0 in
        let c = run_counts limits budget budgets counts.events counts.world counts.run i there.2 in
        let c' = run_counts limits budget budgets counts'.events counts'.world counts'.run i there.2 in
        let own : (xs : List Done) → submits_of core xs ≡ submits_of (suc i) xs = λ xs. ap (λ (n : ℕ). submits_of n xs) there.1 in
        let own' : (xs : List Done) → begins_of core xs ≡ begins_of (suc i) xs = λ xs. ap (λ (n : ℕ). begins_of n xs) there.1 in
        omega (arith, no_submit, one_start, more, counts.submits core, counts.starts core, counts'.submits core, c.0, c.1, c'.0, c'.1, own counts.events, own' counts.events, own counts'.events, own' counts'.events, submitted_count core events)
