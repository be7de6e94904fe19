-- What the cores of a machine did by steps.
use Rattle.std.proofs.Common.{All, ◌≡◌, ◌==◌, ◌<◌, ◌≤◌, ◌++◌, ◌∷◌, ◌⊎◌, inl, inr, ℕ, zero, suc, Bool, false, cond, Some, None, List, [], length, take, drop, slice_get, refl, ap, sym, ◌∙◌, subst, arith, append_assoc}
use Rattle.std.specs.List.{AllZip}
use Rattle.std.proofs.lemmas.List.{append-nil, length-map, take_all, drop_all}
use Rattle.std.proofs.lemmas.List.Elements.{All-nil, All-cons, All-head, All-tail, All-append}
use Rattle.std.proofs.lemmas.Option.{slice_get_within, get_or_from_slice_get}
use Rattle.std.proofs.lemmas.Bool.{cases_lt}
use mathlib.Core.List.{IsPrefix}
use Rattle.filter_table.specs.Limits.{TableLimits}
use Rattle.filter_table.specs.declared.operation.Op.{Op}
use Rattle.filter_table.specs.Tables.{HasShortProgram}
use Rattle.filter_table.proofs.Positions.{get_at}
use Rattle.world_events.specs.declared.event.Event.TheVariants.{StartFor, Rx}
use Rattle.world_events.specs.declared.event.Answer.TheVariants.{Delivered}
use Rattle.world_events.specs.declared.event.Done.{Done}
use Rattle.world_model.specs.Worlds.{boot}
use Rattle.world_model.proofs.Submissions.{eq_other}
use Rattle.world_histories.specs.declared.history.Stamped.{Stamped}
use Rattle.world_histories.specs.Histories.{unstamped}
use Rattle.world_histories.specs.Merging.{core_of, part, as_listed}
use Rattle.core_loop.specs.declared.cause.Turn.TheVariants.{Did}
use Rattle.core_loop.specs.Cores.{begun}
use Rattle.core_machine.specs.Machines.{RingCore, IsMachine, AreSameCores}
use Rattle.core_machine.specs.Conclusions.{Concludes, Conclude, histories_of, IsIdle0}
use Rattle.core_machine.specs.Merges.{ListsRuns}
use Rattle.core_machine.specs.Booted.{HasDoneNothing}
use Rattle.core_threads.specs.Recording.{HaveNoHistories}
use Rattle.core_machine.specs.declared.step.CoreStep.{CoreStep}
use Rattle.core_machine.specs.declared.step.Task.{Task}
use Rattle.core_machine.specs.declared.step.Task.TheVariants.{Turn, Ask, Receive}
use Rattle.core_machine.specs.declared.step.StepOutcome.{StepOutcome}
use Rattle.core_machine.specs.declared.step.StepOutcome.TheVariants.{Turned, Received}
use Rattle.core_machine.specs.Steps.{IsOf, did, asked_op, decided, of_core}
use Rattle.core_machine.specs.Driving.{IsStep, IsGivable, DrivesAt, AreDriven}
use Rattle.core_machine.proofs.Steps.{driven_none, driven_more}
use Rattle.core_machine.proofs.Tasks.{drives_along}
use Rattle.core_machine.proofs.Machines.{machine_ran}
use Rattle.filter_table.specs.declared.decision.Decision.{Decision}
use Rattle.table_replica.specs.Shown.{ReplicaState}
use Rattle.world_model.specs.Committed.{log_of}
use Rattle.core_machine.proofs.Along.{looked_same}
use Rattle.core_loop.specs.Answering.{own_decision, is_own, decisions_from}
use Rattle.core_machine.specs.Rounds.{CoreRests, AreAtRest, HasAllDecided, AreSeen}
use Rattle.core_machine.proofs.Looked.{driven_looked}
use Rattle.headline.proofs.Ending.{idle_at}
use Rattle.headline.specs.Headline.{begun_in}
use Rattle.headline.specs.Shown.{replicas_of_cores}
use Rattle.headline.specs.Served.{events_of}
use Rattle.headline.specs.Waking.{AreDone, IsTurnOf, turn_of_core}
use Rattle.headline.specs.Decided.{events_at, decided_from, decided_in}
use Rattle.headline.specs.Starts.{StartOneByOne}
use Rattle.headline.proofs.Ordering.{begun_at, AllOf, all_at, steps_own, steps_at, Silent, submits_parts, starts_parts, SameParts}
use Rattle.headline.proofs.OneList.{joined_tables, joined_begun, joined_none_begun, none_beyond, history_at, joined_newest}
use Rattle.core_machine.proofs.Told.{joined_deliver}
use Rattle.headline.proofs.Listed.{started_same, begun_in_same, tables_same, delivers_same, starts_one, run_starts, merged_lists, events_part, log_same}
use Rattle.headline.proofs.Counts.{commits, quiet_runs, Counts, submits_of_same, nothing_left, order_one}
use Rattle.core_machine.specs.Booting.{IsMachineOf}
use Rattle.core_machine.proofs.BootedMachines.{machine_of}
use Rattle.headline.specs.Judged.{AreAllNamed}
use Rattle.headline.proofs.Judging.{run_named}
use Rattle.headline.proofs.Lawful.{Laws, AllDecided, run_laws, laws_parts, named_parts}
use Rattle.headline.proofs.Parts.{Says, parts_say, parts_log}

-- The steps can be done

step_is : (cores : ℕ) (s : CoreStep) → s.core < cores → ((op : Op) → s.task ≡ Ask op → 0 < s.core → HasShortProgram op) → IsStep cores s
step_is cores s within short = (within, by_task s.task s.core short)
  where
    by_task : (t : Task) (core : ℕ) → ((op : Op) → t ≡ Ask op → 0 < core → HasShortProgram op) → IsGivable core t
    by_task (Ask op) zero h = tt
    by_task (Ask op) (suc entry) h = All-cons HasShortProgram op [] (h op refl (omega arith)) (All-nil HasShortProgram)
    by_task (Turn rx) core h = tt
    by_task (Receive packet) core h = tt

pub steps_are : (cores : ℕ) (steps : List CoreStep) → All (λ (s : CoreStep). s.core < cores) steps → All (λ (s : CoreStep). (op : Op) → s.task ≡ Ask op → 0 < s.core → HasShortProgram op) steps → All (IsStep cores) steps
steps_are cores [] within short = All-nil (IsStep cores)
steps_are cores (s ∷ steps) within short =
    let Inside : CoreStep → Type 0 = λ x. x.core < cores in
    let IsShort : CoreStep → Type 0 = λ x. (op : Op) → x.task ≡ Ask op → 0 < x.core → HasShortProgram op in
    All-cons (IsStep cores) s steps (step_is cores s (All-head Inside s steps within) (All-head IsShort s steps short)) (steps_are cores steps (All-tail Inside s steps within) (All-tail IsShort s steps short))

-- What it has of each core

none_of : {T : Type 0} (found : Task → StepOutcome → List T) (core cores : ℕ) (steps : List CoreStep) (outcomes : List StepOutcome) → All (λ (s : CoreStep). s.core < cores) steps → cores ≤ core → of_core found core steps outcomes ≡ []
none_of found core cores [] outcomes all le = refl
none_of found core cores (s ∷ steps) [] all le = refl
none_of {T} found core cores (s ∷ steps) (o ∷ outcomes) all le =
    let Inside : CoreStep → Type 0 = λ x. x.core < cores in
    let less : s.core < cores = All-head Inside s steps all in
    let other : (s.core == core) ≡ false = eq_other s.core core (λ e. omega (arith, less, le, e)) in
    ap (λ (b : Bool). (cond b (found s.task o) []) ++ of_core found core steps outcomes) other ∙ none_of found core cores steps outcomes (All-tail Inside s steps all) le

-- the decisions of events are those of the history that has them
decided_stamped : (own : Bool) (h : List Stamped) → decided_from own (unstamped h) ≡ decisions_from own h
decided_stamped own [] = refl
decided_stamped own (s ∷ h) = ap (λ (ds : List Decision). own_decision own s.done.event s.done.answer ++ ds) (decided_stamped (is_own own s.done.event) h)

module _ (limits : TableLimits) (budget : ℕ) (budgets : List ℕ) (steps : List CoreStep) (outcomes : List StepOutcome) (old : List RingCore) (first : RingCore) (others : List RingCore)
    (inside : All (λ (s : CoreStep). s.core < length old) steps) (nothing : HaveNoHistories old) (driven : AreDriven steps outcomes old (first ∷ others)) (con : Concludes limits budget budgets first others) where
  abbrev merged : List Stamped
  merged = con.right.merged

  told_each : (core : ℕ) → events_at core (unstamped merged) ≡ of_core (did core) core steps outcomes
  told_each core = events_part core merged ∙ by_place (cases_lt core (length (first ∷ others)))
    where
      by_place : ((core < length (first ∷ others)) ⊎ (length (first ∷ others) ≤ core)) → unstamped (part core merged) ≡ of_core (did core) core steps outcomes
      by_place (inl within) =
          let c = get_at (first ∷ others) core within in
          let o = get_at old core (omega (arith, within, driven.all)) in
          let drives = driven.each core o.0 c.0 o.1 c.1 in
          let none : o.0.history ≡ [] = nothing core o.0 o.1 in
          ap unstamped (con.right.is_merged.of_each core c.0.history (history_at (first ∷ others) core c.0 c.1))
          ∙ (drives.history ∙ ap (λ (h : List Stamped). unstamped h ++ of_core (did core) core steps outcomes) none)
      by_place (inr beyond) =
          let long : length (histories_of others) ≡ length others = length-map others (λ (x : RingCore). x.history) in
          ap unstamped (none_beyond core merged (λ k s at. (let its = con.right.is_merged.of_cores k s at in omega (arith, its, long, beyond))))
          ∙ sym (none_of (did core) core (length old) steps outcomes inside (omega (arith, beyond, driven.all)))

  told_own : (core : ℕ) → AllOf core (of_core (did core) core steps outcomes)
  told_own core = subst (AllOf core) (told_each core) (all_at core (unstamped merged))

  told_parts : SameParts (events_of steps outcomes) (unstamped merged)
  told_parts core = steps_at steps outcomes told_own core ∙ sym (told_each core)

  own_each : AllZip (λ (s : CoreStep) (o : StepOutcome). All (λ (d : Done). core_of d.event ≡ s.core) (did s.core s.task o)) steps outcomes
  own_each = steps_own steps outcomes driven.answered told_own

  has_counts : Counts limits budget budgets (events_of steps outcomes)
  has_counts = record {
    events = as_listed merged;
    world = con.right.run.world;
    run = con.right.run.run;
    submits = λ core. submits_parts core (events_of steps outcomes) (unstamped merged) told_parts ∙ submits_of_same core merged;
    starts = λ core. starts_parts core (events_of steps outcomes) (unstamped merged) told_parts ∙ started_same core merged;
  }

  -- so the list of the steps says what the list of the run says
  says : StartOneByOne (events_of steps outcomes) → Says limits (events_of steps outcomes) (replicas_of_cores (first ∷ others))
  says order =
      let lists = merged_lists limits budget budgets first others con in
      let quiet : (core : ℕ) → Silent (commits core) core (unstamped merged) = λ core. quiet_runs core (boot limits budget budgets) con.right.run.world merged con.right.run.run in
      let ordered = starts_one merged (run_starts limits budget budgets (as_listed merged) con.right.run.world con.right.run.run) in
      parts_say limits (events_of steps outcomes) merged (replicas_of_cores (first ∷ others)) told_parts quiet order ordered
      (tables_same limits merged (replicas_of_cores (first ∷ others)) (joined_tables limits budget budgets first others (as_listed merged) con lists))
      (delivers_same limits merged (joined_deliver limits budget budgets first others (as_listed merged) con lists))

  same_log : StartOneByOne (events_of steps outcomes) → log_of (events_of steps outcomes) ≡ log_of (unstamped merged)
  same_log order =
      let quiet : (core : ℕ) → Silent (commits core) core (unstamped merged) = λ core. quiet_runs core (boot limits budget budgets) con.right.run.world merged con.right.run.run in
      parts_log (events_of steps outcomes) merged told_parts quiet order (starts_one merged (run_starts limits budget budgets (as_listed merged) con.right.run.world con.right.run.run))

  -- and keeps to the laws of runs
  laws : StartOneByOne (events_of steps outcomes) → Laws limits (budget ∷ budgets) (events_of steps outcomes)
  laws order = laws_parts limits (budget ∷ budgets) (events_of steps outcomes) merged told_parts (same_log order) (run_laws limits budget budgets (as_listed merged) con.right.run.world con.right.run.run)

  named : StartOneByOne (events_of steps outcomes) → AllDecided (events_of steps outcomes) → AreAllNamed (events_of steps outcomes)
  named order = named_parts limits (budget ∷ budgets) (events_of steps outcomes) merged told_parts (same_log order) (run_named limits budget budgets (as_listed merged) con.right.run.world con.right.run.run)

  begun_each : ((i : ℕ) (c : RingCore) → slice_get old i ≡ Some c → c.pending ≡ []) → (core : ℕ) → IsPrefix (begun_in core (events_of steps outcomes)) (of_core asked_op core steps outcomes)
  begun_each idle core = subst (λ (ops : List Op). IsPrefix ops (of_core asked_op core steps outcomes)) (sym whole) (by_place (cases_lt core (length (first ∷ others))))
    where
      lists : ListsRuns (histories_of (first ∷ others)) (as_listed merged)
      lists = merged_lists limits budget budgets first others con

      whole : begun_in core (events_of steps outcomes) ≡ begun_in core (as_listed merged)
      whole = begun_at core (events_of steps outcomes) ∙ (ap (begun_in core) (told_parts core) ∙ (sym (begun_at core (unstamped merged)) ∙ begun_in_same core merged))

      by_place : ((core < length (first ∷ others)) ⊎ (length (first ∷ others) ≤ core)) → IsPrefix (begun_in core (as_listed merged)) (of_core asked_op core steps outcomes)
      by_place (inl within) =
          let c = get_at (first ∷ others) core within in
          let o = get_at old core (omega (arith, within, driven.all)) in
          let drives = driven.each core o.0 c.0 o.1 c.1 in (
            c.0.pending,
            ap (λ (ops : List Op). ops ++ c.0.pending) (joined_begun limits budget budgets first others (as_listed merged) con lists core c.0 c.1)
                ∙ (drives.requests_are ∙ (ap (λ (h : List Stamped). (begun h ++ o.0.pending) ++ of_core asked_op core steps outcomes) (nothing core o.0 o.1) ∙ ap (λ (ops : List Op). ops ++ of_core asked_op core steps outcomes) (idle core o.0 o.1))),
          )
      by_place (inr beyond) = subst (λ (ops : List Op). IsPrefix ops (of_core asked_op core steps outcomes)) (sym (joined_none_begun limits budget budgets first others (as_listed merged) con lists core beyond)) (of_core asked_op core steps outcomes, refl)

  -- and where the cores are at rest, all of it is decided
  newest_each : StartOneByOne (events_of steps outcomes) → IsIdle0 first.part → All (λ (r : ReplicaState). r.shown.version ≡ length (log_of (events_of steps outcomes))) (replicas_of_cores (first ∷ others))
  newest_each order idle =
      let log = same_log order ∙ log_same merged in
      subst (λ (l : List Op). All (λ (r : ReplicaState). r.shown.version ≡ length l) (replicas_of_cores (first ∷ others))) (sym log)
      (joined_newest limits budget budgets first others (as_listed merged) con (merged_lists limits budget budgets first others con) idle)

  decided_each : ((i : ℕ) (c : RingCore) → slice_get (first ∷ others) i ≡ Some c → HasAllDecided c) → ((i : ℕ) (c : RingCore) → slice_get old i ≡ Some c → c.pending ≡ []) → (core : ℕ)
      → length (decided_in core (events_of steps outcomes)) ≡ length (of_core asked_op core steps outcomes)
  decided_each decides idle core = by_place (cases_lt core (length (first ∷ others)))
    where
      own : events_at core (events_of steps outcomes) ≡ of_core (did core) core steps outcomes
      own = steps_at steps outcomes told_own core

      by_place : ((core < length (first ∷ others)) ⊎ (length (first ∷ others) ≤ core)) → length (decided_in core (events_of steps outcomes)) ≡ length (of_core asked_op core steps outcomes)
      by_place (inl within) =
          let c = get_at (first ∷ others) core within in
          let o = get_at old core (omega (arith, within, driven.all)) in
          let drives = driven.each core o.0 c.0 o.1 c.1 in
          let history : unstamped c.0.history ≡ of_core (did core) core steps outcomes = drives.history ∙ ap (λ (h : List Stamped). unstamped h ++ of_core (did core) core steps outcomes) (nothing core o.0 o.1) in
          let asked_is : begun c.0.history ++ c.0.pending ≡ of_core asked_op core steps outcomes =
          drives.requests_are ∙ (ap (λ (h : List Stamped). (begun h ++ o.0.pending) ++ of_core asked_op core steps outcomes) (nothing core o.0 o.1) ∙ ap (λ (ops : List Op). ops ++ of_core asked_op core steps outcomes) (idle core o.0 o.1)) in
          ap (λ (ds : List Done). length (decided_from false ds)) (own ∙ sym history) ∙ (ap (λ (ds : List Decision). length ds) (decided_stamped false c.0.history) ∙ (decides core c.0 c.1 ∙ ap (λ (ops : List Op). length ops) asked_is))
      by_place (inr beyond) =
          ap (λ (ds : List Done). length (decided_from false ds)) (own ∙ none_of (did core) core (length old) steps outcomes inside (omega (arith, beyond, driven.all)))
          ∙ sym (ap (λ (ops : List Op). length ops) (none_of asked_op core (length old) steps outcomes inside (omega (arith, beyond, driven.all))))

counts_for : (limits : TableLimits) (budget : ℕ) (budgets : List ℕ) (steps : List CoreStep) (outcomes : List StepOutcome) (old cores : List RingCore) → All (λ (s : CoreStep). s.core < length old) steps → HaveNoHistories old → AreDriven steps outcomes old cores
    → Conclude limits budget budgets cores → Counts limits budget budgets (events_of steps outcomes)
counts_for limits budget budgets steps outcomes old [] inside nothing driven con = absurd con
counts_for limits budget budgets steps outcomes old (first ∷ others) inside nothing driven con = has_counts limits budget budgets steps outcomes old first others inside nothing driven con

says_for : (limits : TableLimits) (budget : ℕ) (budgets : List ℕ) (steps : List CoreStep) (outcomes : List StepOutcome) (old cores : List RingCore) → All (λ (s : CoreStep). s.core < length old) steps → HaveNoHistories old → AreDriven steps outcomes old cores
    → Conclude limits budget budgets cores → StartOneByOne (events_of steps outcomes) → Says limits (events_of steps outcomes) (replicas_of_cores cores)
says_for limits budget budgets steps outcomes old [] inside nothing driven con order = absurd con
says_for limits budget budgets steps outcomes old (first ∷ others) inside nothing driven con order = says limits budget budgets steps outcomes old first others inside nothing driven con order

laws_for : (limits : TableLimits) (budget : ℕ) (budgets : List ℕ) (steps : List CoreStep) (outcomes : List StepOutcome) (old cores : List RingCore) → All (λ (s : CoreStep). s.core < length old) steps → HaveNoHistories old → AreDriven steps outcomes old cores
    → Conclude limits budget budgets cores → StartOneByOne (events_of steps outcomes) → Laws limits (budget ∷ budgets) (events_of steps outcomes) × (AllDecided (events_of steps outcomes) → AreAllNamed (events_of steps outcomes))
laws_for limits budget budgets steps outcomes old [] inside nothing driven con order = absurd con
laws_for limits budget budgets steps outcomes old (first ∷ others) inside nothing driven con order = (laws limits budget budgets steps outcomes old first others inside nothing driven con order, named limits budget budgets steps outcomes old first others inside nothing driven con order)

begun_for : (limits : TableLimits) (budget : ℕ) (budgets : List ℕ) (steps : List CoreStep) (outcomes : List StepOutcome) (old cores : List RingCore) → All (λ (s : CoreStep). s.core < length old) steps → HaveNoHistories old → ((i : ℕ) (c : RingCore) → slice_get old i ≡ Some c → c.pending ≡ []) → AreDriven steps outcomes old cores
    → Conclude limits budget budgets cores → (core : ℕ) → IsPrefix (begun_in core (events_of steps outcomes)) (of_core asked_op core steps outcomes)
begun_for limits budget budgets steps outcomes old [] inside nothing idle driven con = absurd con
begun_for limits budget budgets steps outcomes old (first ∷ others) inside nothing idle driven con = begun_each limits budget budgets steps outcomes old first others inside nothing driven con idle

own_for : (limits : TableLimits) (budget : ℕ) (budgets : List ℕ) (steps : List CoreStep) (outcomes : List StepOutcome) (old cores : List RingCore) → All (λ (s : CoreStep). s.core < length old) steps → HaveNoHistories old → AreDriven steps outcomes old cores
    → Conclude limits budget budgets cores → AllZip (λ (s : CoreStep) (o : StepOutcome). All (λ (d : Done). core_of d.event ≡ s.core) (did s.core s.task o)) steps outcomes
own_for limits budget budgets steps outcomes old [] inside nothing driven con = absurd con
own_for limits budget budgets steps outcomes old (first ∷ others) inside nothing driven con = own_each limits budget budgets steps outcomes old first others inside nothing driven con

newest_for : (limits : TableLimits) (budget : ℕ) (budgets : List ℕ) (steps : List CoreStep) (outcomes : List StepOutcome) (old cores : List RingCore) → All (λ (s : CoreStep). s.core < length old) steps → HaveNoHistories old → AreDriven steps outcomes old cores
    → Conclude limits budget budgets cores → StartOneByOne (events_of steps outcomes) → AreAtRest cores → All (λ (r : ReplicaState). r.shown.version ≡ length (log_of (events_of steps outcomes))) (replicas_of_cores cores)
newest_for limits budget budgets steps outcomes old [] inside nothing driven con order rest = absurd con
newest_for limits budget budgets steps outcomes old (first ∷ others) inside nothing driven con order rest =
    let here : CoreRests first = rest 0 first (omega arith) in
    newest_each limits budget budgets steps outcomes old first others inside nothing driven con order (idle_at first.cores first.part first.links (length budgets) first.clock con.end here.nothing_under_way con.ends0)

decided_for : (limits : TableLimits) (budget : ℕ) (budgets : List ℕ) (steps : List CoreStep) (outcomes : List StepOutcome) (old cores : List RingCore) → All (λ (s : CoreStep). s.core < length old) steps → HaveNoHistories old → ((i : ℕ) (c : RingCore) → slice_get old i ≡ Some c → c.pending ≡ []) → AreDriven steps outcomes old cores
    → Conclude limits budget budgets cores → All HasAllDecided cores → (core : ℕ) → length (decided_in core (events_of steps outcomes)) ≡ length (of_core asked_op core steps outcomes)
decided_for limits budget budgets steps outcomes old [] inside nothing idle driven con decides = absurd con
decided_for limits budget budgets steps outcomes old (first ∷ others) inside nothing idle driven con decides =
    decided_each limits budget budgets steps outcomes old first others inside nothing driven con
    (λ i c at. subst HasAllDecided (get_or_from_slice_get (first ∷ others) i c first at) (decides i first (slice_get_within (first ∷ others) i c at))) idle

-- One step more

few : (core : ℕ) (task : Task) (outcome : StepOutcome) → (did core task outcome ≡ []) ⊎ ((d : Done) × (did core task outcome ≡ d ∷ []))
few core task (Turned (Did s decision)) = inr (s.done, refl)
few core (Receive packet) (Received version kept) = inr (record { event = Rx core 0 packet 0; answer = Delivered version kept.items }, refl)
few core task outcome = inl refl

events_more : (steps : List CoreStep) (outcomes : List StepOutcome) (s : CoreStep) (o : StepOutcome) → AllZip (λ (s : CoreStep) (o : StepOutcome). IsOf s.task o) steps outcomes → events_of (steps ++ s ∷ []) (outcomes ++ o ∷ []) ≡ events_of steps outcomes ++ did s.core s.task o
events_more [] [] s o along = append-nil (did s.core s.task o)
events_more [] (b ∷ outcomes) s o along = absurd along
events_more (a ∷ steps) [] s o along = absurd along
events_more (a ∷ steps) (b ∷ outcomes) s o along =
    ap (λ (ds : List Done). did a.core a.task b ++ ds) (events_more steps outcomes s o along.1) ∙ sym (append_assoc (did a.core a.task b) (events_of steps outcomes) (did s.core s.task o))

no_outcome : (outcomes : List StepOutcome) → AllZip (λ (s : CoreStep) (o : StepOutcome). IsOf s.task o) [] outcomes → outcomes ≡ []
no_outcome [] along = refl
no_outcome (o ∷ outcomes) along = absurd along

one_outcome : (s : CoreStep) (outcomes : List StepOutcome) → AllZip (λ (s : CoreStep) (o : StepOutcome). IsOf s.task o) (s ∷ []) outcomes → (o : StepOutcome) × (outcomes ≡ o ∷ [])
one_outcome s [] along = absurd along
one_outcome s (o ∷ []) along = (o, refl)
one_outcome s (o ∷ p ∷ outcomes) along = absurd along.1

pub inside_front : {T : Type 0} (P : T → Type 0) (xs ys : List T) → All P (xs ++ ys) → All P xs
inside_front P [] ys all = All-nil P
inside_front P (x ∷ xs) ys all = All-cons P x xs (All-head P x (xs ++ ys) all) (inside_front P xs ys (All-tail P x (xs ++ ys) all))

pub done_none : (limits : TableLimits) (outcomes : List StepOutcome) (old new : List RingCore) → ((budget : ℕ) × (budgets : List ℕ) × IsMachine limits budget budgets old) → AreDriven [] outcomes old new → AreSameCores old new
    → ((budget : ℕ) (budgets : List ℕ) → IsMachine limits budget budgets old → Conclude limits budget budgets new) → AreDone limits [] outcomes new new
done_none limits outcomes old new m driven same concludes = record {
  budget = m.0;
  budgets = m.1;
  machine = machine_ran limits m.0 m.1 old new m.2 same;
  con = concludes m.0 m.1 m.2;
  driven = subst (λ (os : List StepOutcome). AreDriven [] os new new) (sym (no_outcome outcomes driven.answered)) (driven_none new);
  order = λ before after core answer e. absurd (nothing_left before after (record { event = StartFor core; answer = answer }) e);
}

order_step : (limits : TableLimits) (budget : ℕ) (budgets : List ℕ) (core : ℕ) (task : Task) (outcome : StepOutcome) (events : List Done) → Counts limits budget budgets events → Counts limits budget budgets (events ++ did core task outcome) → StartOneByOne events → StartOneByOne (events ++ did core task outcome)
order_step limits budget budgets core task outcome events counts counts' order = elim (few core task outcome) [
  | inl none ↦ subst StartOneByOne (sym (ap (λ (ds : List Done). events ++ ds) none ∙ append-nil events)) order
  | inr one ↦ subst (λ (ds : List Done). StartOneByOne (events ++ ds)) (sym one.1) (order_one limits budget budgets events one.0 counts (subst (λ (ds : List Done). Counts limits budget budgets (events ++ ds)) one.1 counts') order)
]

pub done_more : (limits : TableLimits) (steps : List CoreStep) (outcomes : List StepOutcome) (s : CoreStep) (came : List StepOutcome) (old mid new : List RingCore) → All (IsStep (length old)) (steps ++ s ∷ []) → HaveNoHistories old
    → AreDone limits steps outcomes old mid → AreDriven (s ∷ []) came mid new → AreSameCores mid new → ((budget : ℕ) (budgets : List ℕ) → IsMachine limits budget budgets mid → Conclude limits budget budgets new) → AreDone limits (steps ++ s ∷ []) (outcomes ++ came) old new
done_more limits steps outcomes s came old mid new can nothing done driven same concludes =
    let o = one_outcome s came driven.answered in
    let whole : AreDriven (steps ++ s ∷ []) (outcomes ++ o.0 ∷ []) old new = driven_more steps outcomes s o.0 old mid new done.driven (subst (λ (os : List StepOutcome). AreDriven (s ∷ []) os mid new) o.1 driven) in
    let con = concludes done.budget done.budgets done.machine in
    let Inside : CoreStep → Type 0 = λ x. x.core < length old in
    let inside : All Inside (steps ++ s ∷ []) = λ k d within. (can k d within).0 in
    let counts = counts_for limits done.budget done.budgets steps outcomes old mid (inside_front Inside steps (s ∷ []) inside) nothing done.driven done.con in
    let counts' = counts_for limits done.budget done.budgets (steps ++ s ∷ []) (outcomes ++ o.0 ∷ []) old new inside nothing whole con in
    let more = events_more steps outcomes s o.0 done.driven.answered in
    let order : StartOneByOne (events_of (steps ++ s ∷ []) (outcomes ++ o.0 ∷ [])) =
    subst StartOneByOne (sym more) (order_step limits done.budget done.budgets s.core s.task o.0 (events_of steps outcomes) counts (subst (Counts limits done.budget done.budgets) more counts') done.order) in
    subst (λ (os : List StepOutcome). AreDone limits (steps ++ s ∷ []) (outcomes ++ os) old new) (sym o.1)
    (record { budget = done.budget; budgets = done.budgets; machine = machine_ran limits done.budget done.budgets mid new done.machine same; con = con; driven = whole; order = order })

-- Cores that were looked at first

pub driven_first : (steps : List CoreStep) (outcomes none : List StepOutcome) (old mid new : List RingCore) → AreDriven [] none old mid → AreDriven steps outcomes mid new → AreDriven steps outcomes old new
driven_first steps outcomes none old mid new h k = record { answered = k.answered; all = k.all ∙ h.all; each = each }
  where
    each : (i : ℕ) (x z : RingCore) → slice_get old i ≡ Some x → slice_get new i ≡ Some z → DrivesAt steps outcomes i x z
    each i x z at at' =
        let y = get_at mid i (omega (arith, slice_get_within old i x at, h.all)) in
        drives_along [] (of_core (did i) i steps outcomes) [] (of_core asked_op i steps outcomes) [] (of_core (λ task. decided) i steps outcomes) x y.0 z (h.each i x y.0 at y.1) (k.each i y.0 z y.1 at')

done_nothing : (xs : List RingCore) (k : ℕ) (x : RingCore) → All HasDoneNothing xs → slice_get xs k ≡ Some x → HasDoneNothing x
done_nothing [] k x all there = absurd (let e : None ≡ Some x = there in cc)
done_nothing (y ∷ xs) zero x all there = (let same : y ≡ x = cc in subst HasDoneNothing same (All-head HasDoneNothing y xs all))
done_nothing (y ∷ xs) (suc k) x all there = done_nothing xs k x (All-tail HasDoneNothing y xs all) there

pub no_histories : (none : List StepOutcome) (old new : List RingCore) → All HasDoneNothing old → AreDriven [] none old new → HaveNoHistories new
no_histories none old new nothing driven i c at =
    let o = get_at old i (omega (arith, slice_get_within new i c at, driven.all)) in
    let empty : o.0.history ≡ [] = (done_nothing old i o.0 nothing o.1).history in
    no_events c.history ((driven.each i o.0 c o.1 at).history ∙ ap (λ (h : List Stamped). unstamped h ++ []) empty)
  where
    no_events : (h : List Stamped) → unstamped h ≡ [] → h ≡ []
    no_events [] e = refl
    no_events (s ∷ h) e = absurd (cc)

-- The cores of a vector, by steps on its slice

-- what is written back of a slice that has stayed as long is the slice
pub written_back : {T : Type 0} (n : ℕ) (new old : List T) → length new ≡ length old → n ≡ length old → take n (new ++ drop (length new) old) ≡ new
written_back {T} n new old same long =
    ap (λ (rest : List T). take n (new ++ rest)) (drop_all (length new) old (omega (arith, same)))
    ∙ (ap (λ (items : List T). take n items) (append-nil new) ∙ take_all n new (omega (arith, same, long)))

pub says_after : (limits : TableLimits) (n : ℕ) (steps : List CoreStep) (outcomes : List StepOutcome) (cores slice new : List RingCore) → slice ≡ cores → n ≡ length cores → All (λ (s : CoreStep). s.core < length cores) steps → All HasDoneNothing cores
    → AreDriven steps outcomes slice new → ((budget : ℕ) × (budgets : List ℕ) × Conclude limits budget budgets new) → StartOneByOne (events_of steps outcomes) → Says limits (events_of steps outcomes) (replicas_of_cores (take n (new ++ drop (length new) cores)))
says_after limits n steps outcomes cores slice new is long inside nothing driven con order =
    let drives : AreDriven steps outcomes cores new = subst (λ (old : List RingCore). AreDriven steps outcomes old new) is driven in
    subst (λ (left : List RingCore). Says limits (events_of steps outcomes) (replicas_of_cores left)) (sym (written_back n new cores drives.all long))
    (says_for limits con.0 con.1 steps outcomes cores new inside (no_histories [] cores cores nothing (driven_none cores)) drives con.2 order)

-- The budgets of a machine

pub its_machine : (limits : TableLimits) (cores slice : List RingCore) (given : List ℕ) → slice ≡ cores → IsMachineOf limits given cores → (budget : ℕ) × (budgets : List ℕ) × IsMachine limits budget budgets slice
its_machine limits cores slice given is machine = machine_of limits given slice (subst (λ (l : List RingCore). IsMachineOf limits given l) (sym is) machine)

same_lists : (xs ys : List ℕ) → length xs ≡ length ys → ((i a b : ℕ) → slice_get xs i ≡ Some a → slice_get ys i ≡ Some b → a ≡ b) → xs ≡ ys
same_lists [] [] long same = refl
same_lists [] (y ∷ ys) long same = absurd (omega (arith, long))
same_lists (x ∷ xs) [] long same = absurd (omega (arith, long))
same_lists (x ∷ xs) (y ∷ ys) long same = rw (same 0 x y refl refl, same_lists xs ys (omega (arith, long)) (λ i a b at at'. same (suc i) a b at at')) refl

one_machine : (limits : TableLimits) (b b' : ℕ) (bs bs' : List ℕ) (cores : List RingCore) → IsMachine limits b bs cores → IsMachine limits b' bs' cores → (b ∷ bs) ≡ (b' ∷ bs')
one_machine limits b b' bs bs' [] m m' = absurd m
one_machine limits b b' bs bs' (first ∷ others) m m' = rw (
  sym m.place.budget_is ∙ m'.place.budget_is,
  same_lists bs bs' (sym m.all ∙ m'.all) (λ i a a' at at'. (
      let c = get_at others i (omega (arith, slice_get_within bs i a at, m.all)) in
      sym (m.peers i a c.0 at c.1).place.budget_is ∙ (m'.peers i a' c.0 at' c.1).place.budget_is
      )),
) refl

-- those of the cores that were booted are those of the cores that did the steps
its_budgets : (limits : TableLimits) (given : List ℕ) (steps : List CoreStep) (outcomes : List StepOutcome) (cores slice new : List RingCore) → slice ≡ cores → IsMachineOf limits given cores → (done : AreDone limits steps outcomes slice new) → done.budget ∷ done.budgets ≡ given
its_budgets limits [] steps outcomes cores slice new is machine done = absurd machine
its_budgets limits (b ∷ bs) steps outcomes cores slice new is machine done =
    let same : AreSameCores slice new = record { all = done.driven.all; each = λ i c d at at'. (done.driven.each i c d at at').same } in
    one_machine limits done.budget b done.budgets bs new done.machine (machine_ran limits b bs slice new (subst (λ (l : List RingCore). IsMachine limits b bs l) (sym is) machine) same)

pub laws_after : (limits : TableLimits) (given : List ℕ) (steps : List CoreStep) (outcomes : List StepOutcome) (cores slice new : List RingCore) → slice ≡ cores → All (λ (s : CoreStep). s.core < length cores) steps → All HasDoneNothing cores → IsMachineOf limits given cores
    → AreDone limits steps outcomes slice new → Laws limits given (events_of steps outcomes) × (AllDecided (events_of steps outcomes) → AreAllNamed (events_of steps outcomes))
laws_after limits given steps outcomes cores slice new is inside nothing machine done =
    let l = laws_for limits done.budget done.budgets steps outcomes cores new inside (no_histories [] cores cores nothing (driven_none cores)) (subst (λ (old : List RingCore). AreDriven steps outcomes old new) is done.driven) done.con done.order in
    (subst (λ (bs : List ℕ). Laws limits bs (events_of steps outcomes)) (its_budgets limits given steps outcomes cores slice new is machine done) l.0, l.1)

pub begun_after : (limits : TableLimits) (steps : List CoreStep) (outcomes : List StepOutcome) (cores slice new : List RingCore) → slice ≡ cores → All (λ (s : CoreStep). s.core < length cores) steps → All HasDoneNothing cores → AreDriven steps outcomes slice new
    → ((budget : ℕ) × (budgets : List ℕ) × Conclude limits budget budgets new) → (core : ℕ) → IsPrefix (begun_in core (events_of steps outcomes)) (of_core asked_op core steps outcomes)
begun_after limits steps outcomes cores slice new is inside nothing driven con =
    begun_for limits con.0 con.1 steps outcomes cores new inside (no_histories [] cores cores nothing (driven_none cores)) (λ i c at. (done_nothing cores i c nothing at).pending) (subst (λ (old : List RingCore). AreDriven steps outcomes old new) is driven) con.2

pub own_after : (limits : TableLimits) (steps : List CoreStep) (outcomes : List StepOutcome) (cores slice new : List RingCore) → slice ≡ cores → All (λ (s : CoreStep). s.core < length cores) steps → All HasDoneNothing cores → AreDriven steps outcomes slice new
    → ((budget : ℕ) × (budgets : List ℕ) × Conclude limits budget budgets new) → AllZip (λ (s : CoreStep) (o : StepOutcome). All (λ (d : Done). core_of d.event ≡ s.core) (did s.core s.task o)) steps outcomes
own_after limits steps outcomes cores slice new is inside nothing driven con =
    own_for limits con.0 con.1 steps outcomes cores new inside (no_histories [] cores cores nothing (driven_none cores)) (subst (λ (old : List RingCore). AreDriven steps outcomes old new) is driven) con.2

pub newest_after : (limits : TableLimits) (n : ℕ) (steps : List CoreStep) (outcomes : List StepOutcome) (cores slice new : List RingCore) → slice ≡ cores → n ≡ length cores → All (λ (s : CoreStep). s.core < length cores) steps → All HasDoneNothing cores
    → AreDriven steps outcomes slice new → ((budget : ℕ) × (budgets : List ℕ) × Conclude limits budget budgets new) → StartOneByOne (events_of steps outcomes) → AreAtRest new
    → All (λ (r : ReplicaState). r.shown.version ≡ length (log_of (events_of steps outcomes))) (replicas_of_cores (take n (new ++ drop (length new) cores)))
newest_after limits n steps outcomes cores slice new is long inside nothing driven con order rest =
    let drives : AreDriven steps outcomes cores new = subst (λ (old : List RingCore). AreDriven steps outcomes old new) is driven in
    subst (λ (left : List RingCore). All (λ (r : ReplicaState). r.shown.version ≡ length (log_of (events_of steps outcomes))) (replicas_of_cores left)) (sym (written_back n new cores drives.all long))
    (newest_for limits con.0 con.1 steps outcomes cores new inside (no_histories [] cores cores nothing (driven_none cores)) drives con.2 order rest)

pub decided_after : (limits : TableLimits) (steps : List CoreStep) (outcomes : List StepOutcome) (cores slice new : List RingCore) → slice ≡ cores → All (λ (s : CoreStep). s.core < length cores) steps → All HasDoneNothing cores → AreDriven steps outcomes slice new
    → ((budget : ℕ) × (budgets : List ℕ) × Conclude limits budget budgets new) → All HasAllDecided new → (core : ℕ) → length (decided_in core (events_of steps outcomes)) ≡ length (of_core asked_op core steps outcomes)
decided_after limits steps outcomes cores slice new is inside nothing driven con decides =
    decided_for limits con.0 con.1 steps outcomes cores new inside (no_histories [] cores cores nothing (driven_none cores)) (λ i c at. (done_nothing cores i c nothing at).pending) (subst (λ (old : List RingCore). AreDriven steps outcomes old new) is driven) con.2 decides

-- and cores that were looked at
pub seen_same : (old new : List RingCore) → AreSeen old new → AreSameCores old new
seen_same old new seen = record { all = seen.looked.all; each = λ i c d at at'. looked_same c d (seen.looked.each i c d at at') }

pub done_looked : (limits : TableLimits) (steps : List CoreStep) (outcomes : List StepOutcome) (old mid new : List RingCore) → AreDone limits steps outcomes old mid → AreSeen mid new → AreDone limits steps outcomes old new
done_looked limits steps outcomes old mid new done seen = record {
  budget = done.budget;
  budgets = done.budgets;
  machine = machine_ran limits done.budget done.budgets mid new done.machine (seen_same mid new seen);
  con = seen.concludes limits done.budget done.budgets done.machine;
  driven = driven_looked steps outcomes old mid new done.driven seen.looked;
  order = done.order;
}

-- and turns that receive no packet

turn_step : (n : ℕ) (s : CoreStep) → IsTurnOf n s → IsStep n s
turn_step n s t = (t.inside, subst (IsGivable s.core) (sym t.is_turn) tt)

pub turns_more : (n : ℕ) (turns : List CoreStep) (core : ℕ) → All (IsTurnOf n) turns → core < n → All (IsTurnOf n) (turns ++ turn_of_core core ∷ [])
turns_more n turns core all inside = All-append (IsTurnOf n) turns (turn_of_core core ∷ []) all (All-cons (IsTurnOf n) (turn_of_core core) [] (record { inside = inside; is_turn = refl }) (All-nil (IsTurnOf n)))

pub turned_more : (limits : TableLimits) (steps turns : List CoreStep) (outcomes : List StepOutcome) (core : ℕ) (o : StepOutcome) (old mid new : List RingCore) → All (IsStep (length old)) steps → All (IsTurnOf (length mid)) turns → core < length mid → All HasDoneNothing old
    → AreDone limits (steps ++ turns) outcomes old mid → AreDriven (turn_of_core core ∷ []) (o ∷ []) mid new → AreSameCores mid new → ((budget : ℕ) (budgets : List ℕ) → IsMachine limits budget budgets mid → Conclude limits budget budgets new)
    → AreDone limits (steps ++ (turns ++ turn_of_core core ∷ [])) (outcomes ++ o ∷ []) old new
turned_more limits steps turns outcomes core o old mid new can after inside nothing done driven same concludes =
    let s = turn_of_core core in
    let after' = subst (λ (n : ℕ). All (IsTurnOf n) (turns ++ s ∷ [])) done.driven.all (turns_more (length mid) turns core after inside) in
    let all : All (IsStep (length old)) (steps ++ (turns ++ s ∷ [])) = All-append (IsStep (length old)) steps (turns ++ s ∷ []) can (λ k d within. turn_step (length old) _ (after' k d within)) in
    let assoc : (steps ++ turns) ++ s ∷ [] ≡ steps ++ (turns ++ s ∷ []) = append_assoc steps turns (s ∷ []) in
    subst (λ (l : List CoreStep). AreDone limits l (outcomes ++ o ∷ []) old new) assoc
    (done_more limits (steps ++ turns) outcomes s (o ∷ []) old mid new (subst (All (IsStep (length old))) (sym assoc) all) (no_histories [] old old nothing (driven_none old)) done driven same concludes)
