-- What cores did that were booted, ran as threads, and were joined.
use Rattle.std.proofs.Common.{◌≡◌, ◌==◌, ◌<◌, ◌≤◌, ◌++◌, All, ℕ, zero, suc, Bool, false, cond, inl, inr, List, [], ◌∷◌, Option, Some, None, slice_get, length, refl, sym, ap, ◌∙◌, subst, arith}
use Rattle.std.proofs.lemmas.List.{append-nil, length-map}
use Rattle.std.proofs.lemmas.List.Elements.{All-nil, All-cons, All-head, All-tail}
use Rattle.std.proofs.lemmas.Option.{slice_get_within}
use Rattle.std.proofs.lemmas.Bool.{cases_lt}
use Rattle.filter_table.specs.Limits.{TableLimits}
use Rattle.filter_table.specs.declared.operation.Op.{Op}
use Rattle.filter_table.specs.Tables.{HasShortProgram}
use Rattle.table_replica.specs.Shown.{ReplicaState}
use Rattle.filter_table.proofs.Positions.{get_at}
use Rattle.rx_queue.specs.declared.job.Job.{Job}
use Rattle.world_events.specs.declared.event.Done.{Done}
use Rattle.world_model.specs.Decisions.{Delivers}
use Rattle.world_model.proofs.Submissions.{eq_other}
use Rattle.core_loop.specs.Keeping.{replica_of}
use Rattle.core_loop.specs.Cores.{AreShort, begun, receipts}
use Rattle.core_machine.specs.Machines.{RingCore, IsMachine}
use Rattle.core_links.specs.declared.ring_links.RingLinks.{RingLinks}
use Rattle.core_links.specs.RingSlots.{ring_view}
use Rattle.core_loop.specs.declared.part.Part.{Part}
use Rattle.core_loop.specs.declared.part.Part.TheVariants as role
use Rattle.core_loop.specs.Beginning.{HasNothingUnderWay}
use Rattle.world_histories.specs.Histories.{Core0State}
use Rattle.core_machine.specs.Conclusions.{Concludes, OfMachine, StandsAt0, IsIdle0, histories_of}
use Rattle.core_machine.specs.Looking.{AreLookedAt}
use Rattle.core_machine.specs.Merges.{ListsRuns}
use Rattle.core_machine.specs.Booting.{HaveRequests, AreGivable, IsMachineOf}
use Rattle.core_machine.specs.Lanes.{items_for}
use Rattle.core_threads.specs.declared.halt.Halt.{Halt}
use Rattle.core_threads.specs.Ending.{EndsRightly, AreAllDone}
use Rattle.core_threads.specs.Settling.{HasHalted, RunsToRest}
use Rattle.core_loop.specs.Answering.{decisions}
use Rattle.headline.specs.declared.fault.Fault.TheVariants.{Halted}
use Rattle.headline.specs.Decided.{decided_in}
use Rattle.headline.specs.Headline.{ShowTables, begun_in, received_in}
use Rattle.world_model.specs.Committed.{log_of}
use Rattle.headline.specs.Shown.{replicas_of_cores}
use Rattle.headline.specs.Ended.{HaveEnded}
use Rattle.headline.proofs.OneList.{joined_tables, joined_begun, joined_received, joined_decided, joined_newest, joined_none_begun, joined_none_decided, joined_none_received}
use Rattle.core_machine.proofs.Told.{joined_deliver, one_list, list_run}
use Rattle.headline.specs.Judged.{AreAllNamed}
use Rattle.headline.proofs.Judging.{run_named}
use Rattle.headline.proofs.Lawful.{Laws, AllDecided, run_laws}

-- the requests of cores other than 0 are short, so each can be given to its core
short_for : (core : ℕ) (op : Op) → (0 < core → HasShortProgram op) → AreShort core (op ∷ [])
short_for zero op h = tt
short_for (suc entry) op h = All-cons HasShortProgram op [] (h (omega arith)) (All-nil HasShortProgram)

pub givable : (requests : List (ℕ × Op)) → All (λ (r : ℕ × Op). 0 < r.0 → HasShortProgram r.1) requests → AreGivable requests
givable [] all = All-nil (λ (r : ℕ × Op). AreShort r.0 (r.1 ∷ []))
givable (r ∷ rs) all = All-cons (λ (x : ℕ × Op). AreShort x.0 (x.1 ∷ [])) r rs (short_for r.0 r.1 (All-head (λ (x : ℕ × Op). 0 < x.0 → HasShortProgram x.1) r rs all)) (givable rs (All-tail (λ (x : ℕ × Op). 0 < x.0 → HasShortProgram x.1) r rs all))

-- none of these items is for a core beyond so many
items_none : {T : Type 0} (core count : ℕ) (items : List (ℕ × T)) → All (λ i. i.0 < count) items → count ≤ core → items_for core items ≡ []
items_none core count [] all le = refl
items_none {T} core count (i ∷ is) all le =
    let P : ℕ × T → Type 0 = λ x. x.0 < count in
    let less : i.0 < count = All-head P i is all in
    let other : (i.0 == core) ≡ false = eq_other i.0 core (λ e. omega (arith, less, le, e)) in
    ap (λ (b : Bool). (cond b (i.1 ∷ []) []) ++ items_for core is) other ∙ items_none core count is (All-tail P i is all) le

ran_machine : (limits : TableLimits) (budgets : List ℕ) (machine cores : List RingCore) → IsMachineOf limits budgets machine → ((budget : ℕ) (others : List ℕ) → IsMachine limits budget others machine → IsMachine limits budget others cores) → IsMachineOf limits budgets cores
ran_machine limits [] machine cores is keeps = absurd is
ran_machine limits (budget ∷ budgets) machine cores is keeps = keeps budget budgets is

ended_whole : (limits : TableLimits) (budgets : List ℕ) (requests : List (ℕ × Op)) (jobs : List (ℕ × Job)) (machine cores : List RingCore) (left : List (ℕ × Job)) → IsMachineOf limits budgets machine → length machine ≡ length budgets → HaveRequests requests machine
    → EndsRightly machine jobs cores left None → ((budget : ℕ) (others : List ℕ) → IsMachine limits budget others machine → IsMachine limits budget others cores) → HaveEnded limits budgets requests jobs cores left
ended_whole limits budgets requests jobs machine cores left is count have ends keeps = record {
  count = ends.all ∙ count;
  machine = ran_machine limits budgets machine cores is keeps;
  begun_all = λ i c at.
      let old = before i c at in
      let core = ends.each i old.0 c old.1 at in
      sym (append-nil (begun c.history)) ∙ (ap (λ (rest : List Op). begun c.history ++ rest) (sym (ends.why i c at).at_end.pending) ∙ (core.requests ∙ have i old.0 old.1));
  received_all = λ i c at. let old = before i c at in (ends.each i old.0 c old.1 at).received;
  left_inside = subst (λ (n : ℕ). All (λ (j : ℕ × Job). j.0 < n) left) (ends.all ∙ count) ends.inside;
  done = ends.why;
}
  where
    before : (i : ℕ) (c : RingCore) → slice_get cores i ≡ Some c → (old : RingCore) × (slice_get machine i ≡ Some old)
    before i c at = get_at machine i (omega (arith, ends.all, slice_get_within cores i c at))

pub have_ended : (limits : TableLimits) (budgets : List ℕ) (requests : List (ℕ × Op)) (jobs : List (ℕ × Job)) (machine cores : List RingCore) (left : List (ℕ × Job)) (named : Option (ℕ × Halt)) → named ≡ None → IsMachineOf limits budgets machine → length machine ≡ length budgets
    → HaveRequests requests machine → RunsToRest machine jobs cores left named → ((budget : ℕ) (others : List ℕ) → IsMachine limits budget others machine → IsMachine limits budget others cores) → HaveEnded limits budgets requests jobs cores left
have_ended limits budgets requests jobs machine cores left named none is count have rests keeps =
    ended_whole limits budgets requests jobs machine cores left is count have (subst (RunsToRest machine jobs cores left) none rests) keeps

-- they are a machine
pub ended_machine : (limits : TableLimits) (budgets : List ℕ) (requests : List (ℕ × Op)) (jobs : List (ℕ × Job)) (cores : List RingCore) (left : List (ℕ × Job)) → HaveEnded limits budgets requests jobs cores left → (budget : ℕ) × (others : List ℕ) × IsMachine limits budget others cores
ended_machine limits [] requests jobs cores left e = absurd e.machine
ended_machine limits (budget ∷ others) requests jobs cores left e = (budget, others, e.machine)

-- core 0 decides nothing
pub idle_at : (cores : ℕ) (p : Part) (links : RingLinks) (others clock : ℕ) (end : Core0State) → HasNothingUnderWay cores p (ring_view links) → StandsAt0 others p clock end → IsIdle0 p
idle_at cores (role.Core0 core) links others clock end idle stands = idle.0
idle_at cores (role.OtherCore core) links others clock end idle stands = absurd stands

-- What the one list of events says of them
module _ (limits : TableLimits) (budgets : List ℕ) (requests : List (ℕ × Op)) (jobs : List (ℕ × Job)) (left : List (ℕ × Job)) (list : List Done) where
  record Said (cores : List RingCore) : Type 0 where
    delivers : Delivers limits (log_of list) list
    tables : ShowTables limits list (replicas_of_cores cores)
    begun_each : (core : ℕ) (c : RingCore) → slice_get cores core ≡ Some c → begun_in core list ≡ begun c.history
    decided_each : (core : ℕ) (c : RingCore) → slice_get cores core ≡ Some c → decided_in core list ≡ decisions c.history
    received_each : (core : ℕ) (c : RingCore) → slice_get cores core ≡ Some c → received_in core list ≡ receipts c.history
    newest : All (λ (r : ReplicaState). r.shown.version ≡ length (log_of list)) (replicas_of_cores cores)
    none_begun : (core : ℕ) → length cores ≤ core → begun_in core list ≡ []
    none_decided : (core : ℕ) → length cores ≤ core → decided_in core list ≡ []
    none_received : (core : ℕ) → length cores ≤ core → received_in core list ≡ []

  said : (cores : List RingCore) → HaveEnded limits budgets requests jobs cores left → OfMachine cores Concludes → ListsRuns (histories_of cores) list → Said cores
  said cores e computes lists = by_machine cores (ended_machine limits budgets requests jobs cores left e) e.done computes lists
    where
      by_machine : (cores : List RingCore) → ((budget : ℕ) × (others : List ℕ) × IsMachine limits budget others cores) → AreAllDone cores left
          → OfMachine cores Concludes → ListsRuns (histories_of cores) list → Said cores
      by_machine [] m ended computes lists = absurd m.2
      by_machine (first ∷ others) m ended computes lists =
          let con = computes limits m.0 m.1 first others refl m.2 in
          record {
            delivers = joined_deliver limits m.0 m.1 first others list con lists;
            tables = joined_tables limits m.0 m.1 first others list con lists;
            begun_each = joined_begun limits m.0 m.1 first others list con lists;
            decided_each = joined_decided limits m.0 m.1 first others list con lists;
            received_each = joined_received limits m.0 m.1 first others list con lists;
            newest = joined_newest limits m.0 m.1 first others list con lists (idle_at first.cores first.part first.links (length m.1) first.clock con.end (ended 0 first refl).at_end.idle con.ends0);
            none_begun = joined_none_begun limits m.0 m.1 first others list con lists;
            none_decided = joined_none_decided limits m.0 m.1 first others list con lists;
            none_received = joined_none_received limits m.0 m.1 first others list con lists;
          }

  pub ended_deliver : (cores : List RingCore) → HaveEnded limits budgets requests jobs cores left → OfMachine cores Concludes → ListsRuns (histories_of cores) list → Delivers limits (log_of list) list
  ended_deliver cores e computes lists = (said cores e computes lists).delivers

  pub ended_laws : (cores : List RingCore) → HaveEnded limits budgets requests jobs cores left → OfMachine cores Concludes → ListsRuns (histories_of cores) list → Laws limits budgets list × (AllDecided list → AreAllNamed list)
  ended_laws cores e computes lists = by_machine budgets cores e.machine computes lists
    where
      by_machine : (bs : List ℕ) (cores : List RingCore) → IsMachineOf limits bs cores → OfMachine cores Concludes → ListsRuns (histories_of cores) list → Laws limits bs list × (AllDecided list → AreAllNamed list)
      by_machine [] cores m computes lists = absurd m
      by_machine (b ∷ bs) [] m computes lists = absurd m
      by_machine (b ∷ bs) (first ∷ others) m computes lists =
          let con = computes limits b bs first others refl m in
          let l = one_list limits b bs first others list con lists in
          let run = list_run limits b bs first others list con l in
          (run_laws limits b bs list l.run.world run, run_named limits b bs list l.run.world run)

  pub ended_tables : (cores : List RingCore) (replicas : List ReplicaState) → replicas ≡ replicas_of_cores cores → HaveEnded limits budgets requests jobs cores left → OfMachine cores Concludes → ListsRuns (histories_of cores) list → ShowTables limits list replicas
  ended_tables cores replicas is e computes lists = subst (ShowTables limits list) (sym is) (said cores e computes lists).tables

  pub ended_newest : (cores : List RingCore) (replicas : List ReplicaState) → replicas ≡ replicas_of_cores cores → HaveEnded limits budgets requests jobs cores left → OfMachine cores Concludes → ListsRuns (histories_of cores) list
      → All (λ (r : ReplicaState). r.shown.version ≡ length (log_of list)) replicas
  ended_newest cores replicas is e computes lists = subst (All (λ (r : ReplicaState). r.shown.version ≡ length (log_of list))) (sym is) (said cores e computes lists).newest

  -- the first job that is left of a core waits for a version that was not made
  pub ended_left : (cores : List RingCore) → HaveEnded limits budgets requests jobs cores left → OfMachine cores Concludes → ListsRuns (histories_of cores) list
      → (core : ℕ) (job : Job) (later : List Job) → items_for core left ≡ job ∷ later → length (log_of list) < job.floor
  ended_left cores e computes lists core job later is = elim (cases_lt core (length budgets)) [
    | inl within ↦ (let c = get_at cores core (omega (arith, within, e.count)) in
        let waits : (replica_of c.0.part).shown.version < job.floor = (e.done core c.0 c.1).at_end.floor job later is in
        let newest : (replica_of c.0.part).shown.version ≡ length (log_of list) = at_core cores core c.0 c.1 (said cores e computes lists).newest in
        omega (arith, waits, newest))
    | inr beyond ↦ absurd (let none : [] ≡ job ∷ later = sym (items_none core (length budgets) left e.left_inside beyond) ∙ is in cc)
  ]
    where
      at_core : (cs : List RingCore) (k : ℕ) (c : RingCore) → slice_get cs k ≡ Some c → All (λ (r : ReplicaState). r.shown.version ≡ length (log_of list)) (replicas_of_cores cs) → (replica_of c.part).shown.version ≡ length (log_of list)
      at_core [] k c at all = absurd (let e : None ≡ Some c = at in cc)
      at_core (x ∷ cs) zero c at all = (let same : x ≡ c = cc in subst (λ (y : RingCore). (replica_of y.part).shown.version ≡ length (log_of list)) same
          (All-head (λ (r : ReplicaState). r.shown.version ≡ length (log_of list)) (replica_of x.part) (replicas_of_cores cs) all))
      at_core (x ∷ cs) (suc k) c at all = at_core cs k c at (All-tail (λ (r : ReplicaState). r.shown.version ≡ length (log_of list)) (replica_of x.part) (replicas_of_cores cs) all)

  pub ended_begun : (cores : List RingCore) → All (λ (r : ℕ × Op). r.0 < length budgets) requests → HaveEnded limits budgets requests jobs cores left → OfMachine cores Concludes → ListsRuns (histories_of cores) list
      → (core : ℕ) → begun_in core list ≡ items_for core requests
  ended_begun cores inside e computes lists core = elim (cases_lt core (length budgets)) [
    | inl within ↦ (let c = get_at cores core (omega (arith, within, e.count)) in
        (said cores e computes lists).begun_each core c.0 c.1 ∙ e.begun_all core c.0 c.1)
    | inr beyond ↦ (said cores e computes lists).none_begun core (omega (arith, beyond, e.count)) ∙ sym (items_none core (length budgets) requests inside beyond)
  ]

  -- each request is decided
  pub ended_decided : (cores : List RingCore) → All (λ (r : ℕ × Op). r.0 < length budgets) requests → HaveEnded limits budgets requests jobs cores left → OfMachine cores Concludes → ListsRuns (histories_of cores) list
      → (core : ℕ) → length (decided_in core list) ≡ length (items_for core requests)
  ended_decided cores inside e computes lists core = elim (cases_lt core (length budgets)) [
    | inl within ↦ (let c = get_at cores core (omega (arith, within, e.count)) in
        let its = e.done core c.0 c.1 in
        let all : begun c.0.history ++ c.0.pending ≡ items_for core requests = ap (λ (rest : List Op). begun c.0.history ++ rest) its.at_end.pending ∙ (append-nil (begun c.0.history) ∙ e.begun_all core c.0 c.1) in
        ap length ((said cores e computes lists).decided_each core c.0 c.1) ∙ (its.decided ∙ ap length all))
    | inr beyond ↦ ap length ((said cores e computes lists).none_decided core (omega (arith, beyond, e.count))) ∙ sym (ap length (items_none core (length budgets) requests inside beyond))
  ]

  pub ended_received : (cores : List RingCore) → All (λ (j : ℕ × Job). j.0 < length budgets) jobs → HaveEnded limits budgets requests jobs cores left → OfMachine cores Concludes → ListsRuns (histories_of cores) list
      → (core : ℕ) → received_in core list ++ items_for core left ≡ items_for core jobs
  ended_received cores inside e computes lists core = elim (cases_lt core (length budgets)) [
    | inl within ↦ (let c = get_at cores core (omega (arith, within, e.count)) in
        ap (λ (js : List Job). js ++ items_for core left) ((said cores e computes lists).received_each core c.0 c.1) ∙ e.received_all core c.0 c.1)
    | inr beyond ↦ ap (λ (js : List Job). js ++ items_for core left) ((said cores e computes lists).none_received core (omega (arith, beyond, e.count)))
        ∙ (items_none core (length budgets) left e.left_inside beyond ∙ sym (items_none core (length budgets) jobs inside beyond))
  ]

pub count_replicas : (limits : TableLimits) (budgets : List ℕ) (requests : List (ℕ × Op)) (jobs : List (ℕ × Job)) (cores : List RingCore) (left : List (ℕ × Job)) (replicas : List ReplicaState) → replicas ≡ replicas_of_cores cores
    → HaveEnded limits budgets requests jobs cores left → length replicas ≡ length budgets
count_replicas limits budgets requests jobs cores left replicas is e = ap length is ∙ (length-map cores (λ (c : RingCore). replica_of c.part) ∙ e.count)

-- cores that were looked at have their replicas still
pub looked_replicas : (old new : List RingCore) → AreLookedAt old new → replicas_of_cores new ≡ replicas_of_cores old
looked_replicas [] [] l = refl
looked_replicas [] (d ∷ ds) l = absurd (let e = l.all in cc)
looked_replicas (c ∷ cs) [] l = absurd (let e = l.all in cc)
looked_replicas (c ∷ cs) (d ∷ ds) l =
    let first : replica_of d.part ≡ replica_of c.part = ap (λ (x : RingCore). replica_of x.part) (l.each 0 c d refl refl).core in
    rw (first, looked_replicas cs ds (record { all = (let e = l.all in omega (arith, e)); each = λ i x y at at'. l.each (suc i) x y at at' })) refl

-- cores that were booted and ran, and their work is not done
pub has_halted : (limits : TableLimits) (budgets : List ℕ) (requests : List (ℕ × Op)) (jobs : List (ℕ × Job)) (machine cores : List RingCore) (left : List (ℕ × Job)) (named : Option (ℕ × Halt)) (core : ℕ) (why : Halt)
    → named ≡ Some (core, why) → IsMachineOf limits budgets machine → HaveRequests requests machine → RunsToRest machine jobs cores left named → HasHalted limits budgets requests jobs core why
has_halted limits budgets requests jobs machine cores left named core why is machine_is have rests = record {
  machine = machine;
  cores = cores;
  left = left;
  is_machine = machine_is;
  has_requests = have;
  rests = subst (RunsToRest machine jobs cores left) is rests;
}

-- what holds of a core and a reason holds of those that are named
pub halted_as : (P : ℕ → Halt → Type 0) (core named : ℕ) (why for : Halt) → Halted core why ≡ Halted named for → P core why → P named for
halted_as P core named why for e here =
    let is : core ≡ named = cc in
    let same : why ≡ for = cc in
    subst (λ (n : ℕ). P n for) is (subst (P core) same here)
