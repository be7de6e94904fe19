-- What holds of the cores of a machine that were joined, by their one list of events.
use Rattle.std.proofs.Common.{All, ◌≡◌, ◌==◌, ◌<◌, ◌≤◌, ◌∷◌, ◌⊎◌, inl, inr, ℕ, zero, suc, Bool, true, false, cond, Some, List, [], length, slice_get, get_or, refl, ap, sym, ◌∙◌, arith}
use Rattle.std.specs.Prelude.{option_map}
use Rattle.std.proofs.lemmas.List.{length-map}
use Rattle.std.proofs.lemmas.Option.{slice_get_within, slice_get-get_or}
use Rattle.filter_table.specs.Limits.{TableLimits}
use Rattle.filter_table.specs.declared.operation.Op.{Op}
use Rattle.filter_table.specs.declared.decision.Vote.TheVariants as vote
use Rattle.filter_table.specs.Tables.{TableState, table}
use Rattle.filter_table.proofs.Tables.{table_version}
use Rattle.table_replica.specs.Shown.{ReplicaState}
use Rattle.filter_table.proofs.Positions.{get_at}
use Rattle.world_events.specs.declared.event.Event.{Event}
use Rattle.world_events.specs.declared.event.Event.TheVariants.{Start, Submit, StartFor, Take, Rx}
use Rattle.world_events.specs.declared.event.Answer.{Answer}
use Rattle.world_events.specs.declared.event.Answer.TheVariants.{TookPrepare}
use Rattle.world_events.specs.declared.event.Done.{Done}
use Rattle.world_model.specs.Worlds.{Peer}
use Rattle.world_model.specs.Readings.{version_of}
use Rattle.world_model.proofs.Lists.{get_map, same_or_not}
use Rattle.world_model.proofs.Known.{run_known}
use Rattle.world_model.proofs.RunLaws.{run_agrees, run_versions}
use Rattle.world_model.proofs.Submissions.{eq_self, eq_other}
use Rattle.world_histories.specs.declared.history.Stamped.{Stamped}
use Rattle.world_histories.specs.Histories.{OtherState}
use Rattle.world_histories.specs.Merging.{core_of, part, as_short, listed, as_listed}
use Rattle.world_histories.proofs.Parts.{part_own, part_other}
use Rattle.core_loop.specs.declared.part.Part.{Part}
use Rattle.core_loop.specs.declared.part.Part.TheVariants as role
use Rattle.core_loop.specs.Keeping.{replica_of}
use Rattle.core_loop.specs.Cores.{begins, begun, receipts}
use Rattle.core_loop.specs.Receipts.{receives}
use Rattle.core_machine.specs.Machines.{RingCore}
use Rattle.core_machine.specs.Conclusions.{Concludes, StandsAtOther, IsIdle0, histories_of, version_of_core}
use Rattle.core_machine.specs.Merges.{ListsRuns, ListsRun}
use Rattle.core_loop.specs.Answering.{own_decision, is_own, decisions_from, decisions}
use Rattle.headline.specs.Decided.{events_at, decided_from, decided_in}
use Rattle.headline.specs.Headline.{ShowTables, begun_by, begun_in, received_by, received_in}
use Rattle.world_model.specs.Committed.{log_of}
use Rattle.headline.specs.Shown.{replicas_of_cores}
use Rattle.core_machine.proofs.Told.{list_log, list_run, one_list}

-- Tables

other_version : (x : Part) (clock : ℕ) (d : OtherState) → StandsAtOther x clock d → (replica_of x).shown.version ≡ length d.log
other_version (role.Core0 core) clock d s = absurd s
other_version (role.OtherCore core) clock d s = ap (λ (t : TableState). t.version) s.shown_is ∙ table_version d.limits d.log

-- a core's version is how often it committed
core_version : (limits : TableLimits) (budget : ℕ) (budgets : List ℕ) (first : RingCore) (others : List RingCore) (list : List Done) → (con : Concludes limits budget budgets first others) → (l : ListsRun limits budget budgets first.history (histories_of others) con.end con.ends list)
    → (core : ℕ) (c : RingCore) → slice_get (first ∷ others) core ≡ Some c → version_of_core c ≡ version_of core list
core_version limits budget budgets first others list con l zero c at =
    let run = list_run limits budget budgets first others list con l in
    let w = l.run.world in
    let same : first ≡ c = cc in
    let long : w.version ≡ length w.log = (run_agrees limits budget budgets list w run).core0 in
    ap version_of_core (sym same) ∙ (con.newest ∙ (ap (λ (log : List Op). length log) (sym l.run.all_end.log_is) ∙ (sym long ∙ run_versions limits budget budgets list w run 0 w.version refl)))
core_version limits budget budgets first others list con l (suc i) c at =
    let run = list_run limits budget budgets first others list con l in
    let w = l.run.world in
    let within : i < length others = slice_get_within others i c at in
    let long : length others ≡ length budgets = sym (length-map others (λ (x : RingCore). x.history)) ∙ con.computation.cores in
    let d = get_at con.ends i (omega (arith, within, long, con.computation.all_end)) in
    let p = get_at w.peers i (omega (arith, within, long, (run_known limits budget budgets list w run).cores)) in
    let ends = l.run.all_end.others i p.0 d.0 p.1 d.1 in
    other_version c.part c.clock d.0 (con.ends_other i c d.0 at d.1)
    ∙ (sym ends.version_is ∙ run_versions limits budget budgets list w run (suc i) p.0.version (ap (option_map (λ (x : Peer). x.version)) p.1))

pub joined_tables : (limits : TableLimits) (budget : ℕ) (budgets : List ℕ) (first : RingCore) (others : List RingCore) (list : List Done) → Concludes limits budget budgets first others → ListsRuns (histories_of (first ∷ others)) list
    → ShowTables limits list (replicas_of_cores (first ∷ others))
joined_tables limits budget budgets first others list con lists core r at =
    let l = one_list limits budget budgets first others list con lists in
    let log = list_log limits budget budgets first others list con l in
    let c = get_map (λ (x : RingCore). replica_of x.part) (first ∷ others) core r at in
    let version = core_version limits budget budgets first others list con l core c.0 c.1 in
    record {
      numbered = ap (λ (x : ReplicaState). x.shown.version) c.2 ∙ version;
      shown = ap (λ (x : ReplicaState). x.shown) c.2 ∙ (con.tables core c.0 c.1 ∙ (ap (table limits con.end.log) version ∙ ap (λ (x : List Op). table limits x (version_of core list)) log));
    }

-- where core 0 decides nothing, each replica has the newest version
pub joined_newest : (limits : TableLimits) (budget : ℕ) (budgets : List ℕ) (first : RingCore) (others : List RingCore) (list : List Done) → Concludes limits budget budgets first others → ListsRuns (histories_of (first ∷ others)) list
    → IsIdle0 first.part → All (λ (r : ReplicaState). r.shown.version ≡ length (log_of list)) (replicas_of_cores (first ∷ others))
joined_newest limits budget budgets first others list con lists idle core d within =
    let l = one_list limits budget budgets first others list con lists in
    let r = get_or (replicas_of_cores (first ∷ others)) core d in
    let c = get_map (λ (x : RingCore). replica_of x.part) (first ∷ others) core r (slice_get-get_or (replicas_of_cores (first ∷ others)) core d within) in
    ap (λ (x : ReplicaState). x.shown.version) c.2 ∙ (con.settled idle core c.0 c.1 ∙ ap (λ (log : List Op). length log) (list_log limits budget budgets first others list con l))

-- What was given

-- a take that is listed as short is a take still
short_take : (to from : ℕ) (short : Bool) (answer : Answer) → (s : Bool) × (as_short (Take to from short) answer ≡ Take to from s)
short_take to from short (TookPrepare txn vote.NoMemory) = (true, refl)
short_take to from short answer = (short, refl)

begun_own : (core : ℕ) (e : Event) (a : Answer) → core_of e ≡ core → begun_by core (as_short e a) ≡ begins e
begun_own core (Start op) a own = ap (λ (b : Bool). cond b (op ∷ []) []) (ap (λ (n : ℕ). n == core) own ∙ eq_self core)
begun_own core (Submit from op) a own = ap (λ (b : Bool). cond b (op ∷ []) []) (ap (λ (n : ℕ). n == core) own ∙ eq_self core)
begun_own core (StartFor from) a own = refl
begun_own core (Take to from short) a own = ap (begun_by core) (short_take to from short a).1
begun_own core (Rx to number packet floor) a own = refl

begun_other : (core : ℕ) (e : Event) (a : Answer) → (core_of e ≡ core → ⊥) → begun_by core (as_short e a) ≡ []
begun_other core (Start op) a other = ap (λ (b : Bool). cond b (op ∷ []) []) (eq_other 0 core other)
begun_other core (Submit from op) a other = ap (λ (b : Bool). cond b (op ∷ []) []) (eq_other from core other)
begun_other core (StartFor from) a other = refl
begun_other core (Take to from short) a other = ap (begun_by core) (short_take to from short a).1
begun_other core (Rx to number packet floor) a other = refl

received_own : (core : ℕ) (e : Event) (a : Answer) → core_of e ≡ core → received_by core (as_short e a) ≡ receives e
received_own core (Start op) a own = refl
received_own core (Submit from op) a own = refl
received_own core (StartFor from) a own = refl
received_own core (Take to from short) a own = ap (received_by core) (short_take to from short a).1
received_own core (Rx to number packet floor) a own = ap (λ (b : Bool). cond b (record { number = number; packet = packet; floor = floor } ∷ []) []) (ap (λ (n : ℕ). n == core) own ∙ eq_self core)

received_other : (core : ℕ) (e : Event) (a : Answer) → (core_of e ≡ core → ⊥) → received_by core (as_short e a) ≡ []
received_other core (Start op) a other = refl
received_other core (Submit from op) a other = refl
received_other core (StartFor from) a other = refl
received_other core (Take to from short) a other = ap (received_by core) (short_take to from short a).1
received_other core (Rx to number packet floor) a other = ap (λ (b : Bool). cond b (record { number = number; packet = packet; floor = floor } ∷ []) []) (eq_other to core other)

begun_part : (core : ℕ) (events : List Stamped) → begun_in core (as_listed events) ≡ begun (part core events)
begun_part core [] = refl
begun_part core (x ∷ xs) = by_core (same_or_not (core_of x.done.event) core) (begun_part core xs)
  where
    by_core : ((core_of x.done.event ≡ core) ⊎ (core_of x.done.event ≡ core → ⊥)) → begun_in core (as_listed xs) ≡ begun (part core xs) → begun_in core (as_listed (x ∷ xs)) ≡ begun (part core (x ∷ xs))
    by_core (inl own) rest = rw (begun_own core x.done.event x.done.answer own, part_own core x xs own, rest) refl
    by_core (inr other) rest = rw (begun_other core x.done.event x.done.answer other, part_other core x xs other) rest

received_part : (core : ℕ) (events : List Stamped) → received_in core (as_listed events) ≡ receipts (part core events)
received_part core [] = refl
received_part core (x ∷ xs) = by_core (same_or_not (core_of x.done.event) core) (received_part core xs)
  where
    by_core : ((core_of x.done.event ≡ core) ⊎ (core_of x.done.event ≡ core → ⊥)) → received_in core (as_listed xs) ≡ receipts (part core xs) → received_in core (as_listed (x ∷ xs)) ≡ receipts (part core (x ∷ xs))
    by_core (inl own) rest = rw (received_own core x.done.event x.done.answer own, part_own core x xs own, rest) refl
    by_core (inr other) rest = rw (received_other core x.done.event x.done.answer other, part_other core x xs other) rest

-- the events of a core are listed in its order, and tell of the same decisions
core_same : (e : Event) (a : Answer) → core_of (as_short e a) ≡ core_of e
core_same (Take to from short) (TookPrepare txn vote.NoMemory) = refl
core_same e a = refl

own_same : (own : Bool) (e : Event) (a : Answer) → own_decision own (as_short e a) a ≡ own_decision own e a
own_same true (Take to from short) (TookPrepare txn vote.NoMemory) = refl
own_same false (Take to from short) (TookPrepare txn vote.NoMemory) = refl
own_same own e a = refl

is_own_same : (own : Bool) (e : Event) (a : Answer) → is_own own (as_short e a) ≡ is_own own e
is_own_same own (Take to from short) (TookPrepare txn vote.NoMemory) = refl
is_own_same own e a = refl

listed_part : (core : ℕ) (xs : List Stamped) → events_at core (as_listed xs) ≡ as_listed (part core xs)
listed_part core [] = refl
listed_part core (x ∷ xs) =
    ap (λ (n : ℕ). cond (n == core) (listed x ∷ events_at core (as_listed xs)) (events_at core (as_listed xs))) (core_same x.done.event x.done.answer) ∙ by_test (core_of x.done.event == core) (listed_part core xs)
  where
    by_test : (b : Bool) → events_at core (as_listed xs) ≡ as_listed (part core xs) → cond b (listed x ∷ events_at core (as_listed xs)) (events_at core (as_listed xs)) ≡ as_listed (cond b (x ∷ part core xs) (part core xs))
    by_test true rest = ap (λ (ds : List Done). listed x ∷ ds) rest
    by_test false rest = rest

decided_listed : (own : Bool) (xs : List Stamped) → decided_from own (as_listed xs) ≡ decisions_from own xs
decided_listed own [] = refl
decided_listed own (x ∷ xs) = rw (own_same own x.done.event x.done.answer, is_own_same own x.done.event x.done.answer, decided_listed (is_own own x.done.event) xs) refl

decided_part : (core : ℕ) (events : List Stamped) → decided_in core (as_listed events) ≡ decisions (part core events)
decided_part core events = ap (decided_from false) (listed_part core events) ∙ decided_listed false (part core events)

pub history_at : (cores : List RingCore) (core : ℕ) (c : RingCore) → slice_get cores core ≡ Some c → slice_get (histories_of cores) core ≡ Some c.history
history_at [] core c at = absurd cc
history_at (x ∷ cores) zero c at = (let e : x ≡ c = cc in rw e refl)
history_at (x ∷ cores) (suc k) c at = history_at cores k c at

of_history : (limits : TableLimits) (budget : ℕ) (budgets : List ℕ) (first : RingCore) (others : List RingCore) (list : List Done) → (con : Concludes limits budget budgets first others) → (l : ListsRun limits budget budgets first.history (histories_of others) con.end con.ends list)
    → (core : ℕ) (c : RingCore) → slice_get (first ∷ others) core ≡ Some c → part core l.merged ≡ c.history
of_history limits budget budgets first others list con l core c at = l.is_merged.of_each core c.history (history_at (first ∷ others) core c at)

-- what the list has of a core is what the core's history has
pub joined_begun : (limits : TableLimits) (budget : ℕ) (budgets : List ℕ) (first : RingCore) (others : List RingCore) (list : List Done) → Concludes limits budget budgets first others → ListsRuns (histories_of (first ∷ others)) list
    → (core : ℕ) (c : RingCore) → slice_get (first ∷ others) core ≡ Some c → begun_in core list ≡ begun c.history
joined_begun limits budget budgets first others list con lists core c at =
    let l = one_list limits budget budgets first others list con lists in
    ap (begun_in core) l.is_listed ∙ (begun_part core l.merged ∙ ap begun (of_history limits budget budgets first others list con l core c at))

pub joined_received : (limits : TableLimits) (budget : ℕ) (budgets : List ℕ) (first : RingCore) (others : List RingCore) (list : List Done) → Concludes limits budget budgets first others → ListsRuns (histories_of (first ∷ others)) list
    → (core : ℕ) (c : RingCore) → slice_get (first ∷ others) core ≡ Some c → received_in core list ≡ receipts c.history
joined_received limits budget budgets first others list con lists core c at =
    let l = one_list limits budget budgets first others list con lists in
    ap (received_in core) l.is_listed ∙ (received_part core l.merged ∙ ap receipts (of_history limits budget budgets first others list con l core c at))

pub joined_decided : (limits : TableLimits) (budget : ℕ) (budgets : List ℕ) (first : RingCore) (others : List RingCore) (list : List Done) → Concludes limits budget budgets first others → ListsRuns (histories_of (first ∷ others)) list
    → (core : ℕ) (c : RingCore) → slice_get (first ∷ others) core ≡ Some c → decided_in core list ≡ decisions c.history
joined_decided limits budget budgets first others list con lists core c at =
    let l = one_list limits budget budgets first others list con lists in
    ap (decided_in core) l.is_listed ∙ (decided_part core l.merged ∙ ap decisions (of_history limits budget budgets first others list con l core c at))

-- The list has no event of a core beyond them

pub none_beyond : (core : ℕ) (events : List Stamped) → ((k : ℕ) (s : Stamped) → slice_get events k ≡ Some s → core_of s.done.event < core) → part core events ≡ []
none_beyond core [] less = refl
none_beyond core (x ∷ xs) less =
    let first : core_of x.done.event < core = less 0 x refl in
    part_other core x xs (λ same. omega (arith, first, same)) ∙ none_beyond core xs (λ k s at. less (suc k) s at)

no_part : (limits : TableLimits) (budget : ℕ) (budgets : List ℕ) (first : RingCore) (others : List RingCore) (list : List Done) → (con : Concludes limits budget budgets first others) → (l : ListsRun limits budget budgets first.history (histories_of others) con.end con.ends list)
    → (core : ℕ) → length (first ∷ others) ≤ core → part core l.merged ≡ []
no_part limits budget budgets first others list con l core beyond =
    let long : length (histories_of others) ≡ length others = length-map others (λ (x : RingCore). x.history) in
    none_beyond core l.merged (λ k s at. (let its = l.is_merged.of_cores k s at in omega (arith, its, long, beyond)))

pub joined_none_begun : (limits : TableLimits) (budget : ℕ) (budgets : List ℕ) (first : RingCore) (others : List RingCore) (list : List Done) → Concludes limits budget budgets first others → ListsRuns (histories_of (first ∷ others)) list
    → (core : ℕ) → length (first ∷ others) ≤ core → begun_in core list ≡ []
joined_none_begun limits budget budgets first others list con lists core beyond =
    let l = one_list limits budget budgets first others list con lists in
    ap (begun_in core) l.is_listed ∙ (begun_part core l.merged ∙ ap begun (no_part limits budget budgets first others list con l core beyond))

pub joined_none_received : (limits : TableLimits) (budget : ℕ) (budgets : List ℕ) (first : RingCore) (others : List RingCore) (list : List Done) → Concludes limits budget budgets first others → ListsRuns (histories_of (first ∷ others)) list
    → (core : ℕ) → length (first ∷ others) ≤ core → received_in core list ≡ []
joined_none_received limits budget budgets first others list con lists core beyond =
    let l = one_list limits budget budgets first others list con lists in
    ap (received_in core) l.is_listed ∙ (received_part core l.merged ∙ ap receipts (no_part limits budget budgets first others list con l core beyond))

pub joined_none_decided : (limits : TableLimits) (budget : ℕ) (budgets : List ℕ) (first : RingCore) (others : List RingCore) (list : List Done) → Concludes limits budget budgets first others → ListsRuns (histories_of (first ∷ others)) list
    → (core : ℕ) → length (first ∷ others) ≤ core → decided_in core list ≡ []
joined_none_decided limits budget budgets first others list con lists core beyond =
    let l = one_list limits budget budgets first others list con lists in
    ap (decided_in core) l.is_listed ∙ (decided_part core l.merged ∙ ap decisions (no_part limits budget budgets first others list con l core beyond))
