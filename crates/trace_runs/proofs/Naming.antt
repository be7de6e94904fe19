-- The events of a script's run are named by their words.
use Rattle.std.proofs.Common.{◌≡◌, ◌==◌, ◌<◌, ◌≤◌, ◌^◌, ◌⊎◌, inl, inr, ℕ, zero, suc, true, false, Some, List, [], ◌∷◌, ◌++◌, length, slice_get, refl, ap, sym, ◌∙◌, subst, arith}
use Rattle.std.specs.List.{All}
use Rattle.std.proofs.lemmas.List.Elements.{All-nil, All-cons, All-head, All-tail, All-weaker}
use Rattle.rx_queue.specs.declared.job.Job.{Job}
use Rattle.filter_table.specs.Limits.{TableLimits}
use Rattle.filter_table.specs.declared.decision.Vote.TheVariants as vote
use Rattle.world_events.specs.declared.event.Event.{Event}
use Rattle.world_events.specs.declared.event.Event.TheVariants.{Start, Submit, StartFor, Take, Rx}
use Rattle.world_events.specs.declared.event.Answer.{Answer}
use Rattle.world_events.specs.declared.event.Answer.TheVariants.{TookPrepare}
use Rattle.world_events.specs.declared.event.Done.{Done}
use Rattle.world_model.specs.Worlds.{World, boot, Happens, Runs, Run}
use Rattle.world_model.proofs.Lists.{same_or_not}
use Rattle.world_model.proofs.Submissions.{eq_self, eq_other}
use Rattle.world_model.proofs.Runs.{runs_more}
use Rattle.world_model.proofs.Known.{run_known}
use Rattle.world_histories.specs.declared.history.Stamped.{Stamped}
use Rattle.world_histories.specs.Merging.{core_of, part, Merged, as_short, listed, as_listed}
use Rattle.world_histories.proofs.Parts.{part_own, part_other}
use Rattle.core_loop.specs.Receipts.{receives}
use Rattle.core_loop.specs.Cores.{receipts}
use Rattle.core_machine.specs.Lanes.{items_for}
use Rattle.mk_script.specs.declared.script.Item.{Item}
use Rattle.mk_script.specs.declared.script.Item.TheVariants.{Ask, Apply, Begin, Settle, Show}
use Rattle.mk_script.specs.declared.script.Item.TheVariants as item
use Rattle.mk_script.specs.declared.script.Script.{Script}
use Rattle.mk_script.specs.Threads.{IsScriptForThreads, received}
use Rattle.run_engine.specs.Work.{jobs_of}
use Rattle.trace_text.specs.Traces.{IsNamedIn, IsNamed}
use Rattle.trace_text.proofs.NameLemmas.{named}
use Rattle.std.proofs.lemmas.Option.{slice_get_within}
use Rattle.filter_table.proofs.Positions.{get_at}

-- Lists

all_front : {A : Type 0} (P : A → Type 0) (xs ys : List A) → All P (xs ++ ys) → All P xs
all_front P [] ys h = All-nil P
all_front P (x ∷ xs) ys h = All-cons P x xs (All-head P x (xs ++ ys) h) (all_front P xs ys (All-tail P x (xs ++ ys) h))

all_back : {A : Type 0} (P : A → Type 0) (xs ys : List A) → All P (xs ++ ys) → All P ys
all_back P [] ys h = h
all_back P (x ∷ xs) ys h = all_back P xs ys (All-tail P x (xs ++ ys) h)

-- Cores

-- the event names cores of a machine of so many
abbrev AreCores : ℕ → Event → Type 0
AreCores cores (Submit core op) = core < cores
AreCores cores (StartFor core) = core < cores
AreCores cores (Take to from short) = (to < cores) × (from < cores)
AreCores cores event = Unit {0}

names_cores : (others : ℕ) (w w' : World) (event : Event) (answer : Answer) → length w.peers ≡ others → length w.requests.waiting ≡ others → Happens w event w' answer → AreCores (suc others) event
names_cores others w w' (Start op) answer peers waiting h = tt
names_cores others w w' (Submit zero op) answer peers waiting h = absurd h
names_cores others w w' (Submit (suc i) op) answer peers waiting h = omega (arith, peers, slice_get_within w.peers i h.peer h.is_peer)
names_cores others w w' (StartFor zero) answer peers waiting h = absurd h
names_cores others w w' (StartFor (suc i)) answer peers waiting h = omega (arith, waiting, slice_get_within w.requests.waiting i (Some h.here.starts.op) h.here.starts.is_waiting)
names_cores others w w' (Take zero zero short) answer peers waiting h = absurd h
names_cores others w w' (Take zero (suc i) short) answer peers waiting h = (omega arith, omega (arith, peers, slice_get_within w.peers i h.peer h.is_peer))
names_cores others w w' (Take (suc i) zero short) answer peers waiting h = (omega (arith, peers, slice_get_within w.peers i h.peer h.is_peer), omega arith)
names_cores others w w' (Take (suc i) (suc j) short) answer peers waiting h = absurd h
names_cores others w w' (Rx core number packet floor) answer peers waiting h = tt

pub run_names_cores : (limits : TableLimits) (budget : ℕ) (budgets : List ℕ) (before events : List Done) (w w' : World) → Run limits budget budgets before w → Runs w events w' → All (λ d. AreCores (suc (length budgets)) d.event) events
run_names_cores limits budget budgets before [] w w' run r = All-nil (λ d. AreCores (suc (length budgets)) d.event)
run_names_cores limits budget budgets before (d ∷ ds) w w' run r =
    let k = run_known limits budget budgets before w run in
    All-cons (λ d. AreCores (suc (length budgets)) d.event) d ds (names_cores (length budgets) w r.0 d.event d.answer k.cores k.waiting_long r.1)
    (run_names_cores limits budget budgets (before ++ d ∷ []) ds r.0 w' (runs_more (boot limits budget budgets) w r.0 before d run r.1) r.2)

-- Packets

-- a job of this core is among the receptions
abbrev IsReceived : List Event → ℕ → Job → Type 0
IsReceived events core job = (place : ℕ) × (slice_get events place ≡ Some (Rx core job.number job.packet job.floor))

received_later : (event : Event) (events : List Event) (core : ℕ) (job : Job) → IsReceived events core job → IsReceived (event ∷ events) core job
received_later event events core job h = (suc h.0, h.1)

jobs_received : (core : ℕ) (items : List Item) → All (IsReceived (received items) core) (items_for core (jobs_of items))
jobs_received core [] = All-nil (IsReceived [] core)
jobs_received core (Apply (Rx c number packet floor) ∷ items) = by_core (same_or_not c core) (jobs_received core items)
  where
    job : Job
    job = record { number = number; packet = packet; floor = floor }

    after : All (IsReceived (received items) core) (items_for core (jobs_of items)) → All (IsReceived (Rx c number packet floor ∷ received items) core) (items_for core (jobs_of items))
    after = All-weaker (IsReceived (received items) core) (IsReceived (Rx c number packet floor ∷ received items) core) (received_later (Rx c number packet floor) (received items) core) (items_for core (jobs_of items))

    by_core : ((c ≡ core) ⊎ (c ≡ core → ⊥)) → All (IsReceived (received items) core) (items_for core (jobs_of items)) → All (IsReceived (Rx c number packet floor ∷ received items) core) (items_for core (jobs_of (Apply (Rx c number packet floor) ∷ items)))
    by_core (inl is) rest =
        let test : (c == core) ≡ true = ap (λ (n : ℕ). n == core) is ∙ eq_self core in
        let first : IsReceived (Rx c number packet floor ∷ received items) core job = (0, ap (λ (n : ℕ). Some (Rx n number packet floor)) is) in
        rw test (All-cons (IsReceived (Rx c number packet floor ∷ received items) core) job (items_for core (jobs_of items)) first (after rest))
    by_core (inr ne) rest =
        let test : (c == core) ≡ false = eq_other c core ne in
        rw test (after rest)
jobs_received core (Apply (Start op) ∷ items) = jobs_received core items
jobs_received core (Apply (Submit c op) ∷ items) = jobs_received core items
jobs_received core (Apply (StartFor c) ∷ items) = jobs_received core items
jobs_received core (Apply (Take to from short) ∷ items) = jobs_received core items
jobs_received core (Ask c op ∷ items) = jobs_received core items
jobs_received core (Begin ∷ items) = jobs_received core items
jobs_received core (item.Submit c ∷ items) = jobs_received core items
jobs_received core (item.StartFor c ∷ items) = jobs_received core items
jobs_received core (Settle ∷ items) = jobs_received core items
jobs_received core (Show c ∷ items) = jobs_received core items

-- what an event of a core receives is among what that core receives
own_receipts : (P : Job → Type 0) (core : ℕ) (merged : List Stamped) (k : ℕ) (s : Stamped) → slice_get merged k ≡ Some s → core_of s.done.event ≡ core → All P (receipts (part core merged)) → All P (receives s.done.event)
own_receipts P core [] k s at own all = absurd cc
own_receipts P core (x ∷ xs) zero s at own all =
    let same : x ≡ s = cc in
    let whole : All P (receives s.done.event ++ receipts (part core xs)) = subst (λ (y : Stamped). All P (receives y.done.event ++ receipts (part core xs))) same
    (subst (λ (ss : List Stamped). All P (receipts ss)) (part_own core x xs (ap (λ (y : Stamped). core_of y.done.event) same ∙ own)) all) in
    all_front P (receives s.done.event) (receipts (part core xs)) whole
own_receipts P core (x ∷ xs) (suc k) s at own all = by_core (same_or_not (core_of x.done.event) core) (own_receipts P core xs k s at own)
  where
    by_core : ((core_of x.done.event ≡ core) ⊎ (core_of x.done.event ≡ core → ⊥)) → (All P (receipts (part core xs)) → All P (receives s.done.event)) → All P (receives s.done.event)
    by_core (inl is) later = later (all_back P (receives x.done.event) (receipts (part core xs)) (subst (λ (ss : List Stamped). All P (receipts ss)) (part_own core x xs is) all))
    by_core (inr ne) later = later (subst (λ (ss : List Stamped). All P (receipts ss)) (part_other core x xs ne) all)

-- an event that receives a packet is a reception
abbrev IsReception : List Event → Event → Type 0
IsReception events (Rx core number packet floor) = (place : ℕ) × (slice_get events place ≡ Some (Rx core number packet floor))
IsReception events event = Unit {0}

reception : (events : List Event) (event : Event) → All (IsReceived events (core_of event)) (receives event) → IsReception events event
reception events (Rx core number packet floor) all = All-head (IsReceived events core) (record { number = number; packet = packet; floor = floor }) [] all
reception events (Start op) all = tt
reception events (Submit core op) all = tt
reception events (StartFor core) all = tt
reception events (Take to from short) all = tt

pub receptions : (core0 : List Stamped) (others : List (List Stamped)) (merged : List Stamped) (items : List Item) → Merged core0 others merged
    → ((core : ℕ) (history : List Stamped) → slice_get (core0 ∷ others) core ≡ Some history → (rest : List Job) × (receipts history ++ rest ≡ items_for core (jobs_of items)))
    → (k : ℕ) (s : Stamped) → slice_get merged k ≡ Some s → IsReception (received items) s.done.event
receptions core0 others merged items m did k s at =
    let core = core_of s.done.event in
    let h = get_at (core0 ∷ others) core (omega (arith, m.of_cores k s at)) in
    let w = did core h.0 h.1 in
    let own : All (IsReceived (received items) core) (receipts h.0) = all_front (IsReceived (received items) core) (receipts h.0) w.0 (subst (All (IsReceived (received items) core)) (sym w.1) (jobs_received core items)) in
    reception (received items) s.done.event
    (own_receipts (IsReceived (received items) core) core merged k s at refl (subst (λ (ss : List Stamped). All (IsReceived (received items) core) (receipts ss)) (sym (m.of_each core h.0 h.1)) own))

-- Events

module _ (script : Script) (cores : ℕ) (is : IsScriptForThreads script) (few : length script.budgets ≤ 64) (are_cores : cores ≤ 64) (short : length (received script.items) < 2 ^ 64) where
  named_by : (event : Event) → AreCores cores event → IsReception (received script.items) event → IsNamedIn (received script.items) event
  named_by (Start op) inside at = tt
  named_by (Submit core op) inside at = omega (arith, inside, are_cores)
  named_by (StartFor core) inside at = omega (arith, inside, are_cores)
  named_by (Take to from short') inside at = (omega (arith, inside.0, are_cores), omega (arith, inside.1, are_cores))
  named_by (Rx core number packet floor) inside at = named script at.0 core number floor packet is (omega (arith, few)) short at.1

  named_as : (event : Event) (answer : Answer) → AreCores cores (as_short event answer) → IsReception (received script.items) event → IsNamedIn (received script.items) (as_short event answer)
  named_as (Take to from short') (TookPrepare txn vote.NoMemory) inside at = named_by (Take to from true) inside tt
  named_as event answer inside at = named_by event inside at

  pub all_named : (events : List Stamped) → ((k : ℕ) (s : Stamped) → slice_get events k ≡ Some s → IsReception (received script.items) s.done.event)
      → All (λ d. AreCores cores d.event) (as_listed events) → All (IsNamed script.items) (as_listed events)
  all_named [] at inside = All-nil (IsNamed script.items)
  all_named (s ∷ ss) at inside =
      All-cons (IsNamed script.items) (listed s) (as_listed ss) (named_as s.done.event s.done.answer (All-head (λ d. AreCores cores d.event) (listed s) (as_listed ss) inside) (at 0 s refl))
      (all_named ss (λ k t e. at (suc k) t e) (All-tail (λ d. AreCores cores d.event) (listed s) (as_listed ss) inside))
