-- A run is done again, event by event.
use Rattle.std.proofs.Common.{◌≡◌, ◌==◌, ℕ, Bool, true, false, List, [], ◌∷◌, ◌++◌, map, refl, sym, subst, append_assoc}
use Rattle.std.specs.Prelude.{Ok, if◌then◌else◌}
use Rattle.std.specs.List.{flat_map}
use Rattle.std.proofs.lemmas.List.{append-nil}
use mathlib.Core.List.{IsPrefix}
use Rattle.filter_table.specs.Limits.{TableLimits}
use Rattle.filter_table.specs.declared.operation.Op.{Op}
use Rattle.world_events.specs.declared.event.Event.{Event}
use Rattle.world_events.specs.declared.event.Event.TheVariants.{Start, Submit, StartFor, Take, Rx}
use Rattle.world_events.specs.declared.event.Answer.{Answer}
use Rattle.world_events.specs.declared.event.Done.{Done}
use Rattle.world_model.specs.Worlds.{World, boot, Happens, Runs, Run}
use Rattle.world_histories.specs.Merging.{core_of}
use Rattle.core_loop.specs.Cores.{begins}
use Rattle.sim_lines.specs.Events.{event_line, done_line}
use Rattle.mk_script.specs.declared.script.Item.{Item}
use Rattle.mk_script.specs.declared.script.Item.TheVariants as item
use Rattle.sim_engine.specs.declared.requests.PendingRequest.{PendingRequest}
use Rattle.sim_engine.specs.Simulations.{Simulation, Does, done, Performs}
use Rattle.run_engine.specs.Work.{requests_of}
use Rattle.trace_text.specs.Traces.{item_of, trace_item, asks_of}
use Rattle.trace_runs.specs.Traces.{begun_at}
use Rattle.trace_runs.specs.Repeats.{BeginInOrder, CanRepeat}
use Rattle.trace_runs.proofs.Pending.{ops_at, AreFirst, begins_it, begun_first, as_request, ops_for}
use Rattle.trace_runs.proofs.Retake.{happens_retold}

abbrev pub at : World → List PendingRequest → Simulation
at w pending = record { world = w; pending = pending }

-- what the core begins with one event
abbrev pub begun_with : ℕ → Event → List Op
begun_with core event = if core_of event == core then begins event else []

-- the requests that these events begin are the first that are pending, at each core
abbrev pub Begin : List Done → List PendingRequest → Type 0
Begin events pending = AreFirst (λ core. begun_at core events) pending

-- one event more
abbrev pub BeginWith : Event → List Done → List PendingRequest → Type 0
BeginWith event later pending = (core : ℕ) → IsPrefix (begun_with core event ++ begun_at core later) (ops_at core pending)

none_begun : (test : Bool) (rest : List Op) → (if test then [] else []) ++ rest ≡ rest
none_begun true rest = refl
none_begun false rest = refl

-- an event that begins nothing
pub begin_still : (event : Event) (later : List Done) (pending : List PendingRequest) → begins event ≡ [] → BeginWith event later pending → Begin later pending
begin_still event later pending e h core =
    let is : begun_with core event ++ begun_at core later ≡ begun_at core later = rw e (none_begun (core_of event == core) (begun_at core later)) in
    subst (λ (ops : List Op). IsPrefix ops (ops_at core pending)) is (h core)

-- One event

record Stepped (w w' : World) (event : Event) (answer : Answer) (later : List Done) (pending : List PendingRequest) : Type 0 where
  pub rest : List PendingRequest
  pub does : Does (at w pending) (item_of event answer) (at w' rest) (event_line event (Ok answer))
  pub begin : Begin later rest

step : (w w' : World) (event : Event) (answer : Answer) (later : List Done) (pending : List PendingRequest) → Happens w event w' answer → BeginWith event later pending → Stepped w w' event answer later pending
step w w' (Start op) answer later pending h b =
    let f = begins_it 0 op (λ core. begun_at core later) pending b in
    let g = begun_first 0 op (λ core. begun_at core later) pending f.0 f.1 b f.2 in
    record { rest = f.1; does = done f.0 f.2 answer (subst (λ (o : Op). Happens w (Start o) w' answer) (sym g.is_op) h) refl; begin = g.next }
step w w' (Submit core op) answer later pending h b =
    let f = begins_it core op (λ c. begun_at c later) pending b in
    let g = begun_first core op (λ c. begun_at c later) pending f.0 f.1 b f.2 in
    record { rest = f.1; does = done f.0 f.2 answer (subst (λ (o : Op). Happens w (Submit core o) w' answer) (sym g.is_op) h) refl; begin = g.next }
step w w' (StartFor core) answer later pending h b = record { rest = pending; does = (Ok answer, h, refl, refl); begin = begin_still (StartFor core) later pending refl b }
step w w' (Take to from short) answer later pending h b =
    record { rest = pending; does = (Ok answer, happens_retold w w' (Take to from short) answer h, refl, refl); begin = begin_still (Take to from short) later pending refl b }
step w w' (Rx core number packet floor) answer later pending h b =
    record { rest = pending; does = (Ok answer, h, refl, refl); begin = begin_still (Rx core number packet floor) later pending refl b }

-- All events

record Again (w w' : World) (events : List Done) (pending : List PendingRequest) : Type 0 where
  pub end : Simulation
  pub performs : Performs (at w pending) (map trace_item events) end (flat_map done_line events)
  pub same_world : end.world ≡ w'

again : (w w' : World) (events : List Done) (pending : List PendingRequest) → Runs w events w' → Begin events pending → Again w w' events pending
again w w' [] pending r b = record { end = at w pending; performs = (refl, refl); same_world = sym r }
again w w' (d ∷ ds) pending r b =
    let s = step w r.0 d.event d.answer ds pending r.1 b in
    let a = again r.0 w' ds s.rest r.2 s.begin in
    record { end = a.end; performs = (at r.0 s.rest, done_line d, flat_map done_line ds, s.does, a.performs, refl); same_world = a.same_world }

-- The requests first

abbrev pub asked : List Item → List PendingRequest
asked items = map as_request (requests_of items)

performs_asks : (w : World) (pending : List PendingRequest) (items later : List Item) (end : Simulation) (text : List ℕ) → Performs (at w (pending ++ asked items)) later end text → Performs (at w pending) (asks_of items ++ later) end text
performs_asks w pending [] later end text p = subst (λ (rs : List PendingRequest). Performs (at w rs) later end text) (append-nil pending) p
performs_asks w pending (item.Ask home op ∷ items) later end text p =
    let more : pending ++ as_request (home, op) ∷ asked items ≡ (pending ++ as_request (home, op) ∷ []) ++ asked items = sym (append_assoc pending (as_request (home, op) ∷ []) (asked items)) in (
      at w (pending ++ as_request (home, op) ∷ []),
      [],
      text,
      (refl, refl),
      performs_asks w (pending ++ as_request (home, op) ∷ []) items later end text (subst (λ (rs : List PendingRequest). Performs (at w rs) later end text) more p),
      refl,
    )
performs_asks w pending (item.Begin ∷ items) later end text p = performs_asks w pending items later end text p
performs_asks w pending (item.Submit core ∷ items) later end text p = performs_asks w pending items later end text p
performs_asks w pending (item.StartFor core ∷ items) later end text p = performs_asks w pending items later end text p
performs_asks w pending (item.Apply event ∷ items) later end text p = performs_asks w pending items later end text p
performs_asks w pending (item.Settle ∷ items) later end text p = performs_asks w pending items later end text p
performs_asks w pending (item.Show core ∷ items) later end text p = performs_asks w pending items later end text p

pub begin_asked : (items : List Item) (events : List Done) → BeginInOrder items events → Begin events (asked items)
begin_asked items events h core = subst (λ (ops : List Op). IsPrefix (begun_at core events) ops) (sym (ops_for core (requests_of items))) (h core)

pub can_repeat : (limits : TableLimits) (budget : ℕ) (budgets : List ℕ) (items : List Item) (events : List Done) (w : World) → Run limits budget budgets events w → BeginInOrder items events → CanRepeat limits budget budgets items events w
can_repeat limits budget budgets items events w r h =
    let a = again (boot limits budget budgets) w events (asked items) r (begin_asked items events h) in
    record { end = a.end; performs = performs_asks (boot limits budget budgets) [] items (map trace_item events) a.end (flat_map done_line events) a.performs; same_world = a.same_world }
