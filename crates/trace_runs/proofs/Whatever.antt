-- Whatever a trace shows is the run, or differs first where a core is out of memory.
use Rattle.std.proofs.Common.{◌≡◌, ◌⊎◌, inl, inr, ℕ, List, [], ◌∷◌, ◌++◌, map, refl, ap, sym, ◌∙◌, subst, append_assoc}
use Rattle.std.specs.Prelude.{Result, Ok, Err}
use Rattle.std.specs.List.{All, flat_map}
use Rattle.std.proofs.lemmas.List.{append-nil}
use Rattle.std.proofs.lemmas.List.Elements.{All-head, All-tail}
use Rattle.filter_table.specs.Limits.{TableLimits}
use Rattle.filter_table.specs.declared.operation.Op.{Op}
use Rattle.world_events.specs.declared.event.Event.{Event}
use Rattle.world_events.specs.declared.event.Event.TheVariants.{Start, Submit, StartFor, Take, Rx}
use Rattle.world_events.specs.declared.event.Answer.{Answer}
use Rattle.world_events.specs.declared.event.Done.{Done}
use Rattle.world_model.specs.Worlds.{World, boot, Happens, Runs, Run}
use Rattle.world_model.proofs.Runs.{runs_more}
use Rattle.world_events.specs.declared.fault.WorldFault.{WorldFault}
use Rattle.world_progress.proofs.Once.{lacks_or_not}
use Rattle.world_progress.proofs.NotRefused.{none_stands}
use Rattle.world_progress.proofs.SameRuns.{happens_once}
use Rattle.sim_lines.specs.Events.{event_line, done_line}
use Rattle.mk_script.specs.declared.script.Item.{Item}
use Rattle.mk_script.specs.declared.script.Item.TheVariants as item
use Rattle.sim_engine.specs.declared.requests.PendingRequest.{PendingRequest}
use Rattle.sim_engine.proofs.Twice.{stands}
use Rattle.sim_engine.specs.declared.way.Way.{Way}
use Rattle.sim_engine.specs.declared.way.Way.TheVariants as way
use Rattle.sim_engine.specs.Ways.{home_of, event_of}
use Rattle.core_loop.specs.Cores.{begins}
use Rattle.sim_engine.specs.Simulations.{Simulation, Tells, Applies, Does, Begins, nothing, done, refused, Performs}
use Rattle.trace_text.specs.Traces.{item_of, trace_item, asks_of}
use Rattle.world_events.specs.Memory.{IsRefusedForMemory, LacksMemory, WasNotRefused}
use Rattle.trace_runs.specs.Traces.{retold, begun_at}
use Rattle.trace_runs.specs.Repeats.{BeginInOrder, PerformsTrace, Repeats, same, short_of_memory}
use Rattle.trace_runs.proofs.Pending.{BeginsFirst, not_none, begun_first, as_request}
use Rattle.trace_runs.proofs.Retake.{happens_retold}
use Rattle.trace_runs.proofs.Again.{at, Begin, BeginWith, begin_still, asked, begin_asked}

-- What one event tells

-- a trace tells of each vote NoMemory
had_again : (event : Event) (answer : Answer) → (IsRefusedForMemory answer → ⊥) → LacksMemory (retold event answer) answer → ⊥
had_again (Start op) answer had out = had out
had_again (StartFor core) answer had out = had out
had_again (Take to from short) answer had out = let x = out.0 in let y = out.1 in cc
had_again (Submit core op) answer had out = out
had_again (Rx core number packet floor) answer had out = out

-- the same, or out of memory
data ToldOnce (event : Event) (answer : Answer) (mid w' : World) (told : Result Answer WorldFault) : Type 0 where
  as_before : told ≡ Ok answer → w' ≡ mid → ToldOnce event answer mid w' told
  lacking : (other : Answer) → LacksMemory event other → told ≡ Ok other → ToldOnce event answer mid w' told

-- the item of an event as a trace tells it
abbrev item_for : Event → Item
item_for (Start op) = item.Begin
item_for (Submit core op) = item.Submit core
item_for (StartFor core) = item.StartFor core
item_for (Take to from short) = item.Apply (Take to from short)
item_for (Rx core number packet floor) = item.Apply (Rx core number packet floor)

retold_item : (event : Event) (answer : Answer) → item_of event answer ≡ item_for (retold event answer)
retold_item (Start op) answer = refl
retold_item (Submit core op) answer = refl
retold_item (StartFor core) answer = refl
retold_item (Take to from short) answer = refl
retold_item (Rx core number packet floor) answer = refl

module _ (limits : TableLimits) (budget : ℕ) (budgets : List ℕ) (before : List Done) (w mid : World) (run : Run limits budget budgets before w) where
  told_once : (event : Event) (answer : Answer) (w' : World) (told : Result Answer WorldFault) → Happens w event mid answer → (LacksMemory event answer → ⊥) → Tells w event told w' → ToldOnce event answer mid w' told
  told_once event answer w' (Ok other) h had tells = by_memory (lacks_or_not event other)
    where
      by_memory : LacksMemory event other ⊎ (LacksMemory event other → ⊥) → ToldOnce event answer mid w' (Ok other)
      by_memory (inl out) = lacking other out refl
      by_memory (inr had') = let one = happens_once w w' mid event other answer tells h had' had in as_before (ap (λ (a : Answer). Ok a) one.0) one.1
  told_once event answer w' (Err fault) h had tells = absurd (none_stands limits budget budgets before w mid event answer fault run h (stands w event fault tells.0 tells.1))

  not_refused : (event : Event) (answer : Answer) (fault : WorldFault) (w' : World) → Happens w event mid answer → Tells w event (Err fault) w' → ⊥
  not_refused event answer fault w' h tells = none_stands limits budget budgets before w mid event answer fault run h (stands w event fault tells.0 tells.1)

  -- the item's event, its line, and the requests that are left; or out of memory
  data Found (event : Event) (answer : Answer) (later : List Done) (s' : Simulation) (now : List ℕ) : Type 0 where
    goes_on : s'.world ≡ mid → now ≡ event_line event (Ok answer) → Begin later s'.pending → Found event answer later s' now
    lacked : (other : Answer) → LacksMemory event other → now ≡ event_line event (Ok other) → Found event answer later s' now

  by_told : (event : Event) (answer : Answer) (later : List Done) (s' : Simulation) (now : List ℕ) (told : Result Answer WorldFault) → ToldOnce event answer mid s'.world told → now ≡ event_line event told → Begin later s'.pending → Found event answer later s' now
  by_told event answer later s' now told (as_before e is) line begin = goes_on is (line ∙ ap (event_line event) e) begin
  by_told event answer later s' now told (lacking other out e) line begin = lacked other out (line ∙ ap (event_line event) e)

  found_begun : (by : Way) (op : Op) (answer : Answer) (later : List Done) (pending : List PendingRequest) (s' : Simulation) (now : List ℕ) → Happens w (event_of by op) mid answer → (LacksMemory (event_of by op) answer → ⊥)
      → BeginsFirst (home_of by) op (λ core. begun_at core later) pending → Begins (at w pending) by s' now → Found (event_of by op) answer later s' now
  found_begun by op answer later pending s' now h had b (nothing none is line) = absurd (not_none (home_of by) op (λ core. begun_at core later) pending b none)
  found_begun by op answer later pending s' now h had b (done first f other tells line) =
      let g = begun_first (home_of by) op (λ core. begun_at core later) pending first s'.pending b f in
      by_told (event_of by op) answer later s' now (Ok other)
      (told_once (event_of by op) answer s'.world (Ok other) h had (subst (λ (o : Op). Tells w (event_of by o) (Ok other) s'.world) g.is_op tells))
      (line ∙ ap (λ (o : Op). event_line (event_of by o) (Ok other)) g.is_op) g.next
  found_begun by op answer later pending s' now h had b (refused first rest f fault tells is line) =
      let g = begun_first (home_of by) op (λ core. begun_at core later) pending first rest b f in
      absurd (not_refused (event_of by op) answer fault s'.world h (subst (λ (o : Op). Tells w (event_of by o) (Err fault) s'.world) g.is_op tells))

  found_applied : (event : Event) (answer : Answer) (later : List Done) (pending : List PendingRequest) (s' : Simulation) (now : List ℕ) → begins event ≡ [] → Happens w event mid answer → (LacksMemory event answer → ⊥) → BeginWith event later pending
      → Applies (at w pending) event s' now → Found event answer later s' now
  found_applied event answer later pending s' now none h had b does =
      by_told event answer later s' now does.0 (told_once event answer s'.world does.0 h had does.1) does.3 (subst (Begin later) (sym does.2) (begin_still event later pending none b))

  found : (event : Event) (answer : Answer) (later : List Done) (pending : List PendingRequest) (s' : Simulation) (now : List ℕ) → Happens w event mid answer → (LacksMemory event answer → ⊥) → BeginWith event later pending
      → Does (at w pending) (item_for event) s' now → Found event answer later s' now
  found (Start op) answer later pending s' now h had b does = found_begun way.Start op answer later pending s' now h had b does
  found (Submit core op) answer later pending s' now h had b does = found_begun (way.Submit core) op answer later pending s' now h had b does
  found (StartFor core) answer later pending s' now h had b does = found_applied (StartFor core) answer later pending s' now refl h had b does
  found (Take to from short) answer later pending s' now h had b does = found_applied (Take to from short) answer later pending s' now refl h had b does
  found (Rx core number packet floor) answer later pending s' now h had b does = found_applied (Rx core number packet floor) answer later pending s' now refl h had b does

-- All events

retold_line : (event : Event) (answer : Answer) (told : Result Answer WorldFault) → event_line (retold event answer) told ≡ event_line event told
retold_line (Start op) answer told = refl
retold_line (Submit core op) answer told = refl
retold_line (StartFor core) answer told = refl
retold_line (Take to from short) answer told = refl
retold_line (Rx core number packet floor) answer told = refl

retold_begins : (event : Event) (answer : Answer) (later : List Done) (pending : List PendingRequest) → BeginWith event later pending → BeginWith (retold event answer) later pending
retold_begins (Start op) answer later pending b = b
retold_begins (Submit core op) answer later pending b = b
retold_begins (StartFor core) answer later pending b = b
retold_begins (Take to from short) answer later pending b = b
retold_begins (Rx core number packet floor) answer later pending b = b

-- a line of the run first
one_more : (d : Done) (ds : List Done) (w' end : World) (now later text : List ℕ) → now ≡ done_line d → text ≡ now ++ later → Repeats ds w' end later → Repeats (d ∷ ds) w' end text
one_more d ds w' end now later text line whole (same e is) = same (whole ∙ rw (line, e) refl) is
one_more d ds w' end now later text line whole (short_of_memory x) = short_of_memory (record {
  before = d ∷ x.before;
  done = x.done;
  after = x.after;
  is_among = ap (λ (xs : List Done). d ∷ xs) x.is_among;
  answer = x.answer;
  lacks = x.lacks;
  more = x.more;
  printed = whole ∙ (rw (line, x.printed) (sym (append_assoc (done_line d) (flat_map done_line x.before) (event_line x.done.event (Ok x.answer) ++ x.more))));
})

whatever : (limits : TableLimits) (budget : ℕ) (budgets : List ℕ) (before events : List Done) (w w' : World) (pending : List PendingRequest) (end : Simulation) (text : List ℕ) → Run limits budget budgets before w → Runs w events w' → Begin events pending → All WasNotRefused events
    → Performs (at w pending) (map trace_item events) end text → Repeats events w' end.world text
whatever limits budget budgets before [] w w' pending end text run r b had p = same p.1 (ap (λ (s : Simulation). s.world) p.0 ∙ sym r)
whatever limits budget budgets before (d ∷ ds) w w' pending end text run r b had p =
    by_found (found limits budget budgets before w r.0 run (retold d.event d.answer) d.answer ds pending p.0 p.1 (happens_retold w r.0 d.event d.answer r.1) (had_again d.event d.answer (All-head WasNotRefused d ds had)) (retold_begins d.event d.answer ds pending b)
    (subst (λ (i : Item). Does (at w pending) i p.0 p.1) (retold_item d.event d.answer) p.3))
    (λ begin rest. whatever limits budget budgets (before ++ d ∷ []) ds r.0 w' p.0.pending end p.2 (runs_more (boot limits budget budgets) w r.0 before d run r.1) r.2 begin (All-tail WasNotRefused d ds had) rest)
  where
    by_found : Found limits budget budgets before w r.0 run (retold d.event d.answer) d.answer ds p.0 p.1
        → (Begin ds p.0.pending → Performs (at r.0 p.0.pending) (map trace_item ds) end p.2 → Repeats ds w' end.world p.2) → Repeats (d ∷ ds) w' end.world text
    by_found (goes_on is line begin) rest =
        one_more d ds w' end.world p.1 p.2 text (line ∙ retold_line d.event d.answer (Ok d.answer)) p.5 (rest begin (subst (λ (x : World). Performs (at x p.0.pending) (map trace_item ds) end p.2) is p.4))
    by_found (lacked other out line) rest = short_of_memory (record {
      before = [];
      done = d;
      after = ds;
      is_among = refl;
      answer = other;
      lacks = out;
      more = p.2;
      printed = p.5 ∙ ap (λ (xs : List ℕ). xs ++ p.2) (line ∙ retold_line d.event d.answer (Ok other));
    })

-- The requests first

after_asks : (w : World) (pending : List PendingRequest) (items later : List Item) (end : Simulation) (text : List ℕ) → Performs (at w pending) (asks_of items ++ later) end text → Performs (at w (pending ++ asked items)) later end text
after_asks w pending [] later end text p = subst (λ (rs : List PendingRequest). Performs (at w rs) later end text) (sym (append-nil pending)) p
after_asks w pending (item.Ask home op ∷ items) later end text p =
    let more : (pending ++ as_request (home, op) ∷ []) ++ asked items ≡ pending ++ as_request (home, op) ∷ asked items = append_assoc pending (as_request (home, op) ∷ []) (asked items) in
    let printed : text ≡ p.2 = p.5 ∙ ap (λ (xs : List ℕ). xs ++ p.2) p.3.1 in
    let rest : Performs (at w (pending ++ as_request (home, op) ∷ [])) (asks_of items ++ later) end p.2 = subst (λ (s : Simulation). Performs s (asks_of items ++ later) end p.2) p.3.0 p.4 in
    subst (λ (xs : List ℕ). Performs (at w (pending ++ as_request (home, op) ∷ asked items)) later end xs) (sym printed)
    (subst (λ (rs : List PendingRequest). Performs (at w rs) later end p.2) more (after_asks w (pending ++ as_request (home, op) ∷ []) items later end p.2 rest))
after_asks w pending (item.Begin ∷ items) later end text p = after_asks w pending items later end text p
after_asks w pending (item.Submit core ∷ items) later end text p = after_asks w pending items later end text p
after_asks w pending (item.StartFor core ∷ items) later end text p = after_asks w pending items later end text p
after_asks w pending (item.Apply event ∷ items) later end text p = after_asks w pending items later end text p
after_asks w pending (item.Settle ∷ items) later end text p = after_asks w pending items later end text p
after_asks w pending (item.Show core ∷ items) later end text p = after_asks w pending items later end text p

pub repeats : (limits : TableLimits) (budget : ℕ) (budgets : List ℕ) (items : List Item) (events : List Done) (w : World) (end : Simulation) (text : List ℕ) → Run limits budget budgets events w → BeginInOrder items events → All WasNotRefused events
    → PerformsTrace limits budget budgets items events end text → Repeats events w end.world text
repeats limits budget budgets items events w end text r h had p =
    whatever limits budget budgets [] events (boot limits budget budgets) w (asked items) end text refl r (begin_asked items events h) had (after_asks (boot limits budget budgets) [] items (map trace_item events) end text p)
