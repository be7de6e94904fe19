-- What `sim` shows of a script's requests and then of the events of a run.
use Rattle.std.specs.Prelude.{Some, slice_get, ◌≡◌, ℕ, Ok, List, ◌∷◌, ◌++◌, map}
use Rattle.std.specs.List.{flat_map}
use mathlib.Core.List.{IsPrefix}
use Rattle.world_events.specs.declared.event.Answer.{Answer}
use Rattle.world_events.specs.declared.event.Done.{Done}
use Rattle.world_model.specs.Worlds.{World, boot}
use Rattle.world_histories.specs.declared.history.Stamped.{Stamped}
use Rattle.world_histories.specs.Histories.{Core0State, OtherState, Computation}
use Rattle.world_histories.specs.Merging.{Merged, AllEnd, as_listed}
use Rattle.sim_lines.specs.Events.{event_line, done_line}
use Rattle.core_loop.specs.Cores.{begun}
use Rattle.core_machine.specs.Lanes.{items_for}
use Rattle.mk_script.specs.declared.script.Item.{Item}
use Rattle.sim_engine.specs.Simulations.{Simulation, just, Performs}
use Rattle.sim_engine.specs.Showing.{ShowsItems}
use Rattle.world_events.specs.Memory.{LacksMemory}
use Rattle.run_engine.specs.Work.{requests_of}
use Rattle.trace_text.specs.Traces.{trace_item, asks_of}
use Rattle.trace_runs.specs.Traces.{retold, begun_at}
use Rattle.filter_table.specs.Limits.{TableLimits}

-- each core begins its requests in the order in which the script has them, all of them or the first
abbrev pub BeginInOrder : List Item → List Done → Type 0
BeginInOrder items events = (core : ℕ) → IsPrefix (begun_at core events) (items_for core (requests_of items))

-- on cores with these limits and budgets, the script's requests and then the events, as a trace tells them
abbrev pub PerformsTrace : TableLimits → ℕ → List ℕ → List Item → List Done → Simulation → List ℕ → Type 0
PerformsTrace limits budget budgets items events end text = Performs (just (boot limits budget budgets)) (asks_of items ++ map trace_item events) end text

-- the trace can be done, prints the lines of these events with their answers, and ends in their world
pub record CanRepeat (limits : TableLimits) (budget : ℕ) (budgets : List ℕ) (items : List Item) (events : List Done) (w : World) : Type 0 where
  pub end : Simulation
  pub performs : PerformsTrace limits budget budgets items events end (flat_map done_line events)
  pub same_world : end.world ≡ w

-- the lines of the events before one, and then its line, but with an answer that says that a core was out of memory
pub record DiffersByMemory (events : List Done) (text : List ℕ) : Type 0 where
  pub before : List Done
  pub done : Done
  pub after : List Done
  pub is_among : events ≡ before ++ done ∷ after
  pub answer : Answer
  pub lacks : LacksMemory (retold done.event done.answer) answer
  pub more : List ℕ
  pub printed : text ≡ flat_map done_line before ++ (event_line done.event (Ok answer) ++ more)

-- the text and the world at its end are those of these events, or the first line that differs says that a core was out of memory
pub data Repeats (events : List Done) (w end : World) (text : List ℕ) : Type 0 where
  same : text ≡ flat_map done_line events → end ≡ w → Repeats events w end text
  short_of_memory : DiffersByMemory events text → Repeats events w end text

-- Runs of cores beside each other

-- Cores with these limits and budgets have histories that end so, in which each begins its requests in the order in which the script has
-- them, all of them or the first; and this is the one list of all their events.
pub record RanScript (limits : TableLimits) (budget : ℕ) (budgets : List ℕ) (items : List Item) (end : Core0State) (ends : List OtherState) (merged : List Stamped) : Type 0 where
  pub core0 : List Stamped
  pub others : List (List Stamped)
  pub computation : Computation limits budget budgets core0 others end ends
  pub begin : (core : ℕ) (history : List Stamped) → slice_get (core0 ∷ others) core ≡ Some history → IsPrefix (begun history) (items_for core (requests_of items))
  pub is_merged : Merged core0 others merged

-- the trace of the list can be done, and ends where the cores end
pub record CanRepeatMerged (limits : TableLimits) (budget : ℕ) (budgets : List ℕ) (items : List Item) (end : Core0State) (ends : List OtherState) (merged : List Stamped) : Type 0 where
  pub world : World
  pub can : CanRepeat limits budget budgets items (as_listed merged) world
  pub all_end : AllEnd world end ends

-- `sim` shows this text of the script's requests and then the events
abbrev pub ShowsTrace : TableLimits → List ℕ → List Item → List Done → List ℕ → Type 0
ShowsTrace limits budgets items events text = ShowsItems limits budgets (asks_of items ++ map trace_item events) text
