-- What the joined cores of one machine did.
use Rattle.std.specs.Prelude.{◌≡◌, ◌++◌, ℕ, List, [], ◌∷◌, length, map, None, Some, slice_get, Vec}
use Rattle.std.specs.Global.{Global}
use Rattle.filter_table.specs.Limits.{TableLimits}
use Rattle.filter_table.specs.declared.operation.Op.{Op}
use Rattle.filter_table.specs.Tables.{table}
use Rattle.filter_table.specs.declared.decision.Decision.{Decision}
use Rattle.two_phase.specs.Coordinators.{Idle}
use Rattle.world_events.specs.declared.event.Answer.TheVariants.{TookReply}
use Rattle.world_histories.specs.declared.history.Stamped.{Stamped}
use Rattle.world_histories.specs.Histories.{Core0State, OtherState, Computation}
use Rattle.world_histories.specs.Merging.{Merged, IsRun}
use Rattle.world_histories.specs.Agreement.{HistoriesAgree}
use Rattle.world_histories.specs.Answers.{InRun, Replied}
use Rattle.world_histories.specs.Decisions.{DecidesAs}
use Rattle.core_loop.specs.declared.part.Part.{Part}
use Rattle.core_loop.specs.declared.part.Part.TheVariants as part
use Rattle.core_loop.specs.Keeping.{IsCore0, IsOtherCore, replica_of}
use Rattle.core_links.specs.Views.{LinkView}
use Rattle.core_links.specs.RingSlots.{ring_view}
use Rattle.core_machine.specs.Beside.{StandBeside}
use Rattle.core_machine.specs.Machines.{RingCore, AreMachine}

-- the histories of cores
abbrev pub histories_of : List RingCore → List (List Stamped)
histories_of cores = map (λ c. c.history) cores

-- what their links show
abbrev pub views_of : List RingCore → List (ℕ → LinkView)
views_of cores = map (λ c. ring_view c.links) cores

-- lists in memory, as lists
abbrev pub listed_histories : List (Vec Stamped Global) → List (List Stamped)
listed_histories histories = map (λ v. v.items) histories

-- core 0, of which this is the part, stands at this end of its history: clock, place, requests and table are those
abbrev pub StandsAt0 : ℕ → Part → ℕ → Core0State → Type 0
StandsAt0 others (part.Core0 core) clock end = IsCore0 others core clock end
StandsAt0 others (part.OtherCore core) clock end = ⊥

-- another core stands at this end of its history
abbrev pub StandsAtOther : Part → ℕ → OtherState → Type 0
StandsAtOther (part.Core0 core) clock end = ⊥
StandsAtOther (part.OtherCore core) clock end = IsOtherCore core clock end

-- it is core 0's part, and no request is being decided
abbrev pub IsIdle0 : Part → Type 0
IsIdle0 (part.Core0 core) = core.coordinator.phase ≡ Idle
IsIdle0 (part.OtherCore core) = ⊥

abbrev pub version_of_core : RingCore → ℕ
version_of_core core = (replica_of core.part).shown.version

-- the core shows the table that the log makes up to the core's version
abbrev pub ShowsTable : TableLimits → List Op → RingCore → Type 0
ShowsTable limits log core = (replica_of core.part).shown ≡ table limits log (version_of_core core)

-- what holds of the histories of a computation, and of its end
pub record IsRight (limits : TableLimits) (budget : ℕ) (budgets : List ℕ) (core0 : List Stamped) (others : List (List Stamped)) (end : Core0State) (ends : List OtherState) : Type 0 where
  pub agree : HistoriesAgree limits budget budgets core0 others end ends
  pub decided : (before after : List Stamped) (s : Stamped) → core0 ≡ before ++ s ∷ after → DecidesAs limits budget budgets others end.log before s
  pub replied : (entry : ℕ) (h before after : List Stamped) (s : Stamped) (decision : Decision) → slice_get others entry ≡ Some h → h ≡ before ++ s ∷ after →
      s.done.answer ≡ TookReply decision → Replied core0 limits end.log entry before decision
  -- by stamp and then by core the events make one list, which is a run
  pub merged : List Stamped
  pub is_merged : Merged core0 others merged
  pub one_list : (again : List Stamped) → Merged core0 others again → again ≡ merged
  pub run : IsRun limits budget budgets merged end ends
  pub in_run : (core : ℕ) (h before after : List Stamped) (s : Stamped) → slice_get (core0 ∷ others) core ≡ Some h → h ≡ before ++ s ∷ after → InRun limits budget budgets core0 others end.log merged core before s
  -- the histories tell where they end
  pub one_end : (again : Core0State) (ends_again : List OtherState) → Computation limits budget budgets core0 others again ends_again → (again ≡ end) × (ends_again ≡ ends)

-- no core has stopped
abbrev pub AreRunning : List RingCore → Type 0
AreRunning cores = (i : ℕ) (c : RingCore) → slice_get cores i ≡ Some c → c.stopped ≡ None

-- The histories of these cores are a computation under these limits and budgets. Each core stands at its end, with the table of the log at its
-- version; core 0's version is the log's length, and so is every core's where core 0 is idle. No core has stopped.
pub record Concludes (limits : TableLimits) (budget : ℕ) (budgets : List ℕ) (first : RingCore) (others : List RingCore) : Type 0 where
  pub end : Core0State
  pub ends : List OtherState
  pub computation : Computation limits budget budgets first.history (histories_of others) end ends
  pub right : IsRight limits budget budgets first.history (histories_of others) end ends
  pub ends0 : StandsAt0 (length budgets) first.part first.clock end
  pub ends_other : (i : ℕ) (c : RingCore) (d : OtherState) → slice_get others i ≡ Some c → slice_get ends i ≡ Some d → StandsAtOther c.part c.clock d
  pub tables : (i : ℕ) (c : RingCore) → slice_get (first ∷ others) i ≡ Some c → ShowsTable limits end.log c
  pub newest : version_of_core first ≡ length end.log
  pub settled : IsIdle0 first.part → (i : ℕ) (c : RingCore) → slice_get (first ∷ others) i ≡ Some c → version_of_core c ≡ length end.log
  pub running : AreRunning (first ∷ others)
  -- over each link was taken the front of what was sent
  pub beside : StandBeside limits budget budgets first.history (histories_of others) (ring_view first.links) (views_of others) end ends

-- whatever limits and budgets make these cores a machine
abbrev pub OfMachine : List RingCore → (TableLimits → ℕ → List ℕ → RingCore → List RingCore → Type 0) → Type 0
OfMachine cores P = (limits : TableLimits) (budget : ℕ) (budgets : List ℕ) (first : RingCore) (others : List RingCore) → cores ≡ first ∷ others → AreMachine limits budget budgets first others → P limits budget budgets first others

-- the same of core 0 and the others in one list
abbrev pub Conclude : TableLimits → ℕ → List ℕ → List RingCore → Type 0
Conclude limits budget budgets [] = ⊥
Conclude limits budget budgets (first ∷ others) = Concludes limits budget budgets first others
