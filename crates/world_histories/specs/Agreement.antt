-- What the histories of a machine's cores agree on, whatever the order in time was: each core is at a version of one log, core 0's
-- (Baumann et al. 2009, "The Multikernel", section 3.3: replicated state is kept consistent by agreement).
use Rattle.std.specs.Prelude.{◌≡◌, ◌+◌, ◌≤◌, ℕ, suc, Some, None, List, [], ◌∷◌, ◌++◌, length, slice_get}
use mathlib.Core.List.{IsPrefix}
use Rattle.filter_table.specs.Limits.{TableLimits}
use Rattle.filter_table.specs.declared.operation.Op.{Op}
use Rattle.filter_table.specs.Tables.{table, instructions, Allowed}
use Rattle.two_phase.specs.Coordinators.{Idle}
use Rattle.world_model.specs.Agreement.{IsSoundLog}
use Rattle.world_model.specs.Readings.{version_of}
use Rattle.world_model.specs.Decisions.{Delivers}
use Rattle.world_histories.specs.declared.history.Stamped.{Stamped}
use Rattle.world_histories.specs.Histories.{Stamping, Sending, unstamped, Core0State, core0_first, History0, OtherState, other_first, HistoryOther}

-- a core that has committed these operations is at a version of the log: its table is the log's, within its budget
pub record IsAt (limits : TableLimits) (log : List Op) (budget : ℕ) (committed : List Op) : Type 0 where
  pub is_front : IsPrefix committed log
  pub is_table : table limits committed (length committed) ≡ table limits log (length committed)
  pub fits : instructions (table limits log (length committed)) ≤ budget

-- core 0 between two parts of its history
pub record Point0 (limits : TableLimits) (budget : ℕ) (budgets : List ℕ) (before after : List Stamped) (end : Core0State) : Type 0 where
  pub here : Core0State
  pub reached : (sent : List Sending) × (taken : List (ℕ × Stamping)) × History0 (length budgets) budget (core0_first limits (length budgets)) before here sent taken
  pub goes_on : (sent : List Sending) × (taken : List (ℕ × Stamping)) × History0 (length budgets) budget here after end sent taken
  pub version : version_of 0 (unstamped before) ≡ length here.log
  pub is_at : IsAt limits end.log budget here.log

-- the core with this entry and budget between two parts of its history, where core 0 commits this log
pub record PointOther (i budget : ℕ) (limits : TableLimits) (log : List Op) (before after : List Stamped) (end : OtherState) : Type 0 where
  pub here : OtherState
  pub reached : (taken : List Stamping) × HistoryOther i budget (other_first limits) before here taken
  pub goes_on : (taken : List Stamping) × HistoryOther i budget here after end taken
  pub version : version_of (suc i) (unstamped before) ≡ length here.log
  pub is_at : IsAt limits log budget here.log

-- the version of a core doesn't fall, and grows by at most one, with this event
abbrev pub GrowsByOne : ℕ → List Stamped → Stamped → Type 0
GrowsByOne core before s =
    (version_of core (unstamped before) ≤ version_of core (unstamped (before ++ s ∷ []))) × (version_of core (unstamped (before ++ s ∷ [])) ≤ version_of core (unstamped before) + 1)

-- In a machine with these limits and budgets, core 0's first, whose cores have these histories and end so:
pub record HistoriesAgree (limits : TableLimits) (budget : ℕ) (budgets : List ℕ) (core0 : List Stamped) (others : List (List Stamped)) (end : Core0State) (ends : List OtherState) : Type 0 where
  -- what core 0 committed was allowed at its version
  pub allowed : (k : ℕ) (op : Op) → slice_get end.log k ≡ Some op → Allowed (table limits end.log k) budget op None
  -- each table of its log is sound, and no id is given out again
  pub sound : IsSoundLog limits end.log
  -- between any two parts of its history each core is at a version of core 0's log
  pub point0 : (before after : List Stamped) → core0 ≡ before ++ after → Point0 limits budget budgets before after end
  pub point : (i b : ℕ) (h : List Stamped) (d : OtherState) (before after : List Stamped) → slice_get budgets i ≡ Some b → slice_get others i ≡ Some h → slice_get ends i ≡ Some d → h ≡ before ++ after → PointOther i b limits end.log before after d
  -- and so it is at the end
  pub ended0 : IsAt limits end.log budget end.log
  pub ended : (i b : ℕ) (d : OtherState) → slice_get budgets i ≡ Some b → slice_get ends i ≡ Some d → IsAt limits end.log b d.log
  pub growing : (core : ℕ) (h before after : List Stamped) (s : Stamped) → slice_get (core0 ∷ others) core ≡ Some h → h ≡ before ++ s ∷ after → GrowsByOne core before s
  -- each packet is handed to the endpoints that accept it at the version that its core had
  pub delivered : (core : ℕ) (h : List Stamped) → slice_get (core0 ∷ others) core ≡ Some h → Delivers limits end.log (unstamped h)
  -- where core 0 is idle at the end, every other core has committed the whole log
  pub settled : end.place.phase ≡ Idle → (i : ℕ) (d : OtherState) → slice_get ends i ≡ Some d → d.log ≡ end.log
