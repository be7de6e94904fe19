-- One list of the events of all cores.
use Rattle.std.specs.Prelude.{◌≡◌, ◌<◌, ◌≤◌, ◌⊎◌, ℕ, Some, List, [], ◌∷◌, map, slice_get}
use Rattle.std.specs.Borrow.{Bor}
use Rattle.world_events.specs.declared.event.Done.{Done}
use Rattle.world_histories.specs.declared.history.Stamped.{Stamped}
use Rattle.world_histories.specs.Histories.{Core0State, OtherState, Computation}
use Rattle.filter_table.specs.Limits.{TableLimits}
use Rattle.world_histories.specs.Merging.{Merged, IsRun, as_listed, listed}

-- the list has the events of these histories by stamp and then by core, wherever they have such an order
abbrev pub ListsAll : List (List Stamped) → List Done → Type 0
ListsAll histories list = (core0 : List Stamped) (others : List (List Stamped)) (merged : List Stamped) → histories ≡ core0 ∷ others → Merged core0 others merged → list ≡ as_listed merged

-- the list is the one run that the histories of a computation make, and it ends where the cores end
pub record ListsRun (limits : TableLimits) (budget : ℕ) (budgets : List ℕ) (core0 : List Stamped) (others : List (List Stamped)) (end : Core0State) (ends : List OtherState) (list : List Done) : Type 0 where
  pub merged : List Stamped
  pub is_merged : Merged core0 others merged
  pub is_listed : list ≡ as_listed merged
  pub run : IsRun limits budget budgets merged end ends

-- so for every computation with these histories
abbrev pub ListsRuns : List (List Stamped) → List Done → Type 0
ListsRuns histories list = (limits : TableLimits) (budget : ℕ) (budgets : List ℕ) (core0 : List Stamped) (others : List (List Stamped)) (end : Core0State) (ends : List OtherState) → histories ≡ core0 ∷ others →
    Computation limits budget budgets core0 others end ends → ListsRun limits budget budgets core0 others end ends list

-- events in memory, as the list has them
abbrev pub shown_list : List (Bor Stamped) → List Done
shown_list events = map (λ e. listed e.now) events

-- What is left of each history while they are merged

-- slices, as lists
abbrev pub shown_histories : List (Bor (List Stamped)) → List (List Stamped)
shown_histories left = map (λ h. h.now) left

-- nothing is left of any
abbrev pub NoneLeft : List (List Stamped) → Type 0
NoneLeft left = (core : ℕ) (h : List Stamped) → slice_get left core ≡ Some h → h ≡ []

-- of the events that come first in what is left, this core's is the least by stamp and then by core
pub record IsLeast (left : List (List Stamped)) (core : ℕ) : Type 0 where
  pub event : Stamped
  pub later : List Stamped
  pub here : slice_get left core ≡ Some (event ∷ later)
  pub before_all : (k : ℕ) (t : Stamped) (rest : List Stamped) → slice_get left k ≡ Some (t ∷ rest) → (event.stamp < t.stamp) ⊎ ((event.stamp ≡ t.stamp) × (core ≤ k))
