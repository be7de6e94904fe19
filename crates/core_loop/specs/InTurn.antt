-- In what turn core 0 begins requests: that of the next core that has one, going round after the core whose request it began last.
use Rattle.std.specs.Prelude.{◌≡◌, ◌≢◌, ◌<◌, ◌≤◌, ◌⊎◌, [], ◌∷◌, ℕ, suc, List, Some, slice_get}
use Rattle.filter_table.specs.declared.operation.Op.{Op}
use Rattle.world_events.specs.declared.event.Event.{Event}
use Rattle.world_events.specs.declared.event.Event.TheVariants.{Start, StartFor}
use Rattle.world_histories.specs.declared.history.Stamped.{Stamped}
use Rattle.core_steps.specs.declared.core0.Core0.{Core0}

-- the core whose request was begun last, once this event is done
abbrev pub last_begun_with : ℕ → Event → ℕ
last_begun_with last (Start op) = 0
last_begun_with last (StartFor core) = core
last_begun_with last event = last

abbrev pub last_begun_after : ℕ → List Stamped → ℕ
last_begun_after last [] = last
last_begun_after last (s ∷ later) = last_begun_after (last_begun_with last s.done.event) later

-- the core whose request core 0 began last: itself where it has begun none
abbrev pub last_begun : List Stamped → ℕ
last_begun history = last_begun_after 0 history

-- going round after `last`, this core comes before the other: it lies between the two, or, where the other comes only after the round's end, after
-- `last` or before the other
abbrev pub ComesBefore : ℕ → ℕ → ℕ → Type 0
ComesBefore last core other = ((last < core) × (core < other)) ⊎ ((other ≤ last) × ((last < core) ⊎ (core < other)))

-- a request of this core waits at core 0, which has so many others: one of its own that it has not begun, or one of another core
abbrev pub Asks : ℕ → Core0 → List Op → ℕ → Type 0
Asks others core requests from =
    ((from ≡ 0) × (requests ≢ []))
    ⊎ ((entry : ℕ) × (op : Op) × (from ≡ suc entry) × (entry < others) × (slice_get core.coordinator.requests.waiting entry ≡ Some (Some op)))

-- no core that comes before this one, going round after `last`, has a request that waits
abbrev pub IsNextInTurn : ℕ → ℕ → Core0 → List Op → ℕ → Type 0
IsNextInTurn others last core requests from = (k : ℕ) → ComesBefore last k from → Asks others core requests k → ⊥

-- the event begins the request of the core that is next
abbrev pub BeginsInTurn : ℕ → ℕ → Core0 → List Op → Event → Type 0
BeginsInTurn others last core requests (Start op) = IsNextInTurn others last core requests 0
BeginsInTurn others last core requests (StartFor from) = IsNextInTurn others last core requests from
BeginsInTurn others last core requests event = ⊥
