-- The decisions on the requests of a core, by the events that a machine did.
use Rattle.std.specs.Prelude.{◌==◌, ◌++◌, ℕ, Bool, false, List, [], ◌∷◌, filter}
use Rattle.filter_table.specs.declared.decision.Decision.{Decision}
use Rattle.world_events.specs.declared.event.Done.{Done}
use Rattle.world_histories.specs.Merging.{core_of}
use Rattle.core_loop.specs.Answering.{own_decision, is_own}

-- the events of a core, in order
abbrev pub events_at : ℕ → List Done → List Done
events_at core events = filter (λ done. core_of done.event == core) events

-- the decisions on a core's own requests that its events have, in order, where this says whether the last request that core 0 began is its own
abbrev pub decided_from : Bool → List Done → List Decision
decided_from own [] = []
decided_from own (done ∷ later) = own_decision own done.event done.answer ++ decided_from (is_own own done.event) later

-- the decisions on the requests that a core begins in these events, in order
abbrev pub decided_in : ℕ → List Done → List Decision
decided_in core events = decided_from false (events_at core events)
