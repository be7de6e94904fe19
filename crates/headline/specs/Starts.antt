-- The order in which core 0 starts the requests of the other cores.
-- No public clause cites these.
use Rattle.std.specs.Prelude.{◌≡◌, ◌==◌, ◌+◌, ◌++◌, ℕ, List, [], ◌∷◌, length, flat_map, count_by, if◌then◌else◌}
use Rattle.filter_table.specs.declared.operation.Op.{Op}
use Rattle.world_events.specs.declared.event.Event.{Event}
use Rattle.world_events.specs.declared.event.Event.TheVariants.{Submit, StartFor}
use Rattle.world_events.specs.declared.event.Answer.{Answer}
use Rattle.world_events.specs.declared.event.Done.{Done}
use Rattle.world_histories.specs.Answers.{begins_for}

-- the requests that a core submits in these events, in order
abbrev pub submitted_by : ℕ → Event → List Op
submitted_by core (Submit from op) = if from == core then op ∷ [] else []
submitted_by core event = []

abbrev pub submitted_in : ℕ → List Done → List Op
submitted_in core events = flat_map (λ done. submitted_by core done.event) events

-- how many requests of a core core 0 starts in these events
abbrev pub started_for : ℕ → List Done → ℕ
started_for core events = count_by (λ done. begins_for core done.event) events

-- core 0 starts a core's requests one by one: each after the core has submitted it, and before the core submits the next
abbrev pub StartOneByOne : List Done → Type 0
StartOneByOne events = (before after : List Done) (core : ℕ) (answer : Answer) → events ≡ before ++ record { event = StartFor core; answer = answer } ∷ after → length (submitted_in core before) ≡ started_for core before + 1
