-- A run's events as a trace tells them, and the requests that they begin.
use Rattle.std.specs.Prelude.{◌==◌, ℕ, List, [], if◌then◌else◌}
use Rattle.std.specs.List.{flat_map}
use Rattle.filter_table.specs.declared.operation.Op.{Op}
use Rattle.world_events.specs.declared.event.Event.{Event}
use Rattle.world_events.specs.declared.event.Event.TheVariants.{Take}
use Rattle.world_events.specs.declared.event.Answer.{Answer}
use Rattle.world_events.specs.declared.event.Done.{Done}
use Rattle.world_histories.specs.Merging.{core_of}
use Rattle.core_loop.specs.Cores.{begins}
use Rattle.world_events.specs.Memory.{lacked_memory}

-- the event as a trace tells it: a take is short of memory exactly where the core voted so
abbrev pub retold : Event → Answer → Event
retold (Take to from short) answer = Take to from (lacked_memory answer)
retold event answer = event

-- the requests that the core begins with these events, in order
abbrev pub begun_at : ℕ → List Done → List Op
begun_at core events = flat_map (λ done. if core_of done.event == core then begins done.event else []) events
