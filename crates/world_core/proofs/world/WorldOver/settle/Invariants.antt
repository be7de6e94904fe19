use Rattle.std.proofs.Common.{◌≡◌, ◌++◌, List}
use Rattle.world_events.specs.declared.event.Done.{Done}
use Rattle.world_model.specs.Refusals.{Settles}
use Rattle.world_model.specs.Settling.{takes_left}
use Rattle.world_core.proofs.world.WorldOver.settle.Given as goal

abbrev pub invariant-takes : goal.invariant-takes
invariant-takes g l = (events : List Done) × (l.done.items ≡ l.initial.done.items ++ events) × Settles l.initial.self events l.self

abbrev pub decreases-takes : goal.decreases-takes
decreases-takes g l = takes_left l.self
