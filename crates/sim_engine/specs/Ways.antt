-- How a request is begun: core 0 starts one of its own, or another core submits one of its own to core 0.
use Rattle.std.specs.Prelude.{ℕ, zero, suc}
use Rattle.filter_table.specs.declared.operation.Op.{Op}
use Rattle.world_events.specs.declared.event.Event.{Event}
use Rattle.world_events.specs.declared.event.Event.TheVariants.{Start, Submit}
use Rattle.sim_engine.specs.declared.way.Way.{Way}
use Rattle.sim_engine.specs.declared.way.Way.TheVariants as way

-- the core where the requests enter that are begun so
abbrev pub home_of : Way → ℕ
home_of way.Start = 0
home_of (way.Submit core) = core

abbrev pub event_of : Way → Op → Event
event_of way.Start op = Start op
event_of (way.Submit core) op = Submit core op

-- a request's own way
abbrev pub way_of : ℕ → Way
way_of zero = way.Start
way_of (suc entry) = way.Submit (suc entry)
