-- That a machine goes on: each event is done or refused, and messages that are taken in order come to an end (Alpern and Schneider
-- 1985, "Defining liveness": that something good happens).
use Rattle.std.specs.Prelude.{◌⊎◌, List}
use Rattle.std.specs.List.{All}
use Rattle.world_events.specs.declared.event.Event.{Event}
use Rattle.world_events.specs.declared.event.Answer.{Answer}
use Rattle.world_events.specs.declared.event.Done.{Done}
use Rattle.world_events.specs.declared.fault.WorldFault.{WorldFault}
use Rattle.world_events.specs.Memory.{LacksMemory, HadMemory}
use Rattle.world_model.specs.Worlds.{World, Happens}
use Rattle.world_model.specs.Refusals.{StandsFirst, AllQuiet, Settles}

-- the event is done, and no core is out of memory for it
pub record IsDoneAmply (w : World) (event : Event) : Type 0 where
  pub next : World
  pub answer : Answer
  pub happens : Happens w event next answer
  pub had_memory : LacksMemory event answer → ⊥

-- the event is done so, or a fault stands, which is not a lack of memory
abbrev pub DoneOrRefused : World → Event → Type 0
DoneOrRefused w event = IsDoneAmply w event ⊎ ((fault : WorldFault) × StandsFirst w event fault)

-- all messages are taken in order, and no core is out of memory
pub record SettlesAmply (w : World) : Type 0 where
  pub taken : List Done
  pub end : World
  pub settles : Settles w taken end
  pub quiet : AllQuiet end
  pub had_memory : All HadMemory taken
