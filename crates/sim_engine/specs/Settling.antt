-- How much settling has left to begin.
-- No public clause cites these.
use Rattle.std.specs.Prelude.{◌+◌, ◌*◌, ℕ, Option, None, Some, List, [], ◌∷◌, length}
use Rattle.filter_table.specs.declared.operation.Op.{Op}
use Rattle.monitor_messages.specs.declared.message.Message.{Message}
use Rattle.monitor_messages.specs.declared.message.Message.TheVariants as message
use Rattle.world_model.specs.Worlds.{Peer, World}
use Rattle.sim_engine.specs.Simulations.{Simulation}

abbrev pub is_submit : Message → ℕ
is_submit (message.Submit op) = 1
is_submit m = 0

abbrev pub submits : List Message → ℕ
submits [] = 0
submits (m ∷ ms) = is_submit m + submits ms

-- the requests on their way to core 0
abbrev pub under_way : List Peer → ℕ
under_way [] = 0
under_way (p ∷ ps) = submits p.up + under_way ps

abbrev pub is_waiting : Option Op → ℕ
is_waiting None = 0
is_waiting (Some op) = 1

-- those that core 0 has waiting
abbrev pub all_waiting : List (Option Op) → ℕ
all_waiting [] = 0
all_waiting (entry ∷ entries) = is_waiting entry + all_waiting entries

abbrev pub submitted : World → ℕ
submitted w = under_way w.peers + all_waiting w.requests.waiting

-- what is pending is begun where it was asked for, and what another core submits once more, by core 0
abbrev pub most_left : Simulation → ℕ
most_left s = 2 * length s.pending + submitted s.world
