-- The replicas of the cores of a machine: one that is one value, or one whose cores are by themselves.
-- No public clause cites these.
use Rattle.std.specs.Prelude.{List, ◌∷◌, map}
use Rattle.filter_table.specs.Tables.{table}
use Rattle.table_replica.specs.Shown.{ReplicaState}
use Rattle.world_model.specs.Worlds.{Peer, World}
use Rattle.core_loop.specs.Keeping.{replica_of}
use Rattle.core_machine.specs.Machines.{RingCore}
use Rattle.headline.specs.declared.replicas.Holder.{Holder}
use Rattle.headline.specs.declared.replicas.Holder.TheVariants as holder

abbrev pub replica_of_peer : World → Peer → ReplicaState
replica_of_peer w p = record { budget = p.budget; shown = table w.limits w.log p.version; staged = p.place.staged }

-- core 0's first
abbrev pub replicas_of : World → List ReplicaState
replicas_of w = record { budget = w.budget; shown = table w.limits w.log w.version; staged = w.place.staged } ∷ map (replica_of_peer w) w.peers

abbrev pub replicas_of_cores : List RingCore → List ReplicaState
replicas_of_cores cores = map (λ c. replica_of c.part) cores

abbrev pub replicas_of_holder : Holder → List ReplicaState
replicas_of_holder (holder.World w) = replicas_of w
replicas_of_holder (holder.Cores cores) = replicas_of_cores cores.items
