use Rattle.std.proofs.Common.{ap}
use Rattle.table_replica.specs.Shown.{ReplicaState}
use Rattle.world_core.proofs.Keeping.{new_kept}
use Rattle.world_core.proofs.peer.Peer.new.Goals as goal

pub returns-clause-kept : goal.returns-clause-kept
returns-clause-kept g c = new_kept _ _ (ap (λ (r : ReplicaState). r.shown) c.in_ok-core.ensures.replica) c.in_ok-core.ensures.between
