use Rattle.std.proofs.Common.{◌≡◌, [], take, map, All}
use Rattle.world_model.specs.Worlds.{new_peer}
use Rattle.world_core.specs.Keeping.{seen_peer, PeerIsKept}
use Rattle.world_core.proofs.world.new_peers.Given as goal

abbrev pub invariant-loop-budget : goal.invariant-loop-budget
invariant-loop-budget g l = (map (seen_peer g.C.Channel.messages) l.peers.items ≡ map new_peer (take l.budget-index l.budgets)) × All (PeerIsKept l.limits []) l.peers.items
