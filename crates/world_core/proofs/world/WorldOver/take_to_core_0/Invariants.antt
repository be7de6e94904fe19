use Rattle.std.proofs.Common.{◌≡◌, ◌+◌, ◌<◌, ℕ, Some, [], slice_get}
use Rattle.world_model.specs.Worlds.{Peer}
use Rattle.world_core.proofs.world.WorldOver.take_to_core_0.Given as goal

abbrev pub invariant-loop-core : goal.invariant-loop-core
invariant-loop-core g l = (l.self ≡ l.initial.self) × ((i : ℕ) (p : Peer) → i + 1 < l.core → slice_get l.self.peers i ≡ Some p → p.up ≡ [])
