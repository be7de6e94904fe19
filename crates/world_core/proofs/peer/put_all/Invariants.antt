use Rattle.std.proofs.Common.{◌≡◌, ◌+◌, All, length}
use Rattle.monitor_messages.specs.declared.message.Message.{Message}
use Rattle.world_core.specs.Keeping.{RoomFrom}
use Rattle.world_core.proofs.Carried.{SentBelow}
use Rattle.world_core.proofs.peer.put_all.Given as goal

abbrev pub invariant-loop-peer : goal.invariant-loop-peer
invariant-loop-peer g l =
    (length l.pieces.items + l.peer-index ≡ length l.peers) × RoomFrom g.C.Channel.spare l.peers l.peer-index
    × ((m : Message) → All (λ piece. g.C.Channel.made_for piece ≡ m) l.initial.pieces.items → All (λ piece. g.C.Channel.made_for piece ≡ m) l.pieces.items × SentBelow g.C.Channel.messages m l.initial.peers l.peers l.peer-index)
