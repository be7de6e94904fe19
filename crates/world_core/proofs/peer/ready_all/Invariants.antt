use Rattle.std.proofs.Common.{◌≡◌, All, length}
use Rattle.world_core.specs.Keeping.{EachMatches, Readied, RoomBelow}
use Rattle.world_core.proofs.peer.ready_all.Given as goal

abbrev pub invariant-loop-peer : goal.invariant-loop-peer
invariant-loop-peer g l =
    EachMatches (Readied g.C.Channel.messages) l.initial.peers l.peers × RoomBelow g.C.Channel.spare l.peers l.peer-index
    × All (λ piece. g.C.Channel.made_for piece ≡ l.message) l.pieces.items × (length l.pieces.items ≡ l.peer-index)
