use Rattle.std.proofs.Common.{◌≡◌, ◌<◌, ◌≤◌, ◌∷◌, [], length, ap, arith, rules}
use Rattle.std.proofs.lemmas.List.{length-append}
use Rattle.world_core.proofs.BootKeeping.{all_more}
use Rattle.world_core.proofs.Carried.{readied_none, readied_set, room_set, room_all}
use Rattle.world_core.proofs.peer.ready_all.Goals as goal

pub returns-in_err-pieces-clause-seen : goal.returns-in_err-pieces-clause-seen
returns-in_err-pieces-clause-seen g c = readied_none g.C.Channel.messages c.args.peers.now

pub loop-peer-init : goal.loop-peer-init
loop-peer-init g c = (readied_none g.C.Channel.messages c.args.peers.now, λ k p lt at. absurd (omega (arith, lt)), search rules, search rules)

pub returns-in_err-piece-clause-seen : goal.returns-in_err-piece-clause-seen
returns-in_err-piece-clause-seen g c =
    let inside : c.loop-peer.peer-index < length c.loop-peer.peers = omega (arith, c.loop-peer-test.true, c.loop-peer.invariant.0.0) in
    readied_set g.C.Channel.messages c.args.peers.now c.loop-peer.peers c.loop-peer.peer-index c.peer-item.result c.ready_down.new.self inside c.loop-peer.invariant.0 c.ready_down.ensures.seen

pub returns-in_err-push-clause-seen : goal.returns-in_err-push-clause-seen
returns-in_err-push-clause-seen g c =
    let inside : c.loop-peer.peer-index < length c.loop-peer.peers = omega (arith, c.loop-peer-test.true, c.loop-peer.invariant.0.0) in
    readied_set g.C.Channel.messages c.args.peers.now c.loop-peer.peers c.loop-peer.peer-index c.peer-item.result c.ready_down.new.self inside c.loop-peer.invariant.0 c.ready_down.ensures.seen

pub loop-peer-preserved : goal.loop-peer-preserved
loop-peer-preserved g c =
    let inside : c.loop-peer.peer-index < length c.loop-peer.peers = omega (arith, c.loop-peer-test.true, c.loop-peer.invariant.0.0) in (
      readied_set g.C.Channel.messages c.args.peers.now c.loop-peer.peers c.loop-peer.peer-index c.peer-item.result c.ready_down.new.self inside c.loop-peer.invariant.0 c.ready_down.ensures.seen,
      room_set g.C.Channel.spare c.loop-peer.peers c.loop-peer.peer-index c.ready_down.new.self inside c.loop-peer.invariant.1 c.in_ok-piece.ensures.room,
      all_more (λ piece. g.C.Channel.made_for piece ≡ c.args.message.now) c.loop-peer.pieces.items c.push.new.self.items c.in_ok-piece.piece c.in_ok-push.ensures.items c.loop-peer.invariant.2 c.in_ok-piece.ensures.piece,
      omega (arith, ap length c.in_ok-push.ensures.items, length-append c.loop-peer.pieces.items (c.in_ok-piece.piece ∷ []), c.loop-peer.invariant.3),
    )

pub returns-clause-room : goal.returns-clause-room
returns-clause-room g c =
    let long : length c.loop-peer.peers ≤ c.loop-peer.peer-index = omega (arith, c.loop-peer-test.false, c.loop-peer.invariant.0.0) in
    room_all g.C.Channel.spare c.loop-peer.peers c.loop-peer.peer-index long c.loop-peer.invariant.1

pub returns-clause-seen : goal.returns-clause-seen
returns-clause-seen g c = c.loop-peer.invariant.0

pub returns-clause-pieces : goal.returns-clause-pieces
returns-clause-pieces g c = c.loop-peer.invariant.2
