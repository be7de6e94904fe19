use Rattle.std.proofs.Common.{◌≡◌, ◌≤◌, ◌∷◌, [], length, slice_index_or, ap, subst, arith}
use Rattle.std.proofs.lemmas.List.{length-append}
use Rattle.std.proofs.lemmas.Option.{slice_get-get_or}
use Rattle.monitor_messages.specs.declared.message.Message.{Message}
use Rattle.world_core.specs.Keeping.{IsSent}
use Rattle.world_model.proofs.Lists.{length-slice_set}
use Rattle.world_core.proofs.Carried.{sent_none, sent_set, sent_all, room_from_set, all_front, all_last}
use Rattle.world_core.proofs.peer.put_all.Goals as goal
use Rattle.world_core.proofs.peer.put_all.Goals.{in-Some, in-None}

pub loop-peer-preserved : goal.loop-peer-preserved
loop-peer-preserved g c = elim c.match-pop.branch [
  | in-Some w ↦ (
    omega (arith, ap length w.in-Some.ensures.items, length-append c.pop.new.self.items (w.in-Some.piece ∷ []), ap length w.peers-is, length-slice_set c.loop-peer.peers c.loop-peer.peer-index w.put_down.new.self, c.loop-peer.invariant.0),
    rw w.peers-is (room_from_set g.C.Channel.spare c.loop-peer.peers c.loop-peer.peer-index w.put_down.new.self c.loop-peer.invariant.1),
    λ m all. (let old = c.loop-peer.invariant.2 m all in (
      all_front (λ piece. g.C.Channel.made_for piece ≡ m) c.pop.new.self.items c.loop-peer.pieces.items w.in-Some.piece w.in-Some.ensures.items old.0,
      rw w.peers-is (sent_set g.C.Channel.messages m c.args.peers.now c.loop-peer.peers c.loop-peer.peer-index c.peer-item.result w.put_down.new.self (omega (arith, c.loop-peer-test.true, old.1.long)) old.1
          (subst (λ (x : Message). IsSent g.C.Channel.messages x (slice_index_or c.loop-peer.peers c.loop-peer.peer-index c.peer-item.result) w.put_down.new.self)
          (all_last (λ piece. g.C.Channel.made_for piece ≡ m) c.pop.new.self.items c.loop-peer.pieces.items w.in-Some.piece w.in-Some.ensures.items old.0) w.put_down.ensures)),
    )),
  )
  | in-None w ↦ absurd (omega (arith, w.in-None.ensures.cases, c.loop-peer.pieces.ok.0, c.loop-peer.invariant.0, c.loop-peer-test.true, c.loop-peer.auto.peers))
]

pub returns : goal.returns
returns g c = λ m all.
    let long : length c.loop-peer.peers ≤ c.loop-peer.peer-index = omega (arith, c.loop-peer-test.false, (c.loop-peer.invariant.2 m all).1.long) in
    sent_all g.C.Channel.messages m c.args.peers.now c.loop-peer.peers c.loop-peer.peer-index long (c.loop-peer.invariant.2 m all).1

pub loop-peer-init : goal.loop-peer-init
loop-peer-init g c = (omega (arith, c.requires.count), c.requires.room, λ m all. (all, sent_none g.C.Channel.messages m c.args.peers.now))

pub put_down-requires : goal.put_down-requires
put_down-requires g c = c.loop-peer.invariant.1 c.loop-peer.peer-index _ (omega arith) (slice_get-get_or c.loop-peer.peers c.loop-peer.peer-index c.peer-item.result (omega (arith, c.loop-peer-test.true)))
