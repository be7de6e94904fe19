use Rattle.std.proofs.Common.{◌≡◌, ℕ, subst, arith}
use Rattle.core_machine.specs.Wiring.{AreWired}
use Rattle.core_machine.proofs.Wires.{wired_first, wired_more}
use Rattle.core_machine.proofs.wiring.wire.Goals as goal

pub loop-peer-init : goal.loop-peer-init
loop-peer-init c = wired_first c.args.cores c.in_ok-first.first c.in_ok-links.links.items c.in_ok-first.ensures.place.0 c.in_ok-first.ensures.place.1 c.in_ok-first.ensures.empty c.in_ok-links.ensures.items

pub loop-peer-preserved : goal.loop-peer-preserved
loop-peer-preserved c =
    let e = c.in_ok-join_peer.ensures in
    wired_more c.args.cores c.loop-peer.peer c.loop-peer.first c.join_peer.new.first c.in_ok-join_peer.field-0 c.loop-peer.links.items c.push.new.self.items c.loop-peer.invariant
    e.place.0 e.place.1 e.others e.silent.0 e.joined.0 e.silent.1 e.joined.1 e.holds e.no_other c.in_ok-push.ensures.items

pub returns : goal.returns
returns c =
    let whole : c.loop-peer.peer ≡ c.args.cores = omega arith in
    rw c.in_ok-insert.ensures.items (subst (λ (n : ℕ). AreWired c.args.cores n c.loop-peer.first c.loop-peer.links.items) whole c.loop-peer.invariant)
