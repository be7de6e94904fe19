use Rattle.std.proofs.Common.{◌≡◌, ℕ, [], length, take, get_or, refl, sym, ap, subst, arith}
use Rattle.core_loop.specs.Receiving.{HasReceived, IsRefused}
use Rattle.mkdemux_cores.specs.declared.bursts.Packet.{Packet}
use Rattle.mkdemux_cores.proofs.Rooms.{end_of}
use Rattle.mkdemux_cores.proofs.InTurn.{so_far_none, so_far_more, refused_next}
use Rattle.mkdemux_cores.proofs.bursts.receive_each.Goals as goal

abbrev empty : Packet
empty = record { bytes = record { ref_ptr = (0, 0); now = [] }; original = 0 }

pub loop-packet-init : goal.loop-packet-init
loop-packet-init c = record { so_far = so_far_none c.args.core.now c.args.packets.now c.args.room.now c.args.counts.now; done_is = refl }

pub returns-in-Err-clause-received : goal.returns-in-Err-clause-received
returns-in-Err-clause-received c =
    let i = c.loop-packet.packet-index in let packets = c.args.packets.now in let done_is = c.loop-packet.invariant.done_is in
    let there : get_or packets c.loop-packet.done empty ≡ get_or packets i empty = ap (λ (n : ℕ). get_or packets n empty) done_is in
    let why = subst (λ (p : Packet). IsRefused c.loop-packet.core p.bytes.now p.original (length (end_of c.loop-packet.used c.loop-packet.room)) c.in-Err.why) (sym there) c.in-Err.ensures.why in
    refused_next c.args.core.now c.loop-packet.core c.receive.new.self packets c.loop-packet.done c.loop-packet.used c.args.room.now c.loop-packet.room c.receive.new.room c.args.counts.now c.loop-packet.counts empty
    c.loop-packet.invariant.so_far (omega (arith, done_is, c.loop-packet-test.true)) c.loop-packet.auto.room c.in-Err.why c.number_of.result c.number_of.ensures c.in-Err.ensures.err c.in-Err.ensures.same_room why

pub loop-packet-preserved : goal.loop-packet-preserved
loop-packet-preserved c =
    let i = c.loop-packet.packet-index in let packets = c.args.packets.now in let done_is = c.loop-packet.invariant.done_is in
    let there : get_or packets i empty ≡ get_or packets c.loop-packet.done empty = ap (λ (n : ℕ). get_or packets n empty) (sym done_is) in
    let received = subst (λ (p : Packet). HasReceived c.loop-packet.core c.receive.new.self p.bytes.now p.original (take c.in-Ok.written c.receive.new.room)) there c.in-Ok.ensures.ok.1 in
    record {
      so_far = so_far_more c.args.core.now c.loop-packet.core c.receive.new.self packets c.loop-packet.done c.loop-packet.used c.args.room.now c.loop-packet.room c.receive.new.room c.args.counts.now c.loop-packet.counts empty
          c.in-Ok.written c.loop-packet.invariant.so_far (omega (arith, done_is, c.loop-packet-test.true)) (omega (arith, done_is, c.loop-packet-test.true, c.requires, c.loop-packet.auto.counts)) c.loop-packet.auto.room
          c.receive.ensures.room c.in-Ok.ensures.ok.0 received c.in-Ok.ensures.rest;
      done_is = omega (arith, done_is);
    }
