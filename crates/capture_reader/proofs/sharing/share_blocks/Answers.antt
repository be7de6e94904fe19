use Rattle.std.proofs.Common.{[], ap, arith, length, refl, sym}
use Rattle.pcap_reader.proofs.FeedLemmas.{none_left}
use Rattle.capture_reader.proofs.SharingLemmas.{ends_answer, shared_all, shared_ends, shared_next, shared_stops, shared_well}
use Rattle.capture_reader.proofs.sharing.share_blocks.Goals as goal

pub loop-rest-init : goal.loop-rest-init
loop-rest-init c = record { whole = []; done = []; parts = sym c.as_slice-rest.ensures; holds = c.new-feed.ensures.0; are = c.new-packets.ensures.items }

pub loop-rest-preserved : goal.loop-rest-preserved
loop-rest-preserved c = shared_next c.args.file.now c.loop-rest.rest.now c.share_next.new.rest.now c.loop-rest.feed c.share_next.new.feed c.loop-rest.packets.items c.share_next.new.packets.items (omega (arith, c.as_slice-rest.type_inv, ap length c.as_slice-rest.ensures)) c.loop-rest.invariant c.in_ok-share_next.ensures.shares

pub returns-in_err-share_next-clause-fault : goal.returns-in_err-share_next-clause-fault
returns-in_err-share_next-clause-fault c = ends_answer c.args.file.now c.from_residual.result c.in_err-share_next.field-0.0 c.from_residual.ensures.1
    (shared_stops c.args.file.now c.loop-rest.rest.now c.loop-rest.feed c.loop-rest.packets.items c.in_err-share_next.field-0.0 (omega (arith, c.as_slice-rest.type_inv, ap length c.as_slice-rest.ensures)) c.loop-rest.invariant c.in_err-share_next.ensures.stops)

pub returns-in_err-ending-clause-fault : goal.returns-in_err-ending-clause-fault
returns-in_err-ending-clause-fault c = ends_answer c.args.file.now c.from_residual-in_err-ending.result c.in_err-ending.field-0.0 c.from_residual-in_err-ending.ensures.1
    (shared_ends c.args.file.now c.loop-rest.feed c.loop-rest.packets.items c.in_err-ending.field-0.0
    (shared_all c.args.file.now c.loop-rest.rest.now c.loop-rest.feed c.loop-rest.packets.items (none_left c.loop-rest.rest.now _ c.is_empty.result refl c.is_empty.ensures c.loop-rest-test.false) c.loop-rest.invariant) c.in_err-ending.ensures.ends)

pub returns-clause-packets : goal.returns-clause-packets
returns-clause-packets c =
    let all = shared_all c.args.file.now c.loop-rest.rest.now c.loop-rest.feed c.loop-rest.packets.items (none_left c.loop-rest.rest.now _ c.is_empty.result refl c.is_empty.ensures c.loop-rest-test.false) c.loop-rest.invariant in
    rw c.from_vec.ensures (shared_well c.args.file.now c.loop-rest.feed c.loop-rest.packets.items all c.in_ok-ending.ensures.ends)
