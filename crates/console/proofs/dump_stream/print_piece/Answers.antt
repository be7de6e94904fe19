use Rattle.std.proofs.Common.{Some, refl, arith}
use Rattle.capture_reader.specs.declared.entry.Found.TheVariants.{SeenEntry}
use Rattle.pcap_reader.proofs.FeedLemmas.{are_bytes}
use Rattle.console.proofs.DumpStreamLemmas.{print_item, print_none, print_then}
use Rattle.console.proofs.dump_stream.print_piece.Goals as goal

pub loop-rest-init : goal.loop-rest-init
loop-rest-init c = print_none _ _ _ _ _ _

pub loop-rest-preserved-in-Some : goal.loop-rest-preserved-in-Some
loop-rest-preserved-in-Some c =
    print_then c.args.link c.args.stamped c.args.piece.now c.loop-rest.rest.now c.next_whole.new.rest.now c.args.feed.now c.loop-rest.feed c.next_whole.new.self _ c.loop-rest.place _ _ c.loop-rest.text.items _ c.loop-rest.invariant
    (print_item c.args.link c.args.stamped c.loop-rest.rest.now c.next_whole.new.rest.now c.loop-rest.feed c.next_whole.new.self (SeenEntry c.in-Some.item) (Some c.in-Some.item) c.loop-rest.place _ c.loop-rest.text.items _ c.in-Some.ensures.advances refl c.in_ok-print_found.ensures)

pub loop-rest-preserved : goal.loop-rest-preserved
loop-rest-preserved c =
    let same = c.in_default.ensures.same refl in
    let next = rw (same.0, same.1) at c.in_ok-print_next.ensures.prints in
    print_then c.args.link c.args.stamped c.args.piece.now c.loop-rest.rest.now c.print_next.new.rest.now c.args.feed.now c.loop-rest.feed c.print_next.new.feed _ c.loop-rest.place _ _ c.loop-rest.text.items _ c.loop-rest.invariant next
