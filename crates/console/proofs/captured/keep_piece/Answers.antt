use Rattle.std.proofs.Common.{Some, refl}
use Rattle.capture_reader.specs.declared.entry.Found.TheVariants.{SeenEntry}
use Rattle.console.proofs.CapturedLemmas.{keep_item, keep_none, keep_then}
use Rattle.console.proofs.captured.keep_piece.Goals as goal

pub loop-rest-init : goal.loop-rest-init
loop-rest-init c = keep_none _ _ _

pub loop-rest-preserved-in-Some : goal.loop-rest-preserved-in-Some
loop-rest-preserved-in-Some c =
    keep_then c.args.piece.now c.loop-rest.rest.now c.next_whole.new.rest.now c.args.feed.now c.loop-rest.feed c.next_whole.new.self _ c.loop-rest.entries.items _ c.loop-rest.invariant
    (keep_item c.loop-rest.rest.now c.next_whole.new.rest.now c.loop-rest.feed c.next_whole.new.self (SeenEntry c.in-Some.item) (Some c.in-Some.item) c.loop-rest.entries.items _ c.in-Some.ensures.advances refl c.in_ok-keep_found.ensures)

pub loop-rest-preserved : goal.loop-rest-preserved
loop-rest-preserved c =
    let same = c.in_default.ensures.same refl in
    let next = rw (same.0, same.1) at c.in_ok-keep_next.ensures.keeps in
    keep_then c.args.piece.now c.loop-rest.rest.now c.keep_next.new.rest.now c.args.feed.now c.loop-rest.feed c.keep_next.new.feed _ c.loop-rest.entries.items _ c.loop-rest.invariant next
