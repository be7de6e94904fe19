use Rattle.std.proofs.Common.{sym, ◌∙◌, arith}
use Rattle.pcapng_reader.specs.Held.{place_of}
use Rattle.pcapng_reader.proofs.FeedLemmas.{read_more, shorter_rest}
use Rattle.pcapng_reader.proofs.reading.read_all.Goals as goal

pub loop-total-smaller : goal.loop-total-smaller
loop-total-smaller c =
    shorter_rest (place_of c.loop-total.feed) c.loop-total.rest.now c.take_block.new.rest.now c.in-Whole.total c.in-Whole.content (sym c.front.ensures ∙ c.in-Whole.is) c.in_ok-take_block.ensures.takes.left

pub loop-total-preserved : goal.loop-total-preserved
loop-total-preserved c =
    let read = read_more c.args.bytes.now c.loop-total.rest.now c.take_block.new.rest.now c.loop-total.feed c.take_block.new.self c.in-Whole.content c.in-Whole.total c.loop-total.blocks.items c.in_ok-take_block.field-0
    (omega arith) c.loop-total.invariant (sym c.front.ensures ∙ c.in-Whole.is) c.in_ok-take_block.ensures.takes in
    rw c.in_ok-push.ensures.items read
