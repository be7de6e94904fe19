use Rattle.std.proofs.Common.{◌+◌}
use Rattle.mk_script.specs.DraftViews.{settings_of}
use Rattle.mk_script.proofs.ReaderLemmas.{read_more}
use Rattle.mk_script.proofs.reader.read.Goals as goal

pub loop-rest-preserved : goal.loop-rest-preserved
loop-rest-preserved c =
    let so_far = c.loop-rest.invariant in
    read_more (settings_of c.args.settings) c.args.text.now c.loop-rest.rest.now c.in-Ok.after.now c.loop-rest.lines c.in-Ok.more c.loop-rest.reading c.read_first.new.reading so_far c.in-Ok.ensures.within.1
    (c.in-Ok.ensures.ok so_far.given (c.loop-rest.lines + 1) so_far.knows)
