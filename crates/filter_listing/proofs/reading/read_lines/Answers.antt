use Rattle.std.proofs.Common.{◌<◌, length, arith}
use Rattle.filter_listing.proofs.LinesLemmas.{read_all, read_more}
use Rattle.filter_listing.proofs.reading.read_lines.Goals as goal

pub loop-kind-preserved : goal.loop-kind-preserved
loop-kind-preserved c =
    let shorter : length c.in-Some.rest.now < length c.loop-kind.left.now = rw c.in-Some.is at c.first_line.ensures.shorter in
    record {
      room = omega arith;
      bare = λ images. c.in_default.ensures.bare images (c.loop-kind.invariant.bare images);
      so_far = read_more _ _ _ _ _ _ _ (rw (c.first_line.ensures.lines, c.in-Some.is) at c.loop-kind.invariant.so_far) c.in_default.ensures.ok;
    }

pub returns-in-None-clause-spelled : goal.returns-in-None-clause-spelled
returns-in-None-clause-spelled c = read_all _ _ _ _ (read_more _ _ _ _ _ _ _ (rw (c.first_line.ensures.lines, c.in-None.is) at c.loop-kind.invariant.so_far) c.in_default.ensures.ok)
