use Rattle.std.proofs.Common.{arith, refl}
use Rattle.console.specs.Programs.{programs_of}
use Rattle.console.proofs.MatchingLemmas.{so_far_start, so_far_next, so_far_written, so_far_end, so_far_bad, so_far_left}
use Rattle.console.proofs.match_lines.match_lines.Goals as goal

pub loop-line-init : goal.loop-line-init
loop-line-init g c = record { room = omega arith; good = c.requires.good; so_far = rw c.new-text.ensures.bytes (so_far_start _ _ _); told = refl }

pub returns-in-Err-clause-shown : goal.returns-in-Err-clause-shown
returns-in-Err-clause-shown g c =
    so_far_bad c.write_last.result _ _ _ _ _ _ _ c.in-Err.stop c.at_line-ending.result _ _ _ _ _ _ _ _ c.in-Some.ensures.lines c.loop-line.invariant.so_far
    (rw c.in-Err.is at c.in_ok-outcome.ensures) refl c.at_line-ending.ensures c.write_last.ensures.shown (rw c.loop-line.invariant.told at c.write_last.ensures.explained)

pub returns-in-Err-clause-part : goal.returns-in-Err-clause-part
returns-in-Err-clause-part g c = so_far_left c.write_last.result (programs_of c.args.filter.now) c.args.link _ _ _ _ _ _ _ c.loop-line.invariant.so_far c.write_last.ensures.part

pub loop-line-preserved-then-len-ge-BLOCK : goal.loop-line-preserved-then-len-ge-BLOCK
loop-line-preserved-then-len-ge-BLOCK g c = record {
  room = omega (arith, c.in-Some.ensures.shorter);
  told = c.loop-line.invariant.told;
  good = c.in_ok-write_text.ensures.good;
  so_far = rw c.clear.ensures.bytes (so_far_written _ _ _ _ _ _ _ _
      (so_far_next _ _ _ _ _ _ _ _ _ _ _ _ c.in-Some.ensures.lines c.loop-line.invariant.so_far (rw c.in-Ok.is at c.in_ok-outcome.ensures) c.in_ok-push_outcome-in-Ok.ensures refl)
      (rw c.as_str.ensures.value at c.in_ok-write_text.ensures.written));
}

pub loop-line-preserved : goal.loop-line-preserved
loop-line-preserved g c = record {
  room = omega (arith, c.in-Some.ensures.shorter);
  told = c.loop-line.invariant.told;
  good = c.loop-line.invariant.good;
  so_far = so_far_next _ _ _ _ _ _ _ _ _ _ _ _ c.in-Some.ensures.lines c.loop-line.invariant.so_far (rw c.in-Ok.is at c.in_ok-outcome.ensures) c.in_ok-push_outcome-in-Ok.ensures refl;
}

pub returns-clause-shown : goal.returns-clause-shown
returns-clause-shown g c =
    so_far_end c.write_last-2.result _ _ _ _ _ _ _ _ _ _ _ _ c.in_default.ensures.lines c.loop-line.invariant.so_far c.write_last-2.ensures.shown (rw c.loop-line.invariant.told at c.write_last-2.ensures.explained)

pub returns-clause-part : goal.returns-clause-part
returns-clause-part g c = so_far_left c.write_last-2.result (programs_of c.args.filter.now) c.args.link _ _ _ _ _ _ _ c.loop-line.invariant.so_far c.write_last-2.ensures.part
