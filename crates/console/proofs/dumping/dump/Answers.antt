use Rattle.std.proofs.Common.{[], refl}
use Rattle.console.proofs.PrintingLemmas.{printing_next, printing_part, printing_written, left_first}
use Rattle.console.proofs.dumping.dump.Goals as goal

pub loop-kept-preserved-then-len-ge-BLOCK : goal.loop-kept-preserved-then-len-ge-BLOCK
loop-kept-preserved-then-len-ge-BLOCK g c = let first = c.in-Some.ensures.cases in record {
  good = c.in_ok-write_bytes.ensures.good;
  printing = printing_written _ _ _ _ _ _ _
      (printing_next _ _ _ _ _ _ _ _ c.loop-kept.invariant.printing (left_first c.args.link c.args.stamped c.loop-kept.place _ _ _ _ c.args.fault _ _ first.0 c.in_ok-push_chosen.ensures) c.in_ok-push_chosen.ensures.printed)
      (rw c.as_slice.ensures.value at c.in_ok-write_bytes.ensures.written) c.clear.ensures.items;
}

pub returns-clause-part : goal.returns-clause-part
returns-clause-part g c = λ memory.
    rw (c.write_ending.ensures.part memory) (printing_part _ _ [] _ _ (printing_written _ _ _ _ _ _ _ c.loop-kept.invariant.printing (rw c.as_slice-2.ensures.value at c.in_ok-write_bytes-2.ensures.written) refl))

pub loop-kept-preserved : goal.loop-kept-preserved
loop-kept-preserved g c = let first = c.in-Some.ensures.cases in record {
  good = c.loop-kept.invariant.good;
  printing = printing_next _ _ _ _ _ _ _ _ c.loop-kept.invariant.printing (left_first c.args.link c.args.stamped c.loop-kept.place _ _ _ _ c.args.fault _ _ first.0 c.in_ok-push_chosen.ensures) c.in_ok-push_chosen.ensures.printed;
}
