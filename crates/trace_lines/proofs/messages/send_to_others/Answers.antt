use Rattle.std.proofs.Common.{◌+◌, arith, append_assoc}
use Rattle.trace_lines.proofs.Ranges.{range_next}
use Rattle.trace_lines.proofs.messages.send_to_others.Goals as goal

pub loop-to-preserved : goal.loop-to-preserved
loop-to-preserved c =
    let next = range_next c.loop-to.to (c.args.highest + 1) (omega arith) in
    rw (c.in_ok-push.ensures.items, append_assoc) (rw next at c.loop-to.invariant)
