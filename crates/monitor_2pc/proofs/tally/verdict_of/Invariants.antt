use Rattle.std.proofs.Common.{Some, slice_set}
use Rattle.monitor_2pc.proofs.Verdicts.{SaysBelow}
use Rattle.monitor_2pc.proofs.tally.verdict_of.Given as goal

abbrev pub invariant-loop-place : goal.invariant-loop-place
invariant-loop-place l = SaysBelow (slice_set l.votes l.entry (Some l.vote)) l.place l.verdict
