use Rattle.std.proofs.Common.{◌≡◌, ◌<◌, ℕ, Some, slice_get}
use Rattle.filter_table.specs.declared.decision.Vote.TheVariants.{Yes}
use Rattle.monitor_2pc.proofs.tally.outcome_of.Given as goal

abbrev pub invariant-loop-entry : goal.invariant-loop-entry
invariant-loop-entry l = (k : ℕ) → k < l.entry → slice_get l.votes k ≡ Some (Some Yes)
