use Rattle.trace_runs.proofs.Merged.{can_repeat_merged, shown, only}
use Rattle.trace_runs.proofs.laws.merged_runs_are_done_again.Goals as goal

pub returns-clause-can : goal.returns-clause-can
returns-clause-can c = can_repeat_merged

pub returns-clause-shown : goal.returns-clause-shown
returns-clause-shown c = shown

pub returns-clause-only : goal.returns-clause-only
returns-clause-only c = only
