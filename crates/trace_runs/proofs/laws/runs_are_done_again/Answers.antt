use Rattle.trace_runs.proofs.Again.{can_repeat}
use Rattle.trace_runs.proofs.Whatever.{repeats}
use Rattle.trace_runs.proofs.laws.runs_are_done_again.Goals as goal

pub returns-clause-can : goal.returns-clause-can
returns-clause-can c = can_repeat

pub returns-clause-only : goal.returns-clause-only
returns-clause-only c = repeats
