use Rattle.world_progress.proofs.Bounds.{run_bounded, runs_bounded}
use Rattle.world_progress.proofs.liveness.steps_are_bounded.Goals as goal

pub returns-clause-run : goal.returns-clause-run
returns-clause-run c = run_bounded

pub returns-clause-later : goal.returns-clause-later
returns-clause-later c = runs_bounded
