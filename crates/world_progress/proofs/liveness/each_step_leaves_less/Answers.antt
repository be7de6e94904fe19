use Rattle.world_progress.proofs.Leaving.{step_of_run}
use Rattle.world_progress.proofs.liveness.each_step_leaves_less.Goals as goal

pub returns : goal.returns
returns c = step_of_run
