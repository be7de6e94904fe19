use Rattle.world_progress.proofs.Histories.{computation_bounded}
use Rattle.world_progress.proofs.liveness.steps_of_cores_are_bounded.Goals as goal

pub returns : goal.returns
returns c = computation_bounded
