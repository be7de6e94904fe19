use Rattle.world_model.proofs.Decisions.{run_decides}
use Rattle.world_model.proofs.laws.decisions_are_right.Goals as goal

pub returns : goal.returns
returns c = run_decides
