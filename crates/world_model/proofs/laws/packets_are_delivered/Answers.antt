use Rattle.world_model.proofs.RunLaws.{run_delivers}
use Rattle.world_model.proofs.laws.packets_are_delivered.Goals as goal

pub returns : goal.returns
returns c = run_delivers
