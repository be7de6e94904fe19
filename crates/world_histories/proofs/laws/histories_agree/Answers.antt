use Rattle.world_histories.proofs.Agreement.{agree}
use Rattle.world_histories.proofs.laws.histories_agree.Goals as goal

pub returns : goal.returns
returns c = agree
