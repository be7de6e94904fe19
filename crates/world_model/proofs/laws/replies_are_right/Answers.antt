use Rattle.world_model.proofs.RunLaws.{run_replies, run_waits}
use Rattle.world_model.proofs.laws.replies_are_right.Goals as goal

pub returns-clause-replies : goal.returns-clause-replies
returns-clause-replies c = run_replies

pub returns-clause-waits : goal.returns-clause-waits
returns-clause-waits c = run_waits
