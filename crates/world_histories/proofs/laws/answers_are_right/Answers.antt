use Rattle.world_histories.proofs.Agreement as agreement
use Rattle.world_histories.proofs.Deciding.{decided}
use Rattle.world_histories.proofs.Replies.{replied}
use Rattle.world_histories.proofs.laws.answers_are_right.Goals as goal

pub returns-clause-in_run : goal.returns-clause-in_run
returns-clause-in_run c = agreement.in_run

pub returns-clause-decided : goal.returns-clause-decided
returns-clause-decided c = decided

pub returns-clause-replied : goal.returns-clause-replied
returns-clause-replied c = replied
