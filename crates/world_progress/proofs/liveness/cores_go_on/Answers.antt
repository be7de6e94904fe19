use Rattle.world_progress.proofs.LeftOver.{next_sends, all_taken_rest}
use Rattle.world_progress.proofs.liveness.cores_go_on.Goals as goal

pub returns-clause-sends : goal.returns-clause-sends
returns-clause-sends c = λ limits budget budgets core0 others end ends h. next_sends limits budget budgets core0 others end ends h

pub returns-clause-rest : goal.returns-clause-rest
returns-clause-rest c = λ limits budget budgets core0 others end ends h all none. all_taken_rest limits budget budgets core0 others end ends h all.each none
