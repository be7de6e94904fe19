use Rattle.world_histories.proofs.Merge.{one_run, merged_once, run_of}
use Rattle.world_histories.proofs.Ends.{ends_once}
use Rattle.world_histories.proofs.laws.histories_are_one_run.Goals as goal

pub returns-clause-there_is : goal.returns-clause-there_is
returns-clause-there_is c limits budget budgets core0 others end ends h = let o = one_run limits budget budgets core0 others end ends h in (o.merged, o.is_merged)

pub returns-clause-once : goal.returns-clause-once
returns-clause-once c = merged_once

pub returns-clause-run : goal.returns-clause-run
returns-clause-run c = run_of

pub returns-clause-one_end : goal.returns-clause-one_end
returns-clause-one_end c = ends_once
