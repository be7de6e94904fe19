use Rattle.world_model.proofs.RunLaws.{run_agrees, run_no_stranger, run_grows, run_versions}
use Rattle.world_model.proofs.laws.replicas_agree.Goals as goal

pub returns-clause-agree : goal.returns-clause-agree
returns-clause-agree c = run_agrees

pub returns-clause-no_stranger : goal.returns-clause-no_stranger
returns-clause-no_stranger c = run_no_stranger

pub returns-clause-growing : goal.returns-clause-growing
returns-clause-growing c = run_grows

pub returns-clause-versions : goal.returns-clause-versions
returns-clause-versions c = run_versions
