use Rattle.world_progress.proofs.Ends.{run_settles, settles_once}
use Rattle.world_progress.proofs.laws.settling_ends.Goals as goal

pub returns-clause-some : goal.returns-clause-some
returns-clause-some c = run_settles

pub returns-clause-one : goal.returns-clause-one
returns-clause-one c = settles_once
