use Rattle.world_progress.proofs.Rest.{run_goes_on, quiet_rests}
use Rattle.world_progress.proofs.liveness.a_machine_goes_on.Goals as goal

pub returns-clause-some : goal.returns-clause-some
returns-clause-some c = run_goes_on

pub returns-clause-rest : goal.returns-clause-rest
returns-clause-rest c = quiet_rests
