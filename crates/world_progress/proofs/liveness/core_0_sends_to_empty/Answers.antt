use Rattle.world_progress.proofs.Fitting.{run_sends, run_idle}
use Rattle.world_progress.proofs.liveness.core_0_sends_to_empty.Goals as goal

pub returns-clause-take : goal.returns-clause-take
returns-clause-take c = run_sends

pub returns-clause-idle : goal.returns-clause-idle
returns-clause-idle c = run_idle
