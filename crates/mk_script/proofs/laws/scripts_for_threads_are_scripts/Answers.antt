use Rattle.mk_script.proofs.SimulationLemmas.{simulated}
use Rattle.mk_script.proofs.laws.scripts_for_threads_are_scripts.Goals as goal

pub returns : goal.returns
returns c = simulated
