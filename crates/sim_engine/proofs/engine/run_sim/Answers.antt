use Rattle.sim_engine.proofs.Shown.{sim_once, sim_some}
use Rattle.sim_engine.proofs.engine.run_sim.Goals as goal

pub returns-clause-some : goal.returns-clause-some
returns-clause-some g c = λ input inputs are_files. sim_some inputs input are_files

pub returns-clause-only : goal.returns-clause-only
returns-clause-only g c = λ input inputs are_files. sim_once inputs input are_files
