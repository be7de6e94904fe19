use Rattle.trace_runs.proofs.Outputs.{sim_drawn, shown_run_drawn}
use Rattle.trace_runs.proofs.laws.outputs_are_drawn.Goals as goal

pub returns-clause-sim : goal.returns-clause-sim
returns-clause-sim c = sim_drawn

pub returns-clause-run : goal.returns-clause-run
returns-clause-run c = shown_run_drawn
