use Rattle.trace_runs.proofs.Shown.{sim_shown, sim_only}
use Rattle.trace_runs.proofs.laws.sim_shows_the_trace.Goals as goal

pub returns-clause-shown : goal.returns-clause-shown
returns-clause-shown c = sim_shown

pub returns-clause-only : goal.returns-clause-only
returns-clause-only c files input script budget budgets end ends merged status text are_files short are_budgets ran had stands shows = sim_only files input script budget budgets end ends merged short are_budgets ran stands are_files had status text shows
