use Rattle.trace_runs.proofs.Joined.{again_shown, again_only}
use Rattle.trace_runs.proofs.laws.printed_runs_are_done_again.Goals as goal

pub returns-clause-shown : goal.returns-clause-shown
returns-clause-shown c = again_shown

pub returns-clause-only : goal.returns-clause-only
returns-clause-only c files input script text run status text' are_files stands lf short had shows = again_only files input script text run stands lf short are_files had status text' shows
