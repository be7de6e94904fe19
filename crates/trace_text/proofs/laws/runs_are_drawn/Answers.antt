use Rattle.trace_text.proofs.RunLemmas.{run_drawn}
use Rattle.trace_text.proofs.laws.runs_are_drawn.Goals as goal

pub returns : goal.returns
returns c = run_drawn
