use Rattle.trace_text.proofs.TraceLemmas.{read_back}
use Rattle.trace_text.proofs.laws.traces_are_read_back.Goals as goal

pub returns : goal.returns
returns c = read_back
