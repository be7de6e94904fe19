use Rattle.trace_text.proofs.NameLemmas.{named}
use Rattle.trace_text.proofs.laws.packets_are_named.Goals as goal

pub returns : goal.returns
returns c = named
