use Rattle.trace_text.proofs.PrintedLemmas.{events_drawn, all_drawn}
use Rattle.trace_text.proofs.laws.printed_lines_are_drawn.Goals as goal

pub returns-clause-events : goal.returns-clause-events
returns-clause-events c events left can = events_drawn events left can

pub returns-clause-all : goal.returns-clause-all
returns-clause-all c printed can = all_drawn printed can
