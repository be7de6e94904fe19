use Rattle.trace_text.proofs.EventLemmas.{event_line_means, left_line_means}
use Rattle.trace_text.proofs.laws.lines_are_read_back.Goals as goal

pub returns-clause-events : goal.returns-clause-events
returns-clause-events c settings known jobs number done line named is e = event_line_means settings known jobs number done line named is e

pub returns-clause-left : goal.returns-clause-left
returns-clause-left c settings known jobs number core packet line named e = left_line_means settings known jobs number core packet line named e
