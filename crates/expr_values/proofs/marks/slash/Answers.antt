use Rattle.expr_values.proofs.MarkLemmas.{no_slash}
use Rattle.expr_values.proofs.marks.slash.Goals as goal

pub returns-in_default : goal.returns-in_default
returns-in_default c = no_slash c.args.sign c.in_default.not-Slash
