use Rattle.expr_values.proofs.MarkLemmas.{no_mask}
use Rattle.expr_values.proofs.marks.mask.Goals as goal

pub returns-in_default : goal.returns-in_default
returns-in_default c = no_mask c.args.keyword c.in_default.not-Mask
