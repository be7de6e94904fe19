use Rattle.expr_words.specs.Scan.{single_named}
use Rattle.expr_words.proofs.scan.single_named.Goals as goal

pub returns : goal.returns
unfolding single_named
returns c = c.look_up.ensures
