use Rattle.expr_words.specs.Scan.{pair_named}
use Rattle.expr_words.proofs.scan.pair_named.Goals as goal

pub returns : goal.returns
unfolding pair_named
returns c = c.look_up.ensures
