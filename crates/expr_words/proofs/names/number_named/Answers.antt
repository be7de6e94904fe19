use Rattle.expr_words.specs.Names.{number_named}
use Rattle.expr_words.proofs.names.number_named.Goals as goal

pub returns : goal.returns
unfolding number_named
returns c = c.look_up.ensures
