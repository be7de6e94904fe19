use Rattle.expr_words.specs.Names.{ip_number_named}
use Rattle.expr_words.proofs.names.ip_number_named.Goals as goal

pub returns : goal.returns
unfolding ip_number_named
returns c = c.look_up.ensures
