use Rattle.expr_words.specs.Names.{ether_number_named}
use Rattle.expr_words.proofs.names.ether_number_named.Goals as goal

pub returns : goal.returns
unfolding ether_number_named
returns c = c.look_up.ensures
