use Rattle.expr_words.specs.Names.{protocol_named}
use Rattle.expr_words.proofs.names.protocol_named.Goals as goal

pub returns : goal.returns
unfolding protocol_named
returns c = c.look_up.ensures
