use Rattle.expr_words.specs.Names.{port_named}
use Rattle.expr_words.proofs.names.port_named.Goals as goal

pub returns : goal.returns
unfolding port_named
returns c = c.look_up.ensures
