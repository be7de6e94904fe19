use Rattle.expr_words.specs.Names.{refusal_named}
use Rattle.expr_words.proofs.names.refusal_named.Goals as goal

pub returns : goal.returns
unfolding refusal_named
returns c = c.look_up.ensures
