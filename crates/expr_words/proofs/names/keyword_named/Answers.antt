use Rattle.expr_words.specs.Names.{keyword_named}
use Rattle.expr_words.proofs.names.keyword_named.Goals as goal

pub returns : goal.returns
unfolding keyword_named
returns c = c.look_up.ensures
