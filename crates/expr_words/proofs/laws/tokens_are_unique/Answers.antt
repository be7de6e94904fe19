use Rattle.expr_words.proofs.UniqueLemmas.{spelled_once}
use Rattle.expr_words.proofs.laws.tokens_are_unique.Goals as goal

pub returns : goal.returns
returns c = spelled_once
