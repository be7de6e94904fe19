use Rattle.expr_words.proofs.UniqueLemmas.{refused_never}
use Rattle.expr_words.proofs.laws.faults_leave_no_tokens.Goals as goal

pub returns : goal.returns
returns c = refused_never
