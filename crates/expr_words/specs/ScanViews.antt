-- What contracts see of a token that is found. No public clause cites these.
use Rattle.std.specs.Prelude.{ℕ, Result}
use Rattle.expr_words.specs.declared.fault.WordFaultKind.{WordFaultKind}
use Rattle.expr_words.specs.declared.word.Word.{Word}
use Rattle.expr_words.specs.declared.scan.Found.{Found}

abbrev pub pair_of : Found → ℕ × Result Word WordFaultKind
pair_of f = (f.width, f.outcome)
