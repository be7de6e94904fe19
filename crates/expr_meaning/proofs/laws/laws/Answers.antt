use Rattle.expr_meaning.proofs.Joining.{holds_test, holds_not, holds_not_not, holds_and, holds_or, holds_neither, holds_not_both}
use Rattle.expr_meaning.proofs.laws.laws.Goals as goal

pub returns : goal.returns
returns c = record {
  test = holds_test;
  not = holds_not;
  not_not = holds_not_not;
  and = holds_and;
  or = holds_or;
  neither = holds_neither;
  not_both = holds_not_both;
}
