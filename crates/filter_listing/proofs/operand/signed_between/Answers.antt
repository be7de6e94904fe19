use Rattle.std.proofs.lemmas.Result.{IfOk-weaker}
use Rattle.filter_listing.specs.Image.{signed}
use Rattle.filter_listing.proofs.PrintedLemmas.{print_between}
use Rattle.filter_listing.proofs.operand.signed_between.Goals as goal

pub returns-in-Some : goal.returns-in-Some
returns-in-Some c = IfOk-weaker c.signed_of.result _ _ (λ found m. print_between signed c.args.word.now c.args.before.now c.in-Some.middle.now c.args.after.now found c.in-Some.ensures m) c.signed_of.ensures
