use Rattle.std.proofs.Common.{Some, None}
use Rattle.std.proofs.lemmas.Slice.Eq.{strip_prefix_is, strip_suffix_is}
use Rattle.std.proofs.lemmas.Bool.Decides.{Decides-eqb}
use Rattle.filter_listing.proofs.PrintedLemmas.{between_is, not_begun}
use Rattle.filter_listing.proofs.operand.between.Goals as goal

pub returns-in-None : goal.returns-in-None
returns-in-None c = not_begun c.args.word.now c.args.before.now c.args.after.now (strip_prefix_is Decides-eqb c.args.word.now c.args.before.now None c.in-None.ensures.cases)

pub returns-in-Some : goal.returns-in-Some
returns-in-Some c =
    between_is c.args.word.now c.args.before.now c.in-Some.rest.now c.args.after.now c.strip_suffix.result
    (strip_prefix_is Decides-eqb c.args.word.now c.args.before.now (Some c.in-Some.rest) c.in-Some.ensures.cases)
    (strip_suffix_is Decides-eqb c.in-Some.rest.now c.args.after.now c.strip_suffix.result c.strip_suffix.ensures.cases)
