use Rattle.std.proofs.Common.{◌≡◌, ◌∷◌, ap, ◌∙◌}
use Rattle.std.proofs.lemmas.Result.{IfOk-weaker}
use Rattle.line_words.specs.Words.{texts}
use Rattle.filter_listing.specs.Image.{label}
use Rattle.filter_listing.proofs.PrintedLemmas.{image_is}
use Rattle.filter_listing.proofs.image.image_insn.Goals as goal

pub returns-clause-is : goal.returns-clause-is
returns-clause-is c =
    let first = c.in-Some.ensures.cases in
    let second = c.in-Some-split_first.ensures.cases in
    let whole : texts c.args.words.now ≡ c.in-Some.first.now.now ∷ c.in-Some-split_first.word.now.now ∷ texts c.in-Some-split_first.rest.now =
    ap texts first.0 ∙ ap (λ t. c.in-Some.first.now.now ∷ t) (ap texts second.0) in
    let begins : c.in-Some.first.now.now ≡ label c.args.place = c.is_word.ensures.yes c.if-not-is_word.false ∙ (c.as_bytes.ensures.value ∙ c.in_ok-label.ensures) in
    IfOk-weaker c.body.result _ _ (λ found m. image_is c.args.place (texts c.args.words.now) _ _ _ found whole begins m) c.body.ensures.is
