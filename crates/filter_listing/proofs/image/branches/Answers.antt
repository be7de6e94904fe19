use Rattle.std.proofs.Common.{sym, ◌∙◌}
use Rattle.line_words.specs.Words.{texts}
use Rattle.filter_listing.proofs.PrintedLemmas.{four, long_texts}
use Rattle.filter_listing.proofs.image.branches.Goals as goal

pub returns : goal.returns
returns c =
    four (texts c.args.words.now) _ _ _ _ (long_texts c.args.words.now ∙ c.if-words-ne4.false)
    (sym c.word_at.ensures ∙ c.is_word.ensures.yes c.if-not-is_word.false)
    (sym c.word_at-3.ensures ∙ (rw c.in-Some.is at c.in_ok-first.ensures))
    (sym c.word_at-2.ensures ∙ c.is_word-2.ensures.yes c.if-not-is_word-2.false)
    (sym c.word_at-4.ensures ∙ (rw c.in-Some-2.is at c.in_ok-second.ensures))
