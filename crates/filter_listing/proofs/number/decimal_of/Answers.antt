use Rattle.std.proofs.Common.{◌≡◌, sym, ◌∙◌}
use Rattle.std.specs.Fmt.{decimal}
use Rattle.filter_listing.specs.Number.{in_base, below_2_32}
use Rattle.filter_listing.proofs.PrintedLemmas.{decimal_read, prints_none, prints_no_other}
use Rattle.filter_listing.proofs.number.decimal_of.Goals as goal

pub returns-in_default : goal.returns-in_default
returns-in_default c = prints_none decimal (λ w. below_2_32 (in_base 10 w)) decimal_read c.args.word.now (sym c.in_default.ensures)

pub returns-then-not-is_word : goal.returns-then-not-is_word
returns-then-not-is_word c = prints_no_other decimal (λ w. below_2_32 (in_base 10 w)) decimal_read c.args.word.now c.in-Some.number (sym c.in-Some.ensures)
    (λ e. let same : c.as_bytes.result.now ≡ c.args.word.now = c.as_bytes.ensures.value ∙ (c.in_ok-printed.ensures.ok ∙ e) in let yes = c.is_word.ensures.no same in let no = c.if-not-is_word.true in cc)
