use Rattle.std.proofs.Common.{◌+◌, ◌*◌, min, ap, sym, ◌∙◌}
use Rattle.bpf_insn.proofs.DigitLemmas.{no_digit_no_number, digits_more, digit_in_range}
use Rattle.mk_script.proofs.DigitLemmas.{value_more}
use Rattle.mk_script.proofs.number.number.Goals as goal

pub returns-then-not-is_ascii_digit : goal.returns-then-not-is_ascii_digit
returns-then-not-is_ascii_digit c = no_digit_no_number c.args.word.now c.loop-digit.digit-index c.loop-digit-test.true (sym c.if-not-is_ascii_digit.ensures.value)

pub loop-digit-preserved : goal.loop-digit-preserved
loop-digit-preserved c = record {
  value = c.min-value.ensures ∙ ap (λ d. min (c.loop-digit.value * 10 + d) 18446744073709551616) c.from.ensures
      ∙ value_more c.args.word.now c.loop-digit.digit-index c.loop-digit.value c.loop-digit-test.true (digit_in_range _ (sym c.if-not-is_ascii_digit.ensures.value)) c.loop-digit.invariant.value;
  digits = digits_more c.args.word.now c.loop-digit.digit-index c.loop-digit-test.true c.loop-digit.invariant.digits (sym c.if-not-is_ascii_digit.ensures.value);
}
