use Rattle.std.proofs.Common.{◌≡◌, true, false, drop, arith, sym, ◌∙◌}
use Rattle.expr_words.specs.declared.word.Sign.TheVariants as signs
use Rattle.expr_parse.specs.Words.{sees}
use Rattle.expr_parse.specs.Brackets.{begins_calc}
use Rattle.expr_parse.proofs.BracketLemmas.{seen_inside, past_one, past_none, past_calc}
use Rattle.expr_parse.proofs.brackets.past_opens.Goals as goal

pub opens-smaller : goal.opens-smaller
opens-smaller c =
    let e : sees signs.Open (drop c.opens.at c.args.tokens.now) ≡ true = cc in
    let below = seen_inside signs.Open c.args.tokens.now c.opens.at e in
    omega arith

pub opens-preserved : goal.opens-preserved
opens-preserved c =
    let e : sees signs.Open (drop c.opens.at c.args.tokens.now) ≡ true = cc in
    let b : begins_calc (drop c.opens.at c.args.tokens.now) ≡ false = cc in
    let below = seen_inside signs.Open c.args.tokens.now c.opens.at e in
    record { inside = omega arith; same = c.opens.invariant.same ∙ past_one c.args.tokens.now c.opens.at e b }

pub returns-else-not-begins_calc-clause-place : goal.returns-else-not-begins_calc-clause-place
returns-else-not-begins_calc-clause-place c =
    let b : begins_calc (drop c.opens.at c.args.tokens.now) ≡ true = cc in
    sym (c.opens.invariant.same ∙ past_calc (drop c.opens.at c.args.tokens.now) b)

pub returns-after-opens-clause-place : goal.returns-after-opens-clause-place
returns-after-opens-clause-place c =
    let e : sees signs.Open (drop c.opens.at c.args.tokens.now) ≡ false = cc in
    sym (c.opens.invariant.same ∙ past_none (drop c.opens.at c.args.tokens.now) e)
