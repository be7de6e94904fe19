use Rattle.std.proofs.Common.{◌≡◌, ◌+◌, true, false, drop, arith}
use Rattle.expr_words.specs.declared.word.Sign.TheVariants as signs
use Rattle.expr_parse.specs.Words.{sees}
use Rattle.expr_parse.proofs.BracketLemmas.{seen_inside, calc_open, calc_shut}
use Rattle.expr_parse.proofs.brackets.begins_calc.Goals as goal

pub bounds-after-place : goal.bounds-after-place
bounds-after-place c =
    let e : sees signs.Open (drop c.args.place c.args.tokens.now) ≡ true = cc in
    let below = seen_inside signs.Open c.args.tokens.now c.args.place e in
    omega (arith, c.requires.table.0)

pub rest_at-requires-then-sees : goal.rest_at-requires-then-sees
rest_at-requires-then-sees c =
    let e : sees signs.Open (drop c.args.place c.args.tokens.now) ≡ true = cc in
    let below = seen_inside signs.Open c.args.tokens.now c.args.place e in
    (c.requires.table.1 (c.args.place + 1) (omega arith) (omega arith)).1

pub returns-then-sees : goal.returns-then-sees
returns-then-sees c =
    let e : sees signs.Open (drop c.args.place c.args.tokens.now) ≡ true = cc in
    let below = seen_inside signs.Open c.args.tokens.now c.args.place e in
    let known = c.requires.table.1 (c.args.place + 1) (omega arith) (omega arith) in
    let same = known.2 in
    let begun = calc_open c.args.tokens.now c.args.place e in
    cc

pub returns-else-sees : goal.returns-else-sees
returns-else-sees c =
    let e : sees signs.Open (drop c.args.place c.args.tokens.now) ≡ false = cc in
    let shut = calc_shut (drop c.args.place c.args.tokens.now) e in
    cc
