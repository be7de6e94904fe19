use Rattle.std.proofs.Common.{◌≡◌, ◌+◌, true, false, drop, slice_index, arith, sym, ap, ◌∙◌}
use Rattle.expr_parse.specs.Brackets.{opens, closes, after_close}
use Rattle.expr_parse.proofs.BracketLemmas.{at_open, at_close, at_other}
use Rattle.expr_parse.proofs.brackets.place_after.Goals as goal

pub returns-then-opens : goal.returns-then-opens
returns-then-opens c =
    let o : opens (drop c.args.place c.args.tokens.now) ≡ true = cc in
    let first = c.requires.known (c.args.place + 1) (omega arith) (omega arith) in
    let second = c.requires.known (slice_index c.args.after.now (c.args.place + 1)) first.0 first.1 in
    let low = first.0 in
    let high = second.0 in
    (omega arith, second.1, second.2 ∙ ap (after_close 0) first.2 ∙ sym (at_open c.args.tokens.now c.args.place c.requires.inside o))

pub returns-then-closes : goal.returns-then-closes
returns-then-closes c =
    let o : opens (drop c.args.place c.args.tokens.now) ≡ false = cc in
    let s : closes (drop c.args.place c.args.tokens.now) ≡ true = cc in
    (omega arith, omega arith, sym (at_close c.args.tokens.now c.args.place c.requires.inside o s))

pub returns : goal.returns
returns c =
    let o : opens (drop c.args.place c.args.tokens.now) ≡ false = cc in
    let s : closes (drop c.args.place c.args.tokens.now) ≡ false = cc in
    let first = c.requires.known (c.args.place + 1) (omega arith) (omega arith) in
    let low = first.0 in
    (omega arith, first.1, first.2 ∙ sym (at_other c.args.tokens.now c.args.place c.requires.inside o s))
