use Rattle.std.proofs.Common.{◌<◌, length, arith}
use Rattle.std.proofs.lemmas.Bool.Decides.{nat_tests}
use Rattle.expr_parse.proofs.ColumnLemmas.{lies_before}
use Rattle.expr_parse.proofs.text.fault_at.Goals as goal

pub returns-in-Some-clause-begins : goal.returns-in-Some-clause-begins
returns-in-Some-clause-begins c =
    let found = c.in-Some.ensures.lookup in
    let below : c.args.place < length c.args.tokens.now = grind (arith, nat_tests) in
    (lies_before c.args.end c.args.tokens.now c.args.place c.in-Some.token.now c.requires.columns below found.1).0

pub returns-in-Some-clause-ends : goal.returns-in-Some-clause-ends
returns-in-Some-clause-ends c =
    let found = c.in-Some.ensures.lookup in
    let below : c.args.place < length c.args.tokens.now = grind (arith, nat_tests) in
    let high = (lies_before c.args.end c.args.tokens.now c.args.place c.in-Some.token.now c.requires.columns below found.1).1 in
    omega arith
