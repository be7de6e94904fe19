use Rattle.std.proofs.Common.{◌≡◌, arith}
use Rattle.graph_engine.proofs.PathLemmas.{mark_passed}
use Rattle.graph_engine.proofs.graph.take_mark.Goals as goal

pub returns-in_default-clause-mark : goal.returns-in_default-clause-mark
returns-in_default-clause-mark c =
    mark_passed c.args.count c.args.pc c.args.refusal.now c.args.rest.now.now c.is_refused-refused.result c.is_refused-refused.ensures c.requires.ahead
    (λ more e.
    let cases = c.in-Some.ensures.cases in
    let same : c.in-Some.place.now ≡ c.args.pc = cc in
    absurd (omega arith))
