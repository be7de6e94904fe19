use Rattle.std.proofs.Common.{arith}
use Rattle.filter_codegen.proofs.Shortening.{got_known}
use Rattle.filter_codegen.proofs.facts.Facts.get.Goals as goal

pub returns-clause-says : goal.returns-clause-says
returns-clause-says c = λ packet.
    let len = c.len.ensures in
    let full = c.self.inside.facts.ok.0 in
    got_known packet c.self.inside.facts.items c.args.self.now c.args.place c.index-fact.result.now c.self.view_is (omega arith) (omega arith) c.index-fact.ensures (omega arith)
