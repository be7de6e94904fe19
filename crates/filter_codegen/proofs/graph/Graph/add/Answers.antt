use Rattle.std.proofs.lemmas.Result.{IfOk-weaker}
use Rattle.filter_codegen.proofs.Places.{adds_known, adds_reject, adds_push}
use Rattle.filter_codegen.proofs.graph.Graph.add.Goals as goal

pub returns-then-node-eq0-2-clause-ok : goal.returns-then-node-eq0-2-clause-ok
returns-then-node-eq0-2-clause-ok c = adds_reject c.args.self.now c.args.node c.if-node-eq0.true c.if-node-eq0-2.true

pub returns-in-Some-clause-ok : goal.returns-in-Some-clause-ok
returns-in-Some-clause-ok c = adds_known c.args.self.now c.args.node c.in-Some.place c.in-Some.ensures.0 c.in-Some.ensures.1

pub returns-clause-ok : goal.returns-clause-ok
returns-clause-ok c = IfOk-weaker c.push.result _ _ (λ place h. adds_push _ c.push.new.self c.args.node place h.0 h.1) c.push.ensures.ok
