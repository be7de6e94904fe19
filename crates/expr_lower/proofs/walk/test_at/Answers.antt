use Rattle.std.proofs.Common.{arith}
use Rattle.expr_lower.proofs.Spining.{test_is, test_beyond}
use Rattle.expr_lower.proofs.walk.test_at.Goals as goal

pub returns-then-place-nodes : goal.returns-then-place-nodes
returns-then-place-nodes c = test_beyond c.args.nodes.now c.args.place c.if-place-nodes.true

pub returns-in-Some : goal.returns-in-Some
returns-in-Some c = test_is c.args.nodes.now c.args.place _ _ (omega arith) c.in-Some.ensures

pub returns-in-None : goal.returns-in-None
returns-in-None c = test_is c.args.nodes.now c.args.place _ _ (omega arith) c.in-None.ensures
