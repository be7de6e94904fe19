use Rattle.std.proofs.Common.{◌≡◌, length, take}
use Rattle.expr_print.specs.Nodes.{kinds}
use Rattle.expr_print.proofs.same.same_nodes.Given as goal

abbrev pub invariant-nodes : goal.invariant-nodes
invariant-nodes l = kinds (take l.place l.first) ≡ kinds (take l.place l.second)
