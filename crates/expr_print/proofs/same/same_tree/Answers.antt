use Rattle.std.proofs.Common.{◌≡◌}
use Rattle.expr_print.specs.Nodes.{kinds}
use Rattle.expr_print.proofs.NodeLemmas.{last_same}
use Rattle.expr_print.proofs.same.same_tree.Goals as goal

pub returns : goal.returns
returns c = λ is.
    let same = c.same_nodes.ensures is in
    let alike : kinds c.args.first.now.nodes.items ≡ kinds c.args.second.now.nodes.items = cc in
    last_same c.args.first.now.nodes.items c.args.second.now.nodes.items alike
