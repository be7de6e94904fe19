-- Nodes without their columns.
-- No public clause cites these.
use Rattle.std.specs.Prelude.{List, map}
use Rattle.expr_tree.specs.declared.tree.Kind.{Kind}
use Rattle.expr_tree.specs.declared.tree.Node.{Node}

abbrev pub kinds : List Node → List Kind
kinds nodes = map (λ node. node.kind) nodes
