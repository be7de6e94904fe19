use Rattle.std.proofs.Common.{ℕ, ◌<◌, List, length, get_or, sym, arith}
use Rattle.std.proofs.lemmas.Option.{slice_get-get_or}
use Rattle.std.proofs.lemmas.List.Elements.{All-push}
use Rattle.expr_tree.specs.declared.tree.Kind.TheVariants.{Every}
use Rattle.expr_tree.specs.declared.tree.Node.{Node}
use Rattle.expr_lower.proofs.Spining.{spine_step, spine_leaf, spine_end}
use Rattle.expr_lower.proofs.spine.way_down.Goals as goal

abbrev node : List Node → ℕ → Node
node nodes at = get_or nodes at (record { kind = Every; column = 0 })

pub down-preserved : goal.down-preserved
down-preserved c =
    let pushed = c.in_ok-push-in-Some.ensures.items in
    record {
      limit = omega arith;
      within = rw pushed (All-push (λ join. join < length c.args.nodes.now) _ _ c.down.invariant.within (omega arith));
      is = spine_step c.args.nodes.now _ c.down.joins.items c.push.new.self.items c.down.limit c.down.at c.in-Some.first (node c.args.nodes.now c.down.at) (omega arith)
          (slice_get-get_or c.args.nodes.now c.down.at _ (omega arith)) (sym c.in-Some.ensures) pushed c.down.invariant.is;
    }

pub returns-in-None-clause-is : goal.returns-in-None-clause-is
returns-in-None-clause-is c =
    rw c.leaf_of.ensures
    (spine_leaf c.args.nodes.now _ c.down.joins.items c.down.limit c.down.at (node c.args.nodes.now c.down.at) (omega arith) (slice_get-get_or c.args.nodes.now c.down.at _ (omega arith)) (sym c.in-None.ensures) c.down.invariant.is)

pub returns-clause-is : goal.returns-clause-is
returns-clause-is c = spine_end c.args.nodes.now _ c.down.joins.items c.down.limit c.down.at (omega arith) c.down.invariant.is
