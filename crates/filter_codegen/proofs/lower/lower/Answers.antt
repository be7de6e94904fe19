use Rattle.std.proofs.Common.{◌<◌, ◌≤◌, length, Some, ap, ◌∙◌, subst, arith}
use Rattle.filter_codegen.specs.Lowered.{Fronts}
use Rattle.filter_codegen.proofs.Planning.{read_plan}
use Rattle.filter_codegen.proofs.Lowering.{read, lowers_from}
use Rattle.filter_codegen.proofs.lower.lower.Goals as goal

pub nodes-init : goal.nodes-init
nodes-init c =
    let few = c.in_ok-put_ends.ensures.few in
    record { stands = c.in_ok-put_ends.ensures.ok c.args.graph.now c.in_ok-plans.plans.items; few = omega arith }

pub nodes-preserved : goal.nodes-preserved
nodes-preserved c =
    let i = c.nodes.invariant in
    let few = i.few in
    let planned = c.in_ok-plans.ensures.ok in
    let counted = planned.same_length in
    let plans = c.in_ok-plans.plans.items in
    let at = c.nodes.at in
    let len = c.len-at-end.ensures.len in
    let two : 2 ≤ at = omega arith in
    let inside : at < length plans = omega arith in
    let there = read_plan plans at c.index.result.now inside c.index.ensures in
    let puts = c.in_ok-put_node.ensures.ok in
    let more = puts.few in
    record {
      stands = puts.stands c.args.accept c.args.graph.now plans at i.stands two (λ packet. c.get.ensures.says packet c.args.accept) there
          (λ p is. planned.carries at c.get.result p two c.get.ensures.at (there ∙ ap Some is));
      few = omega arith;
    }

pub returns-clause-ok : goal.returns-clause-ok
returns-clause-ok c =
    let len = c.len-at-end.ensures.len in
    let i = c.nodes.invariant in
    let counted = i.stands.counted in
    let planned = c.in_ok-plans.ensures.ok in
    lowers_from c.args.accept c.args.graph.now c.in_ok-plans.plans.items c.nodes.at c.args.root c.nodes.places.items c.nodes.jumps.items c.nodes.draft c.put_front.new.draft c.in_ok-put_front.field-0 i.stands (omega arith) planned.entered
    (subst (λ n. Fronts n c.nodes.draft c.put_front.new.draft c.in_ok-put_front.field-0) (read c.nodes.places.items c.args.root _ (omega arith) c.index-2.ensures) c.in_ok-put_front.ensures.ok)
