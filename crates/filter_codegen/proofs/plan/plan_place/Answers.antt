use Rattle.std.proofs.Common.{ap, Some, ◌∙◌}
use Rattle.std.proofs.Common.{◌<◌, length, arith}
use Rattle.filter_codegen.proofs.Planning.{planning_node, planning_none, read_plan}
use Rattle.filter_codegen.proofs.plan.plan_place.Goals as goal

pub returns-in-Some : goal.returns-in-Some
returns-in-Some c = λ root below i.
    let plans = c.args.plans.now.items in
    let inside : c.args.place < length plans = omega arith in
    planning_node c.args.graph.now root c.args.place plans c.plan_node.new.plans.items c.get.result c.in-Some.plan
    (read_plan plans c.args.place c.index.result.now inside c.index.ensures ∙ ap Some c.in-Some.is) c.get.ensures.at c.plan_node.ensures below i

pub returns-in-None : goal.returns-in-None
returns-in-None c = λ root below i.
    let plans = c.args.plans.now.items in
    let inside : c.args.place < length plans = omega arith in
    planning_none c.args.graph.now root c.args.place plans
    (read_plan plans c.args.place c.index.result.now inside c.index.ensures ∙ ap Some c.in-None.is) below i
