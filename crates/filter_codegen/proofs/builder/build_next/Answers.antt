use Rattle.std.proofs.Common.{arith}
use Rattle.std.proofs.lemmas.Result.{on_ok_weaker}
use Rattle.filter_codegen.proofs.Building.{building_some, building_none, popped_some, popped_none}
use Rattle.filter_codegen.proofs.builder.build_next.Goals as goal

pub returns-in-Some-clause-ok : goal.returns-in-Some-clause-ok
returns-in-Some-clause-ok c =
    on_ok_weaker c.build_part.result
    (λ b. building_some c.args.part c.in-Some.task c.resolve-ways.result c.args.graph.now c.build_part.new.graph c.args.tasks.now.items c.pop.new.self.items c.build_part.new.tasks.items c.args.entries.now.items c.resolve-ways.new.entries.items c.build_part.new.entries.items
    (popped_some c.args.tasks.now.items c.pop.new.self.items c.pop.result c.in-Some.task c.in-Some.is c.pop.ensures.items) c.resolve-ways.ensures b)
    c.build_part.ensures.ok

pub returns-in-None-clause-ok : goal.returns-in-None-clause-ok
returns-in-None-clause-ok c =
    let none = c.in-None.ensures.cases in
    let full = c.args.tasks.now.ok.0 in
    building_none c.args.part c.args.graph.now c.args.tasks.now.items c.pop.new.self.items c.args.entries.now.items
    (popped_none c.args.tasks.now.items c.pop.new.self.items c.pop.result c.in-None.is c.pop.ensures.items (omega arith))
