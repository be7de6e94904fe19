use Rattle.std.proofs.Common.{sym, subst}
use Rattle.filter_codegen.specs.Tasks.{Builds}
use Rattle.filter_codegen.proofs.Tasking.{builds_is}
use Rattle.filter_codegen.proofs.builder.build_part.Goals as goal

pub returns-in_ok-push-in-Is-clause-ok : goal.returns-in_ok-push-in-Is-clause-ok
returns-in_ok-push-in-Is-clause-ok c =
    subst (λ p. Builds p c.args.ways c.args.graph.now c.add_check.new.graph c.args.tasks.now.items c.args.tasks.now.items c.args.entries.now.items c.push-in-Is.new.self.items) (sym c.in-Is.is)
    (builds_is c.args.ways c.args.graph.now c.args.tasks.now.items c.args.entries.now.items c.in-Is.check c.add_check.new.graph c.in_ok-entry-in-Is.entry c.push-in-Is.new.self.items
    c.in_ok-entry-in-Is.ensures.ok c.in_ok-push-in-Is.ensures.items)
