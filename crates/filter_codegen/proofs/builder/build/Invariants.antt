use Rattle.filter_codegen.specs.Built.{IsBuilding}
use Rattle.filter_codegen.proofs.builder.build.Given as goal

abbrev pub invariant-parts : goal.invariant-parts
invariant-parts l = IsBuilding l.parts l.count l.graph l.tasks.items l.entries.items

abbrev pub decreases-parts : goal.decreases-parts
decreases-parts l = l.count
