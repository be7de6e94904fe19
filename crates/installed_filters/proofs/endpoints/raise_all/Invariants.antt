use Rattle.installed_filters.proofs.Walks.{Raising}
use Rattle.installed_filters.proofs.endpoints.raise_all.Given as goal

abbrev pub invariant-loop-entry : goal.invariant-loop-entry
invariant-loop-entry l = Raising l.all.entries l.entry-iterator l.initial.raises.items l.raises.items l.verdict
