use Rattle.installed_filters.proofs.Under.{Gathering}
use Rattle.installed_filters.proofs.by_id.Rows.add_held.Given as goal

abbrev pub invariant-loop-entry : goal.invariant-loop-entry
invariant-loop-entry l = Gathering l.self.entries l.cap l.initial.held.entries l.held.entries l.entry-iterator
