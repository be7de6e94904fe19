use Rattle.installed_filters.proofs.Under.{Finding}
use Rattle.installed_filters.proofs.by_id.Rows.lapsing_under.Given as goal

abbrev pub invariant-loop-entry : goal.invariant-loop-entry
invariant-loop-entry l = Finding l.self.entries l.gone.entries l.lapsing.entries l.entry-iterator
