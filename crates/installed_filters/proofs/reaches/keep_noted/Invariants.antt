use Rattle.installed_filters.proofs.Walks.{Noting}
use Rattle.installed_filters.proofs.reaches.keep_noted.Given as goal

abbrev pub invariant-loop-entry : goal.invariant-loop-entry
invariant-loop-entry l = Noting l.order.entries l.entry-iterator l.verdicts l.captured l.count l.kept
