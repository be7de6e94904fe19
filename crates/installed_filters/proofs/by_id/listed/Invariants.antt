use Rattle.std.proofs.Common.{◌≡◌, ◌++◌}
use Rattle.installed_filters.proofs.by_id.listed.Given as goal

abbrev pub invariant-loop-entry : goal.invariant-loop-entry
invariant-loop-entry l = l.list.items ++ l.entry-iterator ≡ l.rows.entries
