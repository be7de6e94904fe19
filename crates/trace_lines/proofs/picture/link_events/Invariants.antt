use Rattle.std.proofs.Common.{drop}
use Rattle.std.specs.Prelude.{map}
use Rattle.trace_lines.specs.Views.{drawn, shown}
use Rattle.trace_lines.proofs.Linking.{Linked}
use Rattle.trace_lines.proofs.picture.link_events.Given as goal

abbrev pub invariant-loop-row : goal.invariant-loop-row
invariant-loop-row l = Linked l.highest l.row (map shown l.lines) (map drawn l.rows.items) (map shown (drop l.row l.lines)) l.state
