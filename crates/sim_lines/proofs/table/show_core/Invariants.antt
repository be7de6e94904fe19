use Rattle.std.proofs.Common.{◌≡◌, ◌++◌, string_bytes}
use Rattle.std.specs.List.{flat_map}
use Rattle.sim_lines.specs.Tables.{cap_line, filter_line, total_line}
use Rattle.sim_lines.proofs.table.show_core.Given as goal

abbrev pub invariant-loop-entry : goal.invariant-loop-entry
invariant-loop-entry l =
    string_bytes l.text ++ flat_map (λ entry. cap_line entry.1) l.entry-iterator ≡ total_line l.core l.replica.shown ++ flat_map cap_line l.replica.shown.caps.held

abbrev pub invariant-loop-filter : goal.invariant-loop-filter
invariant-loop-filter l =
    string_bytes l.text ++ flat_map filter_line l.filter-iterator
    ≡ total_line l.core l.replica.shown ++ flat_map cap_line l.replica.shown.caps.held ++ flat_map filter_line l.replica.shown.filters
