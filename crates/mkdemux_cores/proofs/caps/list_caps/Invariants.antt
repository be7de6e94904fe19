use Rattle.std.proofs.Common.{map}
use Rattle.mkdemux_cores.specs.Rows.{cap_row, cap_rows}
use Rattle.mkdemux_cores.proofs.Laying.{Lays}
use Rattle.mkdemux_cores.proofs.caps.list_caps.Given as goal

abbrev pub invariant-loop-entry : goal.invariant-loop-entry
invariant-loop-entry l = Lays (cap_rows l.from l.caps.table.held) (map (λ entry. cap_row entry.1) l.entry-iterator) l.initial.room l.room l.count
