use Rattle.std.proofs.Common.{map}
use Rattle.mkdemux_cores.specs.Rows.{filter_row, filter_rows}
use Rattle.mkdemux_cores.proofs.Laying.{Lays}
use Rattle.mkdemux_cores.proofs.filters.list_filters.Given as goal

abbrev pub invariant-loop-filter : goal.invariant-loop-filter
invariant-loop-filter l = Lays (filter_rows l.from l.replica.shown.filters) (map filter_row l.filter-iterator) l.initial.room l.room l.count
