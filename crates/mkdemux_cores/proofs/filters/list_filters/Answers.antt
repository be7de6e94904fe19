use Rattle.std.proofs.Common.{◌∷◌, ◌∙◌, map, ap, sym, arith}
use Rattle.mkdemux_cores.specs.declared.filters.FilterRow.{FilterRow}
use Rattle.mkdemux_cores.specs.Rows.{filter_row}
use Rattle.mkdemux_cores.proofs.Laying.{lays_one}
use Rattle.mkdemux_cores.proofs.filters.list_filters.Goals as goal

pub loop-filter-preserved : goal.loop-filter-preserved
loop-filter-preserved c =
    lays_one _ _ (map filter_row c.next.new.self) _ _ _ c.row_of.result c.loop-filter.invariant
    (ap (map filter_row) c.in-Some.ensures.steps ∙ ap (λ (row : FilterRow). row ∷ map filter_row c.next.new.self) (sym c.row_of.ensures)) (omega arith)
