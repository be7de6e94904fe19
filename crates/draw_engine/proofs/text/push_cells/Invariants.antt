use Rattle.std.proofs.Common.{◌≡◌, ◌+◌, ◌-◌, ◌++◌}
use Rattle.std.specs.List.{flat_map, range_with_len}
use Rattle.trace_lines.specs.Views.{drawn}
use Rattle.draw_engine.specs.Svg.{cores}
use Rattle.draw_engine.specs.Text.{core_cell}
use Rattle.draw_engine.proofs.text.push_cells.Given as goal

abbrev pub invariant-loop-core : goal.invariant-loop-core
invariant-loop-core l =
    l.text.items ++ flat_map (core_cell (drawn l.row)) (range_with_len l.core (l.highest + 1 - l.core))
    ≡ l.fn.text.items ++ flat_map (core_cell (drawn l.row)) (cores l.highest)
