use Rattle.std.proofs.Common.{◌≡◌, ◌+◌, ◌-◌, ◌++◌}
use Rattle.std.specs.List.{flat_map, range_with_len}
use Rattle.draw_engine.specs.Svg.{column, cores}
use Rattle.draw_engine.proofs.svg.push_columns.Given as goal

abbrev pub invariant-loop-core : goal.invariant-loop-core
invariant-loop-core l =
    l.text.items ++ flat_map (column l.bottom) (range_with_len l.core (l.highest + 1 - l.core))
    ≡ l.fn.text.items ++ flat_map (column l.bottom) (cores l.highest)
