use Rattle.std.proofs.Common.{◌≡◌, ◌++◌, drop}
use Rattle.std.specs.Prelude.{map}
use Rattle.std.specs.List.{flat_map}
use Rattle.trace_lines.specs.Views.{drawn}
use Rattle.draw_engine.specs.Svg.{mark}
use Rattle.draw_engine.proofs.svg.push_marks.Given as goal

abbrev pub invariant-loop-row : goal.invariant-loop-row
invariant-loop-row l = l.text.items ++ flat_map (mark l.highest) (map drawn (drop l.row-index l.rows)) ≡ l.fn.text.items ++ flat_map (mark l.highest) (map drawn l.rows)
