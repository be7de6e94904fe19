use Rattle.std.proofs.Common.{◌≡◌, drop}
use Rattle.std.specs.Prelude.{map}
use Rattle.trace_lines.specs.Views.{drawn}
use Rattle.draw_engine.specs.Svg.{longest_from}
use Rattle.draw_engine.proofs.svg.longest.Given as goal

abbrev pub invariant-loop-row : goal.invariant-loop-row
invariant-loop-row l = longest_from l.longest (map drawn (drop l.row-index l.rows)) ≡ longest_from 0 (map drawn l.rows)
