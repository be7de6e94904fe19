use Rattle.std.proofs.Common.{◌≡◌, ◌++◌, drop}
use Rattle.draw_engine.specs.Svg.{open_from}
use Rattle.draw_engine.proofs.svg.push_all_open.Given as goal

abbrev pub invariant-loop-place : goal.invariant-loop-place
invariant-loop-place l = l.text.items ++ open_from l.highest l.rows l.place (drop l.place l.left) ≡ l.fn.text.items ++ open_from l.highest l.rows 0 l.left
