use Rattle.std.proofs.Common.{◌≡◌, ◌++◌, drop}
use Rattle.std.specs.List.{flat_map}
use Rattle.draw_engine.specs.Text.{open_row}
use Rattle.draw_engine.proofs.text.push_open_rows.Given as goal

abbrev pub invariant-loop-message : goal.invariant-loop-message
invariant-loop-message l = l.text.items ++ flat_map open_row (drop l.message-index l.left) ≡ l.fn.text.items ++ flat_map open_row l.left
