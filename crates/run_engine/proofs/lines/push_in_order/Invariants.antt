use Rattle.std.proofs.Common.{◌≡◌, ◌++◌, drop, string_bytes}
use Rattle.run_engine.specs.Showing.{left_lines}
use Rattle.run_engine.proofs.lines.push_in_order.Given as goal

abbrev pub invariant-loop-core : goal.invariant-loop-core
invariant-loop-core l = string_bytes l.text ++ left_lines (drop l.core-index l.left) ≡ string_bytes l.fn.text ++ left_lines l.left
