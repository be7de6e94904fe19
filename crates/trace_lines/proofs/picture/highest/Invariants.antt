use Rattle.std.proofs.Common.{◌≡◌, drop}
use Rattle.std.specs.Prelude.{map}
use Rattle.trace_lines.specs.Links.{highest_from}
use Rattle.trace_lines.specs.Views.{shown}
use Rattle.trace_lines.proofs.picture.highest.Given as goal

abbrev pub invariant-loop-line : goal.invariant-loop-line
invariant-loop-line l = highest_from l.highest (map shown (drop l.line-index l.lines)) ≡ highest_from 0 (map shown l.lines)
