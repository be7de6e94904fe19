use Rattle.std.proofs.Common.{◌≡◌, length}
use Rattle.console.specs.Telling.{is_expression}
use Rattle.console.proofs.expression.is_expression.Given as goal

abbrev pub invariant-loop-byte : goal.invariant-loop-byte
invariant-loop-byte l = is_expression l.rest ≡ is_expression l.code

abbrev pub decreases-loop-byte : goal.decreases-loop-byte
decreases-loop-byte l = length l.rest
