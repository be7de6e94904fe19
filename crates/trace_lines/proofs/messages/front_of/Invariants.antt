use Rattle.std.proofs.Common.{◌≡◌, drop}
use Rattle.trace_lines.specs.Following.{front}
use Rattle.trace_lines.proofs.messages.front_of.Given as goal

abbrev pub invariant-loop-front : goal.invariant-loop-front
invariant-loop-front l = front l.from l.to (drop l.front-index l.fronts) ≡ front l.from l.to l.fronts
