use Rattle.std.proofs.Common.{◌≡◌, drop}
use Rattle.world_core.proofs.lines.drop_first_in.Given as goal

abbrev pub invariant-loop : goal.invariant-loop
invariant-loop l = l.lines.items ≡ drop l.counter l.fn.lines.items
