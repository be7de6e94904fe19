use Rattle.world_core.proofs.Joined.{HasJoined}
use Rattle.world_core.proofs.lines.join.Given as goal

abbrev pub invariant-loop-place : goal.invariant-loop-place
invariant-loop-place l = HasJoined l.joiner l.lines.items l.place
