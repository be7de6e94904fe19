use Rattle.sim_engine.specs.Keeping.{NoneBefore}
use Rattle.sim_engine.proofs.requests.next_at.Given as goal

abbrev pub invariant-loop-place : goal.invariant-loop-place
invariant-loop-place l = NoneBefore l.places l.home l.place
