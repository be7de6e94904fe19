use Rattle.sim_engine.specs.Keeping.{EmptyBefore}
use Rattle.sim_engine.proofs.requests.next_place.Given as goal

abbrev pub invariant-loop-place : goal.invariant-loop-place
invariant-loop-place l = EmptyBefore l.places l.place
