use Rattle.std.proofs.Common.{◌≡◌, ◌<◌, ℕ, None}
use Rattle.world_model.specs.Refusals.{waiting_at}
use Rattle.sim_engine.proofs.simulation.least_waiting.Given as goal

abbrev pub invariant-loop-core : goal.invariant-loop-core
invariant-loop-core g l = (less : ℕ) → less < l.core → waiting_at l.world less ≡ None
