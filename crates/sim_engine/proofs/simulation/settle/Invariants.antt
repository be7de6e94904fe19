use Rattle.std.proofs.Common.{◌≡◌, ◌++◌, ℕ, List}
use Rattle.sim_engine.specs.Simulations.{Simulation, SettlesAll, sim}
use Rattle.sim_engine.specs.Settling.{most_left}
use Rattle.sim_engine.proofs.simulation.settle.Given as goal

abbrev pub invariant-requests : goal.invariant-requests
invariant-requests g l = (s' : Simulation) (later : List ℕ) → SettlesAll (sim l.world l.requests) s' later
    → (all : List ℕ) × SettlesAll (sim l.initial.world l.initial.requests) s' all × (l.text.items ++ later ≡ l.initial.text.items ++ all)

abbrev pub decreases-requests : goal.decreases-requests
decreases-requests g l = most_left (sim l.world l.requests)
