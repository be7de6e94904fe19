use Rattle.sim_engine.proofs.Waiting.{none_waits}
use Rattle.sim_engine.proofs.simulation.least_waiting.Goals as goal

pub returns-in_default : goal.returns-in_default
returns-in_default g c = let run = c.in_default.ensures.reached in none_waits run.0 run.1 run.2 c.args.world.now c.loop-core.core run.3 c.in_default.ensures.none c.loop-core.invariant
