use Rattle.core_threads.proofs.Outlets.{outlets_itself, outlets_along}
use Rattle.core_threads.proofs.feeding.put_jobs.Goals as goal

pub loop-init : goal.loop-init
loop-init g c = outlets_itself _

pub loop-preserved-in-Moved : goal.loop-preserved-in-Moved
loop-preserved-in-Moved g c = outlets_along _ _ _ c.loop.invariant c.put_some.ensures

pub loop-preserved : goal.loop-preserved
loop-preserved g c = outlets_along _ _ _ c.loop.invariant c.put_some.ensures

pub returns-in-Done : goal.returns-in-Done
returns-in-Done g c = outlets_along _ _ _ c.loop.invariant c.put_some.ensures
