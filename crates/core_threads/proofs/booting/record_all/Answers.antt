use Rattle.core_threads.proofs.Recording.{next_none}
use Rattle.core_threads.proofs.booting.record_all.Goals as goal

pub new-requires : goal.new-requires
new-requires c = next_none c.args.cores.items c.loop-core.yielded _ _ c.in-Some.core c.requires c.loop-core.invariant.whole c.in-Some.ensures.steps.0
