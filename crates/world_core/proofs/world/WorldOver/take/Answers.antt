use Rattle.world_core.proofs.world.WorldOver.take.Goals as goal

pub returns-then-to-eq0-clause-fault : goal.returns-then-to-eq0-clause-fault
returns-then-to-eq0-clause-fault g c = rw c.if-to-eq0.true (c.take_up.ensures.fault c.args.short)
