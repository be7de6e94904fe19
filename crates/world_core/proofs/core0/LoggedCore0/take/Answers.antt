use Rattle.world_core.proofs.Core0Moves.{core0_takes}
use Rattle.world_core.proofs.core0.LoggedCore0.take.Goals as goal

pub unreachable-requires : goal.unreachable-requires
unreachable-requires c = c.in_default.ensures.stranger c.requires.expects.0 c.requires.expects.1 c.requires.expects.2

pub returns : goal.returns
returns c = core0_takes c.args.self.now c.enter.new.self c.args.from c.args.message c.in-Ok.told c.requires.kept (rw c.enter.ensures.core c.in-Ok.ensures.taken) c.enter.ensures.log c.enter.ensures.begun
