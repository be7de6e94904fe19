use Rattle.world_core.proofs.Core0Moves.{core0_starts}
use Rattle.world_core.proofs.core0.LoggedCore0.begin.Goals as goal

pub returns-clause-starts : goal.returns-clause-starts
returns-clause-starts c = core0_starts c.args.self.now c.note.new.self c.args.op.now c.begin-told.result c.requires.idle (rw c.note.ensures.core (c.begin-told.ensures.starts c.args.op.now c.requires.tried)) (rw (← c.of.ensures) c.note.ensures.log) (rw (← c.of.ensures) c.note.ensures.begun)
