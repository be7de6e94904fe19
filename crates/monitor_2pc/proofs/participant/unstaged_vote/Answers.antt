use Rattle.monitor_2pc.proofs.Ballots.{casts_short}
use Rattle.monitor_2pc.proofs.participant.unstaged_vote.Goals as goal

pub returns-in-Ok-clause-casts : goal.returns-in-Ok-clause-casts
returns-in-Ok-clause-casts c = λ short. casts_short short c.args.replica.now.shown c.args.replica.now.budget c.args.op.now c.in-Ok.ensures.ok c.in-Ok.ensures.fits
