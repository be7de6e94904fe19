use Rattle.monitor_2pc.proofs.Ballots.{casts_yes}
use Rattle.monitor_2pc.proofs.participant.staged_vote.Goals as goal

pub returns-in-Ok-clause-casts : goal.returns-in-Ok-clause-casts
returns-in-Ok-clause-casts c = casts_yes c.args.short c.args.replica.now.shown c.args.replica.now.budget c.args.op.now c.if-short.false c.in-Ok.ensures.ok c.in-Ok.ensures.fits

pub returns-then-short-clause-casts : goal.returns-then-short-clause-casts
returns-then-short-clause-casts c = c.unstaged_vote.ensures.casts c.args.short

pub returns-in-Err-clause-casts : goal.returns-in-Err-clause-casts
returns-in-Err-clause-casts c = rw (← c.stage.ensures.shown, ← c.stage.ensures.budget) (c.unstaged_vote-in-Err.ensures.casts c.args.short)
