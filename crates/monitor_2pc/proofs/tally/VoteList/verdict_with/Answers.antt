use Rattle.monitor_2pc.proofs.Counts.{missing_after}
use Rattle.monitor_2pc.proofs.tally.VoteList.verdict_with.Goals as goal

pub returns-then-self-gt1 : goal.returns-then-self-gt1
returns-then-self-gt1 c = rw (← c.self.view_is) (missing_after c.self.inside.votes.items c.args.entry c.self.inside.missing c.args.vote c.self.invariant.1 c.if-self-gt1.true)
