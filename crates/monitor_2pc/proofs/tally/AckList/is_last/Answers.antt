use Rattle.monitor_2pc.proofs.Counts.{last_marked}
use Rattle.monitor_2pc.proofs.tally.AckList.is_last.Goals as goal

pub returns : goal.returns
returns c = rw (← c.self.view_is) (last_marked c.self.inside.acks.items c.args.entry c.self.inside.missing c.self.invariant)
