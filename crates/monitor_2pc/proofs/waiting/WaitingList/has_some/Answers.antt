use Rattle.monitor_2pc.proofs.Counts.{some_waits}
use Rattle.monitor_2pc.proofs.waiting.WaitingList.has_some.Goals as goal

pub returns : goal.returns
returns c = rw (← c.self.view_is) (some_waits c.self.inside.entries.items c.self.inside.count c.self.invariant)
