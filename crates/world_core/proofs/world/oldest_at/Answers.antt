use Rattle.world_core.proofs.EventKeeping.{first_at, some_at}
use Rattle.world_core.proofs.world.oldest_at.Goals as goal

pub returns-clause-ok : goal.returns-clause-ok
returns-clause-ok g c = first_at g.C.Channel.messages c.args.peers.now c.args.entry c.index-peers-entry.result c.requires c.first.result c.first.ensures.ok

pub returns-clause-err : goal.returns-clause-err
returns-clause-err g c = some_at g.C.Channel.messages c.args.peers.now c.args.entry c.index-peers-entry.result c.requires c.first.result c.first.ensures.err
