use Rattle.world_core.proofs.Begin.{ok_stays}
use Rattle.world_core.proofs.Carried.{readied_at, room_here}
use Rattle.world_core.proofs.peer.ready_at.Goals as goal

pub returns-clause-seen : goal.returns-clause-seen
returns-clause-seen g c = readied_at g.C.Channel.messages c.args.peers.now c.args.entry c.index-peers-entry.result c.ready_down.new.self c.requires.inside c.ready_down.ensures.seen

pub returns-clause-room : goal.returns-clause-room
returns-clause-room g c = ok_stays c.ready_down.result _ _ (room_here g.C.Channel.spare c.args.peers.now c.args.entry c.ready_down.new.self c.requires.inside) c.ready_down.ensures.room

pub returns-clause-piece : goal.returns-clause-piece
returns-clause-piece g c = c.ready_down.ensures.piece

pub ready_down-requires-clause-short : goal.ready_down-requires-clause-short
ready_down-requires-clause-short g c = c.requires.short

pub ready_down-requires-clause-numbered : goal.ready_down-requires-clause-numbered
ready_down-requires-clause-numbered g c = c.requires.numbered

pub bounds-peers-entry : goal.bounds-peers-entry
bounds-peers-entry g c = c.requires.inside
