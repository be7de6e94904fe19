use Rattle.world_core.proofs.Moving.{room_to_all, room_to_one, sent_to_none, sent_to_all, sent_to_one}
use Rattle.world_core.proofs.sending.send.Goals as goal

pub put_all-requires-clause-room : goal.put_all-requires-clause-room
put_all-requires-clause-room g c = (room_to_all g.C.Channel.spare c.args.peers.now c.args.ready c.in-ToAll.pieces c.in-ToAll.is c.requires).0

pub put_all-requires-clause-count : goal.put_all-requires-clause-count
put_all-requires-clause-count g c = (room_to_all g.C.Channel.spare c.args.peers.now c.args.ready c.in-ToAll.pieces c.in-ToAll.is c.requires).1

pub put_at-requires-clause-inside : goal.put_at-requires-clause-inside
put_at-requires-clause-inside g c = (room_to_one g.C.Channel.spare c.args.peers.now c.args.ready c.in-ToOne.entry c.in-ToOne.piece c.in-ToOne.is c.requires).0

pub put_at-requires-clause-room : goal.put_at-requires-clause-room
put_at-requires-clause-room g c = (room_to_one g.C.Channel.spare c.args.peers.now c.args.ready c.in-ToOne.entry c.in-ToOne.piece c.in-ToOne.is c.requires).1

pub returns-in-Nothing : goal.returns-in-Nothing
returns-in-Nothing g c = λ out made. sent_to_none g.C.Channel.made_for g.C.Channel.messages c.args.peers.now out c.args.ready c.in-Nothing.is made

pub returns-in-ToAll : goal.returns-in-ToAll
returns-in-ToAll g c = λ out made. sent_to_all g.C.Channel.made_for g.C.Channel.messages c.args.peers.now c.put_all.new.peers out c.args.ready c.in-ToAll.pieces c.in-ToAll.is c.put_all.ensures made

pub returns-in-ToOne : goal.returns-in-ToOne
returns-in-ToOne g c = λ out made. sent_to_one g.C.Channel.made_for g.C.Channel.messages c.args.peers.now c.put_at.new.peers out c.args.ready c.in-ToOne.entry c.in-ToOne.piece c.in-ToOne.is c.put_at.ensures made
