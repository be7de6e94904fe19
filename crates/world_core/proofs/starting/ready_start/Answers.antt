use Rattle.std.proofs.Common.{subst}
use Rattle.world_model.specs.Cases.{Outgoing}
use Rattle.world_core.specs.Sending.{IsReady}
use Rattle.world_core.proofs.Begin.{ok_shows}
use Rattle.world_core.proofs.Carried.{readied_none}
use Rattle.world_core.proofs.starting.ready_start.Goals as goal

pub returns-in_err-outgoing-clause-peers : goal.returns-in_err-outgoing-clause-peers
returns-in_err-outgoing-clause-peers g c = readied_none g.C.Channel.messages c.args.peers.now

pub returns-clause-ready : goal.returns-clause-ready
returns-clause-ready g c = ok_shows c.make_ready-ready.result _ _ (λ ready is_ready. subst (λ (out : Outgoing). IsReady g.C.Channel.spare g.C.Channel.made_for c.make_ready-ready.new.peers out ready) c.in_ok-outgoing.ensures.sends is_ready) c.make_ready-ready.ensures.ready
