use Rattle.std.proofs.Common.{◌≡◌, ◌∙◌, ◌++◌, drop, List, ap, refl}
use Rattle.std.specs.Prelude.{option_to_list}
use Rattle.monitor_messages.specs.declared.message.Message.{Message}
use Rattle.core_steps.specs.OtherCoreSteps.{Considers, TakesDown}
use Rattle.world_core.proofs.Keeping.{peer_takes}
use Rattle.world_core.proofs.peer.Peer.take_in.Goals as goal

pub returns-clause-takes : goal.returns-clause-takes
returns-clause-takes g c =
    let considers : Considers c.args.short c.args.self.now.core c.args.message.now c.in-Ok.reply c.ready_up.new.self.core = rw c.ready_up.ensures.core c.in-Ok.ensures.considers in
    let taken : TakesDown c.args.short c.args.self.now.core c.args.message.now c.put_up.new.self.core c.take-answer.result = rw c.put_up.ensures.core (c.take-answer.ensures.takes c.args.short c.args.self.now.core c.requires.between considers) in
    let up : g.C.Channel.messages c.put_up.new.self.up ≡ g.C.Channel.messages c.args.self.now.up ++ option_to_list c.in-Ok.reply =
    c.put_up.ensures.up c.in-Ok.reply c.in-Ok-ready_up.ensures.ready ∙ ap (λ (ms : List Message). ms ++ option_to_list c.in-Ok.reply) c.ready_up.ensures.up in
    let down : g.C.Channel.messages c.drop_first.new.self ≡ drop 1 (g.C.Channel.messages c.args.self.now.down) = rw (c.drop_first.ensures, c.put_up.ensures.down, c.ready_up.ensures.down) refl in
    peer_takes g.C.Channel.messages c.args.short c.args.self.now _ c.args.message.now c.in-Ok.reply c.take-answer.result c.requires.oldest taken c.take-answer.ensures.sent down up
