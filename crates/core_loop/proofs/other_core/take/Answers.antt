use Rattle.std.proofs.Common.{◌∙◌, false}
use Rattle.std.specs.Prelude.{Some}
use Rattle.world_histories.specs.Histories.{Stamping}
use Rattle.core_steps.specs.OtherCoreSteps.{TakesDown}
use Rattle.core_loop.proofs.Steps.{leads_take_other, sent_by_take}
use Rattle.core_loop.proofs.Carrying.{takes_first, take_carries_other, reply_goes}
use Rattle.core_loop.proofs.other_core.take.Goals as goal

pub send_reply-requires : goal.send_reply-requires
send_reply-requires g c =
    let view = g.L.Links.view in
    reply_goes false c.args.core.now c.args.message.now c.in-Ok.reply _ (view c.give_up.new.self 0) c.in-Ok.ensures.considers (λ some. c.give_up.ensures.given.1.ready ∙ c.in-Ok-stamp_of_reply.ensures.ready some)

pub returns-clause-acts : goal.returns-clause-acts
returns-clause-acts g c = rw c.put.ensures (λ entry number.
    let view = g.L.Links.view in
    let stamp = c.in-Ok-stamp_of_reply.stamp in
    let answer = c.take-answer.result in
    let m : Stamping = record { stamp = c.args.sent; message = c.args.message.now } in
    let t : TakesDown false c.args.core.now c.args.message.now c.take-answer.new.self answer = c.take-answer.ensures.takes false c.args.core.now c.requires.between c.in-Ok.ensures.considers in
    let given = c.give_up.ensures.given in
    record {
      m = Some m;
      leads = leads_take_other entry c.args.clock stamp c.args.number c.args.core.now c.take-answer.new.self m answer c.in-Ok-stamp_of_reply.ensures.stamp number t;
      carries = take_carries_other _ m c.in-Ok.reply (view c.args.links.now) (view c.give_up.new.self) (view c.send_reply.new.links) (sent_by_take c.args.number 0 false answer ∙ c.take-answer.ensures.sent false) (takes_first _ _ m c.requires.first given.1) given.2 c.send_reply.ensures.there c.send_reply.ensures.elsewhere;
      same_budget = t.same_budget;
    })
