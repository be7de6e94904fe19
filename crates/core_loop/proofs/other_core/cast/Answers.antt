use Rattle.std.proofs.Common.{◌∙◌, false}
use Rattle.std.specs.Prelude.{Some}
use Rattle.monitor_messages.specs.declared.message.Message.TheVariants.{Prepare, Vote}
use Rattle.world_histories.specs.Histories.{Stamping}
use Rattle.core_steps.specs.OtherCoreSteps.{TakesDown}
use Rattle.core_loop.proofs.Steps.{leads_take_other, sent_by_take}
use Rattle.core_loop.proofs.Carrying.{takes_first, take_carries_other}
use Rattle.core_loop.proofs.other_core.cast.Goals as goal

pub returns-clause-acts : goal.returns-clause-acts
returns-clause-acts g c = λ entry number.
    let view = g.L.Links.view in
    let stamp = c.in-Some.stamp in
    let op = c.requires.ballot.0 in
    let answer = c.cast-answer.result in
    let ballot = c.args.ballot in
    let m : Stamping = record { stamp = ballot.stamp; message = Prepare ballot.txn op } in
    let t : TakesDown false c.args.core.now m.message c.cast-answer.new.self answer = c.cast-answer.ensures.takes op false c.args.core.now c.requires.between (c.requires.ballot.2 false) in
    let given = c.give_up.ensures.given in
    record {
      m = Some m;
      leads = leads_take_other entry c.args.clock stamp c.args.number c.args.core.now c.cast-answer.new.self m answer c.in-Some.ensures.some number t;
      carries = take_carries_other _ m (Some (Vote ballot.txn ballot.vote)) (view c.args.links.now) (view c.give_up.new.self) (view c.send_answer.new.links) (sent_by_take c.args.number 0 false answer ∙ c.cast-answer.ensures.sent false)
          (takes_first _ _ m c.requires.ballot.1 given.1) given.2 c.send_answer.ensures.there c.send_answer.ensures.elsewhere;
      same_budget = t.same_budget;
    }
