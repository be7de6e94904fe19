use Rattle.std.proofs.Common.{◌≡◌, ◌∷◌, ◌∙◌, refl, ap, subst, rules}
use Rattle.std.specs.Prelude.{Some, None, slice_index_or}
use Rattle.filter_table.specs.declared.operation.Op.{Op}
use Rattle.monitor_messages.specs.declared.message.Message.TheVariants as message
use Rattle.core_steps.specs.declared.other_core.OtherCore.{OtherCore}
use Rattle.core_loop.specs.Sending.{IsPiece}
use Rattle.core_loop.proofs.Steps.{leads_submit}
use Rattle.core_loop.proofs.Carrying.{submit_carries}
use Rattle.core_loop.proofs.other_core.submit.Goals as goal

pub returns-clause-acts : goal.returns-clause-acts
returns-clause-acts g c = λ entry number.
    let view = g.L.Links.view in
    let front = c.in-Some-front.op.now in
    let popped = c.in-Some-next_request.op in
    let first : front ≡ slice_index_or c.args.requests.now.items 0 front = search rules in
    let rest : c.args.requests.now.items ≡ popped ∷ c.next_request.new.requests.items = search rules in
    let same : front ≡ popped = first ∙ (rw rest refl) in
    let piece : IsPiece c.in-Some.stamp (message.Submit popped) c.in-Ok.piece = subst (λ (o : Op). IsPiece c.in-Some.stamp (message.Submit o) c.in-Ok.piece) same c.in-Ok.ensures.1 in
    let answer = c.submit-answer.ensures.submits.is_answer in
    record {
      m = None;
      leads = leads_submit entry c.args.clock c.in-Some.stamp c.args.number c.args.core.now c.submit-answer.new.self popped c.submit-answer.result c.in-Some.ensures.some number c.submit-answer.ensures.submits c.submit-answer.ensures.next;
      carries = submit_carries _ (Some (message.Submit popped)) (view c.args.links.now) (view c.hand.new.links) (rw answer refl) (c.hand.ensures.there c.in-Some.stamp (message.Submit popped) piece) c.hand.ensures.elsewhere;
      same_budget = ap (λ (x : OtherCore). x.replica.budget) c.submit-answer.ensures.next;
    }
