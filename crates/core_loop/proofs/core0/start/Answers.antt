use Rattle.std.proofs.Common.{◌≡◌, ◌∷◌, ◌∙◌, refl, sym, subst, rules}
use Rattle.std.specs.Prelude.{None, slice_index_or}
use Rattle.filter_table.specs.declared.operation.Op.{Op}
use Rattle.world_model.specs.Cases.{Outgoing, outgoing}
use Rattle.core_steps.specs.declared.core0.Core0.{Core0}
use Rattle.core_steps.specs.Core0Steps.{core0_place, Starts, start_sends}
use Rattle.core_loop.specs.Carrying.{HandsOut}
use Rattle.core_loop.proofs.Steps.{staging, idle_staged, leads_start}
use Rattle.core_loop.proofs.Carrying.{start_carries}
use Rattle.core_loop.proofs.core0.start.Goals as goal

pub returns-clause-acts : goal.returns-clause-acts
returns-clause-acts g c =
    let view = g.L.Links.view in
    let core = c.args.core.now in
    let told = c.begin-told.result in
    let x = c.stage-fault.new.self.replica.staged in
    let front = c.in-Some-front.op.now in
    let popped = c.in-Some-next_request.op in
    let first : front ≡ slice_index_or c.args.requests.now.items 0 front = search rules in
    let rest : c.args.requests.now.items ≡ popped ∷ c.next_request.new.requests.items = search rules in
    let same : front ≡ popped = first ∙ (rw rest refl) in
    let tried = c.stage-fault.ensures.tried in
    let t' : Starts c.stage-fault.new.self front c.begin-told.new.self told = c.begin-told.ensures.starts front tried in
    let t : Starts (staging core x) popped c.begin-told.new.self told = subst (λ (o : Op). Starts (staging core x) o c.begin-told.new.self told) same (subst (λ (s : Core0). Starts s front c.begin-told.new.self told) c.stage-fault.ensures.same t') in
    let out : Outgoing = outgoing told.step (core0_place c.begin-told.new.self) in
    let is : out ≡ start_sends c.stage-fault.new.self front c.stage-fault.result = c.begin-told.ensures.sends front tried in
    let handed : HandsOut c.args.others c.in-Some.stamp out (view c.args.links.now) (view c.send.new.links) =
    subst (λ (o : Outgoing). HandsOut c.args.others c.in-Some.stamp o (view c.args.links.now) (view c.send.new.links)) (sym is) (c.send.ensures.sent c.in-Some.stamp (start_sends c.stage-fault.new.self front c.stage-fault.result) c.in-Ok.ensures.made) in
    rw c.put.ensures (record {
      m = None;
      out = out;
      leads = leads_start c.args.others c.args.clock c.in-Some.stamp core x c.begin-told.new.self popped told c.in-Some.ensures.some (idle_staged core c.requires.idle c.requires.between) t;
      carries = start_carries c.args.others _ out (view c.args.links.now) (view c.send.new.links) refl handed;
      same_budget = t.moves.same_budget;
    })

pub returns-clause-between : goal.returns-clause-between
returns-clause-between g c = (c.begin-told.ensures.starts c.in-Some-front.op.now c.stage-fault.ensures.tried).moves.between
