use Rattle.std.proofs.Common.{◌≡◌, sym, subst, arith}
use Rattle.world_model.specs.Cases.{Outgoing, outgoing}
use Rattle.world_histories.specs.Histories.{Stamping}
use Rattle.core_steps.specs.Core0Steps.{core0_place}
use Rattle.core_loop.specs.Carrying.{HandsOut}
use Rattle.std.specs.Prelude.{Some}
use Rattle.core_loop.proofs.Steps.{leads_take}
use Rattle.core_loop.proofs.Carrying.{takes_first, take_carries}
use Rattle.core_loop.proofs.core0.take.Goals as goal

pub returns-clause-acts : goal.returns-clause-acts
returns-clause-acts g c =
    let view = g.L.Links.view in
    let told = c.in-Ok-take.told in
    let t = c.in-Ok-take.ensures.taken in
    let s = c.in-Ok.ensures.sends in
    let m : Stamping = record { stamp = c.args.sent; message = c.args.message } in
    let out : Outgoing = outgoing told.step (core0_place c.take.new.self) in
    let is : out ≡ s.0 = s.3 c.take.new.self told t in
    let handed : HandsOut c.args.others c.in-Ok.sending.stamp out (view c.give_up.new.self) (view c.send.new.links) =
    subst (λ (o : Outgoing). HandsOut c.args.others c.in-Ok.sending.stamp o (view c.give_up.new.self) (view c.send.new.links)) (sym is) (c.send.ensures.sent c.in-Ok.sending.stamp s.0 s.1) in
    let given = c.give_up.ensures.given in
    rw c.put.ensures (record {
      m = Some m;
      out = out;
      leads = leads_take c.args.others c.args.clock c.in-Ok.sending.stamp c.args.peer c.args.core.now c.take.new.self m told c.in-Ok.ensures.stamp t;
      carries = take_carries c.args.others c.in-Ok.sending.stamp c.args.peer t.entry told.answer m out (view c.args.links.now) (view c.give_up.new.self) (view c.send.new.links) t.is_core (omega (arith, t.is_core, c.requires.other)) (takes_first _ _ m c.requires.first given.1) given.2 handed;
      same_budget = t.moves.same_budget;
    })
