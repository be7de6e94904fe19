use Rattle.std.proofs.Common.{◌≡◌, refl, sym, subst}
use Rattle.std.specs.Prelude.{None}
use Rattle.world_model.specs.Cases.{Outgoing, outgoing}
use Rattle.core_steps.specs.declared.core0.Core0.{Core0}
use Rattle.core_steps.specs.Core0Steps.{core0_place, StartsForCore, start_for_sends}
use Rattle.core_loop.specs.Carrying.{HandsOut}
use Rattle.core_loop.proofs.Steps.{staging, idle_staged, waits_on, leads_start_for}
use Rattle.core_loop.proofs.Handing.{carry_where_ready}
use Rattle.core_loop.proofs.Carrying.{start_carries}
use Rattle.core_loop.proofs.core0.start_for.Goals as goal

pub send-requires-clause-made : goal.send-requires-clause-made
send-requires-clause-made g c =
    let t = c.in-Some-stage_for.ensures.tried in
    let w = waits_on c.args.core.now c.stage_for.new.self c.stage_for.new.self.replica.staged c.args.from t.0 t.1 c.stage_for.ensures.same t.2 in
    let out = start_for_sends t.0 c.stage_for.new.self t.1 c.in-Some-stage_for.fault in
    (c.in-Some.stamp, out, c.in-Ok.ensures.made t.0 t.1 w, carry_where_ready c.args.others out (g.L.Links.view c.args.links.now) c.requires.ready)

pub returns-clause-acts : goal.returns-clause-acts
returns-clause-acts g c =
    let view = g.L.Links.view in
    let core = c.args.core.now in
    let told = c.begin_for-told.result in
    let x = c.stage_for.new.self.replica.staged in
    let tried = c.in-Some-stage_for.ensures.tried in
    let w = waits_on core c.stage_for.new.self x c.args.from tried.0 tried.1 c.stage_for.ensures.same tried.2 in
    let t' = c.begin_for-told.ensures.starts tried.0 tried.2.is_core in
    let t : StartsForCore (staging core x) tried.0 c.begin_for-told.new.self told = subst (λ (s : Core0). StartsForCore s tried.0 c.begin_for-told.new.self told) c.stage_for.ensures.same t' in
    let out : Outgoing = outgoing told.step (core0_place c.begin_for-told.new.self) in
    let sends = start_for_sends tried.0 c.stage_for.new.self tried.1 c.in-Some-stage_for.fault in
    let is : out ≡ sends = c.begin_for-told.ensures.sends tried.0 tried.1 w in
    let handed : HandsOut c.args.others c.in-Some.stamp out (view c.args.links.now) (view c.send.new.links) =
    subst (λ (o : Outgoing). HandsOut c.args.others c.in-Some.stamp o (view c.args.links.now) (view c.send.new.links)) (sym is) (c.send.ensures.sent c.in-Some.stamp sends (c.in-Ok.ensures.made tried.0 tried.1 w)) in
    rw c.put.ensures (record {
      m = None;
      out = out;
      leads = leads_start_for c.args.others c.args.clock c.in-Some.stamp c.args.from tried.0 core x c.begin_for-told.new.self told c.in-Some.ensures.some tried.2.is_core (idle_staged core c.requires.idle c.requires.between) t;
      carries = start_carries c.args.others _ out (view c.args.links.now) (view c.send.new.links) refl handed;
      same_budget = t.moves.same_budget;
    })

pub returns-clause-between : goal.returns-clause-between
returns-clause-between g c =
    let tried = c.in-Some-stage_for.ensures.tried in
    (c.begin_for-told.ensures.starts tried.0 tried.2.is_core).moves.between
