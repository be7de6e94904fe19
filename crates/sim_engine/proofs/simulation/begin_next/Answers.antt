use Rattle.std.proofs.Common.{◌∙◌, ◌∷◌, [], Bool, ap, sym, subst}
use Rattle.std.proofs.lemmas.List.{append-nil}
use Rattle.world_events.specs.declared.event.Event.TheVariants.{StartFor}
use Rattle.sim_lines.specs.Events.{event_line}
use Rattle.sim_engine.specs.Pending.{left, IsLeft}
use Rattle.sim_engine.specs.Simulations.{BeginsNext, sim}
use Rattle.sim_engine.specs.Ways.{event_of, way_of}
use Rattle.sim_engine.proofs.Begin.{if_ok, next_ends, next_waits, next_asked}
use Rattle.sim_engine.proofs.simulation.begin_next.Goals as goal

pub returns-in-Some : goal.returns-in-Some
returns-in-Some g c =
    if_ok c.tell.result c.tell.ensures (λ done e. (
      event_line (StartFor c.in-Some.core) e.0,
      subst (λ (b : Bool). BeginsNext (sim c.args.world.now c.args.requests.now) (sim c.tell.new.world c.args.requests.now) (event_line (StartFor c.in-Some.core) e.0) b) (sym e.3)
          (next_waits c.args.world.now c.tell.new.world c.args.requests.now c.in-Some.core c.in-Some.ensures.0 c.in-Some.ensures.1 c.in-Some.ensures.2 e.0 e.1),
      e.2,
    ))

pub returns-in-Some-first : goal.returns-in-Some-first
returns-in-Some-first g c =
    if_ok c.begin_at.result c.begin_at.ensures (λ done e. (
      event_line (event_of (way_of e.0.home) e.0.op) e.2,
      subst (λ (b : Bool). BeginsNext (sim c.args.world.now c.args.requests.now) (sim c.begin_at.new.world c.begin_at.new.requests) (event_line (event_of (way_of e.0.home) e.0.op) e.2) b) (sym e.6)
          (next_asked c.args.world.now c.begin_at.new.world c.args.requests.now c.begin_at.new.requests e.0 e.1 c.in_default.ensures (ap left (sym c.first.ensures.same) ∙ e.3) e.2 e.4
          (subst (λ (b : Bool). IsLeft b (e.0 ∷ e.1) e.1 (left c.begin_at.new.requests)) e.6 e.7)),
      e.5,
    ))

pub returns-in-None : goal.returns-in-None
returns-in-None g c = ([], next_ends c.args.world.now c.args.requests.now c.first.new.self c.in_default.ensures c.in-None.ensures.found c.in-None.ensures.same, sym (append-nil c.args.text.now.items))
