use Rattle.std.proofs.Common.{◌∙◌, ◌++◌, None, Some, slice_set, ap, sym, subst}
use Rattle.sim_lines.specs.Events.{event_line}
use Rattle.sim_engine.specs.declared.way.Way.{Way}
use Rattle.sim_engine.specs.Pending.{left}
use Rattle.sim_engine.specs.Simulations.{Tells}
use Rattle.sim_engine.specs.Ways.{event_of}
use Rattle.sim_engine.proofs.Places.{next_left}
use Rattle.sim_engine.proofs.simulation.begin_at.Goals as goal
use Rattle.std.proofs.lemmas.Option.{slice_get_within as inside}

pub remove-requires : goal.remove-requires
remove-requires g c = inside c.args.requests.now c.args.place (Some c.requires.request) c.requires.at

pub returns-then-not-branch : goal.returns-then-not-branch
returns-then-not-branch g c =
    let e = c.in_ok-begin_one.ensures in
    let first = next_left c.args.requests.now c.args.place c.in-Some.request.now c.in-Some.ensures.some c.requires.before in (
      c.in-Some.request.now,
      left (slice_set c.args.requests.now c.args.place None),
      e.0,
      first,
      subst (λ (b : Way). Tells c.args.world.now (event_of b c.in-Some.request.now.op) e.0 c.begin_one.new.world) c.of-by.ensures e.1,
      e.2 ∙ ap (λ (b : Way). c.args.text.now.items ++ event_line (event_of b c.in-Some.request.now.op) e.0) c.of-by.ensures,
      sym c.if-not-branch.true ∙ e.3,
      first,
    )

pub returns : goal.returns
returns g c =
    let e = c.in_ok-begin_one.ensures in
    let first = next_left c.args.requests.now c.args.place c.in-Some.request.now c.in-Some.ensures.some c.requires.before in (
      c.in-Some.request.now,
      left (slice_set c.args.requests.now c.args.place None),
      e.0,
      first,
      subst (λ (b : Way). Tells c.args.world.now (event_of b c.in-Some.request.now.op) e.0 c.begin_one.new.world) c.of-by.ensures e.1,
      e.2 ∙ ap (λ (b : Way). c.args.text.now.items ++ event_line (event_of b c.in-Some.request.now.op) e.0) c.of-by.ensures,
      sym c.if-not-branch.false ∙ e.3,
      ap left c.remove.ensures,
    )
