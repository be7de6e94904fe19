use Rattle.std.proofs.Common.{◌≡◌, ◌<◌, ◌∙◌, List, Option, Some, None, slice_get, slice_set, length, sym, subst, ap}
use Rattle.sim_engine.specs.declared.requests.PendingRequest.{PendingRequest}
use Rattle.sim_lines.specs.Events.{event_line}
use Rattle.sim_engine.specs.Ways.{event_of}
use Rattle.sim_engine.specs.Simulations.{Begins, sim, nothing_line}
use Rattle.sim_engine.proofs.Begin.{begins_nothing, begins_done, begins_refused}
use Rattle.sim_engine.proofs.simulation.begin.Goals as goal
use Rattle.std.proofs.lemmas.Option.{slice_get_within as inside}

pub returns-in_default : goal.returns-in_default
returns-in_default g c = (nothing_line c.args.by, begins_nothing c.args.world.now c.args.requests.now c.first_at.new.self c.args.by c.home.result c.home.ensures c.in_default.ensures.same c.in_default.ensures.found, c.in_ok-push_nothing.ensures)

pub remove-requires : goal.remove-requires
remove-requires g c = subst (λ (ps : List (Option PendingRequest)). c.in-Some.place < length ps) (sym c.in-Some.ensures.same) (inside c.args.requests.now c.in-Some.place (Some c.in-Some.ensures.found.request) c.in-Some.ensures.found.at)

pub returns-then-branch : goal.returns-then-branch
returns-then-branch g c =
    let e = c.in_ok-begin_one.ensures in
    let at = subst (λ (ps : List (Option PendingRequest)). slice_get ps c.in-Some.place ≡ Some (Some c.in-Some-at.request.now)) c.in-Some.ensures.same c.in-Some-at.ensures.some in
    let places = c.remove.ensures ∙ ap (λ (ps : List (Option PendingRequest)). slice_set ps c.in-Some.place None) c.in-Some.ensures.same in
    let line = event_line (event_of c.args.by c.in-Some-at.request.now.op) e.0 in (
      line,
      subst (λ (ps : List (Option PendingRequest)). Begins (sim c.args.world.now c.args.requests.now) c.args.by (sim c.begin_one.new.world ps) line) (sym places)
          (begins_done c.args.world.now c.begin_one.new.world c.args.requests.now c.args.by c.home.result c.in-Some.place c.home.ensures c.in-Some.ensures.found
          c.in-Some-at.request.now at e.0 e.1 (sym e.3 ∙ c.if-branch.true)),
      e.2,
    )

pub returns-else-branch : goal.returns-else-branch
returns-else-branch g c =
    let e = c.in_ok-begin_one.ensures in
    let at = subst (λ (ps : List (Option PendingRequest)). slice_get ps c.in-Some.place ≡ Some (Some c.in-Some-at.request.now)) c.in-Some.ensures.same c.in-Some-at.ensures.some in
    let line = event_line (event_of c.args.by c.in-Some-at.request.now.op) e.0 in (
      line,
      subst (λ (ps : List (Option PendingRequest)). Begins (sim c.args.world.now c.args.requests.now) c.args.by (sim c.begin_one.new.world ps) line) (sym c.in-Some.ensures.same)
          (begins_refused c.args.world.now c.begin_one.new.world c.args.requests.now c.args.by c.home.result c.in-Some.place c.home.ensures c.in-Some.ensures.found
          c.in-Some-at.request.now at e.0 e.1 (sym e.3 ∙ c.if-branch.false)),
      e.2,
    )
