use Rattle.std.proofs.Common.{◌∙◌, ◌++◌, ◌∷◌, [], List, ap, refl, sym}
use Rattle.std.proofs.lemmas.List.{append-nil}
use Rattle.sim_engine.specs.declared.requests.PendingRequest.{PendingRequest}
use Rattle.sim_engine.specs.Pending.{left}
use Rattle.sim_engine.specs.Simulations.{sim}
use Rattle.sim_engine.proofs.Places.{left_push}
use Rattle.sim_engine.proofs.Printed.{on_ok, the_sim}
use Rattle.sim_engine.proofs.running.perform.Goals as goal

pub returns-in_ok-request-in-Ask : goal.returns-in_ok-request-in-Ask
returns-in_ok-request-in-Ask g c = rw c.in-Ask.is (on_ok c.push.result c.push.ensures (λ pushed. (
  [],
  (
    ap (sim c.args.world.now) pushed ∙ ap (λ (rs : List PendingRequest). the_sim c.args.world.now rs)
        (left_push c.args.requests.now c.in_ok-request-in-Ask.request ∙ ap (λ (r : PendingRequest). left c.args.requests.now ++ r ∷ []) c.in_ok-request-in-Ask.ensures),
    refl,
  ),
  sym (append-nil c.args.text.now.items),
)))

pub returns-in-Begin : goal.returns-in-Begin
returns-in-Begin g c = rw c.in-Begin.is c.begin.ensures

pub returns-in-Submit : goal.returns-in-Submit
returns-in-Submit g c = rw c.in-Submit.is c.begin-in-Submit.ensures
