use Rattle.std.proofs.Common.{subst, rules}
use Rattle.world_histories.specs.Histories.{Stamping}
use Rattle.core_loop.specs.declared.refusal.Refusal.{Refusal}
use Rattle.core_loop.specs.Carrying.{IsFirst}
use Rattle.core_loop.specs.Taking.{CannotTake}
use Rattle.core_loop.proofs.Acting.{spent_take}
use Rattle.core_loop.proofs.Order.{not_ready_waits}
use Rattle.core_loop.proofs.events.take_kept.Goals as goal

pub returns-in-Err-Spent-clause-why : goal.returns-in-Err-Spent-clause-why
returns-in-Err-Spent-clause-why g c =
    let view = g.L.Links.view c.args.links.now in
    let m : Stamping = record { stamp = c.in-Ok.sent; message = c.in-Ok.message } in
    let first : IsFirst (view c.args.peer) m = search rules in
    (m, first, spent_take c.args.context.cores c.args.context.clock c.args.peer c.args.part.now m view (subst (λ (r : Refusal). CannotTake c.args.context.cores c.args.context.clock c.args.peer c.args.part.now m view r) c.in-Err-Spent.field-0-is c.in-Err-Spent.ensures.why))

pub returns-in-Err-NotReady-clause-waits : goal.returns-in-Err-NotReady-clause-waits
returns-in-Err-NotReady-clause-waits g c =
    let view = g.L.Links.view c.args.links.now in
    let m : Stamping = record { stamp = c.in-Ok.sent; message = c.in-Ok.message } in
    let first : IsFirst (view c.args.peer) m = search rules in
    rw c.in-Err-NotReady.ensures.undone (not_ready_waits c.args.context.cores c.args.context.clock c.args.peer c.args.part.now m view first (subst (λ (r : Refusal). CannotTake c.args.context.cores c.args.context.clock c.args.peer c.args.part.now m view r) c.in-Err-NotReady.field-0-is c.in-Err-NotReady.ensures.why))
