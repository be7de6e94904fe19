use Rattle.std.proofs.Common.{◌∙◌, ◌++◌, ◌∷◌, [], ap, append_assoc}
use Rattle.world_core.proofs.Settled.{settles_more, settles_extends}
use Rattle.world_core.proofs.world.WorldOver.settle.Goals as goal

pub takes-preserved : goal.takes-preserved
takes-preserved g c =
    let so_far = c.takes.invariant in
    let taken = rw c.in-Some.is at c.in_ok-taken.ensures.taken in (
      so_far.0 ++ c.in-Some.taken ∷ [],
      c.push_reserved.ensures.items ∙ (ap (λ ds. ds ++ c.in-Some.taken ∷ []) (c.reserve.ensures.items ∙ so_far.1) ∙ append_assoc c.args.done.now.items so_far.0 (c.in-Some.taken ∷ [])),
      settles_more c.args.self.now c.takes.self c.take_next.new.self so_far.0 c.in-Some.taken so_far.2 taken.0,
    )

pub returns-in_default-clause-extends : goal.returns-in_default-clause-extends
returns-in_default-clause-extends g c =
    let so_far = c.takes.invariant in
    let last = rw c.in_default.is at c.in_ok-taken.ensures.taken in
    (so_far.0, c.reserve.ensures.items ∙ so_far.1, rw last.0 (settles_extends c.args.self.now c.takes.self so_far.0 so_far.2))

pub returns-in_err-reserve-clause-extends : goal.returns-in_err-reserve-clause-extends
returns-in_err-reserve-clause-extends g c =
    let so_far = c.takes.invariant in
    (so_far.0, c.reserve.ensures.items ∙ so_far.1, settles_extends c.args.self.now c.takes.self so_far.0 so_far.2)

pub returns-in_err-taken-clause-extends : goal.returns-in_err-taken-clause-extends
returns-in_err-taken-clause-extends g c =
    let so_far = c.takes.invariant in
    (so_far.0, c.reserve.ensures.items ∙ so_far.1, rw c.in_err-taken.ensures.same (settles_extends c.args.self.now c.takes.self so_far.0 so_far.2))
