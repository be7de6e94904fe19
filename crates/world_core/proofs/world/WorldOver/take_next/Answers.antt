use Rattle.world_model.specs.Settling.{IsTaken}
use Rattle.world_core.proofs.Settled.{taken_leaves, down_none, next_after}
use Rattle.world_core.proofs.world.WorldOver.take_next.Goals as goal

pub returns-in-Some-clause-taken : goal.returns-in-Some-clause-taken
returns-in-Some-clause-taken g c =
    let taken : IsTaken c.args.self.now c.in-Some.taken c.take_from_core_0.new.self = rw c.in-Some.is at c.in_ok-taken.ensures.taken in
    let r = c.cores-cores.ensures.reached in
    (taken, taken_leaves r.0 r.1 r.2 c.args.self.now c.take_from_core_0.new.self c.in-Some.taken r.3 taken)

pub returns-clause-taken : goal.returns-clause-taken
returns-clause-taken g c =
    let r = c.cores-cores.ensures.reached in
    let same = down_none c.args.self.now c.take_from_core_0.new.self c.in_ok-taken.field-0 c.in_default.not-Some c.in_ok-taken.ensures.taken in
    next_after r.0 r.1 r.2 c.args.self.now c.take_from_core_0.new.self c.take_to_core_0.new.self c.take_to_core_0.result r.3 same c.take_to_core_0.ensures.taken
