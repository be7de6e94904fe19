use Rattle.std.proofs.Common.{arith}
use Rattle.installed_filters.proofs.slots.Slots.fresh.Goals as goal

pub overflow_cast-result : goal.overflow_cast-result
overflow_cast-result c =
    let low = c.self.invariant.inside c.in-Some.number c.in-Some.ensures in
    let few = c.self.invariant.few in
    omega arith
