use Rattle.std.proofs.Common.{◌≡◌, ◌<◌, ◌++◌, All, length}
use Rattle.std.specs.Vec.Iter.{into_iter_items}
use Rattle.core_machine.specs.Lanes.{AreLanes}
use Rattle.core_machine.proofs.lanes.by_core.Given as goal

abbrev pub invariant-loop-core : goal.invariant-loop-core
invariant-loop-core g l =
    (length l.lanes.items ≡ l.cores)
    × AreLanes l.yielded l.lanes.items
    × All (λ i. i.0 < l.cores) (into_iter_items l.core-iterator)
    × (l.fn.items.items ≡ l.yielded ++ into_iter_items l.core-iterator)
