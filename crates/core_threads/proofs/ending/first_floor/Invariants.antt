use Rattle.std.proofs.Common.{◌≡◌, drop}
use Rattle.core_machine.specs.Lanes.{items_for}
use Rattle.core_threads.proofs.ending.first_floor.Given as goal

abbrev pub invariant-loop-item : goal.invariant-loop-item
invariant-loop-item l = items_for l.number l.left ≡ items_for l.number (drop l.item-index l.left)
