use Rattle.std.proofs.Common.{◌-◌, length}
use Rattle.filter_group.proofs.Falling.{AreListedTo}
use Rattle.filter_group.proofs.falls.list_falls.Given as goal

abbrev pub invariant-loop-place : goal.invariant-loop-place
invariant-loop-place l = AreListedTo l.constants.items l.falls.items l.place

abbrev pub decreases-loop-place : goal.decreases-loop-place
decreases-loop-place l = length l.constants.items - l.place
