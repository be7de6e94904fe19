use Rattle.std.proofs.Common.{take}
use Rattle.filter_group.specs.Places.{AreRenumbered}
use Rattle.filter_group.proofs.places.renumber.Given as goal

abbrev pub invariant-loop-member : goal.invariant-loop-member
invariant-loop-member l = AreRenumbered l.initial.groups (take l.member l.part.places) l.to l.groups
