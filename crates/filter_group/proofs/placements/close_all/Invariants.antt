use Rattle.filter_group.specs.Places.{IsKept}
use Rattle.filter_group.proofs.placements.close_all.Given as goal

abbrev pub invariant-loop-group : goal.invariant-loop-group
invariant-loop-group l = IsKept l.initial.groups.items l.initial.parts.items l.groups.items l.parts.items
