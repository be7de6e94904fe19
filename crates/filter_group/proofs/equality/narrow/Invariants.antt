use Rattle.filter_group.specs.Equalities.{IsNarrower}
use Rattle.filter_group.proofs.InTurn.{AreDone}
use Rattle.filter_group.proofs.equality.narrow.Given as goal

abbrev pub invariant-loop-pc : goal.invariant-loop-pc
invariant-loop-pc l = AreDone (IsNarrower l.marks l.slots) l.pc l.initial.equalities l.equalities
