use Rattle.filter_group.specs.Changes.{IsLess}
use Rattle.filter_group.proofs.InTurn.{AreDone}
use Rattle.filter_group.proofs.changes.take_out_of.Given as goal

abbrev pub invariant-loop-n : goal.invariant-loop-n
invariant-loop-n l = AreDone (λ i old slot. IsLess old l.member slot) l.n l.initial.slots l.slots
