use Rattle.core_machine.specs.Merges.{shown_histories}
use Rattle.core_machine.proofs.Least.{FoundBelow}
use Rattle.core_machine.proofs.merging.least.Given as goal

abbrev pub invariant-loop-core : goal.invariant-loop-core
invariant-loop-core l = FoundBelow (shown_histories l.left) l.core l.least
