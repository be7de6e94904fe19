use Rattle.std.proofs.Common.{map}
use Rattle.core_machine.proofs.Listing.{Resting}
use Rattle.core_machine.proofs.settling.at_rest.Given as goal

abbrev pub invariant-loop-core : goal.invariant-loop-core
invariant-loop-core g l = Resting l.core-index (map g.T.Member.core l.cores)
