use Rattle.std.proofs.Common.{map}
use Rattle.core_machine.proofs.Listing.{Turned}
use Rattle.core_machine.proofs.settling.turn_each.Given as goal

abbrev pub invariant-loop-core : goal.invariant-loop-core
invariant-loop-core g l = let core = g.T.Member.core in Turned l.core-index (map core l.initial.cores) (map core l.cores)
