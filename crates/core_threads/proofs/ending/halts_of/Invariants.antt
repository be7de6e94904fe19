use Rattle.std.proofs.Common.{◌≡◌, ◌++◌, map, drop}
use Rattle.core_threads.proofs.ending.halts_of.Given as goal

abbrev pub invariant-loop-one : goal.invariant-loop-one
invariant-loop-one l = l.halts.items ++ map (λ r. r.halted) (drop l.one-index l.ran) ≡ map (λ r. r.halted) l.ran
