use Rattle.std.proofs.Common.{ℕ, List, length}
use Rattle.mk_script.proofs.BlockLemmas.{BlockSoFar}
use Rattle.mk_script.proofs.lines.block_at.Given as goal

abbrev pub invariant-loop-rest : goal.invariant-loop-rest
invariant-loop-rest l = (front : List ℕ) × BlockSoFar l.text l.rest l.lines front

abbrev pub decreases-loop-rest : goal.decreases-loop-rest
decreases-loop-rest l = length l.rest
