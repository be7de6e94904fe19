use Rattle.std.proofs.Common.{length}
use Rattle.capture_reader.proofs.BlockLemmas.{HasBegun}
use Rattle.capture_reader.proofs.blocks.begun.Given as goal

abbrev pub invariant-loop-rest : goal.invariant-loop-rest
invariant-loop-rest l = HasBegun l.first l.rest l.feed

abbrev pub decreases-loop-rest : goal.decreases-loop-rest
decreases-loop-rest l = length l.rest
