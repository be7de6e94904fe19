use Rattle.std.proofs.Common.{List, length}
use Rattle.filter_asm.proofs.LineLemmas.{ReadSoFar}
use Rattle.filter_asm.specs.Program.{Line}
use Rattle.filter_asm.proofs.assembler.read.Given as goal

abbrev pub invariant-loop-rest : goal.invariant-loop-rest
invariant-loop-rest l = (lines : List Line) × ReadSoFar l.text l.rest l.number l.pass lines

abbrev pub decreases-loop-rest : goal.decreases-loop-rest
decreases-loop-rest l = length l.rest
