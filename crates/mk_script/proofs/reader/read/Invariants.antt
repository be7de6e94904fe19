use Rattle.std.proofs.Common.{length}
use Rattle.mk_script.specs.DraftViews.{settings_of}
use Rattle.mk_script.proofs.ReaderLemmas.{ReadSoFar}
use Rattle.mk_script.proofs.reader.read.Given as goal

abbrev pub invariant-loop-rest : goal.invariant-loop-rest
invariant-loop-rest l = ReadSoFar (settings_of l.settings) l.text l.rest l.lines l.reading

abbrev pub decreases-loop-rest : goal.decreases-loop-rest
decreases-loop-rest l = length l.rest
