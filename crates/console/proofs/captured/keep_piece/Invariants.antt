use Rattle.std.proofs.Common.{length}
use Rattle.console.specs.Reading.{KeepsOn}
use Rattle.console.proofs.captured.keep_piece.Given as goal

abbrev pub invariant-loop-rest : goal.invariant-loop-rest
invariant-loop-rest l = KeepsOn l.piece l.rest l.initial.feed l.feed l.initial.entries.items l.entries.items

abbrev pub decreases-loop-rest : goal.decreases-loop-rest
decreases-loop-rest l = length l.rest
