use Rattle.std.proofs.Common.{length}
use Rattle.console.specs.DumpStream.{PrintsOn}
use Rattle.console.proofs.dump_stream.print_piece.Given as goal

abbrev pub invariant-loop-rest : goal.invariant-loop-rest
invariant-loop-rest l = PrintsOn l.link l.stamped l.piece l.rest l.initial.feed l.feed l.initial.place l.place l.initial.text.items l.text.items

abbrev pub decreases-loop-rest : goal.decreases-loop-rest
decreases-loop-rest l = length l.rest
