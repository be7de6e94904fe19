use Rattle.console.proofs.HexLemmas.{IsSoFar}
use Rattle.console.proofs.hexadecimal.decode.Given as goal

abbrev pub invariant-bytes : goal.invariant-bytes
invariant-bytes l = IsSoFar l.line l.packet l.i l.most
