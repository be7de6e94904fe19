use Rattle.std.proofs.Common.{List, ℕ, ◌≡◌, ◌++◌, length, false}
use Rattle.engine_io.specs.Devices.{Writes}
use Rattle.engine_io.proofs.output.write_bytes.Given as goal

abbrev pub invariant-loop-rest : goal.invariant-loop-rest
invariant-loop-rest g l = record {
  good : l.writer.failed ≡ false;
  done : List ℕ;
  parts : l.bytes ≡ done ++ l.rest;
  appended : Writes g.W.Write.contents l.initial.writer l.writer done;
}

abbrev pub decreases-loop-rest : goal.decreases-loop-rest
decreases-loop-rest g l = length l.rest
