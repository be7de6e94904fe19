use Rattle.std.proofs.Common.{arith, ◌∙◌, ◌++◌, take, length-append, length-take-le}
use Rattle.engine_io.proofs.KnownBytesLemmas.{gets-end, gets-kept, gets-then}
use Rattle.console.proofs.RunningLemmas.{so_run_next, so_run_kept}
use Rattle.console.proofs.capture_run.run_input.Goals as goal

pub returns-then-taken-gt-INPUT_BYTES-clause-run : goal.returns-then-taken-gt-INPUT_BYTES-clause-run
returns-then-taken-gt-INPUT_BYTES-clause-run g c = (
  c.loop-block.invariant.so.given ++ take c.in-Bytes.count c.read.new.buffer,
  gets-then _ _ _ _ _ c.loop-block.invariant.so.lost c.in-Bytes.ensures.3,
  omega (arith, length-append c.loop-block.invariant.so.given (take c.in-Bytes.count c.read.new.buffer), length-take-le c.in-Bytes.count c.read.new.buffer c.in-Bytes.ensures.2, c.loop-block.invariant.so.count, c.in-Bytes.ensures.0.1),
  omega (arith, length-append c.loop-block.invariant.so.given (take c.in-Bytes.count c.read.new.buffer), length-take-le c.in-Bytes.count c.read.new.buffer c.in-Bytes.ensures.2, c.in-Bytes.ensures.2, c.loop-block.invariant.so.count, c.loop-block.invariant.within),
)

pub returns-then-taken-gt-INPUT_BYTES-clause-taken : goal.returns-then-taken-gt-INPUT_BYTES-clause-taken
returns-then-taken-gt-INPUT_BYTES-clause-taken g c =
    (c.loop-block.invariant.so.given ++ take c.in-Bytes.count c.read.new.buffer, gets-then _ _ _ _ _ c.loop-block.invariant.so.lost c.in-Bytes.ensures.3)

pub returns-in_err-run_piece-in-Bytes-clause-taken : goal.returns-in_err-run_piece-in-Bytes-clause-taken
returns-in_err-run_piece-in-Bytes-clause-taken g c =
    (c.loop-block.invariant.so.given ++ take c.in-Bytes.count c.read.new.buffer, gets-then _ _ _ _ _ c.loop-block.invariant.so.lost c.in-Bytes.ensures.3)

pub loop-block-preserved-in-Bytes : goal.loop-block-preserved-in-Bytes
loop-block-preserved-in-Bytes g c = record {
  good = c.in-Bytes.ensures.0.3;
  open_end = c.in-Bytes.ensures.0.2;
  so = so_run_next _ _ _ _ _ _ _ _ _ _ _ _ (take c.in-Bytes.count c.read.new.buffer) c.loop-block.invariant.so c.in-Bytes.ensures.3
      (omega (arith, length-take-le c.in-Bytes.count c.read.new.buffer c.in-Bytes.ensures.2, c.in-Bytes.ensures.0.1)) (omega arith) c.in_ok-run_piece-in-Bytes.ensures.runs c.run_piece.ensures.bytes;
  within = omega arith;
  link = c.in_ok-run_piece-in-Bytes.ensures.same.0 ∙ c.loop-block.invariant.link;
}

pub loop-block-preserved : goal.loop-block-preserved
loop-block-preserved g c = record {
  good = c.in-Again.ensures.0.3;
  open_end = c.in-Again.ensures.0.2;
  so = so_run_kept _ _ _ _ _ _ _ _ _ c.loop-block.invariant.so c.in-Again.ensures.1 (omega (arith, c.in-Again.ensures.0.1));
  within = omega (arith, c.in-Again.ensures.0.1, c.loop-block.invariant.within);
  link = c.loop-block.invariant.link;
}

pub returns-in-End-clause-run : goal.returns-in-End-clause-run
returns-in-End-clause-run g c = (
  c.loop-block.invariant.so.given,
  gets-end _ _ _ _ c.loop-block.invariant.so.lost c.in-End.ensures.1,
  c.in-End.ensures.2,
  omega (arith, c.loop-block.invariant.so.count, c.loop-block.invariant.within),
  c.loop-block.invariant.so.has,
)

pub returns-in-Failed-clause-taken : goal.returns-in-Failed-clause-taken
returns-in-Failed-clause-taken g c = (c.loop-block.invariant.so.given, gets-kept _ _ _ _ c.loop-block.invariant.so.lost c.in-Failed.ensures.1)
