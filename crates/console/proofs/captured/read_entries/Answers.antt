use Rattle.std.proofs.Common.{arith, ◌++◌, take, length-append, length-take-le}
use Rattle.engine_io.proofs.KnownBytesLemmas.{gets-end, gets-then}
use Rattle.console.proofs.captured.read_entries.Goals as goal

pub returns-then-taken-gt-INPUT_BYTES-clause-read : goal.returns-then-taken-gt-INPUT_BYTES-clause-read
returns-then-taken-gt-INPUT_BYTES-clause-read g c = (
  c.loop-alloc.invariant.so.given ++ take c.in-Bytes.count c.read.new.buffer,
  gets-then _ _ _ _ _ c.loop-alloc.invariant.so.lost c.in-Bytes.ensures.3,
  omega (arith, length-append c.loop-alloc.invariant.so.given (take c.in-Bytes.count c.read.new.buffer), length-take-le c.in-Bytes.count c.read.new.buffer c.in-Bytes.ensures.2, c.loop-alloc.invariant.so.count, c.in-Bytes.ensures.0.1),
  omega (arith, length-append c.loop-alloc.invariant.so.given (take c.in-Bytes.count c.read.new.buffer), length-take-le c.in-Bytes.count c.read.new.buffer c.in-Bytes.ensures.2, c.in-Bytes.ensures.2, c.loop-alloc.invariant.so.count, c.loop-alloc.invariant.within),
)

pub returns-then-taken-gt-INPUT_BYTES-clause-taken : goal.returns-then-taken-gt-INPUT_BYTES-clause-taken
returns-then-taken-gt-INPUT_BYTES-clause-taken g c = (c.loop-alloc.invariant.so.given ++ take c.in-Bytes.count c.read.new.buffer, gets-then _ _ _ _ _ c.loop-alloc.invariant.so.lost c.in-Bytes.ensures.3)

pub returns-in-End-clause-read : goal.returns-in-End-clause-read
returns-in-End-clause-read g c = (
  c.loop-alloc.invariant.so.given,
  gets-end _ _ _ _ c.loop-alloc.invariant.so.lost c.in-End.ensures.1,
  c.in-End.ensures.2,
  omega (arith, c.loop-alloc.invariant.so.count, c.loop-alloc.invariant.within),
  c.in_ok-fault-in-End.ensures _ _ c.loop-alloc.invariant.so.has.holds,
)
