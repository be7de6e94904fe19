use Rattle.std.proofs.Common.{arith, ◌++◌, take, length-append, length-take-le}
use Rattle.engine_io.proofs.KnownBytesLemmas.{gets-then}
use Rattle.engine_io.proofs.input.read_bounded.Goals as goal

pub returns-then-taken-bytes-clause-input : goal.returns-then-taken-bytes-clause-input
returns-then-taken-bytes-clause-input g c = (
  c.loop-block.held.items ++ take c.in-Bytes.count c.read.new.buffer,
  gets-then _ _ _ _ _ c.loop-block.invariant.taken c.in-Bytes.ensures.3,
  omega (arith, length-append c.loop-block.held.items (take c.in-Bytes.count c.read.new.buffer), length-take-le c.in-Bytes.count c.read.new.buffer c.in-Bytes.ensures.2, c.in-Bytes.ensures.0.1, c.loop-block.invariant.count),
  omega (arith, length-append c.loop-block.held.items (take c.in-Bytes.count c.read.new.buffer), length-take-le c.in-Bytes.count c.read.new.buffer c.in-Bytes.ensures.2, c.in-Bytes.ensures.2, c.loop-block.invariant.within),
)

pub returns-then-taken-bytes-clause-taken : goal.returns-then-taken-bytes-clause-taken
returns-then-taken-bytes-clause-taken g c =
    (c.loop-block.held.items ++ take c.in-Bytes.count c.read.new.buffer, gets-then _ _ _ _ _ c.loop-block.invariant.taken c.in-Bytes.ensures.3)

pub returns-in_err-extend_from_slice-in-Bytes-clause-taken : goal.returns-in_err-extend_from_slice-in-Bytes-clause-taken
returns-in_err-extend_from_slice-in-Bytes-clause-taken g c =
    (c.loop-block.held.items ++ take c.in-Bytes.count c.read.new.buffer, gets-then _ _ _ _ _ c.loop-block.invariant.taken c.in-Bytes.ensures.3)
