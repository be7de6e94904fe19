use Rattle.std.proofs.Common.{[], arith, refl, rules}
use Rattle.console.proofs.HexLemmas.{so_far_step, so_far_end, digits_at, value_of}
use Rattle.console.proofs.hexadecimal.decode.Goals as goal

pub bytes-preserved : goal.bytes-preserved
bytes-preserved c =
    let digits = digits_at c.args.line.now c.as_chunks.result.0.now c.bytes.i c.from_le_bytes-pair.result [] (λ k. omega (arith, c.type_inv.line k)) c.as_chunks.ensures.front (omega arith) c.from_le_bytes-pair.ensures in
    so_far_step _ _ _ _ _ _ _ _ _ c.bytes.invariant (omega arith) (omega arith)
    (value_of _ _ _ c.digit_value-high.ensures digits.0) (value_of _ _ _ c.digit_value-low.ensures digits.1) (search rules) refl refl

pub returns : goal.returns
returns c = so_far_end _ _ _ _ c.bytes.invariant (omega arith) (omega arith) (omega arith)
