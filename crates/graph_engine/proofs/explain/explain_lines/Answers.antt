use Rattle.std.proofs.Common.{Some, arith, refl}
use Rattle.graph_engine.proofs.ExplainLemmas.{so_far_start, so_far_next, some_explained}
use Rattle.graph_engine.proofs.explain.explain_lines.Goals as goal

pub loop-line-init : goal.loop-line-init
loop-line-init c = record { room = omega arith; so_far = rw c.new-text.ensures.bytes (so_far_start _ _ _) }

pub loop-line-preserved : goal.loop-line-preserved
loop-line-preserved c =
    let spelled = rw c.in-Some-2.is at c.in_ok-packet.ensures.found in
    let explained = rw (c.as_slice.ensures.value, c.program-in-Ok.ensures) at c.in_ok-push_explanation-in-Ok.ensures in
    record {
      room = omega (arith, c.in-Some.ensures.shorter);
      so_far = so_far_next _ _ _ _ _ _ _ _ _ _ _ c.in-Some.ensures.lines c.loop-line.invariant.so_far (_, c.in-Ok.ensures, _, (spelled, omega (arith, c.len-original.ensures)), explained.1) explained.2 refl;
    }

pub returns-in-Err : goal.returns-in-Err
returns-in-Err c =
    let spelled = rw c.in-Some-2.is at c.in_ok-packet.ensures.found in
    some_explained _ _ _ _ _ c.in-Some.line.now _ _ _ (Some c.in-Err.fault) _ c.in-Some.ensures.lines c.loop-line.invariant.so_far refl (rw spelled refl, c.in-Err.ensures) refl
