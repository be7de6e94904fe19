use Rattle.std.proofs.Common.{◌++◌, take, ap, sym, ◌∙◌, append_assoc}
use Rattle.std.proofs.lemmas.List.{take-append-drop, take_rest}
use Rattle.engine_io.proofs.KnownBytesLemmas.{writes-then}
use Rattle.engine_io.proofs.output.write_bytes.Goals as goal

pub loop-rest-preserved : goal.loop-rest-preserved
loop-rest-preserved g c = record {
  good = c.in-Some.ensures.0;
  done = c.loop-rest.invariant.done ++ take c.in-Some.count c.loop-rest.rest.now;
  parts = c.loop-rest.invariant.parts ∙ ap (λ t. c.loop-rest.invariant.done ++ t) (sym (take-append-drop c.in-Some.count c.loop-rest.rest.now) ∙ ap (λ t. take c.in-Some.count c.loop-rest.rest.now ++ t) (sym (take_rest c.loop-rest.rest.now c.in-Some.count)))
      ∙ sym (append_assoc c.loop-rest.invariant.done (take c.in-Some.count c.loop-rest.rest.now) _);
  appended = writes-then _ _ _ _ _ c.loop-rest.invariant.appended c.in-Some.ensures.3;
}
