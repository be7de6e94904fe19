use Rattle.graph_engine.proofs.ExplainLemmas.{gathered_next, gathered_none, gathered_stop}
use Rattle.graph_engine.proofs.explain.explain_capture.Goals as goal

pub loop-kept-init : goal.loop-kept-init
loop-kept-init c = rw (c.new-text.ensures.bytes, c.as_slice-rest.ensures.value) (gathered_none _ _ _)

pub loop-kept-preserved : goal.loop-kept-preserved
loop-kept-preserved c = gathered_next _ _ _ _ _ c.in-Some.kept.now _ _ c.in-Some.ensures.cases.0 c.loop-kept.invariant (rw c.in_default-2.is at c.in_ok-fault.ensures)

pub returns-in-Some-2 : goal.returns-in-Some-2
returns-in-Some-2 c = gathered_stop _ _ _ _ _ c.in-Some.kept.now _ _ c.in-Some-2.fault _ c.in-Some.ensures.cases.0 c.loop-kept.invariant (rw c.in-Some-2.is at c.in_ok-fault.ensures)
