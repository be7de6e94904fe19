use Rattle.graph_engine.proofs.ExplainLemmas.{taken_inside}
use Rattle.graph_engine.proofs.explain.push_explanation.Goals as goal

pub push_all_taken-requires-clause-inside : goal.push_all_taken-requires-clause-inside
push_all_taken-requires-clause-inside c = rw (c.as_slice.ensures.value, c.code.ensures.code) (taken_inside _ _ _ _ c.in_ok-run.ensures.traces)
