use Rattle.std.proofs.Common.{length, string_bytes}
use Rattle.console.specs.Programs.{programs_of}
use Rattle.graph_engine.proofs.ExplainLemmas.{Gathered}
use Rattle.graph_engine.proofs.explain.explain_capture.Given as goal

abbrev pub invariant-loop-kept : goal.invariant-loop-kept
invariant-loop-kept l = Gathered (programs_of l.filter) l.link l.captured.entries.items l.rest (string_bytes l.text)

abbrev pub decreases-loop-kept : goal.decreases-loop-kept
decreases-loop-kept l = length l.rest
