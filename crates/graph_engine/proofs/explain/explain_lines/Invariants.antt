use Rattle.std.proofs.Common.{◌+◌, ◌≤◌, length, string_bytes}
use Rattle.std.specs.Str.Lines.{lines}
use Rattle.console.specs.Programs.{programs_of}
use Rattle.graph_engine.proofs.ExplainLemmas.{SoFar}
use Rattle.graph_engine.proofs.explain.explain_lines.Given as goal

abbrev pub invariant-loop-line : goal.invariant-loop-line
invariant-loop-line l = record {
  room : l.number + length l.rest ≤ length l.input;
  so_far : SoFar (programs_of l.filter) l.link (lines l.input) (lines l.rest) l.number (string_bytes l.text);
}

abbrev pub decreases-loop-line : goal.decreases-loop-line
decreases-loop-line l = length l.rest
