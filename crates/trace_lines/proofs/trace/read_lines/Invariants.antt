use Rattle.std.proofs.Common.{◌≡◌, drop}
use Rattle.std.specs.Prelude.{map}
use Rattle.trace_lines.specs.Traces.{outcome, said_in}
use Rattle.trace_lines.specs.Views.{shown}
use Rattle.line_words.specs.Words.{texts}
use Rattle.trace_lines.proofs.Outcomes.{after}
use Rattle.trace_lines.proofs.trace.read_lines.Given as goal

abbrev pub invariant-loop-line : goal.invariant-loop-line
invariant-loop-line l = record {
  rest : outcome (said_in (texts l.lines)) ≡ after l.number (map shown l.found.items) (outcome (said_in (texts (drop l.line-index l.lines))));
  count : l.number ≡ l.line-index;
}
