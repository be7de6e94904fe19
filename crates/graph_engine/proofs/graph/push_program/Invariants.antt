use Rattle.std.proofs.Common.{◌≡◌, ◌++◌, drop, length}
use Rattle.std.specs.String.{string_bytes}
use Rattle.graph_engine.specs.Graph.{drawn_from, path_of}
use Rattle.graph_engine.specs.Paths.{IsAhead}
use Rattle.graph_engine.proofs.graph.push_program.Given as goal

abbrev pub invariant-loop-pc : goal.invariant-loop-pc
invariant-loop-pc l = record {
  ahead : IsAhead (path_of l.refusal) l.rest l.pc;
  written : string_bytes l.text ++ drawn_from (length l.program) l.refusal l.pc (drop l.pc l.program) ≡ string_bytes l.initial.text ++ drawn_from (length l.program) l.refusal 0 l.program;
}
