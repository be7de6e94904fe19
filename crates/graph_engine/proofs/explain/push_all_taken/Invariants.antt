use Rattle.std.proofs.Common.{◌≡◌, ◌++◌, drop}
use Rattle.std.specs.String.{string_bytes}
use Rattle.std.specs.List.{flat_map}
use Rattle.graph_engine.specs.Explaining.{taken_line}
use Rattle.graph_engine.proofs.explain.push_all_taken.Given as goal

abbrev pub invariant-loop-instruction : goal.invariant-loop-instruction
invariant-loop-instruction l =
    string_bytes l.text ++ flat_map (taken_line l.program) (drop l.instruction-index l.taken) ≡ string_bytes l.initial.text ++ flat_map (taken_line l.program) l.taken
