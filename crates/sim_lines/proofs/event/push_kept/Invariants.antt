use Rattle.std.proofs.Common.{◌≡◌, ◌++◌, drop, string_bytes}
use Rattle.std.specs.List.{flat_map}
use Rattle.sim_lines.specs.Events.{kept_word}
use Rattle.sim_lines.proofs.event.push_kept.Given as goal

abbrev pub invariant-loop-endpoint : goal.invariant-loop-endpoint
invariant-loop-endpoint l =
    string_bytes l.line ++ flat_map kept_word (drop l.endpoint-index l.kept) ≡ string_bytes l.fn.line ++ flat_map kept_word l.kept
