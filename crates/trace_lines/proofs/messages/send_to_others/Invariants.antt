use Rattle.std.proofs.Common.{◌≡◌, ◌+◌, ◌-◌, ◌++◌}
use Rattle.std.specs.Prelude.{map}
use Rattle.std.specs.List.{range_with_len}
use Rattle.trace_lines.specs.Links.{message}
use Rattle.trace_lines.proofs.messages.send_to_others.Given as goal

abbrev pub invariant-loop-to : goal.invariant-loop-to
invariant-loop-to l =
    l.messages.items ++ map (λ core. message l.kind l.row 0 core) (range_with_len l.to (l.highest + 1 - l.to))
    ≡ l.fn.messages.items ++ map (λ core. message l.kind l.row 0 core) (range_with_len 1 l.highest)
