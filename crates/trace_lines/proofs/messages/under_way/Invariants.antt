use Rattle.std.proofs.Common.{◌≡◌, ◌++◌, drop}
use Rattle.std.specs.Prelude.{nat_le}
use Rattle.std.specs.List.{flat_map, enumerate_from}
use Rattle.trace_lines.specs.Following.{front}
use Rattle.trace_lines.specs.Links.{kept}
use Rattle.trace_lines.proofs.messages.under_way.Given as goal

abbrev pub invariant-loop-place : goal.invariant-loop-place
invariant-loop-place l =
    l.left.items ++ flat_map (λ at. kept (nat_le (front at.1.from at.1.to l.state.fronts.items) at.0) at.1) (enumerate_from l.place (drop l.place l.state.messages.items))
    ≡ flat_map (λ at. kept (nat_le (front at.1.from at.1.to l.state.fronts.items) at.0) at.1) (enumerate_from 0 l.state.messages.items)
