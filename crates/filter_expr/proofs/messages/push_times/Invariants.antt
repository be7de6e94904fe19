use Rattle.std.proofs.Common.{◌≡◌, ◌++◌, replicate}
use Rattle.filter_expr.proofs.messages.push_times.Given as goal

abbrev pub invariant-loop-done : goal.invariant-loop-done
invariant-loop-done l = record {
  items : l.lines.items ≡ l.initial.lines.items ++ replicate l._done l.byte;
}
