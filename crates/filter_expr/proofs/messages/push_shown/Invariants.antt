use Rattle.std.proofs.Common.{◌≡◌, ◌++◌, map, take}
use Rattle.filter_expr.specs.Messages.{shown}
use Rattle.filter_expr.proofs.messages.push_shown.Given as goal

abbrev pub invariant-loop-byte : goal.invariant-loop-byte
invariant-loop-byte l = record {
  items : l.lines.items ≡ l.initial.lines.items ++ map shown (take l.byte-index l.text);
}
