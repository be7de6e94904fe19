use Rattle.std.proofs.Common.{◌≡◌, ◌≤◌, replicate, vec_capacity}
use Rattle.tiered.proofs.copies.repeat.Given as goal

abbrev pub invariant-loop-made : goal.invariant-loop-made
invariant-loop-made g l = record {
  items : l.items.items ≡ replicate l._made l.item;
  room : l.room ≤ vec_capacity l.items;
}
