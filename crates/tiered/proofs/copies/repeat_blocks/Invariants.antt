use Rattle.std.proofs.Common.{◌≡◌, replicate}
use Rattle.tiered.proofs.copies.repeat_blocks.Given as goal

abbrev pub invariant-loop-made : goal.invariant-loop-made
invariant-loop-made g l = l.blocks.items ≡ replicate l._made (replicate 2048 l.item)
