use Rattle.std.proofs.Common.{◌≡◌, take}
use Rattle.tiered.proofs.copies.copy_blocks.Given as goal

abbrev pub invariant-loop-place : goal.invariant-loop-place
invariant-loop-place g l = l.copies.items ≡ take l.place l.blocks
