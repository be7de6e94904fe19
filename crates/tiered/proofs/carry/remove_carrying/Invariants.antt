use Rattle.std.proofs.Common.{◌≡◌, ◌+◌, ◌/◌, ◌<◌, ◌≤◌, ◌++◌, [], ◌∷◌, length}
use Rattle.tiered.specs.Blocks.{whole, with_before, AreFull}
use Rattle.tiered.proofs.carry.remove_carrying.Given as goal

abbrev pub invariant-loop-block : goal.invariant-loop-block
invariant-loop-block g l = record {
  items : with_before l.blocks (l.block + 1) l.carried ≡ whole l.fn.blocks ++ l.fn.item ∷ [];
  full : AreFull l.blocks;
  inside : l.block < length l.blocks;
  from : l.place / 2048 ≤ l.block;
}

abbrev pub decreases-loop-block : goal.decreases-loop-block
decreases-loop-block g l = l.block
