use Rattle.std.proofs.Common.{◌≡◌}
use Rattle.std.specs.List.{insert}
use Rattle.tiered.specs.Blocks.{whole, with_before, AreFull}
use Rattle.tiered.proofs.carry.insert_carrying.Given as goal

abbrev pub invariant-loop-block : goal.invariant-loop-block
invariant-loop-block g l = record {
  items : with_before l.blocks l.block l.carried ≡ insert (whole l.fn.blocks) l.fn.place l.fn.item;
  full : AreFull l.blocks;
}
