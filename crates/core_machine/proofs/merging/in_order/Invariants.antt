use Rattle.std.proofs.Common.{◌≡◌, take}
use Rattle.world_histories.proofs.Lists.{size}
use Rattle.core_machine.specs.Conclusions.{listed_histories}
use Rattle.core_machine.specs.Merges.{shown_histories, shown_list}
use Rattle.core_machine.proofs.OneList.{MergesSo}
use Rattle.core_machine.proofs.merging.in_order.Given as goal

abbrev pub invariant-loop-history : goal.invariant-loop-history
invariant-loop-history l = shown_histories l.left.items ≡ listed_histories (take l.history-index l.history-items)

abbrev pub invariant-loop-core : goal.invariant-loop-core
invariant-loop-core l = MergesSo (listed_histories l.histories.cores.items) (shown_histories l.left.items) (shown_list l.list.items)

abbrev pub decreases-loop-core : goal.decreases-loop-core
decreases-loop-core l = size (shown_histories l.left.items)
