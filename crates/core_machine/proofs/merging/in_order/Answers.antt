use Rattle.std.proofs.Common.{◌≡◌, ◌∷◌, ◌++◌, [], slice_index_or, rules}
use Rattle.world_histories.specs.Merging.{listed}
use Rattle.std.specs.Borrow.{Bor}
use Rattle.world_histories.specs.declared.history.Stamped.{Stamped}
use Rattle.core_machine.specs.Merges.{shown_histories, shown_list, IsLeast, NoneLeft}
use Rattle.core_machine.proofs.Lists.{map_push}
use Rattle.core_machine.proofs.OneList.{splits_off, merges_step, size_step, merged_all, runs}
use Rattle.core_machine.proofs.merging.in_order.Goals as goal

pub loop-core-smaller : goal.loop-core-smaller
loop-core-smaller c =
    let left = c.loop-core.left.items in
    let l : IsLeast (shown_histories left) c.in-Some.core = rw c.deref.ensures.value at c.in-Some.ensures.some in
    let at : c.index.result.now ≡ slice_index_or left c.in-Some.core c.index.result.now = search rules in
    let split : c.index.result.now.now ≡ c.in-Some-split_first.event.now ∷ c.in-Some-split_first.later.now = search rules in
    size_step left c.in-Some.core l c.in-Some-split_first.event.now c.in-Some-split_first.later
    (splits_off left c.in-Some.core l c.index.result.now c.in-Some-split_first.later c.in-Some-split_first.event.now at split)

pub loop-core-preserved : goal.loop-core-preserved
loop-core-preserved c =
    let left = c.loop-core.left.items in
    let l : IsLeast (shown_histories left) c.in-Some.core = rw c.deref.ensures.value at c.in-Some.ensures.some in
    let at : c.index.result.now ≡ slice_index_or left c.in-Some.core c.index.result.now = search rules in
    let split : c.index.result.now.now ≡ c.in-Some-split_first.event.now ∷ c.in-Some-split_first.later.now = search rules in
    let pushed : c.push-in-Some.new.self.items ≡ c.loop-core.list.items ++ c.in-Some-split_first.event ∷ [] = search rules in
    rw (pushed, map_push (λ (e : Bor Stamped). listed e.now) c.loop-core.list.items c.in-Some-split_first.event)
    (merges_step _ left (shown_list c.loop-core.list.items) c.in-Some.core l c.in-Some-split_first.event.now c.in-Some-split_first.later
    (splits_off left c.in-Some.core l c.index.result.now c.in-Some-split_first.later c.in-Some-split_first.event.now at split) c.loop-core.invariant)

pub returns-clause-list : goal.returns-clause-list
returns-clause-list c =
    let none : NoneLeft (shown_histories c.loop-core.left.items) = rw c.deref.ensures.value at c.in_default.ensures.none in
    merged_all _ (shown_histories c.loop-core.left.items) (shown_list c.loop-core.list.items) none c.loop-core.invariant

pub returns-clause-run : goal.returns-clause-run
returns-clause-run c =
    let none : NoneLeft (shown_histories c.loop-core.left.items) = rw c.deref.ensures.value at c.in_default.ensures.none in
    runs _ (shown_list c.loop-core.list.items) (merged_all _ (shown_histories c.loop-core.left.items) (shown_list c.loop-core.list.items) none c.loop-core.invariant)
