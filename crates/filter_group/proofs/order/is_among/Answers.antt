use Rattle.std.proofs.Common.{◌<◌, ◌+◌, ◌∙◌, arith, ap, length, Some, subst, sym}
use Rattle.std.proofs.lemmas.Option.{get_or_from_slice_get, slice_get-get_or}
use Rattle.filter_group.proofs.Sorting.{IsFound, found_none, found_here, found_next}
use Rattle.filter_group.proofs.order.is_among.Goals.{then-order-rank, else-order-rank}
use Rattle.filter_group.proofs.order.is_among.Goals as goal

pub loop-rank-init : goal.loop-rank-init
loop-rank-init c = found_none c.args.order.now c.args.place c.args.first

pub loop-rank-preserved : goal.loop-rank-preserved
loop-rank-preserved c =
    let order = c.args.order.now in
    let rank = c.loop-rank.rank in
    let low : rank < length order = let end = c.requires.end in let before = c.loop-rank-test.true in omega arith in
    elim c.if-order-rank.branch [
      | then-order-rank w ↦
          subst (IsFound order c.args.place c.args.first (rank + 1)) (sym w.found-is)
          (found_here order c.args.place c.args.first rank c.loop-rank.auto.rank (slice_get-get_or order rank 0 low ∙ ap Some w.if-order-rank.true))
      | else-order-rank w ↦
          subst (IsFound order c.args.place c.args.first (rank + 1)) (sym w.found-is)
          (found_next order c.args.place c.args.first rank c.loop-rank.found c.loop-rank.invariant (λ at. w.if-order-rank.false (get_or_from_slice_get order rank c.args.place 0 at)))
    ]
