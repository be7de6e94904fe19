use Rattle.std.proofs.Common.{◌≡◌, ◌∙◌, ap, ℕ, map}
use Rattle.std.specs.List.{remove}
use Rattle.tiered.specs.Lists.{TieredList}
use Rattle.filter_group.specs.Order.{place_once_taken}
use Rattle.filter_group.proofs.Sorting.{order_kept, order_renamed}
use Rattle.filter_group.proofs.order.take_place.Goals.{then-last-taken, else-last-taken}
use Rattle.filter_group.proofs.order.take_place.Goals as goal

pub returns : goal.returns
returns c =
    let order = c.args.order.now.items in
    let rank = c.rank_by-rank.result in
    let left : remove c.if-last-taken.order.items rank ≡ map (place_once_taken c.args.taken c.args.last) (remove order rank) = elim c.if-last-taken.branch [
      | then-last-taken w ↦
          ap (λ (t : TieredList ℕ). remove t.items rank) (w.order-is ∙ w.set.ensures)
          ∙ order_renamed order c.args.taken c.args.last w.place_at-moved.result.rank (λ i j. c.requires.order.once i j c.args.last) w.place_at-moved.ensures rank
      | else-last-taken w ↦ ap (λ (t : TieredList ℕ). remove t.items rank) w.order-is ∙ order_kept order c.args.taken c.args.last w.if-last-taken.false rank
    ] in
    (rank, c.rank_by-rank.ensures, ap (λ (t : TieredList ℕ). t.items) c.remove.ensures.items ∙ left)
