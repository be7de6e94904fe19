use Rattle.std.proofs.Common.{◌≡◌, List, ℕ, Some, slice_get, subst, sym}
use Rattle.filter_group.proofs.order.place_at.Goals as goal

pub rank_among-requires : goal.rank_among-requires
rank_among-requires c =
    subst (λ (order : List ℕ). (rank : ℕ) × (slice_get order rank ≡ Some c.args.place)) (sym c.in-Some.ensures.same) (c.requires.order.all c.args.place c.requires.within)
