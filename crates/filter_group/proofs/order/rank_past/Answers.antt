use Rattle.std.proofs.Common.{◌≡◌, ◌∙◌, arith, ℕ, List, Some, slice_get, subst}
use Rattle.bpf_insn.specs.declared.insn.Insn.{Insn}
use Rattle.filter_group.specs.Order.{IsRank}
use Rattle.filter_group.proofs.Sides.{one_thing}
use Rattle.filter_group.proofs.Sorting.{from_rank}
use Rattle.filter_group.proofs.order.rank_past.Goals as goal

pub loop-rank-init : goal.loop-rank-init
loop-rank-init c =
    let placed = c.args.placed.now in
    let order = c.args.order.now.items in
    let sought : c.code-code.result.now ≡ c.at.result.now = c.code-code.ensures.code ∙ c.verified.ensures in
    from_rank placed order c.at.result.now c.seek_from-first.result.rank c.args.place c.requires.order
    (subst (λ (p : List Insn). IsRank placed order p c.seek_from-first.result.rank) sought c.seek_from-first.ensures) c.at.ensures

pub loop-rank-preserved : goal.loop-rank-preserved
loop-rank-preserved c =
    let order = c.args.order.now.items in
    let rank = c.loop-rank.rank in
    let there = c.loop-rank.invariant in
    let from = there.1 in
    let other : there.0 ≡ rank → ⊥ = λ e.
    c.if-at-place.false (one_thing order rank c.at-in-loop-rank.result.now c.args.place c.at-in-loop-rank.ensures (subst (λ (n : ℕ). slice_get order n ≡ Some c.args.place) e there.2)) in
    (there.0, omega arith, there.2)
