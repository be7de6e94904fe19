use Rattle.std.proofs.Common.{◌≡◌, ◌∙◌, ◌++◌, ◌∷◌, [], ap, arith, List, ℕ, length, sym, subst}
use Rattle.std.specs.List.{insert}
use Rattle.std.proofs.lemmas.List.{length_push}
use Rattle.bpf_insn.specs.declared.insn.Insn.{Insn}
use Rattle.tiered.specs.Lists.{TieredList}
use Rattle.filter_group.specs.Order.{IsOrder, IsRank}
use Rattle.filter_group.proofs.Sorting.{order_put}
use Rattle.filter_group.proofs.programs.Programs.add.Goals as goal

pub invariant_of-self-2 : goal.invariant_of-self-2
invariant_of-self-2 c =
    let placed = c.self.inside.placed in
    let order = c.self.inside.order.items in
    let program = c.args.program.now in
    let rank = c.rank_near-rank.result in
    let sought : c.code-code.result.now ≡ program = c.code-code.ensures.code ∙ c.verified.ensures in
    let is_rank : IsRank placed order program rank = subst (λ (p : List Insn). IsRank placed order p rank) sought c.rank_near-rank.ensures in
    let place : c.in_ok-place.place ≡ length placed = c.in_ok-place.ensures.same ∙ c.len.ensures.count in
    let items : c.insert_reserved.new.self.items ≡ insert order rank (length placed) =
    ap (λ (t : TieredList ℕ). t.items) c.insert_reserved.ensures
    ∙ (ap (λ (o : List ℕ). insert o rank c.in_ok-place.place) c.in_ok-reserve.ensures.items ∙ ap (insert order rank) place) in
    let done : c.add.new.self ≡ placed ++ program ∷ [] = c.in_ok-add.ensures.done in (
      subst (λ (ps : List (List Insn)). IsOrder ps c.insert_reserved.new.self.items) (sym done)
          (subst (IsOrder (placed ++ program ∷ [])) (sym items) (order_put placed order program rank c.self.invariant.0 is_rank)),
      let small = c.in_ok-place.ensures.small in let more = ap (length {A = List Insn}) done in let one = length_push placed program in omega arith,
    )
