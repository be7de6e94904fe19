use Rattle.std.proofs.Common.{◌≡◌, ◌+◌, ◌/◌, ◌++◌, [], ◌∷◌, slice_get, sym, ap, ◌∙◌, arith}
use Rattle.std.specs.List.{remove}
use Rattle.tiered.specs.Blocks.{whole, with_before}
use Rattle.tiered.proofs.Parts.{remove_first, get_first}
use Rattle.tiered.proofs.Places.{place_inside}
use Rattle.tiered.proofs.carry.remove_carrying.Goals as goal

pub returns-clause-item : goal.returns-clause-item
returns-clause-item g c =
    let bs = c.args.blocks.now in
    let place = c.args.place in
    let block : place / 2048 + 1 ≡ c.loop-block.block + 1 = omega arith in
    let all : with_before c.loop-block.blocks (place / 2048 + 1) c.loop-block.carried ≡ whole bs ++ c.args.item ∷ [] =
    ap (λ n. with_before c.loop-block.blocks n c.loop-block.carried) block ∙ c.loop-block.invariant.items
    in
    sym (get_first (whole bs) (c.args.item ∷ []) place (place_inside bs place c.requires.inside c.requires.full))
    ∙ ap (λ ys. slice_get ys place) (sym all)
    ∙ c.take_out.ensures.item

pub returns-clause-items : goal.returns-clause-items
returns-clause-items g c =
    let bs = c.args.blocks.now in
    let place = c.args.place in
    let block : place / 2048 + 1 ≡ c.loop-block.block + 1 = omega arith in
    let all : with_before c.loop-block.blocks (place / 2048 + 1) c.loop-block.carried ≡ whole bs ++ c.args.item ∷ [] =
    ap (λ n. with_before c.loop-block.blocks n c.loop-block.carried) block ∙ c.loop-block.invariant.items
    in
    c.take_out.ensures.items
    ∙ ap (λ ys. remove ys place) all
    ∙ remove_first (whole bs) (c.args.item ∷ []) place (place_inside bs place c.requires.inside c.requires.full)
