use Rattle.std.proofs.Common.{◌≡◌, get_or, ◌+◌, ◌/◌, ◌%◌, ◌++◌, suc, [], ◌∷◌, slice_get, sym, ap, ◌∙◌, arith}
use Rattle.std.specs.List.{remove}
use Rattle.std.proofs.lemmas.List.{get_or_default}
use Rattle.tiered.specs.Blocks.{block_at, with_before}
use Rattle.tiered.proofs.Places.{block_full, place_in}
use Rattle.tiered.proofs.Whole.{taken_out, get_before}
use Rattle.tiered.proofs.carry.take_out.Goals as goal

pub returns-clause-item : goal.returns-clause-item
returns-clause-item g c =
    let bs = c.args.blocks.now in
    let i = c.args.place / 2048 in
    let k = c.args.place % 2048 in
    let at : block_at bs i ≡ get_or bs i c.index-blocks-place.result = get_or_default bs i [] c.index-blocks-place.result c.requires.inside in
    let all = block_full bs i c.requires.inside c.requires.full in
    let more : i + 1 ≡ suc i = omega arith in
    ap (λ n. slice_get (with_before bs n c.args.carried) c.args.place) more
    ∙ get_before bs i k c.args.place c.args.carried c.requires.inside (omega arith) (place_in bs c.args.place c.requires.inside c.requires.full)
    ∙ ap (λ ys. slice_get ys k) at
    ∙ c.remove.ensures.item

pub returns-clause-items : goal.returns-clause-items
returns-clause-items g c =
    let bs = c.args.blocks.now in
    let i = c.args.place / 2048 in
    let k = c.args.place % 2048 in
    let at : block_at bs i ≡ get_or bs i c.index-blocks-place.result = get_or_default bs i [] c.index-blocks-place.result c.requires.inside in
    let all = block_full bs i c.requires.inside c.requires.full in
    let more : suc i ≡ i + 1 = omega arith in
    taken_out bs i k c.args.place c.remove.new.self c.args.carried c.requires.inside (omega arith) (place_in bs c.args.place c.requires.inside c.requires.full)
    (c.remove.ensures.items ∙ ap (λ ys. remove ys k ++ c.args.carried ∷ []) (sym at))
    ∙ ap (λ n. remove (with_before bs n c.args.carried) c.args.place) more
