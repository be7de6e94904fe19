use Rattle.std.proofs.Common.{◌≡◌, get_or, ◌+◌, ◌/◌, ◌%◌, suc, [], slice_set, sym, ap, ◌∙◌, arith}
use Rattle.std.specs.List.{insert}
use Rattle.std.proofs.lemmas.List.{get_or_default}
use Rattle.tiered.specs.Blocks.{block_at, with_before}
use Rattle.tiered.proofs.Places.{block_full, place_in}
use Rattle.tiered.proofs.Whole.{put_in}
use Rattle.tiered.proofs.carry.put_in.Goals as goal

pub returns-clause-items : goal.returns-clause-items
returns-clause-items g c =
    let bs = c.args.blocks.now in
    let i = c.args.place / 2048 in
    let k = c.args.place % 2048 in
    let new = c.insert.new.self in
    let out = c.insert.result in
    let at : block_at bs i ≡ get_or bs i c.index-blocks-place.result = get_or_default bs i [] c.index-blocks-place.result c.requires.inside in
    let all = block_full bs i c.requires.inside c.requires.full in
    let more : i + 1 ≡ suc i = omega arith in
    ap (λ n. with_before (slice_set bs i new) n out) more
    ∙ put_in bs i k c.args.place new out c.args.item c.requires.inside (omega arith) (place_in bs c.args.place c.requires.inside c.requires.full)
    (c.insert.ensures ∙ ap (λ ys. insert ys k c.args.item) (sym at))
