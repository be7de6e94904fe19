use Rattle.std.proofs.Common.{◌≡◌, get_or, ◌+◌, suc, [], ◌∷◌, slice_set, sym, ap, ◌∙◌, arith}
use Rattle.std.proofs.lemmas.List.{get_or_default}
use Rattle.tiered.specs.Blocks.{block_at, with_before}
use Rattle.tiered.proofs.Whole.{carried_on}
use Rattle.tiered.proofs.carry.carry_on.Goals as goal

pub returns-clause-items : goal.returns-clause-items
returns-clause-items g c =
    let bs = c.args.blocks.now in
    let i = c.args.block in
    let new = c.push_front.new.self in
    let out = c.push_front.result in
    let at : block_at bs i ≡ get_or bs i c.index-blocks-block.result = get_or_default bs i [] c.index-blocks-block.result c.requires.inside in
    let more : i + 1 ≡ suc i = omega arith in
    ap (λ n. with_before (slice_set bs i new) n out) more
    ∙ carried_on bs i new out c.args.carried c.requires.inside (c.push_front.ensures ∙ ap (λ ys. c.args.carried ∷ ys) (sym at))
