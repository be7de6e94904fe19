use Rattle.std.proofs.Common.{◌≡◌, get_or, ◌+◌, ◌++◌, suc, [], ◌∷◌, sym, ap, ◌∙◌, arith}
use Rattle.std.proofs.lemmas.List.{get_or_default}
use Rattle.tiered.specs.Blocks.{block_at, with_before}
use Rattle.tiered.proofs.Whole.{carried_back}
use Rattle.tiered.proofs.carry.carry_back.Goals as goal

pub returns-clause-items : goal.returns-clause-items
returns-clause-items g c =
    let bs = c.args.blocks.now in
    let i = c.args.block in
    let new = c.push_back.new.self in
    let out = c.push_back.result in
    let at : block_at bs i ≡ get_or bs i c.index-blocks-block.result = get_or_default bs i [] c.index-blocks-block.result c.requires.inside in
    let more : suc i ≡ i + 1 = omega arith in
    carried_back bs i new out c.args.carried c.requires.inside (c.push_back.ensures ∙ ap (λ ys. ys ++ c.args.carried ∷ []) (sym at))
    ∙ ap (λ n. with_before bs n c.args.carried) more
