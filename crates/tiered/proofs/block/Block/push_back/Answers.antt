use Rattle.std.proofs.Common.{◌≡◌, ◌+◌, ◌%◌, ◌++◌, suc, [], ◌∷◌, length, slice_set, get_or, ap, ◌∙◌, arith}
use Rattle.std.proofs.lemmas.List.{length-set}
use Rattle.tiered.specs.Blocks.{from_head}
use Rattle.tiered.proofs.Parts.{read_through}
use Rattle.tiered.proofs.Rings.{ring_full, wrapped, ended}
use Rattle.tiered.proofs.block.Block.push_back.Goals as goal

pub returns : goal.returns
returns g c =
    let xs = c.self.inside.items.items in
    let head = c.self.inside.head in
    let out = c.replace.result in
    let full : length xs ≡ 2048 = ring_full c.self.inside.items head c.args.self.now c.self.invariant c.self.view_is ∙ c.requires in
    let read : out ≡ get_or xs head out = read_through xs head c.index_mut.result.now out c.replace.ensures.value c.index_mut.ensures.value in
    let more : head + 1 ≡ suc head = omega arith in
    ap (λ y. out ∷ from_head (slice_set xs head y) ((head + 1) % 2048)) c.replace.ensures.after
    ∙ ap (λ ys. out ∷ ys) (wrapped (slice_set xs head c.args.item) (head + 1) (length-set xs head c.args.item ∙ full) (omega arith))
    ∙ ap (λ n. out ∷ from_head (slice_set xs head c.args.item) n) more
    ∙ ended xs head out c.args.item (omega arith) read
    ∙ ap (λ ys. ys ++ c.args.item ∷ []) c.self.view_is
