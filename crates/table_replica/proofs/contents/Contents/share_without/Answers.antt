use Rattle.std.proofs.Common.{◌∙◌, ap, arith}
use Rattle.table_replica.specs.declared.shares.Share.{Share}
use Rattle.table_replica.proofs.Owned.{left_share, same_share}
use Rattle.table_replica.proofs.contents.Contents.share_without.Goals as goal

pub overflow_sub-result : goal.overflow_sub-result
overflow_sub-result c =
    let whole = c.share-share.ensures ∙ left_share c.args.self.now.table c.args.domain c.args.id c.requires.sound c.requires.owned in
    let count = ap (λ (x : Share). x.filters) whole in
    omega (arith, count)

pub overflow_sub-result-2 : goal.overflow_sub-result-2
overflow_sub-result-2 c =
    let whole = c.share-share.ensures ∙ left_share c.args.self.now.table c.args.domain c.args.id c.requires.sound c.requires.owned in
    let sum = ap (λ (x : Share). x.instructions) whole in
    let long = c.length_of.ensures in
    omega (arith, sum, long)

pub returns : goal.returns
returns c =
    let whole = c.share-share.ensures ∙ left_share c.args.self.now.table c.args.domain c.args.id c.requires.sound c.requires.owned in
    let count = ap (λ (x : Share). x.filters) whole in
    let sum = ap (λ (x : Share). x.instructions) whole in
    let long = c.length_of.ensures in
    same_share _ _ _ _ (omega (arith, count)) (omega (arith, sum, long))
