use Rattle.std.proofs.Common.{◌≡◌, ◌<◌, length, [], sym, ap, ◌∙◌, subst, arith}
use Rattle.std.proofs.lemmas.List.Elements.{All-get_or}
use Rattle.chunked.specs.Chunks.{lists, IsFilled}
use Rattle.chunked.proofs.Vectors.{count, list_read}
use Rattle.chunked.proofs.chunks.Chunks.chunk.Goals as goal

pub returns-clause-filled : goal.returns-clause-filled
returns-clause-filled g c =
    let all = c.self.inside.chunks.items in
    let shown : lists all ≡ c.args.self.now.chunks = ap (λ v. v.chunks) c.self.view_is in
    let inside : c.args.chunk < length (lists all) = subst (λ cs. c.args.chunk < length cs) (sym shown) c.requires in
    let at = list_read all c.args.chunk c.index.result.now (omega (arith, count all)) c.index.ensures in
    subst (λ xs. IsFilled xs) (at ∙ sym c.deref.ensures.value) (All-get_or IsFilled (lists all) c.args.chunk [] inside c.self.invariant.filled)
