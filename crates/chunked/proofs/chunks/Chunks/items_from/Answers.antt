use Rattle.std.proofs.Common.{◌≡◌, ◌+◌, ◌-◌, ◌<◌, ◌++◌, suc, length, take, drop, sym, ap, ◌∙◌, subst, arith}
use Rattle.std.specs.List.{All}
use Rattle.std.proofs.lemmas.List.{drop-map, take_rest}
use Rattle.std.proofs.lemmas.List.Elements.{All-drop, All-weaker}
use Rattle.chunked.specs.Chunks.{whole, chunk_at, lists, IsFilled}
use Rattle.chunked.proofs.Whole.{drop_in}
use Rattle.chunked.proofs.Vectors.{count, list_read}
use Rattle.chunked.proofs.chunks.Chunks.items_from.Goals as goal

pub invariant_of-result : goal.invariant_of-result
invariant_of-result g c =
    let all = c.deref-2.result.now in
    let from = c.args.chunk + 1 in
    let some = All-weaker IsFilled (λ d. 0 < length d) (λ d is. is.some) (lists c.self.inside.chunks.items) c.self.invariant.filled in
    subst (λ cs. All (λ d. 0 < length d) cs)
    (ap (λ xs. drop from (lists xs)) (sym c.deref-2.ensures.value) ∙ drop-map (λ v. v.items) from all ∙ ap lists (sym (take_rest all from)))
    (All-drop (λ d. 0 < length d) from (lists c.self.inside.chunks.items) some)

pub returns : goal.returns
returns g c =
    let all = c.self.inside.chunks.items in
    let chunk = c.args.chunk in
    let one : chunk + 1 ≡ suc chunk = omega arith in
    let shown : lists all ≡ c.args.self.now.chunks = ap (λ v. v.chunks) c.self.view_is in
    let inside : chunk < length (lists all) = subst (λ cs. chunk < length cs) (sym shown) c.requires.inside in
    let at = list_read all chunk c.index.result.now (omega (arith, count all)) c.index.ensures in
    let items = c.deref.result.now in
    let here : items ≡ chunk_at c.args.self.now.chunks chunk = c.deref.ensures.value ∙ sym at ∙ ap (λ cs. chunk_at cs chunk) shown in
    let rest : lists (take (length c.deref-2.result.now - (chunk + 1)) (drop (chunk + 1) c.deref-2.result.now)) ≡ drop (suc chunk) c.args.self.now.chunks =
    ap lists (take_rest c.deref-2.result.now (chunk + 1)) ∙ sym (drop-map (λ v. v.items) (chunk + 1) c.deref-2.result.now)
    ∙ ap (λ xs. drop (chunk + 1) (lists xs)) c.deref-2.ensures.value ∙ ap (λ cs. drop (chunk + 1) cs) shown ∙ ap (λ n. drop n c.args.self.now.chunks) one in
    ap (λ xs. xs ++ whole (lists (take (length c.deref-2.result.now - (chunk + 1)) (drop (chunk + 1) c.deref-2.result.now)))) (take_rest items c.args.offset ∙ ap (drop c.args.offset) here)
    ∙ ap (λ cs. drop c.args.offset (chunk_at c.args.self.now.chunks chunk) ++ whole cs) rest
    ∙ sym (drop_in c.args.self.now.chunks chunk c.args.offset c.requires.inside c.requires.offset)
