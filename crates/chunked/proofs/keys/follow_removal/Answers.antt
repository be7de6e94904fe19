use Rattle.std.proofs.Common.{◌≡◌, ◌+◌, suc, map, slice_set, sym, ap, ◌∙◌, subst, arith}
use Rattle.std.specs.List.{remove}
use Rattle.std.proofs.lemmas.List.{map-set}
use Rattle.chunked.specs.Chunks.{chunk_at, IsShrunk}
use Rattle.chunked.specs.Entries.{first_key}
use Rattle.chunked.proofs.Vectors.{map-remove}
use Rattle.chunked.proofs.keys.follow_removal.Goals as goal

pub returns-in-Same : goal.returns-in-Same
returns-in-Same g c =
    let old = c.requires.0 in
    let now = c.args.chunks.now.chunks in
    let i = c.args.chunk in
    let same = subst (λ s. IsShrunk old i s now) c.in-Same.is c.requires.3 in
    ap (slice_set c.args.firsts.now.items i) c.first_of.ensures
    ∙ ap (λ xs. slice_set xs i (first_key (chunk_at now i))) c.requires.1
    ∙ sym (ap (map first_key) same.0 ∙ map-set first_key old i (chunk_at now i))

pub returns-in-Gone : goal.returns-in-Gone
returns-in-Gone g c =
    let old = c.requires.0 in
    let now = c.args.chunks.now.chunks in
    let i = c.args.chunk in
    let gone = subst (λ s. IsShrunk old i s now) c.in-Gone.is c.requires.3 in
    c.remove.ensures.items
    ∙ ap (λ xs. remove xs i) c.requires.1
    ∙ sym (ap (map first_key) gone.0 ∙ map-remove first_key old i)

pub returns-in-Joined : goal.returns-in-Joined
returns-in-Joined g c =
    let old = c.requires.0 in
    let now = c.args.chunks.now.chunks in
    let j = c.in-Joined.first in
    let one : j + 1 ≡ suc j = omega arith in
    let joined = subst (λ s. IsShrunk old c.args.chunk s now) c.in-Joined.is c.requires.3 in
    ap (λ xs. slice_set xs j c.first_of-in-Joined.result) (c.remove-in-Joined.ensures.items ∙ ap (λ n. remove c.args.firsts.now.items n) one ∙ ap (λ xs. remove xs (suc j)) c.requires.1)
    ∙ ap (slice_set (remove (map first_key old) (suc j)) j) c.first_of-in-Joined.ensures
    ∙ sym (ap (map first_key) joined.chunks ∙ map-set first_key (remove old (suc j)) j (chunk_at now j) ∙ ap (λ xs. slice_set xs j (first_key (chunk_at now j))) (map-remove first_key old (suc j)))
