use Rattle.std.proofs.Common.{◌≡◌, ◌+◌, IsOk, suc, map, slice_set, sym, ap, ◌∙◌, subst, arith}
use Rattle.std.specs.List.{insert}
use Rattle.std.proofs.lemmas.List.{map-set}
use Rattle.chunked.specs.Chunks.{chunk_at, IsGrown}
use Rattle.chunked.specs.Entries.{first_key}
use Rattle.chunked.proofs.Vectors.{map-insert}
use Rattle.chunked.proofs.keys.follow_insert.Goals as goal

pub returns-then-parted : goal.returns-then-parted
returns-then-parted g c =
    let old = c.requires.grown.0 in
    let now = c.args.chunks.now.chunks in
    let i = c.args.chunk in
    let firsts = c.args.firsts.now.items in
    let one : i + 1 ≡ suc i = omega arith in
    let two = subst (λ b. IsGrown old i b now) c.if-parted.true c.requires.grown.3 in
    let ok : IsOk c.insert.result = c.insert.ensures.succeeds c.requires.room in
    let new : c.insert.new.self.items ≡ insert (slice_set firsts i c.first_of.result) (i + 1) c.first_of-then-parted.result = grind arith in
    let after = ap (map first_key) two.chunks
    ∙ map-insert first_key (slice_set old i (chunk_at now i)) (suc i) (chunk_at now (suc i))
    ∙ ap (λ xs. insert xs (suc i) (first_key (chunk_at now (suc i)))) (map-set first_key old i (chunk_at now i)) in
    new
    ∙ ap (λ n. insert (slice_set firsts i c.first_of.result) n c.first_of-then-parted.result) one
    ∙ ap (insert (slice_set firsts i c.first_of.result) (suc i)) (c.first_of-then-parted.ensures ∙ ap (λ n. first_key (chunk_at now n)) one)
    ∙ ap (λ k. insert (slice_set firsts i k) (suc i) (first_key (chunk_at now (suc i)))) c.first_of.ensures
    ∙ ap (λ xs. insert (slice_set xs i (first_key (chunk_at now i))) (suc i) (first_key (chunk_at now (suc i)))) c.requires.grown.1
    ∙ sym after

pub returns-else-parted : goal.returns-else-parted
returns-else-parted g c =
    let old = c.requires.grown.0 in
    let now = c.args.chunks.now.chunks in
    let i = c.args.chunk in
    let longer = subst (λ b. IsGrown old i b now) c.if-parted.false c.requires.grown.3 in
    ap (slice_set c.args.firsts.now.items i) c.first_of.ensures
    ∙ ap (λ xs. slice_set xs i (first_key (chunk_at now i))) c.requires.grown.1
    ∙ sym (ap (map first_key) longer.chunks ∙ map-set first_key old i (chunk_at now i))
