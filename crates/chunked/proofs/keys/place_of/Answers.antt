use Rattle.std.proofs.Common.{◌≡◌, ◌+◌, ◌<◌, ◌≤◌, suc, [], length, get_or, take, drop, ltb, sym, ap, ◌∙◌, subst, arith, rules}
use Rattle.std.specs.List.Sorted.{IsNonDecreasingBy}
use Rattle.std.proofs.lemmas.List.{length-map, get_or-map, take_all}
use Rattle.std.proofs.lemmas.List.Sorted.{IsPartitionedBy-ltb, IsPartitionPoint-from_clause}
use Rattle.chunked.specs.Chunks.{chunk_at}
use Rattle.chunked.specs.Entries.{first_key, AreBelow, AreFrom}
use Rattle.chunked.proofs.Rising.{rising_chunk, rising-keys, below_point, from_point, cut_at, past_value}
use Rattle.chunked.proofs.keys.place_of.Goals as goal

pub returns : goal.returns
returns g c =
    let cs = c.args.chunks.now.chunks in
    let i = c.chunk_of_key-chunk.result in
    let off = c.partition_point-offset.result in
    let key = c.args.key in
    let items = c.chunk.result.now in
    let long = ap length c.requires.firsts ∙ length-map cs first_key in
    let inside : i < length cs = omega (arith, c.chunk_of_key-chunk.ensures.inside) in
    let one : i + 1 ≡ suc i = omega arith in
    let rises = subst (λ xs. IsNonDecreasingBy (λ e. e.0) xs) (sym c.chunk.ensures.items) (rising-keys (chunk_at cs i) (rising_chunk cs i c.requires.rising inside)) in
    let point = IsPartitionPoint-from_clause (λ e. ltb e.0 key) _ _ c.partition_point-offset.ensures.partitioned (IsPartitionedBy-ltb (λ e. e.0) items key rises) (λ a r q k. search rules) in
    let below = subst (λ xs. AreBelow key (take off xs)) c.chunk.ensures.items (below_point key items off point.0) in
    let from = subst (λ xs. AreFrom key (drop off xs)) c.chunk.ensures.items (from_point key items off point.1) in
    let within : off ≤ length (chunk_at cs i) = omega (arith, ap length c.chunk.ensures.items, c.partition_point-offset.ensures.bound) in
    let some : 0 < length (chunk_at cs i) = omega (arith, ap length c.chunk.ensures.items, c.chunk.ensures.filled.some) in
    let first : 0 < i → first_key (chunk_at cs i) ≤ key = λ more.
    omega (arith, c.chunk_of_key-chunk.ensures.from more, ap (λ xs. get_or xs i 0) c.requires.firsts ∙ get_or-map first_key cs i [] 0 inside) in
    let next : suc i < length cs → key < first_key (chunk_at cs (suc i)) = λ more.
    let there : i + 1 < length cs = omega arith in
    let read : get_or c.args.firsts.now (i + 1) 0 ≡ first_key (chunk_at cs (suc i)) =
    ap (λ xs. get_or xs (i + 1) 0) c.requires.firsts ∙ get_or-map first_key cs (i + 1) [] 0 there ∙ ap (λ n. first_key (chunk_at cs n)) one in
    omega (arith, c.chunk_of_key-chunk.ensures.to (omega arith)) in
    record {
      inside = inside;
      offset = within;
      cut = cut_at cs i off key inside c.requires.rising first some next within below from;
      past = λ all. past_value cs i key inside c.requires.rising first some next (subst (λ xs. AreBelow key xs) (take_all off (chunk_at cs i) (omega arith)) below);
    }
