use Rattle.std.proofs.Common.{slice_set, map, vec_capacity, sym, ap, ◌∙◌}
use Rattle.std.specs.Vec.{with_item}
use Rattle.std.proofs.lemmas.List.{map-set, set-get_or}
use Rattle.chunked.specs.Chunks.{lists}
use Rattle.chunked.proofs.Vectors.{list_read, room_read}
use Rattle.chunked.proofs.edits.set_in.Goals as goal

pub returns-clause-lists : goal.returns-clause-lists
returns-clause-lists g c =
    let all = c.args.chunks.now.items in
    let at = list_read all c.args.chunk c.index_mut.result.now c.requires.inside c.index_mut.ensures.value in
    map-set (λ v. v.items) all c.args.chunk (with_item c.index_mut.result.now c.args.offset c.args.item)
    ∙ ap (λ xs. slice_set (lists all) c.args.chunk (slice_set xs c.args.offset c.args.item)) (sym at)

pub returns-clause-rooms : goal.returns-clause-rooms
returns-clause-rooms g c =
    let all = c.args.chunks.now.items in
    let room = room_read all c.args.chunk c.index_mut.result.now c.requires.inside c.index_mut.ensures.value in
    map-set (λ v. vec_capacity v) all c.args.chunk (with_item c.index_mut.result.now c.args.offset c.args.item)
    ∙ ap (λ n. slice_set (map (λ v. vec_capacity v) all) c.args.chunk n) (sym room)
    ∙ set-get_or (map (λ v. vec_capacity v) all) c.args.chunk 0
