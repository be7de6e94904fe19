use Rattle.std.proofs.Common.{◌≡◌, IsOk, length, slice_set, sym, ap, ◌∙◌, arith}
use Rattle.std.specs.List.{insert}
use Rattle.std.proofs.lemmas.List.{map-set}
use Rattle.chunked.specs.Chunks.{lists}
use Rattle.chunked.proofs.Vectors.{list_read, room_read}
use Rattle.chunked.proofs.edits.insert_into.Goals as goal

pub returns-clause-lists : goal.returns-clause-lists
returns-clause-lists g c =
    let old = c.index_mut.result.now in
    let at = list_read c.args.chunks.now.items c.args.chunk old c.requires.inside c.index_mut.ensures.value in
    let room = room_read c.args.chunks.now.items c.args.chunk old c.requires.inside c.index_mut.ensures.value in
    let ok : IsOk c.insert.result = c.insert.ensures.succeeds (omega (arith, ap length at)) in
    let new : c.insert.new.self.items ≡ insert old.items c.args.offset c.args.item = grind arith in
    map-set (λ v. v.items) c.args.chunks.now.items c.args.chunk c.insert.new.self
    ∙ ap (slice_set (lists c.args.chunks.now.items) c.args.chunk) (new ∙ ap (λ xs. insert xs c.args.offset c.args.item) (sym at))
