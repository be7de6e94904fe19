use Rattle.std.proofs.Common.{slice_set, sym, ap, ◌∙◌}
use Rattle.std.specs.List.{remove}
use Rattle.std.proofs.lemmas.List.{map-set}
use Rattle.chunked.specs.Chunks.{lists}
use Rattle.chunked.proofs.Vectors.{list_read}
use Rattle.chunked.proofs.edits.take_from.Goals as goal

pub returns-clause-lists : goal.returns-clause-lists
returns-clause-lists g c =
    let at = list_read c.args.chunks.now.items c.args.chunk c.index_mut.result.now c.requires.inside c.index_mut.ensures.value in
    map-set (λ v. v.items) c.args.chunks.now.items c.args.chunk c.remove.new.self
    ∙ ap (slice_set (lists c.args.chunks.now.items) c.args.chunk) (c.remove.ensures.items ∙ ap (λ xs. remove xs c.args.offset) (sym at))
