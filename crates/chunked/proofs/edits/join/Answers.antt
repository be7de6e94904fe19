use Rattle.std.proofs.Common.{◌≡◌, ◌+◌, ◌<◌, ◌++◌, IsOk, length, slice_set, get_or, sym, ap, ◌∙◌, arith}
use Rattle.std.specs.List.{remove}
use Rattle.std.proofs.lemmas.List.{map-set}
use Rattle.std.proofs.lemmas.List.Edits.{get_or-remove_below}
use Rattle.chunked.specs.Chunks.{lists, chunk_at}
use Rattle.chunked.proofs.Vectors.{list_read, room_read, map-remove}
use Rattle.chunked.proofs.edits.join.Goals as goal

pub returns-clause-lists : goal.returns-clause-lists
returns-clause-lists g c =
    let all = c.args.chunks.now.items in
    let chunk = c.args.chunk in
    let first = c.index_mut.result.now in
    let next = c.remove-next.result in
    let left = c.remove-next.ensures.items in
    let inside : chunk < length all = omega arith in
    let read : first ≡ get_or all chunk first = c.index_mut.ensures.value ∙ ap (λ xs. get_or xs chunk first) left ∙ get_or-remove_below all (chunk + 1) first chunk (omega arith) c.requires.inside in
    let at = list_read all chunk first inside read in
    let at_next = list_read all (chunk + 1) next c.requires.inside c.remove-next.ensures.value in
    let room = room_read all chunk first inside read in
    let ok : IsOk c.append.result = c.append.ensures.succeeds (omega (arith, ap length at, ap length at_next)) in
    let new : c.append.new.self.items ≡ first.items ++ next.items = grind arith in
    map-set (λ v. v.items) c.remove-next.new.self.items chunk c.append.new.self
    ∙ ap (λ xs. slice_set xs chunk c.append.new.self.items) (ap lists left ∙ map-remove (λ v. v.items) all (chunk + 1))
    ∙ ap (slice_set (remove (lists all) (chunk + 1)) chunk) (new ∙ ap (λ xs. xs ++ next.items) (sym at) ∙ ap (λ xs. chunk_at (lists all) chunk ++ xs) (sym at_next))
