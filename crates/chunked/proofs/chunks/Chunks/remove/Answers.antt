use Rattle.std.proofs.Common.{◌≡◌, ◌<◌, length, slice_get, slice_set, Some, sym, ap, ◌∙◌, subst, arith}
use Rattle.std.specs.List.{remove}
use Rattle.std.proofs.lemmas.List.{length-set}
use Rattle.std.proofs.lemmas.List.Edits.{length-remove}
use Rattle.chunked.specs.Chunks.{whole, chunk_at, lists, IsSettled}
use Rattle.chunked.proofs.Whole.{taken_out, get_in}
use Rattle.chunked.proofs.Kept.{settled_whole, settled_shrunk}
use Rattle.chunked.proofs.Keeping.{kept_settled}
use Rattle.chunked.proofs.Vectors.{count}
use Rattle.chunked.proofs.chunks.Chunks.remove.Goals as goal

pub settle-shape-requires-clause-wide : goal.settle-shape-requires-clause-wide
settle-shape-requires-clause-wide g c = λ more.
    let all = c.self.inside.chunks.items in
    let mid = c.take_from-item.new.chunks.items in
    let few = length-set (lists all) c.args.chunk (remove (chunk_at (lists all) c.args.chunk) c.args.offset) in
    c.take_from-item.ensures.wide 128 (c.self.invariant.wide (omega (arith, count all, count mid, few, ap length c.take_from-item.ensures.lists)))

pub invariant_of-self : goal.invariant_of-self
invariant_of-self g c =
    let all = c.self.inside.chunks.items in
    let shown : lists all ≡ c.args.self.now.chunks = ap (λ v. v.chunks) c.self.view_is in
    let inside : c.args.chunk < length (lists all) = subst (λ cs. c.args.chunk < length cs) (sym shown) c.requires.inside in
    let within : c.args.offset < length (chunk_at (lists all) c.args.chunk) = subst (λ cs. c.args.offset < length (chunk_at cs c.args.chunk)) (sym shown) c.requires.offset in
    kept_settled c.self.inside.chunks c.take_from-item.new.chunks c.settle-shape.new.chunks c.self.inside.spare c.self.inside.ready c.args.chunk (remove (chunk_at (lists all) c.args.chunk) c.args.offset) c.settle-shape.result
    c.self.invariant inside c.take_from-item.ensures.lists (length-remove (chunk_at (lists all) c.args.chunk) c.args.offset within)
    c.settle-shape.ensures.settled (λ n wide. c.settle-shape.ensures.wide n (c.take_from-item.ensures.wide n wide))

pub returns-clause-item : goal.returns-clause-item
returns-clause-item g c =
    let shown : lists c.self.inside.chunks.items ≡ c.args.self.now.chunks = ap (λ v. v.chunks) c.self.view_is in
    get_in c.args.self.now.chunks c.args.chunk c.args.offset c.take_from-item.result c.requires.inside
    (subst (λ cs. slice_get (chunk_at cs c.args.chunk) c.args.offset ≡ Some c.take_from-item.result) shown c.take_from-item.ensures.item)

pub returns-clause-items : goal.returns-clause-items
returns-clause-items g c =
    let shown : lists c.self.inside.chunks.items ≡ c.args.self.now.chunks = ap (λ v. v.chunks) c.self.view_is in
    settled_whole (lists c.take_from-item.new.chunks.items) (lists c.settle-shape.new.chunks.items) c.args.chunk c.settle-shape.result c.settle-shape.ensures.settled
    ∙ ap whole (c.take_from-item.ensures.lists ∙ ap (λ cs. slice_set cs c.args.chunk (remove (chunk_at cs c.args.chunk) c.args.offset)) shown)
    ∙ taken_out c.args.self.now.chunks c.args.chunk c.args.offset c.requires.inside c.requires.offset

pub returns-clause-shrunk : goal.returns-clause-shrunk
returns-clause-shrunk g c =
    let shown : lists c.self.inside.chunks.items ≡ c.args.self.now.chunks = ap (λ v. v.chunks) c.self.view_is in
    let mid = c.take_from-item.ensures.lists ∙ ap (λ cs. slice_set cs c.args.chunk (remove (chunk_at cs c.args.chunk) c.args.offset)) shown in
    settled_shrunk c.args.self.now.chunks (lists c.settle-shape.new.chunks.items) c.args.chunk (remove (chunk_at c.args.self.now.chunks c.args.chunk) c.args.offset) c.settle-shape.result
    (subst (λ cs. IsSettled cs c.args.chunk c.settle-shape.result (lists c.settle-shape.new.chunks.items)) mid c.settle-shape.ensures.settled)
    c.requires.inside (length-remove (chunk_at c.args.self.now.chunks c.args.chunk) c.args.offset c.requires.offset)
