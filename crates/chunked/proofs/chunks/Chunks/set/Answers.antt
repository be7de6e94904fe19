use Rattle.std.proofs.Common.{◌≡◌, ◌<◌, length, slice_set, sym, ap, subst}
use Rattle.std.proofs.lemmas.List.{length-set}
use Rattle.chunked.specs.Chunks.{lists, chunk_at}
use Rattle.chunked.proofs.Keeping.{kept-set}
use Rattle.chunked.proofs.chunks.Chunks.set.Goals as goal

pub invariant_of-self : goal.invariant_of-self
invariant_of-self g c =
    let all = c.self.inside.chunks.items in
    let shown : lists all ≡ c.args.self.now.chunks = ap (λ v. v.chunks) c.self.view_is in
    let inside : c.args.chunk < length (lists all) = subst (λ cs. c.args.chunk < length cs) (sym shown) c.requires.inside in
    kept-set c.self.inside.chunks c.set_in.new.chunks c.self.inside.spare c.self.inside.ready c.args.chunk (slice_set (chunk_at (lists all) c.args.chunk) c.args.offset c.args.item)
    c.self.invariant inside c.set_in.ensures.lists (length-set (chunk_at (lists all) c.args.chunk) c.args.offset c.args.item) c.set_in.ensures.rooms c.set_in.ensures.len c.set_in.ensures.room
