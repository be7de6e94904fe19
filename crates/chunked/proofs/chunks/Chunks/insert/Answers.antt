use Rattle.std.proofs.Common.{◌≡◌, ◌<◌, ◌≤◌, length, slice_set, sym, ap, ◌∙◌, subst, arith}
use Rattle.std.specs.List.{insert}
use Rattle.std.proofs.lemmas.List.Edits.{length-insert}
use Rattle.chunked.specs.Chunks.{whole, chunk_at, lists, IsParted}
use Rattle.chunked.proofs.Whole.{put_in}
use Rattle.chunked.proofs.Kept.{parted_whole, parted_two}
use Rattle.chunked.proofs.Keeping.{kept_longer, kept_parted, full_wide}
use Rattle.chunked.proofs.Vectors.{count, list_read}
use Rattle.chunked.proofs.chunks.Chunks.insert.Goals as goal

pub invariant_of-self : goal.invariant_of-self
invariant_of-self g c =
    let all = c.self.inside.chunks.items in
    let shown : lists all ≡ c.args.self.now.chunks = ap (λ v. v.chunks) c.self.view_is in
    let inside : c.args.chunk < length (lists all) = subst (λ cs. c.args.chunk < length cs) (sym shown) c.requires.inside in
    let within : c.args.offset ≤ length (chunk_at (lists all) c.args.chunk) = subst (λ cs. c.args.offset ≤ length (chunk_at cs c.args.chunk)) (sym shown) c.requires.offset in
    let at = list_read all c.args.chunk c.index.result.now (omega (arith, count all)) c.index.ensures in
    kept_longer c.self.inside.chunks c.insert_into.new.chunks c.self.inside.spare c.self.inside.ready c.args.chunk (insert (chunk_at (lists all) c.args.chunk) c.args.offset c.args.item)
    c.self.invariant inside c.insert_into.ensures.lists c.insert_into.ensures.wide
    (length-insert (chunk_at (lists all) c.args.chunk) c.args.offset c.args.item within) (omega (arith, ap length at))

pub returns-then-len-lt-MOST_TOGETHER-clause-items : goal.returns-then-len-lt-MOST_TOGETHER-clause-items
returns-then-len-lt-MOST_TOGETHER-clause-items g c =
    let all = c.self.inside.chunks.items in
    let shown : lists all ≡ c.args.self.now.chunks = ap (λ v. v.chunks) c.self.view_is in
    ap whole (c.insert_into.ensures.lists ∙ ap (λ cs. slice_set cs c.args.chunk (insert (chunk_at cs c.args.chunk) c.args.offset c.args.item)) shown)
    ∙ put_in c.args.self.now.chunks c.args.chunk c.args.offset c.args.item c.requires.inside c.requires.offset

pub invariant_of-self-2 : goal.invariant_of-self-2
invariant_of-self-2 g c =
    let all = c.self.inside.chunks.items in
    let shown : lists all ≡ c.args.self.now.chunks = ap (λ v. v.chunks) c.self.view_is in
    let inside : c.args.chunk < length (lists all) = subst (λ cs. c.args.chunk < length cs) (sym shown) c.requires.inside in
    let within : c.args.chunk < length all = omega (arith, count all) in
    let at = list_read all c.args.chunk c.index.result.now within c.index.ensures in
    kept_parted c.self.inside.chunks c.insert_parted.new.chunks c.self.inside.spare c.replace-rest.new.dest c.self.inside.ready c.args.chunk c.args.offset c.args.item
    c.self.invariant inside c.insert_parted.ensures.parted
    (full_wide all c.args.chunk within (omega (arith, ap length at)) c.self.invariant.wide) c.insert_parted.ensures.wide
    (ap (λ v. v.items) c.replace-rest.ensures.after ∙ c.new.ensures.items)

pub returns-clause-items : goal.returns-clause-items
returns-clause-items g c =
    let all = c.self.inside.chunks.items in
    let shown : lists all ≡ c.args.self.now.chunks = ap (λ v. v.chunks) c.self.view_is in
    parted_whole c.args.self.now.chunks (lists c.insert_parted.new.chunks.items) c.args.chunk c.args.offset c.args.item
    (subst (λ cs. IsParted cs (lists c.insert_parted.new.chunks.items) c.args.chunk c.args.offset c.args.item) shown c.insert_parted.ensures.parted)
    c.requires.inside c.requires.offset

pub returns-clause-grown : goal.returns-clause-grown
returns-clause-grown g c =
    let all = c.self.inside.chunks.items in
    let shown : lists all ≡ c.args.self.now.chunks = ap (λ v. v.chunks) c.self.view_is in
    parted_two c.args.self.now.chunks (lists c.insert_parted.new.chunks.items) c.args.chunk c.args.offset c.args.item
    (subst (λ cs. IsParted cs (lists c.insert_parted.new.chunks.items) c.args.chunk c.args.offset c.args.item) shown c.insert_parted.ensures.parted)
    c.requires.inside c.requires.offset
