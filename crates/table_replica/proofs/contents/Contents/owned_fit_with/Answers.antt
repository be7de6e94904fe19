use Rattle.std.proofs.Common.{◌≡◌, ◌∙◌, ◌+◌, ap, arith, leb}
use Rattle.filter_table.specs.Tables.{instructions_of, owned_by, replaced}
use Rattle.table_replica.specs.declared.shares.Share.{Share}
use Rattle.table_replica.specs.Shown.{Staging}
use Rattle.table_replica.proofs.Owned.{new_share}
use Rattle.table_replica.proofs.contents.Contents.owned_fit_with.Goals as goal

pub returns : goal.returns
returns g c =
    let s = c.args.self.now.table in
    let new = ap (λ (x : Share). x.instructions) (new_share s c.args.domain c.args.id (g.C.Code.insns c.args.program) c.requires.sound c.requires.owned) in
    let left = ap (λ (x : Share). x.instructions) c.share_without-left.ensures in
    let count = c.count.ensures in
    let same : c.share_without-left.result.instructions + c.count.result ≡ instructions_of (owned_by c.args.domain (replaced s.filters c.args.id (g.C.Code.insns c.args.program))) = omega (arith, new, left, count) in
    let limit = c.domain_insns.ensures ∙ ap (λ (v : Staging). v.table.limits.domain_insns) c.self.view_is in
    c.fit.ensures ∙ (ap (λ n. leb n c.domain_insns.result) same ∙ ap (leb (instructions_of (owned_by c.args.domain (replaced s.filters c.args.id (g.C.Code.insns c.args.program))))) limit)
