use Rattle.std.proofs.Common.{◌≡◌, ◌∙◌, ◌+◌, ap, arith, leb}
use Rattle.filter_table.specs.Tables.{instructions_of, replaced}
use Rattle.table_replica.proofs.Counting.{replaced_left}
use Rattle.table_replica.proofs.contents.Contents.fit_with.Goals as goal

pub returns : goal.returns
returns g c =
    let s = c.args.self.now.table in
    let sum = replaced_left 0 s.next_filter c.args.id (g.C.Code.insns c.args.program) s.filters c.requires.sound.filter_ids c.requires.there in
    let is = c.instructions_without-left.ensures in
    let count = c.count.ensures in
    let same : c.instructions_without-left.result + c.count.result ≡ instructions_of (replaced s.filters c.args.id (g.C.Code.insns c.args.program)) = omega (arith, sum, is, count) in
    c.fit.ensures ∙ ap (λ n. leb n c.args.budget) same
