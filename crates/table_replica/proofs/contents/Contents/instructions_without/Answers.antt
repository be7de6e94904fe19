use Rattle.std.proofs.Common.{ap, arith, sym}
use Rattle.filter_table.specs.Tables.{instructions_of}
use Rattle.table_replica.specs.Shown.{Staging}
use Rattle.table_replica.proofs.Counting.{found_fits, removed_count}
use Rattle.table_replica.proofs.contents.Contents.instructions_without.Goals as goal

pub overflow_sub-result : goal.overflow_sub-result
overflow_sub-result c =
    let fits = found_fits c.args.id c.args.self.now.table.filters in
    let is = c.length_of.ensures in
    let total = c.self.invariant.total in
    let same = ap (λ (v : Staging). instructions_of v.table.filters) c.self.view_is in
    omega (arith, fits, is, total, same)

pub returns : goal.returns
returns c =
    let s = c.args.self.now.table in
    let left = removed_count 0 s.next_filter c.args.id s.filters c.requires.filter_ids in
    let is = c.length_of.ensures in
    let total = c.self.invariant.total in
    let same = ap (λ (v : Staging). instructions_of v.table.filters) c.self.view_is in
    omega (arith, left, is, total, same)
