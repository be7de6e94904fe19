use Rattle.std.proofs.Common.{◌≡◌, ◌<◌, ◌∙◌, arith, ap, false, is_lt, sym, true}
use Rattle.std.proofs.lemmas.Bool.{not-true}
use Rattle.filter_group.specs.Order.{program_cmp}
use Rattle.filter_group.proofs.Sorting.{stands_between}
use Rattle.filter_group.proofs.order.is_between.Goals as goal

pub returns-then-is_lt : goal.returns-then-is_lt
returns-then-is_lt c met =
    let placed = c.args.placed.now in
    let order = c.args.order.now.items in
    let program = c.args.program.now in
    let before = c.code_at-before.ensures in
    let after = c.code_at-after.ensures in
    let some : 0 < c.args.rank = let other = c.if-rank-eq0.false in omega arith in
    let less : is_lt (program_cmp c.code_at-before.result.now program) ≡ true = ap is_lt (sym c.program_order.ensures) ∙ (sym c.is_lt.ensures ∙ c.if-is_lt.true) in
    let not : is_lt (program_cmp c.code_at-after.result.now program) ≡ false = ap is_lt (sym c.program_order-then-is_lt.ensures) ∙ (sym c.is_lt-then-is_lt.ensures ∙ not-true c.is_lt-then-is_lt.result met) in
    stands_between placed order program c.args.rank before.0 after.0 c.code_at-before.result.now c.code_at-after.result.now c.requires some before.1 before.2 after.1 after.2 less not
