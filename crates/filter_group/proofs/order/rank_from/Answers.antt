use Rattle.std.proofs.Common.{◌≡◌, ◌∙◌, arith, ap, ℕ, true, false, is_lt, sym}
use Rattle.filter_group.specs.Order.{program_cmp}
use Rattle.filter_group.proofs.Sorting.{between_earlier, between_later}
use Rattle.filter_group.proofs.order.rank_from.Goals as goal

pub loop-low-preserved-then-is_lt : goal.loop-low-preserved-then-is_lt
loop-low-preserved-then-is_lt c =
    let placed = c.args.placed.now in
    let b = c.loop-low.invariant in
    let within = b.within in
    let met = c.loop-low-test.true in
    let middle : ℕ = c.probe-middle.result in
    let from = c.probe-middle.ensures.low in
    let to = c.probe-middle.ensures.high in
    let there = c.code_at.ensures in
    let less : is_lt (program_cmp c.code_at.result.now c.args.program.now) ≡ true = ap is_lt (sym c.program_order.ensures) ∙ (sym c.is_lt.ensures ∙ c.if-is_lt.true) in
    between_later placed c.args.order.now.items c.args.program.now c.loop-low.low c.loop-low.high middle there.0 c.code_at.result.now c.requires b (omega arith) (omega arith) there.1 there.2 less

pub loop-low-preserved : goal.loop-low-preserved
loop-low-preserved c =
    let placed = c.args.placed.now in
    let b = c.loop-low.invariant in
    let within = b.within in
    let met = c.loop-low-test.true in
    let middle : ℕ = c.probe-middle.result in
    let from = c.probe-middle.ensures.low in
    let to = c.probe-middle.ensures.high in
    let there = c.code_at.ensures in
    let less : is_lt (program_cmp c.code_at.result.now c.args.program.now) ≡ false = ap is_lt (sym c.program_order.ensures) ∙ (sym c.is_lt.ensures ∙ c.if-is_lt.false) in
    between_earlier placed c.args.order.now.items c.args.program.now c.loop-low.low c.loop-low.high middle there.0 c.code_at.result.now c.requires b (omega arith) (omega arith) there.1 there.2 less
