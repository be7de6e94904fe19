use Rattle.std.proofs.Common.{◌∙◌}
use Rattle.filter_group.proofs.Sorting.{compared_all}
use Rattle.filter_group.proofs.order.program_order.Goals as goal

pub returns : goal.returns
returns c =
    c.then.ensures
    ∙ compared_all c.args.a.now c.args.b.now c.loop-place.place c.min-place-end.result c.loop-place.constants c.loop-place.invariant c.cmp-2.result c.loop-place-test.false c.cmp-2.ensures
