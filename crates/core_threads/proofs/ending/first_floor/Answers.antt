use Rattle.std.proofs.Common.{refl, ap, ◌∙◌}
use Rattle.std.proofs.lemmas.List.{drop_all}
use Rattle.core_machine.specs.Lanes.{items_for}
use Rattle.core_threads.proofs.Searches.{items_here, items_past}
use Rattle.core_threads.proofs.ending.first_floor.Goals as goal

pub loop-item-preserved : goal.loop-item-preserved
loop-item-preserved c = c.loop-item.invariant ∙ items_past _ _ _ c.item-item.result c.loop-item-test.true c.item-item.is c.if-item-number.false

pub returns-then-item-number : goal.returns-then-item-number
returns-then-item-number c = record {
  job = c.item-item.result.1;
  later = _;
  first = c.loop-item.invariant ∙ items_here _ _ _ c.item-item.result c.loop-item-test.true c.item-item.is c.if-item-number.true;
  is = refl;
}

pub returns : goal.returns
returns c = c.loop-item.invariant ∙ ap (items_for c.args.number) (drop_all c.loop-item.item-index c.args.left.now c.loop-item-test.false)
