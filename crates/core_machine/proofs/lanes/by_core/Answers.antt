use Rattle.std.proofs.Common.{◌≡◌, ◌<◌, ◌+◌, ◌++◌, ◌∷◌, [], Some, slice_get, length, sym, ap, ◌∙◌, subst, append_assoc, arith, rules}
use Rattle.std.specs.Vec.Iter.{into_iter_items}
use Rattle.std.proofs.lemmas.Option.{slice_get-get_or}
use Rattle.std.proofs.lemmas.List.{append-nil, nil_from_length}
use Rattle.world_model.proofs.Lists.{length-slice_set}
use Rattle.core_machine.specs.Lanes.{AreLanes}
use Rattle.core_machine.proofs.Dealing.{lanes_first, lanes_more, next_within}
use Rattle.core_machine.proofs.lanes.by_core.Goals as goal

pub loop-core-init : goal.loop-core-init
loop-core-init g c = (c.in_ok-lanes.ensures.count, lanes_first _ c.in_ok-lanes.ensures.empty, search rules, search rules)

pub loop-core-preserved : goal.loop-core-preserved
loop-core-preserved g c =
    let was = c.loop-core.invariant in
    let step = c.in-Some.ensures.steps in
    let lanes = c.loop-core.lanes.items in
    let place = c.from.result in
    let old = c.index_mut.result.now in
    let below : c.in-Some.core < c.args.cores = next_within c.args.cores c.in-Some.core _ _ c.in-Some.item was.2 step.0 in
    let inside : place < length lanes = omega (arith, c.from.ensures, was.0) in
    let there : slice_get lanes place ≡ Some old = slice_get-get_or lanes place old inside ∙ ap Some (sym c.index_mut.ensures.value) in (
      length-slice_set lanes place c.push_back.new.self ∙ was.0,
      lanes_more c.loop-core.yielded lanes c.in-Some.core place c.in-Some.item old c.push_back.new.self (sym c.from.ensures) there c.in_ok-push_back.ensures.items was.1,
      (λ k d below. let h = was.2 (k + 1) d in grind rules),
      was.3 ∙ ap (λ l. c.loop-core.yielded ++ l) step.0 ∙ sym (append_assoc c.loop-core.yielded ((c.in-Some.core, c.in-Some.item) ∷ []) _),
    )

pub returns-clause-lanes : goal.returns-clause-lanes
returns-clause-lanes g c =
    let none : into_iter_items c.loop-core.core-iterator ≡ [] = nil_from_length _ (sym c.loop-core.core-iterator.rest.ok.0 ∙ c.in-None.ensures.steps.0) in
    let whole : c.loop-core.yielded ≡ c.args.items.items =
    sym (append-nil c.loop-core.yielded) ∙ ap (λ l. c.loop-core.yielded ++ l) (sym none) ∙ sym c.loop-core.invariant.3 in
    subst (λ l. AreLanes l c.loop-core.lanes.items) whole c.loop-core.invariant.1
