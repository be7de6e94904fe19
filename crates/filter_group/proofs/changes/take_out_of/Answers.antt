use Rattle.std.proofs.Common.{get_or, sym, ◌∙◌, arith}
use Rattle.std.proofs.lemmas.Option.{slice_get-get_or, slice_get_within}
use Rattle.filter_group.specs.Changes.{IsLess}
use Rattle.filter_group.proofs.InTurn.{done_more, done_none}
use Rattle.filter_group.proofs.changes.take_out_of.Goals as goal

pub loop-n-init : goal.loop-n-init
loop-n-init c = done_none (λ i old slot. IsLess old c.args.member slot) c.args.slots.now

pub take_out-requires-clause-member : goal.take_out-requires-clause-member
take_out-requires-clause-member c =
    let slots = c.loop-n.slots in
    let here = c.loop-n.n in
    let at = slice_get-get_or slots here c.index-slots-n.result (omega arith) in
    (c.requires here (get_or slots here c.index-slots-n.result) (sym (c.loop-n.invariant.rest here (omega arith)) ∙ at)).0

pub take_out-requires-clause-rising : goal.take_out-requires-clause-rising
take_out-requires-clause-rising c =
    let slots = c.loop-n.slots in
    let here = c.loop-n.n in
    let at = slice_get-get_or slots here c.index-slots-n.result (omega arith) in
    (c.requires here (get_or slots here c.index-slots-n.result) (sym (c.loop-n.invariant.rest here (omega arith)) ∙ at)).1

pub loop-n-preserved : goal.loop-n-preserved
loop-n-preserved c =
    let slots = c.loop-n.slots in
    let here = c.loop-n.n in
    let one = get_or slots here c.index-slots-n.result in
    let at = slice_get-get_or slots here c.index-slots-n.result (omega arith) in
    done_more (λ i old slot. IsLess old c.args.member slot) here c.args.slots.now slots one c.take_out.new.self c.loop-n.invariant at
    (record { place = c.take_out.ensures.place; constants = c.take_out.ensures.constants; rising = c.take_out.ensures.rising })

pub returns : goal.returns
returns c = record {
  count = c.loop-n.invariant.many;
  each = λ n old slot at_old at. let inside = slice_get_within c.loop-n.slots n slot at in c.loop-n.invariant.done n old slot (omega arith) at_old at;
}
