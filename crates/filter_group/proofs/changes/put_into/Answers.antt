use Rattle.std.proofs.Common.{◌≡◌, ◌∙◌, Some, get_or, slice_get, ap, sym, arith}
use Rattle.std.specs.List.{insert}
use Rattle.std.proofs.lemmas.Option.{get_or_from_slice_get, slice_get-get_or, slice_get_within}
use Rattle.bpf_insn.specs.declared.insn.Insn.{Insn}
use Rattle.filter_group.specs.declared.answers.Slot.{Slot}
use Rattle.filter_group.specs.Changes.{IsMore}
use Rattle.filter_group.proofs.InTurn.{done_more}
use Rattle.filter_group.proofs.MoreOrLess.{no_insn}
use Rattle.filter_group.proofs.Sides.{one_thing}
use Rattle.filter_group.proofs.changes.put_into.Goals as goal

pub bounds-code-slots : goal.bounds-code-slots
bounds-code-slots c =
    let at = slice_get-get_or c.loop-n.slots c.loop-n.n c.index-slots-n.result (omega arith) in
    (c.requires.can c.loop-n.n (get_or c.loop-n.slots c.loop-n.n c.index-slots-n.result) (sym (c.loop-n.invariant.rest c.loop-n.n (omega arith)) ∙ at)).1

pub offset_bounds-code-slots : goal.offset_bounds-code-slots
offset_bounds-code-slots c =
    let at = slice_get-get_or c.loop-n.slots c.loop-n.n c.index-slots-n.result (omega arith) in
    let inside = (c.requires.can c.loop-n.n (get_or c.loop-n.slots c.loop-n.n c.index-slots-n.result) (sym (c.loop-n.invariant.rest c.loop-n.n (omega arith)) ∙ at)).1 in
    omega arith

pub put-requires-clause-member : goal.put-requires-clause-member
put-requires-clause-member c =
    let at = slice_get-get_or c.loop-n.slots c.loop-n.n c.index-slots-n-in-loop-n.result (omega arith) in
    (c.requires.can c.loop-n.n (get_or c.loop-n.slots c.loop-n.n c.index-slots-n-in-loop-n.result) (sym (c.loop-n.invariant.rest c.loop-n.n (omega arith)) ∙ at)).0

pub put-requires-clause-rising : goal.put-requires-clause-rising
put-requires-clause-rising c =
    let at = slice_get-get_or c.loop-n.slots c.loop-n.n c.index-slots-n-in-loop-n.result (omega arith) in
    (c.requires.can c.loop-n.n (get_or c.loop-n.slots c.loop-n.n c.index-slots-n-in-loop-n.result) (sym (c.loop-n.invariant.rest c.loop-n.n (omega arith)) ∙ at)).2

pub put-requires-clause-room : goal.put-requires-clause-room
put-requires-clause-room c =
    let slots = c.loop-n.slots in
    let here = c.loop-n.n in
    let code = c.args.code.now in
    let one = get_or slots here c.index-slots-n-in-loop-n.result in
    let read = get_or slots here c.index-slots-n.result in
    let at = slice_get-get_or slots here c.index-slots-n-in-loop-n.result (omega arith) in
    let at_read = slice_get-get_or slots here c.index-slots-n.result (omega arith) in
    let same : read ≡ one = one_thing slots here read one at_read at in
    let was = sym (c.loop-n.invariant.rest here (omega arith)) in
    let inside = (c.requires.can here read (was ∙ at_read)).1 in
    c.requires.room here one (get_or code read.place no_insn) (was ∙ at) (ap (λ (s : Slot). slice_get code s.place) (sym same) ∙ slice_get-get_or code read.place no_insn inside)

pub loop-n-preserved : goal.loop-n-preserved
loop-n-preserved c =
    let slots = c.loop-n.slots in
    let here = c.loop-n.n in
    let code = c.args.code.now in
    let one = get_or slots here c.index-slots-n-in-loop-n.result in
    let read = get_or slots here c.index-slots-n.result in
    let at = slice_get-get_or slots here c.index-slots-n-in-loop-n.result (omega arith) in
    let same : read ≡ one = one_thing slots here read one (slice_get-get_or slots here c.index-slots-n.result (omega arith)) at in
    done_more (λ i old slot. (insn : Insn) → slice_get code old.place ≡ Some insn → IsMore old c.args.member insn.k slot) here c.args.slots.now slots one c.put.new.self c.loop-n.invariant at
    (λ insn at_insn.
    let constant : (get_or code read.place no_insn).k ≡ insn.k =
    ap (λ (s : Slot). (get_or code s.place no_insn).k) same ∙ ap (λ (i : Insn). i.k) (get_or_from_slice_get code one.place insn no_insn at_insn) in
    record {
      place = c.put.ensures.place;
      constants = c.put.ensures.constants ∙ ap (insert one.constants.items c.args.member) constant;
      rising = c.put.ensures.rising;
    })

pub returns : goal.returns
returns c = record {
  count = c.loop-n.invariant.many;
  each = λ n old slot insn at_old at. let inside = slice_get_within c.loop-n.slots n slot at in c.loop-n.invariant.done n old slot (omega arith) at_old at insn;
}
