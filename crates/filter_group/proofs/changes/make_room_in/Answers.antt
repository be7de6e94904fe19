use Rattle.std.proofs.Common.{◌≡◌, ◌∙◌, get_or, refl, slice_get, ap, sym, subst, arith}
use Rattle.std.proofs.lemmas.Option.{get_or_from_slice_get, slice_get-get_or, slice_get_within}
use Rattle.bpf_insn.specs.declared.insn.Insn.{Insn}
use Rattle.filter_group.specs.declared.answers.Slot.{Slot}
use Rattle.filter_group.specs.Changes.{HasRoom, IsSame}
use Rattle.filter_group.proofs.InTurn.{can_same, room_more, same_more}
use Rattle.filter_group.proofs.MoreOrLess.{no_insn}
use Rattle.filter_group.proofs.Sides.{one_thing}
use Rattle.filter_group.proofs.changes.make_room_in.Goals as goal

pub loop-n-init : goal.loop-n-init
loop-n-init c = record {
  same = record {
    count = refl;
    each = λ n old slot at_old at.
        subst (IsSame old) (one_thing c.args.slots.now n old slot at_old at) (record { place = refl; constants = refl; rising = (c.requires n old at_old).2 });
  };
  room = λ i slot insn low at at_insn. absurd (omega arith);
}

pub bounds-code-slots : goal.bounds-code-slots
bounds-code-slots c =
    let slots = c.loop-n.slots in
    let here = c.loop-n.n in
    let at = slice_get-get_or slots here c.index-slots-n.result (omega arith) in
    (can_same c.args.slots.now slots c.args.member c.args.code.now c.requires c.loop-n.invariant.same here (get_or slots here c.index-slots-n.result) at).1

pub offset_bounds-code-slots : goal.offset_bounds-code-slots
offset_bounds-code-slots c =
    let slots = c.loop-n.slots in
    let here = c.loop-n.n in
    let at = slice_get-get_or slots here c.index-slots-n.result (omega arith) in
    let inside = (can_same c.args.slots.now slots c.args.member c.args.code.now c.requires c.loop-n.invariant.same here (get_or slots here c.index-slots-n.result) at).1 in
    omega arith

pub make_room-requires-clause-member : goal.make_room-requires-clause-member
make_room-requires-clause-member c =
    let slots = c.loop-n.slots in
    let here = c.loop-n.n in
    let at = slice_get-get_or slots here c.index-slots-n-in-loop-n.result (omega arith) in
    (can_same c.args.slots.now slots c.args.member c.args.code.now c.requires c.loop-n.invariant.same here (get_or slots here c.index-slots-n-in-loop-n.result) at).0

pub make_room-requires-clause-rising : goal.make_room-requires-clause-rising
make_room-requires-clause-rising c =
    let slots = c.loop-n.slots in
    let here = c.loop-n.n in
    let at = slice_get-get_or slots here c.index-slots-n-in-loop-n.result (omega arith) in
    (can_same c.args.slots.now slots c.args.member c.args.code.now c.requires c.loop-n.invariant.same here (get_or slots here c.index-slots-n-in-loop-n.result) at).2

pub returns-in_err-make_room-clause-same : goal.returns-in_err-make_room-clause-same
returns-in_err-make_room-clause-same c =
    let slots = c.loop-n.slots in
    let here = c.loop-n.n in
    let one = get_or slots here c.index-slots-n-in-loop-n.result in
    let at = slice_get-get_or slots here c.index-slots-n-in-loop-n.result (omega arith) in
    same_more here c.args.slots.now slots one c.make_room.new.self c.loop-n.invariant.same at c.in_err-make_room.ensures.same

pub loop-n-preserved : goal.loop-n-preserved
loop-n-preserved c =
    let slots = c.loop-n.slots in
    let here = c.loop-n.n in
    let code = c.args.code.now in
    let new = c.make_room.new.self in
    let one = get_or slots here c.index-slots-n-in-loop-n.result in
    let read = get_or slots here c.index-slots-n.result in
    let at = slice_get-get_or slots here c.index-slots-n-in-loop-n.result (omega arith) in
    let same : read ≡ one = one_thing slots here read one (slice_get-get_or slots here c.index-slots-n.result (omega arith)) at in
    let is = c.in_ok-make_room.ensures.same in
    record {
      same = same_more here c.args.slots.now slots one new c.loop-n.invariant.same at is;
      room = room_more here slots one new c.args.member code c.loop-n.invariant.room at
          (λ insn at_insn.
          let constant : (get_or code read.place no_insn).k ≡ insn.k =
          ap (λ (s : Slot). (get_or code s.place no_insn).k) same
          ∙ ap (λ (i : Insn). i.k) (get_or_from_slice_get code one.place insn no_insn (ap (slice_get code) (sym is.place) ∙ at_insn)) in
          subst (HasRoom new c.args.member) constant c.in_ok-make_room.ensures.room);
    }

pub returns-clause-room : goal.returns-clause-room
returns-clause-room c = λ n slot insn at at_insn. let inside = slice_get_within c.loop-n.slots n slot at in c.loop-n.invariant.room n slot insn (omega arith) at at_insn
