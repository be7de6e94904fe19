use Rattle.std.proofs.Common.{refl}
use Rattle.std.proofs.lemmas.Result.{err_from_is_err_and}
use Rattle.monitor_messages.specs.Reading.{op_in, body_of, message_in}
use Rattle.monitor_messages.proofs.Carrying.{past_head, at_prepare, at_submit, fails_in}
use Rattle.monitor_messages.proofs.reading.carried_in_place.Goals as goal

pub prepare_in_place-requires : goal.prepare_in_place-requires
prepare_in_place-requires c =
    at_prepare c.in_ok-kind.kind c.in_ok-stamp.rest.now (past_head c.args.bytes.now c.in_ok-kind.kind c.in_ok-stamp.stamp c.in_ok-kind.rest.now c.in_ok-stamp.rest.now c.in_ok-kind.ensures c.in_ok-stamp.ensures c.requires) c.if-kind-eq1.true

pub load_in_place-requires : goal.load_in_place-requires
load_in_place-requires c =
    (at_submit c.in_ok-kind.kind c.in_ok-stamp.rest.now (past_head c.args.bytes.now c.in_ok-kind.kind c.in_ok-stamp.stamp c.in_ok-kind.rest.now c.in_ok-stamp.rest.now c.in_ok-kind.ensures c.in_ok-stamp.ensures c.requires) c.if-kind-eq1.false).1

pub returns-in_err-load : goal.returns-in_err-load
unfolding message_in body_of
returns-in_err-load c =
    let six = (at_submit c.in_ok-kind.kind c.in_ok-stamp.rest.now (past_head c.args.bytes.now c.in_ok-kind.kind c.in_ok-stamp.stamp c.in_ok-kind.rest.now c.in_ok-stamp.rest.now c.in_ok-kind.ensures c.in_ok-stamp.ensures c.requires) c.if-kind-eq1.false).0 in
    let p = err_from_is_err_and c.from_residual-in_err-load.result c.from_residual-in_err-load.ensures.1 in
    rw (p.1, p.2) (fails_in ⊥ ⊥ c.in_err-load.field-0.0 (op_in c.in_ok-stamp.rest.now) (message_in c.args.bytes.now) (λ no. no) (λ none. rw (c.in_ok-kind.ensures, c.in_ok-stamp.ensures, six, none) refl) c.in_err-load.ensures)

pub returns : goal.returns
unfolding message_in body_of
returns c =
    let six = (at_submit c.in_ok-kind.kind c.in_ok-stamp.rest.now (past_head c.args.bytes.now c.in_ok-kind.kind c.in_ok-stamp.stamp c.in_ok-kind.rest.now c.in_ok-stamp.rest.now c.in_ok-kind.ensures c.in_ok-stamp.ensures c.requires) c.if-kind-eq1.false).0 in
    rw (c.in_ok-kind.ensures, c.in_ok-stamp.ensures, six, c.in_ok-load.ensures) refl
