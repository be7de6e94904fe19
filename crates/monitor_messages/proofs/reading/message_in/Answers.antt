use Rattle.std.proofs.Common.{refl}
use Rattle.std.proofs.lemmas.Result.{err_from_is_err_and}
use Rattle.monitor_messages.specs.Carrying.{CarriesFrom, CarriesProgram}
use Rattle.monitor_messages.specs.Reading.{body_of, message_in}
use Rattle.monitor_messages.proofs.Carrying.{behind_head, fails_in}
use Rattle.monitor_messages.proofs.reading.message_in.Goals as goal

pub returns-in_err-message : goal.returns-in_err-message
unfolding message_in
returns-in_err-message c =
    let p = err_from_is_err_and c.from_residual-in_err-message.result c.from_residual-in_err-message.ensures.1 in
    rw (p.1, p.2) (fails_in (CarriesFrom c.in_ok-kind.kind c.in_ok-stamp.rest.now) (CarriesProgram c.args.bytes.now) c.in_err-message.field-0.0 (body_of c.in_ok-kind.kind c.in_ok-stamp.rest.now) (message_in c.args.bytes.now)
    (behind_head c.args.bytes.now c.in_ok-kind.kind c.in_ok-stamp.stamp c.in_ok-kind.rest.now c.in_ok-stamp.rest.now c.in_ok-kind.ensures c.in_ok-stamp.ensures)
    (λ none. rw (c.in_ok-kind.ensures, c.in_ok-stamp.ensures, none) refl) c.in_err-message.ensures)
