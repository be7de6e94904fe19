use Rattle.std.proofs.Common.{refl}
use Rattle.std.proofs.lemmas.Result.{err_from_is_err_and}
use Rattle.monitor_messages.specs.Carrying.{LoadsAt}
use Rattle.monitor_messages.specs.Reading.{op_in, prepare_in}
use Rattle.monitor_messages.proofs.Carrying.{behind_u64, fails_in}
use Rattle.monitor_messages.proofs.reading.prepare_in.Goals as goal

pub returns-in_err-op : goal.returns-in_err-op
unfolding prepare_in
returns-in_err-op c =
    let p = err_from_is_err_and c.from_residual-in_err-op.result c.from_residual-in_err-op.ensures.1 in
    rw (p.1, p.2) (fails_in (LoadsAt 0 c.in_ok-txn.rest.now) (LoadsAt 8 c.args.bytes.now) c.in_err-op.field-0.0 (op_in c.in_ok-txn.rest.now) (prepare_in c.args.bytes.now)
    (behind_u64 c.args.bytes.now c.in_ok-txn.txn c.in_ok-txn.rest.now c.in_ok-txn.ensures) (λ none. rw (c.in_ok-txn.ensures, none) refl) c.in_err-op.ensures)
