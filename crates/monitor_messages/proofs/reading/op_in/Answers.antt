use Rattle.std.proofs.Common.{refl}
use Rattle.monitor_messages.specs.Carrying.{IsLoading, LoadsAt}
use Rattle.monitor_messages.specs.Reading.{op_in, op_of}
use Rattle.monitor_messages.proofs.Carrying.{is_first, gives_in}
use Rattle.monitor_messages.proofs.reading.op_in.Goals as goal

pub returns : goal.returns
unfolding op_in
returns c =
    gives_in (IsLoading c.in_ok-kind.kind) (LoadsAt 0 c.args.bytes.now) c.op_of.result (op_of c.in_ok-kind.kind c.in_ok-domain.domain c.in_ok-domain.rest.now) (op_in c.args.bytes.now)
    (is_first c.args.bytes.now c.in_ok-kind.kind c.in_ok-kind.rest.now c.in_ok-kind.ensures) (rw (c.in_ok-kind.ensures, c.in_ok-domain.ensures) refl) c.op_of.ensures
