use Rattle.monitor_messages.proofs.Carrying.{past_u64}
use Rattle.monitor_messages.proofs.reading.prepare_in_place.Goals as goal

pub load_in_place-requires : goal.load_in_place-requires
load_in_place-requires c = past_u64 c.args.bytes.now c.in_ok-txn.txn c.in_ok-txn.rest.now c.in_ok-txn.ensures c.requires
