use Rattle.monitor_messages.proofs.Carrying.{first_is}
use Rattle.monitor_messages.proofs.reading.load_in_place.Goals as goal

pub load_of-requires : goal.load_of-requires
load_of-requires c = first_is c.args.bytes.now c.in_ok-kind.kind c.in_ok-kind.rest.now c.in_ok-kind.ensures c.requires
