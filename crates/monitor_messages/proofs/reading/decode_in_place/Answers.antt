use Rattle.std.proofs.Common.{arith}
use Rattle.monitor_messages.specs.Carrying.{loaded_message}
use Rattle.monitor_messages.specs.Programs.{insns_of}
use Rattle.monitor_messages.proofs.Messages.{is_found, is_none}
use Rattle.monitor_messages.proofs.reading.decode_in_place.Goals as goal

pub returns-clause-found : goal.returns-clause-found
returns-clause-found c =
    is_found ⊥ (λ found. (found.stamp, loaded_message found.carrier found.load (insns_of found.program.bytes.now))) c.args.bytes.now c.carried_in_place.result (λ i. omega (arith, c.type_inv.bytes i)) c.carried_in_place.ensures

pub returns-clause-no_message : goal.returns-clause-no_message
returns-clause-no_message c =
    is_none (λ found. (found.stamp, loaded_message found.carrier found.load (insns_of found.program.bytes.now))) c.args.bytes.now c.carried_in_place.result c.carried_in_place.ensures
