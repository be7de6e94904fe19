use denote.Param.Send.{sendable}
use Rattle.core_machine.proofs.Crossing.{core_send}
use Rattle.example_cores.proofs.run.Goals as goal

pub for_each_mut-requires-send-T : goal.for_each_mut-requires-send-T
for_each_mut-requires-send-T g c = search (sendable, core_send) depth 10
