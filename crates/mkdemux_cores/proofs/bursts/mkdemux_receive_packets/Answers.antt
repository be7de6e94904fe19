use Rattle.core_machine.specs.Machines.{RingCore}
use Rattle.mkdemux_cores.specs.Bursts.{IsBurst}
use Rattle.mkdemux_cores.proofs.Leading.{leads}
use Rattle.mkdemux_cores.proofs.bursts.mkdemux_receive_packets.Goals as goal

pub returns-clause-received : goal.returns-clause-received
returns-clause-received c = λ _.
    leads (λ (old new : RingCore).
    IsBurst old new c.args.packets.now c.receive_each-answer.result c.receive_each-answer.new.done c.args.room.now c.receive_each-answer.new.room c.args.counts.now c.receive_each-answer.new.counts)
    c.args.core.now.core c.put.new.self.core c.deref_mut.result.now c.in-Some.open.value c.receive_each-answer.new.core c.deref_mut.ensures.value c.in-Some.ensures.core c.put.ensures c.receive_each-answer.ensures.received
