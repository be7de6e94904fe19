use Rattle.std.proofs.Common.{take, length}
use Rattle.core_loop.specs.Receiving.{HasReceived}
use Rattle.core_machine.specs.Machines.{RingCore}
use Rattle.mkdemux_cores.specs.Receipts.{IsNotReceived}
use Rattle.mkdemux_cores.proofs.Leading.{leads}
use Rattle.mkdemux_cores.proofs.receiving.mkdemux_receive.Goals as goal

pub returns-clause-received : goal.returns-clause-received
returns-clause-received c = λ done.
    leads (λ (old new : RingCore). HasReceived old new c.args.packet.now c.args.original (take c.receive_at-answer.new.count c.receive_at-answer.new.room))
    c.args.core.now.core c.put.new.self.core c.deref_mut.result.now c.in-Some.open.value c.receive_at-answer.new.core c.deref_mut.ensures.value c.in-Some.ensures.core c.put.ensures (c.receive_at-answer.ensures.received done)

pub returns-clause-refused : goal.returns-clause-refused
returns-clause-refused c = λ refused _.
    leads (λ (old new : RingCore). IsNotReceived old c.args.packet.now c.args.original (length c.args.room.now) c.receive_at-answer.result c.receive_at-answer.new.count)
    c.args.core.now.core c.put.new.self.core c.deref_mut.result.now c.in-Some.open.value c.receive_at-answer.new.core c.deref_mut.ensures.value c.in-Some.ensures.core c.put.ensures (c.receive_at-answer.ensures.refused refused)
