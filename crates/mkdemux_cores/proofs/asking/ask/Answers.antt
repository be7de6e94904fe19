use Rattle.std.proofs.Common.{◌<◌, subst}
use Rattle.core_machine.specs.Machines.{RingCore}
use Rattle.mkdemux_cores.specs.Asking.{HasAsked}
use Rattle.mkdemux_cores.proofs.Leading.{leads}
use Rattle.mkdemux_cores.proofs.asking.ask.Goals as goal

pub returns-then-has_lost_core_0-clause-peer_closed : goal.returns-then-has_lost_core_0-clause-peer_closed
returns-then-has_lost_core_0-clause-peer_closed c = λ _.
    (c.in-Some.open.value, c.in-Some.ensures.core, subst (λ (x : RingCore). 0 < x.number) c.deref.ensures (c.has_lost_core_0.ensures c.if-has_lost_core_0.true))

pub returns-in-Ok-clause-asked : goal.returns-in-Ok-clause-asked
returns-in-Ok-clause-asked c = λ _.
    leads (HasAsked c.args.op) c.args.core.now.core c.put-2.new.self.core c.deref_mut.result.now c.in-Some.open.value c.ask-asked.new.self c.deref_mut.ensures.value c.in-Some.ensures.core c.put-2.ensures c.in-Ok.ensures.ok
