use Rattle.mkdemux_cores.specs.Turns.{HasTurned, WaitsInVain, plain}
use Rattle.mkdemux_cores.proofs.Leading.{leads}
use Rattle.mkdemux_cores.proofs.turning.mkdemux_turn.Goals as goal

pub returns-clause-turned : goal.returns-clause-turned
returns-clause-turned c = λ _.
    leads (HasTurned (plain c.turn_open-answer.result) c.turn_open-answer.new.turned) c.args.core.now.core c.put.new.self.core c.deref_mut.result.now c.in-Some.open.value c.turn_open-answer.new.core
    c.deref_mut.ensures.value c.in-Some.ensures.core c.put.ensures c.turn_open-answer.ensures.turned

pub returns-clause-peer_closed : goal.returns-clause-peer_closed
returns-clause-peer_closed c = λ is.
    leads (λ before after. WaitsInVain c.turn_open-answer.new.turned.closed after) c.args.core.now.core c.put.new.self.core c.deref_mut.result.now c.in-Some.open.value c.turn_open-answer.new.core
    c.deref_mut.ensures.value c.in-Some.ensures.core c.put.ensures (c.turn_open-answer.ensures.peer_closed is)
