use Rattle.core_machine.specs.Wiring.{AreWired}
use Rattle.core_machine.proofs.wiring.wire.Given as goal

abbrev pub invariant-loop-peer : goal.invariant-loop-peer
invariant-loop-peer l = AreWired l.cores l.peer l.first l.links.items
