use Rattle.ump_ring.specs.Receivers.{SameReceiver}
use Rattle.tests_transport.proofs.rings.take_all.Given as goal

-- the receiver stays on its ring
abbrev pub invariant-loop : goal.invariant-loop
invariant-loop g l = SameReceiver l.initial.receiver l.receiver
