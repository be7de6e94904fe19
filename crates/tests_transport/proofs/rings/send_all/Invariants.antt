use Rattle.ump_ring.specs.Senders.{SameSender}
use Rattle.tests_transport.proofs.rings.send_all.Given as goal

-- the sender stays on its ring
abbrev pub invariant-loop : goal.invariant-loop
invariant-loop g l = SameSender l.initial.sender l.sender
