use Rattle.rx_queue.specs.Queue.{SamePort}
use Rattle.tests_transport.proofs.queues.put_all.Given as goal

-- the port stays on its queue
abbrev pub invariant-loop : goal.invariant-loop
invariant-loop g l = SamePort l.initial.port l.port
