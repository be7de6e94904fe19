use Rattle.rx_queue.specs.Queue.{AreEnds}
use Rattle.tests_transport.proofs.queues.jobs_go_from_thread_to_thread.Given as goal

-- the two stay the ends of one queue
abbrev pub invariant-loop-number : goal.invariant-loop-number
invariant-loop-number g l = AreEnds l.port l.intake
