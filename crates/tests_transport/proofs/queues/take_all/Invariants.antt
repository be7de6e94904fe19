use Rattle.rx_queue.specs.Queue.{SameIntake}
use Rattle.tests_transport.proofs.queues.take_all.Given as goal

-- the intake stays on its queue
abbrev pub invariant-loop : goal.invariant-loop
invariant-loop g l = SameIntake l.initial.intake l.intake
