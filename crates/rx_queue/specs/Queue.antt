-- What contracts see of the two ends of a bounded queue with one writer and one reader
-- (L. Lamport, Proving the Correctness of Multiprocess Programs, 1977, the producer and the consumer).
use Rattle.std.specs.Prelude.{ℕ, List}
use Rattle.rtrb.specs.Ring as ring
use Rattle.rx_queue.specs.declared.job.Job.{Job}
use Rattle.rx_queue.specs.declared.port.Port.{Port}
use Rattle.rx_queue.specs.declared.intake.Intake.{Intake}

-- every job that was put, the first one first
abbrev pub jobs_put : Port → List Job
jobs_put p = ring.sent p.producer

-- how many places the port knows to be free
abbrev pub free_places : Port → ℕ
free_places p = ring.known_free p.producer

-- every job that was taken, the first one first
abbrev pub jobs_taken : Intake → List Job
jobs_taken i = ring.received i.consumer

-- the jobs in the queue that were seen: the next ones that are taken
abbrev pub jobs_seen : Intake → List Job
jobs_seen i = ring.known_items i.consumer

-- the two ends of one queue
abbrev pub AreEnds : Port → Intake → Type 0
AreEnds p i = ring.IsPair p.producer i.consumer

-- the same port, before and after a call
abbrev pub SamePort : Port → Port → Type 0
SamePort old new = ring.SameProducer old.producer new.producer

-- the same intake, before and after a call
abbrev pub SameIntake : Intake → Intake → Type 0
SameIntake old new = ring.SameConsumer old.consumer new.consumer
