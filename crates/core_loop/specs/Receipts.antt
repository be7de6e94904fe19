-- The receipt of a packet.
use Rattle.std.specs.Prelude.{◌≡◌, ◌+◌, ◌<◌, ◌≤◌, ℕ, List, [], ◌∷◌}
use Rattle.table_replica.specs.Shown.{ReplicaState}
use mathlib.Core.List.{IsPrefix}
use Rattle.rx_queue.specs.declared.job.Job.{Job}
use Rattle.rx_queue.specs.declared.intake.Intake.{Intake}
use Rattle.rx_queue.specs.Queue.{jobs_seen}
use Rattle.world_events.specs.declared.event.Event.{Event}
use Rattle.world_events.specs.declared.event.Event.TheVariants.{Rx}
use Rattle.world_model.specs.Cases.{ReceivesAt}
use Rattle.world_histories.specs.declared.history.Stamped.{Stamped}
use Rattle.core_loop.specs.declared.refusal.Refusal.{Refusal}
use Rattle.core_loop.specs.declared.refusal.Refusal.TheVariants as refusal

-- the job that an event receives, if it is a receipt
abbrev pub receives : Event → List Job
receives (Rx core number packet floor) = record { number = number; packet = packet; floor = floor } ∷ []
receives event = []

-- the queue has shown the job as the next one, and its floor is at most the version
pub record IsReceivable (version : ℕ) (intake : Intake) (job : Job) : Type 0 where
  pub first : IsPrefix (job ∷ []) (jobs_seen intake)
  pub floor : job.floor ≤ version

-- a core of this number, with this replica, receives a job
pub record Receives (number clock : ℕ) (replica : ReplicaState) (s : Stamped) : Type 0 where
  pub job : Job
  pub is_event : s.done.event ≡ Rx number job.number job.packet job.floor
  pub stamp_next : s.stamp ≡ clock + 1
  pub here : ReceivesAt replica.shown replica.shown.version job.packet job.floor s.done.answer

-- why it doesn't receive the job that was seen
abbrev pub CannotReceive : ℕ → Refusal → Type 0
CannotReceive clock refusal.NotReady = ⊥
CannotReceive clock refusal.Spent = 18446744073709551615 ≤ clock
CannotReceive clock refusal.NoMemory = clock < 18446744073709551615
CannotReceive clock refusal.Stranger = ⊥
