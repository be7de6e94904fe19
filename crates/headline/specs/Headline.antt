-- The headline, by what can be seen alone: the events that a machine did, with their answers, and the replicas of its cores.
use Rattle.std.specs.Prelude.{◌≡◌, ◌==◌, ℕ, if◌then◌else◌, Some, List, [], ◌∷◌, slice_get, flat_map}
use Rattle.filter_table.specs.Limits.{TableLimits}
use Rattle.filter_table.specs.declared.operation.Op.{Op}
use Rattle.filter_table.specs.Tables.{table}
use Rattle.table_replica.specs.Shown.{ReplicaState}
use Rattle.rx_queue.specs.declared.job.Job.{Job}
use Rattle.world_events.specs.declared.event.Event.{Event}
use Rattle.world_events.specs.declared.event.Event.TheVariants.{Start, Submit, Rx}
use Rattle.world_events.specs.declared.event.Done.{Done}
use Rattle.world_model.specs.Committed.{log_of}
use Rattle.world_model.specs.Readings.{version_of}

-- Replicas

-- a replica shows the table that the log makes at this version, under these limits
pub record ShowsTable (limits : TableLimits) (log : List Op) (version : ℕ) (replica : ReplicaState) : Type 0 where
  pub numbered : replica.shown.version ≡ version
  pub shown : replica.shown ≡ table limits log version

-- each core's replica shows the table that the committed operations make under these limits at the core's version: how often it committed
abbrev pub ShowTables : TableLimits → List Done → List ReplicaState → Type 0
ShowTables limits events replicas = (core : ℕ) (replica : ReplicaState) → slice_get replicas core ≡ Some replica → ShowsTable limits (log_of events) (version_of core events) replica

-- replicas at one version hold equal tables, next ids included
abbrev pub AreEqualByVersion : List ReplicaState → Type 0
AreEqualByVersion replicas = (core other : ℕ) (r s : ReplicaState) → slice_get replicas core ≡ Some r → slice_get replicas other ≡ Some s → r.shown.version ≡ s.shown.version → r.shown ≡ s.shown

-- What was given

-- the request of a core's own that it begins with the event: core 0 starts it, another core submits it
abbrev pub begun_by : ℕ → Event → List Op
begun_by core (Start op) = if 0 == core then op ∷ [] else []
begun_by core (Submit from op) = if from == core then op ∷ [] else []
begun_by core event = []

-- the job that a core receives with the event
abbrev pub received_by : ℕ → Event → List Job
received_by core (Rx to number packet floor) = if to == core then record { number = number; packet = packet; floor = floor } ∷ [] else []
received_by core event = []

-- the requests that a core begins in these events, in order
abbrev pub begun_in : ℕ → List Done → List Op
begun_in core events = flat_map (λ done. begun_by core done.event) events

-- the jobs that a core receives in these events, in order
abbrev pub received_in : ℕ → List Done → List Job
received_in core events = flat_map (λ done. received_by core done.event) events
