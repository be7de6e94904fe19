-- Core 0 with its log, and its steps.
-- No public clause cites these.
use Rattle.std.specs.Prelude.{◌≡◌, ◌≢◌, ◌++◌, ◌∷◌, [], ℕ, Option, None, Some, List, length}
use Rattle.std.specs.declared.snapshot.Snapshot.{Snapshot}
use Rattle.filter_table.specs.declared.operation.Op.{Op}
use Rattle.filter_table.specs.Tables.{table}
use Rattle.monitor_messages.specs.declared.message.Message.{Message}
use Rattle.filter_table.specs.declared.decision.Decision.{Decision}
use Rattle.filter_table.specs.declared.decision.Decision.TheVariants.{Committed}
use Rattle.world_model.specs.Cases.{joined}
use Rattle.world_model.specs.Worlds.{World}
use Rattle.core_steps.specs.declared.core0.Told.{Told}
use Rattle.core_steps.specs.Core0Steps.{BetweenSteps, CanBegin, Moves, Starts, StartsForCore, TakesUp}
use Rattle.world_events.specs.declared.fault.WorldFault.{WorldFault}
use Rattle.world_events.specs.declared.fault.WorldFault.TheVariants.{NoneWaiting, NoMemory}
use Rattle.world_core.specs.declared.core0.LoggedCore0.{LoggedCore0}
use Rattle.world_model.specs.Refusals.{waiting_at}

-- the operation under vote, if there is one
abbrev pub begun_op : Option (Snapshot Op) → Option Op
begun_op None = None
begun_op (Some op) = Some op.value

-- Core 0 is between steps, its replica is the newest table, and the operation under vote is the one that is staged.
pub record Core0IsKept (core0 : LoggedCore0) : Type 0 where
  pub shown : core0.core.replica.shown ≡ table core0.core.replica.shown.limits core0.log.items (length core0.log.items)
  pub between : BetweenSteps core0.core
  pub begun : begun_op core0.begun ≡ core0.core.replica.staged

-- it can begin a request, which its replica may have been asked to stage
pub record Core0IsIdle (core0 : LoggedCore0) : Type 0 where
  pub shown : core0.core.replica.shown ≡ table core0.core.replica.shown.limits core0.log.items (length core0.log.items)
  pub can : CanBegin core0.core
  pub none_begun : begun_op core0.begun ≡ None

-- it commits this operation, or nothing
pub record Core0Moves (core0 : LoggedCore0) (committed : Option Op) (core0' : LoggedCore0) : Type 0 where
  pub moves : Moves core0.core committed core0'.core
  pub log_next : core0'.log.items ≡ joined core0.log.items committed
  pub kept : Core0IsKept core0'

pub record Core0Starts (core0 : LoggedCore0) (op : Op) (core0' : LoggedCore0) (told : Told) : Type 0 where
  pub starts : Starts core0.core op core0'.core told
  pub log_next : core0'.log.items ≡ joined core0.log.items starts.committed
  pub kept : Core0IsKept core0'

pub record Core0StartsFor (core0 : LoggedCore0) (entry : ℕ) (core0' : LoggedCore0) (told : Told) : Type 0 where
  pub starts : StartsForCore core0.core entry core0'.core told
  pub log_next : core0'.log.items ≡ joined core0.log.items starts.committed
  pub kept : Core0IsKept core0'

pub record Core0Takes (core0 : LoggedCore0) (from : ℕ) (m : Message) (core0' : LoggedCore0) (told : Told) : Type 0 where
  pub takes : TakesUp core0.core from m core0'.core told
  pub log_next : core0'.log.items ≡ joined core0.log.items takes.committed
  pub kept : Core0IsKept core0'

-- What a decision leaves

-- what a decision at once adds to the log, and what is begun where there is none
abbrev pub logged : List Op → Op → Option Decision → List Op
logged log op (Some (Committed version id)) = log ++ op ∷ []
logged log op decided = log

abbrev pub begun_by : Option Op → Op → Option Decision → Option Op
begun_by begun op None = Some op
begun_by begun op decided = begun

-- the log, with the operation under vote where it is committed
abbrev pub entered : List Op → Option Op → Option Decision → List Op
entered log begun (Some (Committed version id)) = joined log begun
entered log begun decided = log

-- the operation under vote, until there is a decision
abbrev pub still_begun : Option Op → Option Decision → Option Op
still_begun begun None = begun
still_begun begun (Some decision) = None

-- of a StartFor of another core than core 0, once core 0 can start
abbrev pub StartForRefuses : World → ℕ → WorldFault → Type 0
StartForRefuses w core NoneWaiting = waiting_at w core ≡ None
StartForRefuses w core NoMemory = waiting_at w core ≢ None
StartForRefuses w core fault = ⊥
