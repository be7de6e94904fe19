-- What a core's event takes of its requests and jobs, and when there is no event.
-- No public clause cites these.
use Rattle.std.specs.Prelude.{◌≡◌, ◌++◌, [], ℕ, Bool, false, List}
use mathlib.Core.List.{IsPrefix}
use Rattle.filter_table.specs.declared.operation.Op.{Op}
use Rattle.rx_queue.specs.declared.intake.Intake.{Intake}
use Rattle.rx_queue.specs.Queue.{jobs_seen, jobs_taken}
use Rattle.world_histories.specs.declared.history.Stamped.{Stamped}
use Rattle.core_links.specs.Views.{LinkView}
use Rattle.core_loop.specs.declared.part.Part.{Part}
use Rattle.core_loop.specs.Cores.{begins}
use Rattle.core_loop.specs.Receipts.{receives}
use Rattle.core_loop.specs.Beginning.{CanBeginNext}
use Rattle.core_loop.specs.Choosing.{NoMessageNow}
use Rattle.core_loop.specs.Turning.{IsUnshortened, MayReceive}

-- the event begins the first request or receives the front job, or neither; it receives none where none may be received
pub record Consumes (before left : List Op) (old new : Intake) (rx : Bool) (s : Stamped) : Type 0 where
  pub requests : before ≡ begins s.done.event ++ left
  pub jobs : jobs_taken new ≡ jobs_taken old ++ receives s.done.event
  pub front : IsPrefix (jobs_seen old) (receives s.done.event ++ jobs_seen new)
  pub whole : IsUnshortened s.done.event
  pub leave : rx ≡ false → receives s.done.event ≡ []

-- no request was begun and no job received
pub record ConsumesNone (before left : List Op) (old new : Intake) : Type 0 where
  pub requests : left ≡ before
  pub jobs : jobs_taken new ≡ jobs_taken old
  pub seen : IsPrefix (jobs_seen old) (jobs_seen new)

-- nothing can be done now: no message can be taken, no request begun, and no job received
pub record HasNothingNow (cores : ℕ) (x : Part) (requests : List Op) (seen : ℕ → LinkView) (rx : Bool) (intake : Intake) : Type 0 where
  pub message : NoMessageNow cores x seen
  pub request : CanBeginNext cores x requests seen → ⊥
  pub job : MayReceive x rx intake → ⊥
