-- A run whose cores were settled after their threads were joined, where its work was not done.
use Rattle.std.specs.Prelude.{◌≡◌, ◌≤◌, ◌∷◌, ℕ, List, Option, Some, None, slice_get, IfNone, IfSome}
use Rattle.filter_table.specs.Limits.{TableLimits}
use Rattle.filter_table.specs.declared.operation.Op.{Op}
use Rattle.rx_queue.specs.declared.job.Job.{Job}
use Rattle.core_machine.specs.Booting.{IsMachineOf, HaveRequests}
use Rattle.core_machine.specs.Lanes.{items_for}
use Rattle.core_machine.specs.Machines.{RingCore, AreSameCores}
use Rattle.core_machine.specs.Conclusions.{AreRunning, version_of_core}
use Rattle.core_machine.specs.declared.settling.Settled.{Settled}
use Rattle.core_machine.specs.declared.settling.Settled.TheVariants.{AtRest, Spent, NoMemory, NoRoom}
use Rattle.core_machine.specs.Rounds.{AllKeep, EndsFor}
use Rattle.core_threads.specs.declared.halt.Halt.{Halt}
use Rattle.core_threads.specs.declared.halt.Halt.TheVariants as halt
use Rattle.core_threads.specs.Ending.{AreAllDone, EndsRightly}

-- what the joined cores did, were asked and received is kept, and none is stopped
pub record HaveSettled (joined cores : List RingCore) : Type 0 where
  pub same : AreSameCores joined cores
  pub keeps : AllKeep joined cores
  pub running : AreRunning cores

-- a job is left that its core can receive
pub record LeavesReceivable (cores : List RingCore) (left : List (ℕ × Job)) : Type 0 where
  pub place : ℕ
  pub core : RingCore
  pub there : slice_get cores place ≡ Some core
  pub job : Job
  pub later : List Job
  pub first : items_for place left ≡ job ∷ later
  pub can : job.floor ≤ version_of_core core

-- The core that is named where this one had halted, and why: all requests are decided, and a job is left that can be received, since that core had
-- halted; or this one lacks a number or memory for what it would do next.
abbrev pub Names : Settled → List RingCore → List (ℕ × Job) → ℕ × Halt → ℕ × Halt → Type 0
Names AtRest cores left halted why = (why ≡ halted) × LeavesReceivable cores left
Names (Spent core) cores left halted why = why ≡ (core, halt.Spent)
Names (NoMemory core) cores left halted why = why ≡ (core, halt.NoMemory)
Names (NoRoom core) cores left halted why = why ≡ (core, halt.NoRoom)

-- why the work is not done once the cores are settled
pub record IsUndone (cores : List RingCore) (left : List (ℕ × Job)) (halted why : ℕ × Halt) : Type 0 where
  pub settled : Settled
  pub ends : EndsFor (Unit {0}) settled cores
  pub names : Names settled cores left halted why

-- where this core had halted the cores have settled, and the work is done, or is not, for this; else nothing was done. No public clause cites it.
abbrev pub SettlesWhere : Option (ℕ × Halt) → Option (ℕ × Halt) → List RingCore → List RingCore → List (ℕ × Job) → Type 0
SettlesWhere None answer joined cores left = (answer ≡ None) × (cores ≡ joined)
SettlesWhere (Some halted) answer joined cores left = HaveSettled joined cores × IfNone answer (AreAllDone cores left) × IfSome answer (IsUndone cores left halted)

-- the run ended early, since this core had halted; its cores have settled since, and the work is not done, for this
pub record StaysUndone (machine : List RingCore) (jobs : List (ℕ × Job)) (cores : List RingCore) (left : List (ℕ × Job)) (why : ℕ × Halt) : Type 0 where
  pub joined : List RingCore
  pub halted : ℕ × Halt
  pub ended : EndsRightly machine jobs joined left (Some halted)
  pub settled : HaveSettled joined cores
  pub undone : IsUndone cores left halted why

-- the run of these cores with these jobs has done its work; or it is not done, for this
abbrev pub RunsToRest : List RingCore → List (ℕ × Job) → List RingCore → List (ℕ × Job) → Option (ℕ × Halt) → Type 0
RunsToRest machine jobs cores left None = EndsRightly machine jobs cores left None
RunsToRest machine jobs cores left (Some why) = StaysUndone machine jobs cores left why

-- Cores that were booted with these limits, these budgets and these requests ran with these jobs, and were settled. The work isn't done, for
-- this core, and this.
pub record HasHalted (limits : TableLimits) (budgets : List ℕ) (requests : List (ℕ × Op)) (jobs : List (ℕ × Job)) (core : ℕ) (why : Halt) : Type 0 where
  pub machine : List RingCore
  pub cores : List RingCore
  pub left : List (ℕ × Job)
  pub is_machine : IsMachineOf limits budgets machine
  pub has_requests : HaveRequests requests machine
  pub rests : RunsToRest machine jobs cores left (Some (core, why))
