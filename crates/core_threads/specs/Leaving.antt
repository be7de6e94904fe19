-- The jobs that are left when all threads are joined.
-- No public clause cites these.
use Rattle.std.specs.Prelude.{◌≡◌, ◌<◌, ◌++◌, ℕ, All, List, map, length, Some, slice_get}
use Rattle.rx_queue.specs.declared.job.Job.{Job}
use Rattle.rx_queue.specs.Queue.{AreEnds, SameIntake, jobs_taken}
use Rattle.core_machine.specs.Machines.{RingCore}
use Rattle.core_machine.specs.Looking.{IsLookedAt}
use Rattle.core_threads.specs.declared.feeding.Outlet.{Outlet}
use Rattle.core_threads.specs.declared.threads.Ran.{Ran}
use Rattle.core_threads.specs.Feeding.{jobs_through}
use Rattle.core_machine.specs.Lanes.{items_for}

-- items of one core
abbrev pub tagged : {T : Type 0} → ℕ → List T → List (ℕ × T)
tagged core items = map (λ item. (core, item)) items

-- only its queue may have changed, and it is the same queue
pub record SameButTaken (old new : RingCore) : Type 0 where
  pub core : new ≡ record old { intake = new.intake }
  pub intake : SameIntake old.intake new.intake

-- and then the core was looked at
pub record IsLeft (old new : RingCore) : Type 0 where
  pub taken : RingCore
  pub same : SameButTaken old taken
  pub looked : IsLookedAt taken new

-- these jobs of a core, all of them but those taken, are left
pub record Leaves (core : ℕ) (taken jobs : List Job) (old new : List (ℕ × Job)) : Type 0 where
  pub more : List Job
  pub left : new ≡ old ++ tagged core more
  pub whole : taken ++ more ≡ jobs

-- a core in its place and the outlet of its queue
pub record IsFedBy (place : ℕ) (ran : Ran) (outlet : Outlet) : Type 0 where
  pub number : ran.core.number ≡ place
  pub queue : AreEnds outlet.port ran.core.intake

pub record AreFedBy (ran : List Ran) (outlets : List Outlet) : Type 0 where
  pub all : length outlets ≡ length ran
  pub each : (i : ℕ) (r : Ran) (o : Outlet) → slice_get ran i ≡ Some r → slice_get outlets i ≡ Some o → IsFedBy i r o

-- the same threads' results, but for what was taken from the queues since
pub record SameRan (old new : Ran) : Type 0 where
  pub core : SameButTaken old.core new.core
  pub halted : new.halted ≡ old.halted

pub record AreSameRan (old new : List Ran) : Type 0 where
  pub all : length new ≡ length old
  pub each : (i : ℕ) (r s : Ran) → slice_get old i ≡ Some r → slice_get new i ≡ Some s → SameRan r s

-- what the queues and the outlets had is left: for each core, the jobs taken and then those left are the jobs of its outlet
pub record AllLeft (old new : List Ran) (outlets : List Outlet) (left : List (ℕ × Job)) : Type 0 where
  pub same : AreSameRan old new
  pub each : (i : ℕ) (r : Ran) (o : Outlet) → slice_get old i ≡ Some r → slice_get outlets i ≡ Some o → jobs_taken r.core.intake ++ items_for i left ≡ jobs_through o
  pub inside : All (λ j. j.0 < length old) left
