-- Which core halted, and which has something to do.
-- No public clause cites these.
use Rattle.std.specs.Prelude.{◌≡◌, ◌⊎◌, ◌<◌, ℕ, List, ◌∷◌, Some, None, slice_get}
use Rattle.rx_queue.specs.declared.job.Job.{Job}
use Rattle.core_machine.specs.Machines.{RingCore}
use Rattle.core_threads.specs.declared.halt.Halt.{Halt}
use Rattle.core_threads.specs.declared.halt.Halt.TheVariants as halt
use Rattle.core_threads.specs.declared.threads.Ran.{Ran}
use Rattle.core_threads.specs.Ending.{IsAtEnd, IsDone}
use Rattle.core_machine.specs.Lanes.{items_for}

-- each core is in its place
abbrev pub AreInPlace : List Ran → Type 0
AreInPlace ran = (i : ℕ) (r : Ran) → slice_get ran i ≡ Some r → r.core.number ≡ i

-- no core below this place halted
abbrev pub NoneHaltedBelow : List Ran → ℕ → Type 0
NoneHaltedBelow ran place = (i : ℕ) (r : Ran) → i < place → slice_get ran i ≡ Some r → r.halted ≡ None

abbrev pub NoneHalted : List Ran → Type 0
NoneHalted ran = (i : ℕ) (r : Ran) → slice_get ran i ≡ Some r → r.halted ≡ None

-- the core in this place is the first that halted, for this
pub record HaltedAt (ran : List Ran) (place : ℕ) (why : Halt) : Type 0 where
  pub its : Ran
  pub there : slice_get ran place ≡ Some its
  pub halted : its.halted ≡ Some why
  pub lesser : NoneHaltedBelow ran place

-- the first of the jobs has this floor
pub record IsFirstFloor (jobs : List Job) (floor : ℕ) : Type 0 where
  pub job : Job
  pub later : List Job
  pub first : jobs ≡ job ∷ later
  pub is : job.floor ≡ floor

-- each core below this place has done its work
abbrev pub AreDoneBelow : List Ran → List (ℕ × Job) → ℕ → Type 0
AreDoneBelow ran left place = (i : ℕ) (r : Ran) → i < place → slice_get ran i ≡ Some r → IsDone (items_for i left) r.core

abbrev pub AreDone : List Ran → List (ℕ × Job) → Type 0
AreDone ran left = (i : ℕ) (r : Ran) → slice_get ran i ≡ Some r → IsDone (items_for i left) r.core

-- each core has nothing to do, by its number
abbrev pub EachIsAtEnd : List RingCore → List (ℕ × Job) → Type 0
EachIsAtEnd cores left = (i : ℕ) (c : RingCore) → slice_get cores i ≡ Some c → IsAtEnd (items_for c.number left) c

-- the core in this place is the first that has something to do
pub record UnfinishedAt (ran : List Ran) (left : List (ℕ × Job)) (place : ℕ) : Type 0 where
  pub its : Ran
  pub there : slice_get ran place ≡ Some its
  pub unfinished : IsAtEnd (items_for place left) its.core → ⊥
  pub lesser : AreDoneBelow ran left place

-- a core's thread says so, or none halted and there is something to do
abbrev pub IsHalt : List Ran → List (ℕ × Job) → ℕ → Halt → Type 0
IsHalt ran left place why = HaltedAt ran place why ⊎ ((why ≡ halt.Early) × (NoneHalted ran × UnfinishedAt ran left place))

-- no core halted, and each has done its work
abbrev pub IsWhole : List Ran → List (ℕ × Job) → Type 0
IsWhole ran left = NoneHalted ran × AreDone ran left
