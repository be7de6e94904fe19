-- How a run ended.
use Rattle.std.specs.Prelude.{◌≡◌, ◌<◌, ◌++◌, ℕ, All, List, [], ◌∷◌, length, Option, Some, None, slice_get}
use Rattle.rx_queue.specs.declared.job.Job.{Job}
use Rattle.core_links.specs.RingSlots.{SameLinks, ring_view}
use Rattle.core_loop.specs.Beginning.{HasNothingUnderWay}
use Rattle.core_loop.specs.Cores.{SameCore, begun, receipts}
use Rattle.core_loop.specs.Keeping.{replica_of}
use Rattle.core_machine.specs.Machines.{RingCore}
use Rattle.core_machine.specs.Conclusions.{AreRunning}
use Rattle.core_machine.specs.Rounds.{HasAllDecided}
use Rattle.core_threads.specs.Reasons.{IsSpentNow, LacksMemoryNow, RestsNow}
use Rattle.core_threads.specs.Runs.{StandsSo}
use Rattle.core_threads.specs.declared.halt.Halt.{Halt}
use Rattle.core_threads.specs.declared.halt.Halt.TheVariants as halt
use Rattle.core_machine.specs.Lanes.{items_for}

-- a core, of whose jobs these are left, has nothing to do: each request is begun, nothing is under way, and the first job waits for a
-- later version
pub record IsAtEnd (left : List Job) (core : RingCore) : Type 0 where
  pub pending : core.pending ≡ []
  pub idle : HasNothingUnderWay core.cores core.part (ring_view core.links)
  pub floor : (job : Job) (later : List Job) → left ≡ job ∷ later → (replica_of core.part).shown.version < job.floor

-- it has nothing to do, and each request that it was asked is decided
pub record IsDone (left : List Job) (core : RingCore) : Type 0 where
  pub at_end : IsAtEnd left core
  pub decided : HasAllDecided core

-- so each core
abbrev pub AreAllDone : List RingCore → List (ℕ × Job) → Type 0
AreAllDone cores left = (i : ℕ) (c : RingCore) → slice_get cores i ≡ Some c → IsDone (items_for i left) c

-- this core is the least that has something to do
pub record IsLeastUnfinished (cores : List RingCore) (left : List (ℕ × Job)) (place : ℕ) : Type 0 where
  pub core : RingCore
  pub there : slice_get cores place ≡ Some core
  pub unfinished : IsAtEnd (items_for place left) core → ⊥
  pub lesser : (i : ℕ) (c : RingCore) → i < place → slice_get cores i ≡ Some c → IsDone (items_for i left) c

-- the core in this place is so
pub record IsSoAt (cores : List RingCore) (place : ℕ) (P : RingCore → Type 0) : Type 0 where
  pub core : RingCore
  pub there : slice_get cores place ≡ Some core
  pub is : P core

-- why a core halted is right: the core in this place is one to which that happens; no core of a machine stops
abbrev pub HaltsFor : List RingCore → List (ℕ × Job) → ℕ → Halt → Type 0
HaltsFor cores left place (halt.Cause cause) = ⊥
HaltsFor cores left place halt.Spent = IsSoAt cores place (IsSpentNow ring_view)
HaltsFor cores left place halt.NoMemory = IsSoAt cores place (LacksMemoryNow ring_view)
HaltsFor cores left place halt.NoRoom = place < length cores
HaltsFor cores left place halt.Limit = IsSoAt cores place (RestsNow ring_view)
HaltsFor cores left place halt.Early = IsLeastUnfinished cores left place

-- no core halted, and each has done its work; or a core halted for this
abbrev pub HaltsRightly : List RingCore → List (ℕ × Job) → Option (ℕ × Halt) → Type 0
HaltsRightly cores left None = AreAllDone cores left
HaltsRightly cores left (Some why) = HaltsFor cores left why.0 why.1

-- none of so many cores, from core 0 on, halted
abbrev pub NoneHalts : List (Option Halt) → ℕ → Type 0
NoneHalts halts count = (i : ℕ) (h : Option Halt) → i < count → slice_get halts i ≡ Some h → h ≡ None

-- the core in this place is the least that halted, and halted for this; where there is work left, no core halted
abbrev pub NamesFor : List (Option Halt) → ℕ → Halt → Type 0
NamesFor halts place halt.Early = NoneHalts halts (length halts)
NamesFor halts place why = NoneHalts halts place × (slice_get halts place ≡ Some (Some why))

abbrev pub NamesLeast : List (Option Halt) → Option (ℕ × Halt) → Type 0
NamesLeast halts None = NoneHalts halts (length halts)
NamesLeast halts (Some halted) = NamesFor halts halted.0 halted.1

-- why each core halted, if it did, stands of it; and of those that halted the least is named, with its own reason
pub record HaltEach (cores : List RingCore) (halts : List (Option Halt)) (halted : Option (ℕ × Halt)) : Type 0 where
  pub all : length halts ≡ length cores
  pub stand : (i : ℕ) (c : RingCore) (h : Option Halt) → slice_get cores i ≡ Some c → slice_get halts i ≡ Some h → StandsSo ring_view h c
  pub least : NamesLeast halts halted

-- a core after the run, of whose jobs these are left: it is on its rings and its queue, the requests given to it are those begun and then
-- those pending, and the jobs given for it are those received and then those left
pub record CoreEnds (jobs left : List Job) (old new : RingCore) : Type 0 where
  pub core : SameCore SameLinks old new
  pub requests : begun new.history ++ new.pending ≡ old.pending
  pub received : receipts new.history ++ left ≡ jobs

-- the run of these cores with these jobs ended so: each core once, in order, each job received or left once, why it halted is right, and no core
-- is stopped
pub record EndsRightly (machine : List RingCore) (jobs : List (ℕ × Job)) (cores : List RingCore) (left : List (ℕ × Job)) (halted : Option (ℕ × Halt)) : Type 0 where
  pub all : length cores ≡ length machine
  pub each : (i : ℕ) (old new : RingCore) → slice_get machine i ≡ Some old → slice_get cores i ≡ Some new → CoreEnds (items_for i jobs) (items_for i left) old new
  pub inside : All (λ j. j.0 < length cores) left
  pub why : HaltsRightly cores left halted
  pub running : AreRunning cores
