-- All cores of a machine, which are settled.
use Rattle.std.specs.Prelude.{◌≡◌, ◌≤◌, ◌+◌, ◌⊎◌, ℕ, List, [], ◌∷◌, Option, Some, map, length}
use Rattle.filter_table.specs.Limits.{TableLimits}
use Rattle.mkdemux_cores.specs.declared.handle.CoreHandle.{CoreHandle}
use Rattle.core_links.specs.RingSlots.{machine_of}
use Rattle.core_machine.specs.Machines.{RingCore, IsMachine, AreSameCores}
use Rattle.core_machine.specs.Conclusions.{Conclude}
use Rattle.core_machine.specs.declared.settling.Settled.{Settled}
use Rattle.core_machine.specs.declared.settling.Settled.TheVariants.{AtRest, Spent, NoMemory, NoRoom}
use Rattle.core_machine.specs.Rounds.{AllKeep, EndsFor, TakesRounds}
use Rattle.mkdemux_cores.specs.declared.answers.TheConstants.{CLOSED, DONE, NO_MEMORY, NOT_MACHINE, SPENT}
use Rattle.mkdemux_cores.specs.Booting.{cores_of}

-- the handles have these cores, in order
abbrev pub AreOpen : List CoreHandle → List RingCore → Type 0
AreOpen handles cores = cores_of handles ≡ map (λ c. Some c) cores

-- the core in this place of the machine of this name and of so many cores, by what it says itself
abbrev pub IsOf : ℕ → ℕ → ℕ → RingCore → Type 0
IsOf name place count c = (c.number ≡ place) × (c.cores ≡ count) × (machine_of c.links ≡ name)

-- and so on from this place
abbrev pub AreNumbered : ℕ → ℕ → ℕ → List RingCore → Type 0
AreNumbered name place count [] = Unit {0}
AreNumbered name place count (c ∷ cs) = IsOf name place count c × AreNumbered name (place + 1) count cs

-- What a caller owes: cores of one name that are numbered as those of one machine are those of one machine. No two machines that are open at a time
-- have one name.
abbrev pub AreOfOneMachine : List CoreHandle → Type 0
AreOfOneMachine handles = (cs : List RingCore) (name : ℕ) → AreOpen handles cs → 1 ≤ length cs → AreNumbered name 0 (length cs) cs → (limits : TableLimits) × (budget : ℕ) × (budgets : List ℕ) × IsMachine limits budget budgets cs

-- a handle is closed, or a core has another number, is one of another count of cores or of a machine of another name
abbrev pub HasFault : ℕ → ℕ → ℕ → List CoreHandle → ℕ → Type 0
HasFault name place count handles answer =
    ((answer ≡ CLOSED) × ((cs : List RingCore) → AreOpen handles cs → ⊥))
    ⊎ ((answer ≡ NOT_MACHINE) × ((cs : List RingCore) → AreOpen handles cs → AreNumbered name place count cs → ⊥))

abbrev pub answer_of : Settled → ℕ
answer_of AtRest = DONE
answer_of (Spent core) = SPENT
answer_of (NoMemory core) = NO_MEMORY
answer_of (NoRoom core) = NO_MEMORY

-- the handles had the cores of a machine and have them still, which settled, with this answer
pub record Settles (answer : ℕ) (before after : List (Option RingCore)) : Type 0 where
  pub old : List RingCore
  pub new : List RingCore
  pub had : before ≡ map (λ c. Some c) old
  pub has : after ≡ map (λ c. Some c) new
  pub settled : Settled
  pub answer_is : answer ≡ answer_of settled
  pub same : AreSameCores old new
  pub keeps : AllKeep old new
  pub ends : EndsFor ⊥ settled new
  pub rounds : TakesRounds settled old new
  -- so cores at one version have equal tables, also where settling ended early
  pub concludes : (limits : TableLimits) (budget : ℕ) (budgets : List ℕ) → IsMachine limits budget budgets old → Conclude limits budget budgets new
