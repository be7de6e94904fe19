-- Rounds in which each core takes a turn, and cores at rest.
use Rattle.std.specs.Prelude.{◌≡◌, ◌≢◌, ◌⊎◌, ◌+◌, ◌<◌, ◌≤◌, ℕ, zero, suc, false, All, List, [], Option, None, Some, length, slice_get}
use mathlib.Core.List.{IsPrefix}
use Rattle.filter_table.specs.Limits.{TableLimits}
use Rattle.filter_table.specs.declared.operation.Op.{Op}
use Rattle.rx_queue.specs.Queue.{jobs_taken}
use Rattle.world_histories.specs.declared.history.Stamped.{Stamped}
use Rattle.core_links.specs.RingSlots.{ring_view, SameLinks}
use Rattle.core_links.specs.Flows.{FlowsOn, ring_flow}
use Rattle.core_loop.specs.declared.cause.Cause.{Cause}
use Rattle.core_loop.specs.declared.cause.Turn.{Turn}
use Rattle.core_loop.specs.declared.cause.Turn.TheVariants as turn
use Rattle.core_loop.specs.Receipts.{receives}
use Rattle.core_loop.specs.Choosing.{ShowsNothing, NoMessageNow}
use Rattle.core_loop.specs.Beginning.{CanBeginNext, HasNothingUnderWay}
use Rattle.core_loop.specs.Resting.{AreResting}
use Rattle.core_loop.specs.Turning.{IsSpent, LacksMemory}
use Rattle.core_loop.specs.Cores.{SameCore, NothingDone, DidOne, receipts}
use Rattle.core_loop.specs.Answering.{decisions}
use Rattle.core_machine.specs.declared.recorded.RecordedTurn.{RecordedTurn}
use Rattle.core_machine.specs.declared.recorded.RecordedTurn.TheVariants as recorded
use Rattle.core_machine.specs.Machines.{RingCore, IsMachine}
use Rattle.core_machine.specs.Looking.{IsLookedAt, AreLookedAt, AreExactMachine}
use Rattle.core_machine.specs.Conclusions.{Conclude, ShowsTable, version_of_core}
use Rattle.core_machine.specs.declared.halt.Halt.{Halt}
use Rattle.core_machine.specs.declared.halt.Halt.TheVariants as halt
use Rattle.core_machine.specs.declared.settling.Settled.{Settled}
use Rattle.core_machine.specs.declared.settling.Settled.TheVariants.{AtRest, Spent, NoMemory, NoRoom}
use Rattle.core_machine.specs.Ahead.{asked, work_ahead}

-- Turns

-- everything done so far is kept, and so is what the core was asked, in order; no job was received
pub record Keeps (old new : RingCore) : Type 0 where
  pub same : SameCore SameLinks old new
  pub asked_same : asked new ≡ asked old
  pub history : IsPrefix old.history new.history
  pub jobs : jobs_taken new.intake ≡ jobs_taken old.intake
  pub receipts_same : receipts new.history ≡ receipts old.history

-- the turn did one event, no receipt
abbrev pub DidEvent : RingCore → RingCore → Type 0
DidEvent old new = (s : Stamped) × DidOne ring_view old new s × (receives s.done.event ≡ [])

-- nothing could be done by what the links show, and lines went on as far as the core knew of room and of lines
pub record Idled (old new : RingCore) : Type 0 where
  pub nothing : NothingDone ring_view old new
  pub no_message : NoMessageNow new.cores new.part (ring_view new.links)
  pub no_request : CanBeginNext new.cores new.part new.pending (ring_view new.links) → ⊥
  pub lines : (p : ℕ) → FlowsOn (ring_flow old.links p) (ring_flow new.links p)
  pub full : (p : ℕ) → (ring_view new.links p).ready ≡ false → (ring_flow new.links p).room ≡ 0
  pub dry : ((p : ℕ) → p < new.cores → ShowsNothing (ring_view new.links p)) → (p : ℕ) → p < new.cores → (ring_flow new.links p).known ≡ 0

-- a turn that receives no packet and does not halt its core
pub record GoesOn (old new : RingCore) : Type 0 where
  pub keeps : Keeps old new
  pub turned : DidEvent old new ⊎ Idled old new

-- one turn of a core and so many more
abbrev pub Turns : ℕ → RingCore → RingCore → Type 0
Turns zero old new = GoesOn old new
Turns (suc more) old new = (mid : RingCore) × Turns more old mid × GoesOn mid new

-- each of the cores took one turn, and none halted
pub record AllGoOn (old new : List RingCore) : Type 0 where
  pub all : length new ≡ length old
  pub each : (i : ℕ) (c d : RingCore) → slice_get old i ≡ Some c → slice_get new i ≡ Some d → GoesOn c d

-- whether an answer halts the core, and why
abbrev pub halt_of : Turn → Option Halt
halt_of turn.Spent = Some halt.Spent
halt_of turn.NoMemory = Some halt.NoMemory
halt_of (turn.Stopped cause) = Some halt.Stopped
halt_of answer = None

abbrev pub recorded_halt_of : RecordedTurn → Option Halt
recorded_halt_of recorded.Spent = Some halt.Spent
recorded_halt_of recorded.NoMemory = Some halt.NoMemory
recorded_halt_of recorded.NoRoom = Some halt.NoRoom
recorded_halt_of (recorded.Stopped cause) = Some halt.Stopped
recorded_halt_of answer = None

-- why a turn halted its core; one that keeps a list of its events may be refused memory for that
abbrev pub Halts : Type 0 → Halt → RingCore → Type 0
Halts lists halt.Spent c = IsSpent c.cores c.clock c.part c.pending (ring_view c.links) false c.intake
Halts lists halt.NoMemory c = LacksMemory c.cores c.clock c.part c.pending (ring_view c.links) false c.intake
Halts lists halt.NoRoom c = lists
Halts lists halt.Stopped c = (cause : Cause) × (c.stopped ≡ Some cause)

-- the core with this number halted for this
pub record HaltsAmong (lists : Type 0) (number : ℕ) (why : Halt) (cores : List RingCore) : Type 0 where
  pub place : ℕ
  pub halted : RingCore
  pub there : slice_get cores place ≡ Some halted
  pub number_is : halted.number ≡ number
  pub halts : Halts lists why halted

-- Rounds

-- the cores were looked at beside each other
pub record AreSeen (old new : List RingCore) : Type 0 where
  pub looked : AreLookedAt old new
  pub exact : AreExactMachine new
  pub concludes : (limits : TableLimits) (budget : ℕ) (budgets : List ℕ) → IsMachine limits budget budgets old → Conclude limits budget budgets new

-- A round: each core takes at least one turn, none halts, and then the cores are looked at. A turn changes its core alone, so it is all the same
-- in what order the cores take theirs.
pub record Round (old new : List RingCore) : Type 0 where
  pub turned : List RingCore
  pub all : length turned ≡ length old
  pub turns : (i : ℕ) (c d : RingCore) → slice_get old i ≡ Some c → slice_get turned i ≡ Some d → (more : ℕ) × Turns more c d
  pub seen : AreSeen turned new

abbrev pub Rounds : ℕ → List RingCore → List RingCore → Type 0
Rounds zero old new = new ≡ old
Rounds (suc rounds) old new = (mid : List RingCore) × Rounds rounds old mid × Round mid new

-- At rest

-- the core has begun all that it was asked and has nothing under way, and nothing goes over its links
pub record CoreRests (c : RingCore) : Type 0 where
  pub none_pending : c.pending ≡ []
  pub nothing_under_way : HasNothingUnderWay c.cores c.part (ring_view c.links)
  pub links : AreResting c.number c.cores (ring_view c.links) (ring_flow c.links)

abbrev pub AreAtRest : List RingCore → Type 0
AreAtRest cores = All CoreRests cores

-- each request that the core was asked is decided: the n-th decision is that on the n-th request
abbrev pub HasAllDecided : RingCore → Type 0
HasAllDecided c = length (decisions c.history) ≡ length (asked c)

-- the cores show the table of one log, and all of it
pub record HaveOneTable (cores : List RingCore) : Type 0 where
  pub limits : TableLimits
  pub log : List Op
  pub version : (i : ℕ) (c : RingCore) → slice_get cores i ≡ Some c → version_of_core c ≡ length log
  pub table_is : (i : ℕ) (c : RingCore) → slice_get cores i ≡ Some c → ShowsTable limits log c

-- How settling ends

abbrev pub AllKeep : List RingCore → List RingCore → Type 0
AllKeep old new = (i : ℕ) (c d : RingCore) → slice_get old i ≡ Some c → slice_get new i ≡ Some d → Keeps c d

-- the core with this number halted for this, and was only looked at since
pub record HaltedAt (lists : Type 0) (number : ℕ) (why : Halt) (cores : List RingCore) : Type 0 where
  pub place : ℕ
  pub now : RingCore
  pub there : slice_get cores place ≡ Some now
  pub number_is : now.number ≡ number
  pub halted : RingCore
  pub looked : IsLookedAt halted now
  pub halts : Halts lists why halted

-- no core has stopped
abbrev pub NoneStops : Option (ℕ × Halt) → Type 0
NoneStops None = Unit {0}
NoneStops (Some (core, why)) = why ≢ halt.Stopped

-- what settling ends with where this core halted in a round, or none
abbrev pub IsEndOf : Option (ℕ × Halt) → Settled → List RingCore → Type 0
IsEndOf None AtRest cores = AreAtRest cores × All HasAllDecided cores
IsEndOf (Some (core, halt.Spent)) (Spent core') cores = core' ≡ core
IsEndOf (Some (core, halt.NoMemory)) (NoMemory core') cores = core' ≡ core
IsEndOf (Some (core, halt.NoRoom)) (NoRoom core') cores = core' ≡ core
IsEndOf halted settled cores = ⊥

-- settling ended for this: at rest each request is decided and all cores have one table; else the core of this number had no number, no stamp or no memory for
-- what it would do next, or for the list of what it did
abbrev pub EndsFor : Type 0 → Settled → List RingCore → Type 0
EndsFor lists AtRest cores = AreAtRest cores × All HasAllDecided cores × HaveOneTable cores
EndsFor lists (Spent core) cores = HaltedAt lists core halt.Spent cores
EndsFor lists (NoMemory core) cores = HaltedAt lists core halt.NoMemory cores
EndsFor lists (NoRoom core) cores = HaltedAt lists core halt.NoRoom cores

-- how a round ends settling: it was a whole one, or a core halted in it
abbrev pub EndsRound : Settled → List RingCore → List RingCore → Type 0
EndsRound AtRest old new = Round old new
EndsRound settled old new = Unit {0}

-- after the last whole round: nothing more, or the round in which a core halted
abbrev pub EndsAfter : Settled → List RingCore → List RingCore → Type 0
EndsAfter AtRest last new = new ≡ last
EndsAfter settled last new = AllKeep last new

-- the cores were looked at and took so many whole rounds, at most one more than the work that was ahead
pub record TakesRounds (settled : Settled) (old new : List RingCore) : Type 0 where
  pub first : List RingCore
  pub seen : AreSeen old first
  pub rounds : ℕ
  pub last : List RingCore
  pub each : Rounds rounds first last
  pub bound : rounds ≤ 1 + work_ahead first
  pub ends : EndsAfter settled last new

-- The law of all fair schedules: of more rounds than the work that was ahead, one leaves the cores at rest.
pub record SomeRests (rounds : ℕ) (old new : List RingCore) : Type 0 where
  pub count : ℕ
  pub within : count ≤ rounds
  pub cores : List RingCore
  pub each : Rounds count old cores
  pub rests : AreAtRest cores
