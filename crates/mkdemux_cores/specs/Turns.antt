-- What a turn does, and what C learns of it.
use Rattle.std.specs.Prelude.{◌≡◌, ◌≢◌, ◌==◌, ◌||◌, ◌<◌, ◌-◌, ◌^◌, ◌++◌, [], ℕ, cond, if◌then◌else◌, true, Option, None, Some, IsSome, length, option_to_list, false}
use Rattle.filter_table.specs.declared.decision.Decision.{Decision}
use Rattle.std.specs.Int.{bit_at}
use Rattle.core_links.specs.RingSlots.{SameLinks, ring_view, link_to}
use Rattle.world_histories.specs.declared.history.Stamped.{Stamped}
use Rattle.core_loop.specs.declared.cause.Cause.{Cause}
use Rattle.core_loop.specs.Answering.{AreDecided, decisions}
use Rattle.core_loop.specs.Awaiting.{WaitsFor}
use Rattle.core_loop.specs.Beginning.{CanBeginNext}
use Rattle.core_links.specs.Flows.{IsLooked, HasMoved, ring_flow}
use Rattle.core_links.specs.Waking.{bits_below}
use Rattle.core_loop.specs.Choosing.{ShowsNothing, NoMessageNow}
use Rattle.core_loop.specs.Cores.{SameCore, DidOne, NothingDone, begun}
use Rattle.core_loop.specs.Receipts.{receives}
use Rattle.core_loop.specs.Turning.{IsSpent, HasWork, LacksMemory, StopsFirst}
use Rattle.core_machine.specs.Machines.{RingCore}
use Rattle.mkdemux_cores.specs.declared.answers.TheConstants.{DONE, NO_MEMORY, STOPPED, SPENT, IDLE, PEER_CLOSED}
use Rattle.mkdemux_cores.specs.declared.turned.Turned.{Turned}
use Rattle.mkdemux_cores.specs.declared.turned.TheConstants.{NOTHING}
use Rattle.mkdemux_cores.specs.Reports.{reported}

-- so many requests of the core have their decision, where fewer than 2^64 - 1 were asked: the number of the last of these
abbrev pub IsNumber : ℕ → RingCore → Type 0
IsNumber number core = length (begun core.history ++ core.pending) < 2 ^ 64 - 1 → number ≡ length (decisions core.history)

-- what C is told of the event, apart from whom it woke, what is left and who is closed
abbrev pub said : Turned → Turned
said turned = record turned { woken = 0; more = 0; closed = 0 }

-- no event, no core woken, and no further turn that may do something
abbrev pub TellsNothing : Turned → Type 0
TellsNothing turned = turned ≡ NOTHING

-- The core did one event, which received no packet, and C is told the decision that it has on a request of the core, with its number, or that it
-- has none.
pub record HasDone (turned : Turned) (old new : RingCore) : Type 0 where
  pub event : Stamped
  pub decision : Option Decision
  pub number : ℕ
  pub counts : IsNumber number new
  pub did : DidOne ring_view old new event
  pub decisions_are : decisions new.history ≡ decisions old.history ++ option_to_list decision
  pub receives_none : receives event.done.event ≡ []
  pub told : said turned ≡ reported number decision

-- these cores are among those that the core has a link to: no other bit is set
abbrev pub AreLinked : ℕ → RingCore → Type 0
AreLinked closed c = (p : ℕ) → bit_at closed p ≢ 0 → (p < c.cores) × (link_to c.links p ≢ None)

-- an answer with another reason has the effect of this one
abbrev pub plain : ℕ → ℕ
plain answer = if answer == PEER_CLOSED then IDLE else answer

-- core 0 waits for the vote or the acknowledgement of one of these cores, and no message of that one is there
abbrev pub WaitsInVain : ℕ → RingCore → Type 0
WaitsInVain closed c = (p : ℕ) × (bit_at closed p ≢ 0) × WaitsFor c.part (ring_view c.links p) p

-- The core had a turn with this answer. Its requests are those that it had, and its n-th decision is on the n-th of them.
pub record HasTurned (answer : ℕ) (turned : Turned) (old new : RingCore) : Type 0 where
  pub same : SameCore SameLinks old new
  pub requests : begun new.history ++ new.pending ≡ begun old.history ++ old.pending
  pub decided : AreDecided new.part new.history
  pub done : answer ≡ DONE → HasDone turned old new
  pub nothing_done : answer ≢ DONE → NothingDone ring_view old new
  pub nothing_told : answer ≢ DONE → said turned ≡ NOTHING
  -- a peer that isn't named got no line, and no room for one
  pub woken : turned.woken ≡ bits_below new.cores (λ p. (ring_flow new.links p).moved)
  pub unnamed : (p : ℕ) → (ring_flow new.links p).moved ≡ false → IsLooked (ring_flow old.links p) (ring_flow new.links p)
  pub named : old.stopped ≡ None → (p : ℕ) → (ring_flow new.links p).moved ≡ true → HasMoved (ring_flow old.links p) (ring_flow new.links p)
  pub more : turned.more ≡ cond ((answer == DONE) || (answer == NO_MEMORY)) 1 0
  pub closed : AreLinked turned.closed old
  pub stopped : answer ≡ STOPPED → IsSome new.stopped
  pub stays : IsSome old.stopped → (answer ≡ STOPPED) × (new ≡ old)
  pub why_stopped : (cause : Cause) → answer ≡ STOPPED → old.stopped ≡ None → new.stopped ≡ Some cause
      → StopsFirst old.cores old.clock old.part (ring_view new.links) cause
  pub running : answer ≢ STOPPED → (old.stopped ≡ None) × (new.stopped ≡ None)
  pub idle : answer ≡ IDLE → NoMessageNow new.cores new.part (ring_view new.links)
  -- what waits to go out waits for room, and no line is known that was not read
  pub full : answer ≡ IDLE → (p : ℕ) → (ring_view new.links p).ready ≡ false → (ring_flow new.links p).room ≡ 0
  pub dry : answer ≡ IDLE → ((p : ℕ) → p < new.cores → ShowsNothing (ring_view new.links p)) → (p : ℕ) → p < new.cores → (ring_flow new.links p).known ≡ 0
  pub asks_nothing : answer ≡ IDLE → CanBeginNext new.cores new.part new.pending (ring_view new.links) → ⊥
  pub spent : answer ≡ SPENT → IsSpent old.cores old.clock old.part old.pending (ring_view new.links) false new.intake
  pub lacks : answer ≡ NO_MEMORY → LacksMemory old.cores old.clock old.part old.pending (ring_view new.links) false new.intake
  pub no_memory : answer ≡ NO_MEMORY → HasWork old.cores old.part old.pending (ring_view new.links) false new.intake
