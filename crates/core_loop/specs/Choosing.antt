-- What a core does next: it takes the first message of the least peer that shows one; where none can be taken, it begins a request; where none
-- can be begun, it receives a job. What it sees is what its links show once it has looked at each peer up to the first that shows a message.
use Rattle.std.specs.Prelude.{◌≡◌, ◌≢◌, ◌⊎◌, ◌<◌, ◌-◌, [], ℕ, false, List, None}
use Rattle.filter_table.specs.declared.operation.Op.{Op}
use Rattle.monitor_messages.specs.declared.message.Message.{Message}
use Rattle.monitor_messages.specs.Coding.{Coded}
use Rattle.world_events.specs.declared.event.Event.{Event}
use Rattle.world_events.specs.declared.event.Event.TheVariants.{Submit, Take, Rx}
use Rattle.world_histories.specs.Histories.{Stamping}
use Rattle.core_links.specs.Views.{LinkView}
use Rattle.core_loop.specs.declared.part.Part.{Part}
use Rattle.core_loop.specs.declared.part.Part.TheVariants as part
use Rattle.core_loop.specs.declared.refusal.Refusal.TheVariants as refusal
use Rattle.core_loop.specs.Carrying.{IsFirst}
use Rattle.core_loop.specs.Events.{IsAnswered, CannotTake0}
use Rattle.core_loop.specs.Beginning.{CanBeginNext}
use Rattle.core_loop.specs.InTurn.{BeginsInTurn}

-- a peer has shown neither a message nor a fault
pub record ShowsNothing (v : LinkView) : Type 0 where
  pub no_message : v.kept ≡ []
  pub no_fault : v.stopped ≡ None

-- of so many cores this is the least that shows a message
pub record IsLeastShowing (cores : ℕ) (seen : ℕ → LinkView) (peer : ℕ) : Type 0 where
  pub inside : peer < cores
  pub shows : (seen peer).kept ≢ []
  pub no_fault : (seen peer).stopped ≡ None
  pub before : (p : ℕ) → p < peer → ShowsNothing (seen p)

-- the first message of a peer must wait, since a link that its answer needs takes none
abbrev pub MustWait : ℕ → Part → ℕ → (ℕ → LinkView) → Type 0
MustWait cores (part.Core0 core) peer seen = (m : Stamping) × IsFirst (seen peer) m × CannotTake0 (cores - 1) 0 peer core m seen refusal.NotReady
MustWait cores (part.OtherCore core) peer seen = ((seen 0).ready ≡ false) × ((m : Stamping) → IsFirst (seen peer) m → IsAnswered m.message)

-- these bytes can only be those of such a message, and the core isn't core 0
abbrev pub IsKnownAnswered : Part → List ℕ → Type 0
IsKnownAnswered (part.Core0 core) bytes = ⊥
IsKnownAnswered (part.OtherCore core) bytes = (stamp : ℕ) (m : Message) → Coded bytes stamp m → IsAnswered m

-- no message can be taken now: no peer shows one, or that of the least peer that does must wait
abbrev pub NoMessageNow : ℕ → Part → (ℕ → LinkView) → Type 0
NoMessageNow cores x seen = ((p : ℕ) → p < cores → ShowsNothing (seen p)) ⊎ ((peer : ℕ) × IsLeastShowing cores seen peer × MustWait cores x peer seen)

-- another core submits its own
abbrev pub IsSubmission : Event → Type 0
IsSubmission (Submit core op) = Unit {0}
IsSubmission event = ⊥

-- core 0 begins the request of the core that is next after the one whose request it began last
abbrev pub IsNextRequest : ℕ → ℕ → Part → List Op → Event → Type 0
IsNextRequest cores last (part.Core0 core) requests event = BeginsInTurn (cores - 1) last core requests event
IsNextRequest cores last (part.OtherCore core) requests event = IsSubmission event

-- the event is the first that can be done
abbrev pub IsNext : ℕ → ℕ → Part → List Op → (ℕ → LinkView) → Event → Type 0
IsNext cores last x requests seen (Take to from short) = IsLeastShowing cores seen from
IsNext cores last x requests seen (Rx core number packet floor) = NoMessageNow cores x seen × (CanBeginNext cores x requests seen → ⊥)
IsNext cores last x requests seen event = NoMessageNow cores x seen × IsNextRequest cores last x requests event
