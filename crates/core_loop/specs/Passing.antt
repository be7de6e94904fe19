-- Bounded overtaking: what core 0 begins while a core's request waits.
use Rattle.std.specs.Prelude.{◌≡◌, ◌≢◌, ◌-◌, [], ◌∷◌, ℕ, List, Some, slice_get}
use Rattle.world_events.specs.declared.event.Event.{Event}
use Rattle.world_events.specs.declared.event.Event.TheVariants.{Start, StartFor}
use Rattle.world_histories.specs.declared.history.Stamped.{Stamped}
use Rattle.core_links.specs.Views.{LinkView}
use Rattle.core_loop.specs.declared.part.Part.{Part}
use Rattle.core_loop.specs.declared.part.Part.TheVariants as part
use Rattle.filter_table.specs.declared.operation.Op.{Op}
use Rattle.core_loop.specs.InTurn.{Asks, last_begun}
use Rattle.core_loop.specs.Cores.{CoreState, DidOne}

-- this is core 0's part, and a request of that core waits there
abbrev pub AsksPart : ℕ → Part → List Op → ℕ → Type 0
AsksPart cores (part.Core0 core) requests from = Asks (cores - 1) core requests from
AsksPart cores (part.OtherCore core) requests from = ⊥

-- by this event core 0 begins a request of that core
abbrev pub BeginsFor : Event → ℕ → Type 0
BeginsFor (Start op) from = from ≡ 0
BeginsFor (StartFor core) from = from ≡ core
BeginsFor event from = ⊥

-- While a request of `core` waits, core 0 begins those of these cores, one after another. Each is one turn's event; between them whatever else may
-- happen, as long as core 0 begins no request.
abbrev pub PassesOver : {L : Type 0} → (L → ℕ → LinkView) → ℕ → List ℕ → CoreState L → Type 0
PassesOver view core [] old = Unit {0}
PassesOver {L} view core (from ∷ later) old =
    (mid : CoreState L) × (next : CoreState L) × (s : Stamped) × (last_begun mid.history ≡ last_begun old.history) × AsksPart mid.cores mid.part mid.pending core
    × DidOne view mid next s × BeginsFor s.done.event from × (from ≢ core) × PassesOver view core later next

-- no core is twice among these
abbrev pub IsOnceEach : List ℕ → Type 0
IsOnceEach cores = (i j core : ℕ) → slice_get cores i ≡ Some core → slice_get cores j ≡ Some core → i ≡ j
