-- When the world refuses an event, when it does not begin, and in which order it settles.
use Rattle.std.specs.Prelude.{◌≡◌, ◌≢◌, ◌<◌, ◌≤◌, ◌⊎◌, ℕ, zero, suc, Bool, Option, Some, None, List, [], ◌∷◌, ◌++◌, length, slice_get, option_map, option_and_then}
use Rattle.filter_table.specs.Limits.{TableLimits}
use Rattle.filter_table.specs.declared.operation.Op.{Op}
use Rattle.monitor_messages.specs.declared.message.Message.{Message}
use Rattle.filter_table.specs.Tables.{HasShortProgram}
use Rattle.two_phase.specs.Coordinators.{Idle}
use Rattle.world_events.specs.declared.event.Event.{Event}
use Rattle.world_events.specs.declared.event.Event.TheVariants.{Start, Submit, StartFor, Take, Rx}
use Rattle.world_events.specs.declared.event.Done.{Done}
use Rattle.world_events.specs.declared.boot.BootFault.{BootFault}
use Rattle.world_events.specs.declared.boot.BootFault.TheVariants as boot_fault
use Rattle.world_events.specs.declared.fault.WorldFault.{WorldFault}
use Rattle.world_events.specs.declared.fault.WorldFault.TheVariants.{NoSuchCore, Nothing, NotReady, NotIdle, Spent, Outstanding, NoneWaiting, NoMemory}
use Rattle.world_model.specs.Worlds.{Peer, World, version_at, Happens, Run}

-- the channel from one core to another, if one joins the two
abbrev pub channel : World → ℕ → ℕ → Option (List Message)
channel w (suc to) zero = option_map (λ p. p.down) (slice_get w.peers to)
channel w zero (suc from) = option_map (λ p. p.up) (slice_get w.peers from)
channel w to from = None

-- the operation that core 0 has waiting for the core
abbrev pub waiting_at : World → ℕ → Option Op
waiting_at w zero = None
waiting_at w (suc entry) = option_and_then (λ waits. waits) (slice_get w.requests.waiting entry)

-- the fault, which is not NoMemory, is the first that stands
abbrev pub StandsFirst : World → Event → WorldFault → Type 0
StandsFirst w (Start op) NotIdle = w.place.phase ≢ Idle
StandsFirst w (Start op) Spent = (w.place.phase ≡ Idle) × (w.place.last ≡ 18446744073709551615)
StandsFirst w (Submit core op) NoSuchCore = channel w zero core ≡ None
StandsFirst w (Submit core op) Outstanding = (entry : ℕ) × (peer : Peer) × (core ≡ suc entry) × (slice_get w.peers entry ≡ Some peer) × (peer.outstanding ≡ Bool.true)
StandsFirst w (StartFor core) NoSuchCore = channel w zero core ≡ None
StandsFirst w (StartFor core) NotIdle = (channel w zero core ≢ None) × (w.place.phase ≢ Idle)
StandsFirst w (StartFor core) Spent = (channel w zero core ≢ None) × (w.place.phase ≡ Idle) × (w.place.last ≡ 18446744073709551615)
StandsFirst w (StartFor core) NoneWaiting = (channel w zero core ≢ None) × (w.place.phase ≡ Idle) × (w.place.last ≢ 18446744073709551615) × (waiting_at w core ≡ None)
StandsFirst w (Take to from short) NoSuchCore = channel w to from ≡ None
StandsFirst w (Take to from short) Nothing = channel w to from ≡ Some []
StandsFirst w (Rx core number packet floor) NoSuchCore = version_at w core ≡ None
StandsFirst w (Rx core number packet floor) NotReady = (version : ℕ) × (version_at w core ≡ Some version) × (version < floor)
StandsFirst w event fault = ⊥

-- no fault stands
abbrev pub NoneStands : World → Event → Type 0
NoneStands w event = (fault : WorldFault) → StandsFirst w event fault → ⊥

-- that memory ran out is reported where nothing else stands
abbrev pub WorldRefuses : World → Event → WorldFault → Type 0
WorldRefuses w event NoMemory = NoneStands w event
WorldRefuses w event fault = StandsFirst w event fault

-- a machine has a core at least, and so many at most
abbrev pub HasCores : ℕ → List ℕ → Type 0
HasCores most budgets = (1 ≤ length budgets) × (length budgets ≤ most)

abbrev pub BootRefuses : ℕ → List ℕ → BootFault → Type 0
BootRefuses most budgets boot_fault.CoreCount = HasCores most budgets → ⊥
BootRefuses most budgets boot_fault.NoMemory = HasCores most budgets

-- some run of a machine with these limits and budgets leads there
abbrev pub Reached : TableLimits → ℕ → List ℕ → World → Type 0
Reached limits budget budgets w = (events : List Done) × Run limits budget budgets events w

-- each run that leads to the one world leads by these events on to the other
abbrev pub Extends : World → List Done → World → Type 0
Extends w events w' = (limits : TableLimits) (budget : ℕ) (budgets : List ℕ) (before : List Done) → Run limits budget budgets before w → Run limits budget budgets (before ++ events) w'

pub record IsQuiet (p : Peer) : Type 0 where
  pub none_down : p.down ≡ []
  pub none_up : p.up ≡ []

abbrev pub AllQuiet : World → Type 0
AllQuiet w = (i : ℕ) (p : Peer) → slice_get w.peers i ≡ Some p → IsQuiet p

-- the take that comes next: from core 0 to the least core that has a message from it, else to core 0 from the least
pub record IsNext (w : World) (event : Event) : Type 0 where
  pub entry : ℕ
  pub peer : Peer
  pub at : slice_get w.peers entry ≡ Some peer
  pub choice : ((event ≡ Take (suc entry) 0 Bool.false) × (peer.down ≢ []) × ((i : ℕ) (p : Peer) → i < entry → slice_get w.peers i ≡ Some p → p.down ≡ []))
      ⊎ ((event ≡ Take 0 (suc entry) Bool.false) × (peer.up ≢ []) × ((i : ℕ) (p : Peer) → slice_get w.peers i ≡ Some p → p.down ≡ []) × ((i : ℕ) (p : Peer) → i < entry → slice_get w.peers i ≡ Some p → p.up ≡ []))

-- the events with their answers lead from one world to the other, each the one that comes next
abbrev pub Settles : World → List Done → World → Type 0
Settles w [] w' = w' ≡ w
Settles w (done ∷ later) w' = (mid : World) × IsNext w done.event × Happens w done.event mid done.answer × Settles mid later w'

-- an operation that is submitted has a program of at most 4096 instructions
abbrev pub IsShortEvent : Event → Type 0
IsShortEvent (Submit core op) = HasShortProgram op
IsShortEvent event = Unit {0}
