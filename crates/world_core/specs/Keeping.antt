-- The cores as the world keeps them, with their replicas.
-- No public clause cites these.
use Rattle.std.specs.Prelude.{◌≡◌, ◌≢◌, ◌<◌, ◌≤◌, ◌++◌, ◌∷◌, [], drop, ℕ, Bool, true, false, Option, None, Some, List, length, map, slice_get, slice_set, option_to_list, Result, IfOk, IfErr, OnErr}
use Rattle.filter_table.specs.Limits.{TableLimits}
use Rattle.filter_table.specs.declared.operation.Op.{Op}
use Rattle.filter_table.specs.Tables.{TableState, table}
use Rattle.monitor_messages.specs.declared.message.Message.{Message}
use Rattle.monitor_messages.specs.declared.message.Message.TheVariants as message
use Rattle.two_phase.specs.declared.most.TheConstants.{MOST_CORES}
use Rattle.monitor_2pc.specs.Places.{after_commit}
use Rattle.world_events.specs.declared.event.Event.TheVariants.{Take}
use Rattle.world_events.specs.declared.event.Answer.{Answer}
use Rattle.world_events.specs.declared.event.Answer.TheVariants.{Submitted}
use Rattle.world_events.specs.declared.event.Done.{Done}
use Rattle.world_model.specs.Cases.{raised, sent_up, TakesDownAt}
use Rattle.world_model.specs.Worlds as worlds
use Rattle.core_steps.specs.declared.other_core.OtherCore.{OtherCore}
use Rattle.core_steps.specs.Core0Steps.{core0_place}
use Rattle.core_steps.specs.OtherCoreSteps.{other_place, IsBetweenSteps, AwaitsHere}
use Rattle.world_events.specs.declared.fault.WorldFault.{WorldFault}
use Rattle.world_events.specs.declared.fault.WorldFault.TheVariants.{Nothing, Outstanding, NoMemory}
use Rattle.world_core.specs.declared.core0.LoggedCore0.{LoggedCore0}
use Rattle.world_core.specs.declared.peer.Peer.{Peer}
use Rattle.world_core.specs.LoggedCore0s.{Core0IsKept}

-- what the world shows of a core other than core 0
abbrev pub seen_peer : {C Piece : Type 0} → (C → List Message) → Peer C Piece → worlds.Peer
seen_peer messages p = record {
  budget = p.core.replica.budget;
  version = p.core.replica.shown.version;
  place = other_place p.core;
  outstanding = p.core.participant.outstanding;
  down = messages p.down;
  up = messages p.up;
}

-- its replica is the table of its version, and it is between steps
pub record CoreIsKept (limits : TableLimits) (log : List Op) (core : OtherCore) : Type 0 where
  pub shown : core.replica.shown ≡ table limits log core.replica.shown.version
  pub between : IsBetweenSteps core

abbrev pub PeerIsKept : {C Piece : Type 0} → TableLimits → List Op → Peer C Piece → Type 0
PeerIsKept limits log p = CoreIsKept limits log p.core

-- a core submits a request
pub record PeerSubmits (p : worlds.Peer) (op : Op) (p' : worlds.Peer) (answer : Answer) : Type 0 where
  pub none_outstanding : p.outstanding ≡ false
  pub next : p' ≡ record p { outstanding = true; up = p.up ++ message.Submit op ∷ [] }
  pub is_answer : answer ≡ Submitted

abbrev pub PeerCannotSubmit : worlds.Peer → WorldFault → Type 0
PeerCannotSubmit p Outstanding = p.outstanding ≡ true
PeerCannotSubmit p NoMemory = p.outstanding ≡ false
PeerCannotSubmit p fault = ⊥

-- the oldest message is one that the core waits for, if there is one
abbrev pub AwaitsOldest : {C Piece : Type 0} → (C → List Message) → Peer C Piece → Type 0
AwaitsOldest messages p = (m : Message) (rest : List Message) → messages p.down ≡ m ∷ rest → AwaitsHere p.core m

-- a core with this table takes the oldest message
pub record PeerTakes (short : Bool) (s : TableState) (p : worlds.Peer) (s' : TableState) (p' : worlds.Peer) (answer : Answer) : Type 0 where
  pub m : Message
  pub rest : List Message
  pub oldest : p.down ≡ m ∷ rest
  pub committed : Option Op
  pub here : TakesDownAt short s p.budget p.version p.place p.outstanding m p'.place p'.outstanding committed answer
  pub same_budget : p'.budget ≡ p.budget
  pub version_next : p'.version ≡ raised p.version committed
  pub table_next : s' ≡ after_commit s committed
  pub down_next : p'.down ≡ rest
  pub up_next : p'.up ≡ p.up ++ option_to_list (sent_up (Take 0 0 short) answer)

abbrev pub PeerCannotTake : worlds.Peer → WorldFault → Type 0
PeerCannotTake p Nothing = p.down ≡ []
PeerCannotTake p NoMemory = p.down ≢ []
PeerCannotTake p fault = ⊥

-- Core 0

-- what the world shows of its cores
abbrev pub seen_world : {C Piece : Type 0} → (C → List Message) → LoggedCore0 → List (Peer C Piece) → worlds.World
seen_world messages core0 peers = record {
  limits = core0.core.replica.shown.limits;
  log = core0.log.items;
  budget = core0.core.replica.budget;
  version = core0.core.replica.shown.version;
  place = core0_place core0.core;
  requests = core0.core.coordinator.requests;
  peers = map (seen_peer messages) peers;
}

-- the cores are so, and a run led to what is shown of them
pub record WorldIsKept {C Piece : Type 0} (messages : C → List Message) (core0 : LoggedCore0) (peers : List (Peer C Piece)) : Type 0 where
  pub core0_kept : Core0IsKept core0
  pub others : core0.core.coordinator.others ≡ length peers
  pub peers_kept : (i : ℕ) (p : Peer C Piece) → slice_get peers i ≡ Some p → PeerIsKept core0.core.replica.shown.limits core0.log.items p
  pub few : length peers < MOST_CORES
  pub limits : TableLimits
  pub budget : ℕ
  pub budgets : List ℕ
  pub events : List Done
  pub run : worlds.Run limits budget budgets events (seen_world messages core0 peers)

-- One core of several is changed
pub record ChangesOne {P : Type 0} (old : List P) (i : ℕ) (new : List P) (R : P → P → Type 0) : Type 0 where
  pub before : P
  pub there : slice_get old i ≡ Some before
  pub after : P
  pub changed : new ≡ slice_set old i after
  pub related : R before after

pub record Submits {C Piece : Type 0} (messages : C → List Message) (op : Op) (r : Result Answer WorldFault) (p p' : Peer C Piece) : Type 0 where
  pub done : IfOk r (PeerSubmits (seen_peer messages p) op (seen_peer messages p'))
  pub fault : IfErr r (PeerCannotSubmit (seen_peer messages p))
  pub same : OnErr r (seen_peer messages p' ≡ seen_peer messages p)
  pub replica : p'.core.replica ≡ p.core.replica
  pub voted : p'.core.participant.voted ≡ p.core.participant.voted

pub record Takes {C Piece : Type 0} (messages : C → List Message) (short : Bool) (r : Result Answer WorldFault) (p p' : Peer C Piece) : Type 0 where
  pub done : IfOk r (PeerTakes short p.core.replica.shown (seen_peer messages p) p'.core.replica.shown (seen_peer messages p'))
  pub fault : IfErr r (PeerCannotTake (seen_peer messages p))
  pub same : OnErr r (seen_peer messages p' ≡ seen_peer messages p)
  pub same_core : OnErr r (p'.core ≡ p.core)
  pub between : IsBetweenSteps p'.core

-- a core that can take its oldest message, if it has one
pub record ReadyToTake {C Piece : Type 0} (messages : C → List Message) (p : Peer C Piece) : Type 0 where
  pub between : IsBetweenSteps p.core
  pub awaits : AwaitsOldest messages p

abbrev pub IsReadyAt : {C Piece : Type 0} → (C → List Message) → List (Peer C Piece) → ℕ → Type 0
IsReadyAt {C} {Piece} messages peers entry = (p : Peer C Piece) → slice_get peers entry ≡ Some p → ReadyToTake messages p

-- a core has given up its oldest message to core 0
pub record GivesUp {C Piece : Type 0} (messages : C → List Message) (p p' : Peer C Piece) : Type 0 where
  pub core : p'.core ≡ p.core
  pub down : p'.down ≡ p.down
  pub up : messages p'.up ≡ drop 1 (messages p.up)

-- Messages to all other cores

-- each core of one list and that of another at its place are so related
abbrev pub EachMatches : {P : Type 0} → (P → P → Type 0) → List P → List P → Type 0
EachMatches {P} R old new = (length new ≡ length old) × ((k : ℕ) (p p' : P) → slice_get old k ≡ Some p → slice_get new k ≡ Some p' → R p p')

-- a message was made ready for the core, of which nothing shows
pub record Readied {C Piece : Type 0} (messages : C → List Message) (p p' : Peer C Piece) : Type 0 where
  pub core : p'.core ≡ p.core
  pub down : messages p'.down ≡ messages p.down
  pub up : messages p'.up ≡ messages p.up

-- the message was put for the core
pub record IsSent {C Piece : Type 0} (messages : C → List Message) (m : Message) (p p' : Peer C Piece) : Type 0 where
  pub core : p'.core ≡ p.core
  pub down : messages p'.down ≡ messages p.down ++ m ∷ []
  pub up : messages p'.up ≡ messages p.up

-- a message that is ready can be put
abbrev pub HasRoom : {C Piece : Type 0} → (C → ℕ) → Peer C Piece → Type 0
HasRoom spare p = 1 ≤ spare p.down

-- the core with this entry can be sent one
abbrev pub RoomAt : {C Piece : Type 0} → (C → ℕ) → List (Peer C Piece) → ℕ → Type 0
RoomAt {C} {Piece} spare peers entry = (p : Peer C Piece) → slice_get peers entry ≡ Some p → HasRoom spare p

-- the cores before this entry can be sent one
abbrev pub RoomBelow : {C Piece : Type 0} → (C → ℕ) → List (Peer C Piece) → ℕ → Type 0
RoomBelow {C} {Piece} spare peers n = (k : ℕ) (p : Peer C Piece) → k < n → slice_get peers k ≡ Some p → HasRoom spare p

-- those from this entry on
abbrev pub RoomFrom : {C Piece : Type 0} → (C → ℕ) → List (Peer C Piece) → ℕ → Type 0
RoomFrom {C} {Piece} spare peers n = (k : ℕ) (p : Peer C Piece) → n ≤ k → slice_get peers k ≡ Some p → HasRoom spare p

-- what a core sends to core 0 is ready to be put, if it sends anything
abbrev pub IsReadyUp : {C Piece : Type 0} → (C → ℕ) → (Piece → Message) → Option Message → C → Option Piece → Type 0
IsReadyUp spare made (Some m) up (Some piece) = (made piece ≡ m) × (1 ≤ spare up)
IsReadyUp spare made None up None = Unit {0}
IsReadyUp spare made reply up ready = ⊥
