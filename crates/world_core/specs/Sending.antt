-- What core 0 sends: what is ready, and what was put.
-- No public clause cites these.
use Rattle.std.specs.Prelude.{◌≡◌, ◌<◌, ◌≤◌, ◌⊎◌, ℕ, None, All, List, length, slice_get}
use Rattle.monitor_messages.specs.declared.message.Message.{Message}
use Rattle.world_model.specs.Cases.{Outgoing, nothing, to_all, to_one}
use Rattle.world_core.specs.declared.peer.Peer.{Peer}
use Rattle.world_core.specs.declared.sending.Ready.{Ready}
use Rattle.world_core.specs.declared.sending.Ready.TheVariants.{Nothing, ToAll, ToOne}
use Rattle.world_core.specs.Keeping.{EachMatches, ChangesOne, IsSent, RoomAt, RoomFrom}

-- what is ready was made for what is sent; there may be no such core
abbrev pub IsMade : {C Piece : Type 0} → (Piece → Message) → List (Peer C Piece) → Outgoing → Ready Piece → Type 0
IsMade made peers nothing Nothing = Unit {0}
IsMade made peers (to_all m) (ToAll pieces) = All (λ piece. made piece ≡ m) pieces.items × (length pieces.items ≡ length peers)
IsMade made peers (to_one entry m) (ToOne place piece) = (place ≡ entry) × (made piece ≡ m) × (entry < length peers)
IsMade made peers (to_one entry m) Nothing = length peers ≤ entry
IsMade made peers out ready = ⊥

-- it can be put
abbrev pub HasRoomFor : {C Piece : Type 0} → (C → ℕ) → List (Peer C Piece) → Ready Piece → Type 0
HasRoomFor spare peers Nothing = Unit {0}
HasRoomFor spare peers (ToAll pieces) = RoomFrom spare peers 0 × (length pieces.items ≡ length peers)
HasRoomFor spare peers (ToOne entry piece) = (entry < length peers) × RoomAt spare peers entry

pub record IsReady {C Piece : Type 0} (spare : C → ℕ) (made : Piece → Message) (peers : List (Peer C Piece)) (out : Outgoing) (ready : Ready Piece) : Type 0 where
  pub is_made : IsMade made peers out ready
  pub room : HasRoomFor spare peers ready

-- what core 0 sends was put for the cores that it goes to; there may be no such core
abbrev pub SentOut : {C Piece : Type 0} → (C → List Message) → List (Peer C Piece) → Outgoing → List (Peer C Piece) → Type 0
SentOut messages peers nothing peers' = peers' ≡ peers
SentOut messages peers (to_all m) peers' = EachMatches (IsSent messages m) peers peers'
SentOut messages peers (to_one entry m) peers' = ChangesOne peers entry peers' (IsSent messages m) ⊎ ((slice_get peers entry ≡ None) × (peers' ≡ peers))
