-- The world of the cores: one log, a place and a version for each core, and the messages under way (Baumann et al. 2009,
-- "The Multikernel", sections 3.3 and 4.4).
use Rattle.std.specs.Prelude.{◌≡◌, ℕ, zero, suc, Bool, false, Option, Some, None, List, [], ◌∷◌, ◌++◌, length, map, slice_get, slice_set, option_map, option_to_list}
use Rattle.filter_table.specs.Limits.{TableLimits}
use Rattle.filter_table.specs.declared.operation.Op.{Op}
use Rattle.filter_table.specs.Tables.{TableState, table}
use Rattle.pcap_reader.specs.declared.capture.CapturedPacket.{CapturedPacket}
use Rattle.monitor_messages.specs.declared.message.Message.{Message}
use Rattle.two_phase.specs.declared.step.Step.{Step}
use Rattle.two_phase.specs.Participants.{ParticipantPlace, at_first}
use Rattle.two_phase.specs.Coordinators.{CoordinatorPlace, Requests, no_requests, Idle}
use Rattle.world_events.specs.declared.event.Event.{Event}
use Rattle.world_events.specs.declared.event.Event.TheVariants.{Start, Submit, StartFor, Take, Rx}
use Rattle.world_events.specs.declared.event.Answer.{Answer}
use Rattle.world_events.specs.declared.event.Done.{Done}
use Rattle.world_model.specs.Cases.{Outgoing, nothing, to_all, to_one, outgoing, sent_up, joined, raised, ReceivesAt, StartsAt, StartsForAt, SubmitsAt, TakesUpAt, TakesDownAt}

-- a core other than core 0, whether a request of its own is outstanding, and the messages from core 0 to it and from it to core 0, the oldest first
pub record Peer : Type 0 where
  pub budget : ℕ
  pub version : ℕ
  pub place : ParticipantPlace
  pub outstanding : Bool
  pub down : List Message
  pub up : List Message

-- core c, for c above 0, has entry c - 1 in `peers`
pub record World : Type 0 where
  pub limits : TableLimits
  pub log : List Op
  pub budget : ℕ
  pub version : ℕ
  pub place : CoordinatorPlace
  pub requests : Requests
  pub peers : List Peer

abbrev pub new_peer : ℕ → Peer
new_peer budget = record { budget = budget; version = 0; place = at_first; outstanding = false; down = []; up = [] }

abbrev pub idle_at_first : CoordinatorPlace
idle_at_first = record { last = 0; phase = Idle; staged = None }

-- a machine with these limits: core 0 with this budget, and the others with theirs
abbrev pub boot : TableLimits → ℕ → List ℕ → World
boot limits budget budgets = record { limits = limits; log = []; budget = budget; version = 0; place = idle_at_first; requests = no_requests (length budgets); peers = map new_peer budgets }

-- the newest table
abbrev pub newest : World → TableState
newest w = table w.limits w.log (length w.log)

abbrev pub version_at : World → ℕ → Option ℕ
version_at w zero = Some w.version
version_at w (suc entry) = option_map (λ peer. peer.version) (slice_get w.peers entry)

abbrev pub budget_at : World → ℕ → Option ℕ
budget_at w zero = Some w.budget
budget_at w (suc entry) = option_map (λ peer. peer.budget) (slice_get w.peers entry)

-- Events

abbrev pub send : Message → Peer → Peer
send m peer = record peer { down = peer.down ++ m ∷ [] }

abbrev pub sent_to_one : List Peer → ℕ → Message → Option Peer → List Peer
sent_to_one peers entry m None = peers
sent_to_one peers entry m (Some peer) = slice_set peers entry (send m peer)

abbrev pub sent_out : List Peer → Outgoing → List Peer
sent_out peers nothing = peers
sent_out peers (to_all m) = map (send m) peers
sent_out peers (to_one entry m) = sent_to_one peers entry m (slice_get peers entry)

-- core 0 is at a new place, where it has committed an operation or nothing, and has sent what the step says
abbrev pub core0_moves : World → CoordinatorPlace → Requests → Option Op → Outgoing → World
core0_moves w place requests committed sent = record {
  limits = w.limits;
  log = joined w.log committed;
  budget = w.budget;
  version = raised w.version committed;
  place = place;
  requests = requests;
  peers = sent_out w.peers sent;
}

pub record HappensStart (w : World) (op : Op) (w' : World) (answer : Answer) : Type 0 where
  pub place : CoordinatorPlace
  pub committed : Option Op
  pub told : Step
  pub here : StartsAt (length w.peers) (newest w) w.budget w.place op place committed told answer
  pub next : w' ≡ core0_moves w place w.requests committed (outgoing told place)

pub record HappensStartFor (w : World) (entry : ℕ) (w' : World) (answer : Answer) : Type 0 where
  pub place : CoordinatorPlace
  pub requests : Requests
  pub committed : Option Op
  pub told : Step
  pub here : StartsForAt (length w.peers) (newest w) w.budget w.place w.requests entry place requests committed told answer
  pub next : w' ≡ core0_moves w place requests committed (outgoing told place)

-- the core with this entry submits a request
pub record HappensSubmit (w : World) (entry : ℕ) (op : Op) (w' : World) (answer : Answer) : Type 0 where
  pub peer : Peer
  pub is_peer : slice_get w.peers entry ≡ Some peer
  pub outstanding : Bool
  pub here : SubmitsAt peer.outstanding outstanding answer
  pub next : w' ≡ record w { peers = slice_set w.peers entry (record peer { outstanding = outstanding; up = peer.up ++ option_to_list (sent_up (Submit (suc entry) op) answer) }) }

-- the core with this entry has given up its oldest message to core 0
abbrev pub gave : World → ℕ → Peer → List Message → World
gave w entry peer rest = record w { peers = slice_set w.peers entry (record peer { up = rest }) }

-- core 0 takes the oldest message from the core with this entry
pub record HappensUp (w : World) (entry : ℕ) (w' : World) (answer : Answer) : Type 0 where
  pub peer : Peer
  pub is_peer : slice_get w.peers entry ≡ Some peer
  pub m : Message
  pub rest : List Message
  pub oldest : peer.up ≡ m ∷ rest
  pub place : CoordinatorPlace
  pub requests : Requests
  pub committed : Option Op
  pub told : Step
  pub here : TakesUpAt (newest w) w.place w.requests entry m place requests committed told answer
  pub next : w' ≡ core0_moves (gave w entry peer rest) place requests committed (outgoing told place)

-- the core with this entry takes the oldest message from core 0
pub record HappensDown (w : World) (entry : ℕ) (short : Bool) (w' : World) (answer : Answer) : Type 0 where
  pub peer : Peer
  pub is_peer : slice_get w.peers entry ≡ Some peer
  pub m : Message
  pub rest : List Message
  pub oldest : peer.down ≡ m ∷ rest
  pub place : ParticipantPlace
  pub outstanding : Bool
  pub committed : Option Op
  pub here : TakesDownAt short (newest w) peer.budget peer.version peer.place peer.outstanding m place outstanding committed answer
  pub next : w' ≡ record w {
    peers = slice_set w.peers entry (record {
      budget = peer.budget;
      version = raised peer.version committed;
      place = place;
      outstanding = outstanding;
      down = rest;
      up = peer.up ++ option_to_list (sent_up (Take (suc entry) 0 short) answer);
    });
  }

-- the core receives the packet at its own version
pub record HappensRx (w : World) (core : ℕ) (packet : CapturedPacket) (floor : ℕ) (w' : World) (answer : Answer) : Type 0 where
  pub version : ℕ
  pub is_version : version_at w core ≡ Some version
  pub here : ReceivesAt (table w.limits w.log version) version packet floor answer
  pub next : w' ≡ w

-- from this world the event may lead to that one with this answer
abbrev pub Happens : World → Event → World → Answer → Type 0
Happens w (Start op) w' answer = HappensStart w op w' answer
Happens w (Submit (suc entry) op) w' answer = HappensSubmit w entry op w' answer
Happens w (Submit zero op) w' answer = ⊥
Happens w (StartFor (suc entry)) w' answer = HappensStartFor w entry w' answer
Happens w (StartFor zero) w' answer = ⊥
Happens w (Take zero (suc entry) short) w' answer = HappensUp w entry w' answer
Happens w (Take (suc entry) zero short) w' answer = HappensDown w entry short w' answer
Happens w (Take to from short) w' answer = ⊥
Happens w (Rx core number packet floor) w' answer = HappensRx w core packet floor w' answer

-- the events with their answers lead from one world to the other
abbrev pub Runs : World → List Done → World → Type 0
Runs w [] w' = w' ≡ w
Runs w (done ∷ later) w' = (mid : World) × Happens w done.event mid done.answer × Runs mid later w'

-- a run of a machine with these limits and budgets
abbrev pub Run : TableLimits → ℕ → List ℕ → List Done → World → Type 0
Run limits budget budgets events w = Runs (boot limits budget budgets) events w
