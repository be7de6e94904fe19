-- What settling does one take at a time, and what it brings to an end.
use Rattle.std.specs.Prelude.{◌≡◌, ◌+◌, ◌*◌, ◌<◌, ℕ, Option, None, Some, List, [], ◌∷◌, slice_get}
use Rattle.monitor_messages.specs.declared.message.Message.{Message}
use Rattle.monitor_messages.specs.declared.message.Message.TheVariants as message
use Rattle.filter_table.specs.declared.decision.Vote.{Vote}
use Rattle.two_phase.specs.Coordinators.{Phase, Idle, Voting}
use Rattle.world_events.specs.declared.event.Done.{Done}
use Rattle.world_model.specs.Worlds.{Peer, World, Happens}
use Rattle.world_model.specs.Refusals.{AllQuiet, IsNext}

-- the takes that a message leads to, its own included, but for what core 0 says once all have voted
abbrev pub weight : Message → ℕ
weight (message.Prepare txn op) = 4
weight (message.Vote txn v) = 3
weight (message.Commit txn) = 2
weight (message.Abort txn) = 2
weight m = 1

abbrev pub load : List Message → ℕ
load [] = 0
load (m ∷ ms) = weight m + load ms

abbrev pub loads : List Peer → ℕ
loads [] = 0
loads (p ∷ ps) = load p.down + load p.up + loads ps

abbrev pub votes_cast : List (Option Vote) → ℕ
votes_cast [] = 0
votes_cast (None ∷ votes) = votes_cast votes
votes_cast (Some v ∷ votes) = 1 + votes_cast votes

-- each core that has voted will take the outcome and send its word
abbrev pub outcomes_due : Phase → ℕ
outcomes_due (Voting votes) = 2 * votes_cast votes
outcomes_due phase = 0

-- the core that asked will take its Reply
abbrev pub reply_due : Option ℕ → ℕ
reply_due None = 0
reply_due (Some core) = 1

-- the most takes that are left
abbrev pub takes_left : World → ℕ
takes_left w = loads w.peers + outcomes_due w.place.phase + reply_due w.requests.asker

-- no core has a message from core 0
abbrev pub NoneDown : World → Type 0
NoneDown w = (i : ℕ) (p : Peer) → slice_get w.peers i ≡ Some p → p.down ≡ []

-- the take that comes next is done
pub record IsTaken (w : World) (done : Done) (w' : World) : Type 0 where
  pub next : IsNext w done.event
  pub happens : Happens w done.event w' done.answer

-- a message was taken from core 0, if there was one
abbrev pub TakenDown : World → World → Option Done → Type 0
TakenDown w w' (Some done) = IsTaken w done w'
TakenDown w w' None = (w' ≡ w) × NoneDown w

-- where there was none from core 0, one was taken to core 0, if there was one
abbrev pub TakenUp : World → World → Option Done → Type 0
TakenUp w w' (Some done) = IsTaken w done w'
TakenUp w w' None = (w' ≡ w) × AllQuiet w

-- a message was taken, if there was one
abbrev pub TakenNext : World → World → Option Done → Type 0
TakenNext w w' (Some done) = IsTaken w done w' × (takes_left w' < takes_left w)
TakenNext w w' None = (w' ≡ w) × AllQuiet w × (w.place.phase ≡ Idle)
