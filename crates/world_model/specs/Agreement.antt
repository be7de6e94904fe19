-- What every run of the machine keeps: replicas at one version hold equal tables, and nothing is committed that was not
-- allowed (Baumann et al. 2009, "The Multikernel", section 3.3: replicated state is kept consistent by agreement).
use Rattle.std.specs.Prelude.{◌≡◌, ◌+◌, ◌≤◌, ◌⊎◌, ℕ, suc, Bool, true, false, Option, Some, None, List, [], ◌∷◌, ◌++◌, length, filter, map, slice_get}
use Rattle.filter_table.specs.Limits.{TableLimits}
use Rattle.filter_table.specs.declared.operation.Op.{Op}
use Rattle.filter_table.specs.Soundness.{IsSoundTable, IdsGrow}
use Rattle.filter_table.specs.Tables.{table, instructions, Allowed}
use Rattle.monitor_messages.specs.declared.message.Message.{Message}
use Rattle.monitor_messages.specs.declared.message.Message.TheVariants as message
use Rattle.filter_table.specs.declared.decision.Vote.{Vote}
use Rattle.two_phase.specs.Participants.{Fits}
use Rattle.two_phase.specs.Coordinators.{CoordinatorPlace, Requests, CanSubmit, Idle, Voting, Acking}
use Rattle.world_events.specs.declared.event.Done.{Done}
use Rattle.world_model.specs.Worlds.{Peer, World, newest, version_at}
use Rattle.world_model.specs.Readings.{version_of}

-- the messages of two-phase commit, which are all but Submit and Reply
abbrev pub is_commitment : Message → Bool
is_commitment (message.Submit op) = false
is_commitment (message.Reply decision) = false
is_commitment m = true

abbrev pub commitments : List Message → List Message
commitments ms = filter is_commitment ms

-- the core is at the newest version, and no message but Submit and Reply is under way to or from it
pub record IsSettled (w : World) (p : Peer) : Type 0 where
  pub newest_version : p.version ≡ length w.log
  pub none_down : commitments p.down ≡ []
  pub none_up : commitments p.up ≡ []

-- In a machine with these limits and budgets, core 0's first:
pub record Agrees (limits : TableLimits) (budget : ℕ) (budgets : List ℕ) (w : World) : Type 0 where
  -- no core is lost, and no limit and no budget changes
  pub limits_kept : w.limits ≡ limits
  pub budget0 : w.budget ≡ budget
  pub budgets_kept : map (λ p. p.budget) w.peers ≡ budgets
  pub waiting_kept : length w.requests.waiting ≡ length budgets
  pub core0 : w.version ≡ length w.log
  -- another core is at the newest version or one before it
  pub others : (i v : ℕ) → version_at w (suc i) ≡ Some v → (v ≡ length w.log) ⊎ (v + 1 ≡ length w.log)
  -- what was committed was allowed at its version
  pub allowed : (k : ℕ) (op : Op) → slice_get w.log k ≡ Some op → Allowed (table w.limits w.log k) budget op None
  pub fits : (core v b : ℕ) → version_at w core ≡ Some v → slice_get (budget ∷ budgets) core ≡ Some b → instructions (table w.limits w.log v) ≤ b
  pub settled : w.place.phase ≡ Idle → (i : ℕ) (p : Peer) → slice_get w.peers i ≡ Some p → IsSettled w p
  -- and the other way round: with no such message under way core 0 is idle
  pub idle : ((i : ℕ) (p : Peer) → slice_get w.peers i ≡ Some p → (commitments p.down ≡ []) × (commitments p.up ≡ [])) → w.place.phase ≡ Idle

-- the events that led here tell the version of each core: how often it committed
abbrev pub TellsVersions : List Done → World → Type 0
TellsVersions events w = (core version : ℕ) → version_at w core ≡ Some version → version ≡ version_of core events

-- a later world: the limits stay, the log grows at its end alone, no core is lost, and no version falls or grows by more than one
pub record Grows (w w' : World) : Type 0 where
  pub limits : w'.limits ≡ w.limits
  pub log : (more : List Op) × (w'.log ≡ w.log ++ more) × (length more ≤ 1)
  pub versions : (core v : ℕ) → version_at w core ≡ Some v → (v' : ℕ) × (version_at w' core ≡ Some v') × (v ≤ v') × (v' ≤ v + 1)

-- each table that the log makes is sound, and no id is given out again
pub record IsSoundLog (limits : TableLimits) (log : List Op) : Type 0 where
  pub sound : (v : ℕ) → v ≤ length log → IsSoundTable (table limits log v)
  pub ids : (u v : ℕ) → u ≤ v → v ≤ length log → IdsGrow (table limits log u) (table limits log v)

-- the message to core 0 is one that it waits for
abbrev pub Expects : CoordinatorPlace → Requests → ℕ → Message → Type 0
Expects place requests entry (message.Vote txn v) = (votes : List (Option Vote)) × (place.phase ≡ Voting votes) × (txn ≡ place.last) × (slice_get votes entry ≡ Some None)
Expects place requests entry (message.Ack txn) = (acks : List Bool) × (place.phase ≡ Acking acks) × (txn ≡ place.last) × (slice_get acks entry ≡ Some false)
Expects place requests entry (message.Submit op) = CanSubmit requests entry
Expects place requests entry m = ⊥

-- the message to another core is one that it waits for
abbrev pub Awaits : World → Peer → Message → Type 0
Awaits w p (message.Reply decision) = p.outstanding ≡ true
Awaits w p m = Fits (newest w) p.budget p.place m

-- no core meets a message that it does not wait for
pub record NoStranger (w : World) : Type 0 where
  pub down : (i : ℕ) (p : Peer) (m : Message) (rest : List Message) → slice_get w.peers i ≡ Some p → p.down ≡ m ∷ rest → Awaits w p m
  pub up : (i : ℕ) (p : Peer) (m : Message) (rest : List Message) → slice_get w.peers i ≡ Some p → p.up ≡ m ∷ rest → Expects w.place w.requests i m
