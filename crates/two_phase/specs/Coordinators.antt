-- Two-phase commit at core 0, case by case (Gray 1978, "Notes on data base operating systems", section 5.8.3;
-- Baumann et al. 2009, "The Multikernel", section 4.4: agreement between monitors).
use Rattle.std.specs.Prelude.{◌≡◌, ◌≢◌, ◌+◌, ◌<◌, ℕ, suc, Bool, true, false, cond, Option, Some, None, IsSome, List, length, slice_get, slice_set}
use Rattle.std.specs.List.{list_all}
use Rattle.std.proofs.Common.{replicate}
use Rattle.filter_table.specs.declared.operation.Op.{Op}
use Rattle.filter_table.specs.declared.operation.StageFault.{StageFault}
use Rattle.filter_table.specs.declared.operation.StageFault.TheVariants as stage_fault
use Rattle.filter_table.specs.Tables.{TableState, made, Allowed}
use Rattle.filter_table.specs.Staging.{AsksForMemory}
use Rattle.filter_table.specs.declared.decision.Vote.{Vote}
use Rattle.filter_table.specs.declared.decision.Vote.TheVariants as vote
use Rattle.filter_table.specs.declared.decision.Veto.{Veto}
use Rattle.filter_table.specs.declared.decision.Veto.TheVariants as veto
use Rattle.filter_table.specs.declared.decision.Decision.{Decision}
use Rattle.filter_table.specs.declared.decision.Decision.TheVariants.{Committed, Refused}
use Rattle.two_phase.specs.declared.step.Say.{Say}
use Rattle.two_phase.specs.declared.step.Say.TheVariants as say
use Rattle.two_phase.specs.declared.step.Step.{Step}

-- Its place

-- what core 0 waits for: nothing, votes, or acknowledgements; core c has entry c - 1
pub data Phase : Type 0 where
  Idle : Phase
  Voting : (votes : List (Option Vote)) → Phase
  Acking : (acks : List Bool) → Phase

-- it waits for votes
abbrev pub IsVoting : Phase → Type 0
IsVoting (Voting votes) = Unit {0}
IsVoting phase = ⊥

-- its last number, and the operation that the votes are on
pub record CoordinatorPlace : Type 0 where
  pub last : ℕ
  pub phase : Phase
  pub staged : Option Op

-- What core 0 keeps of the requests that other cores submitted: the operation that each has waiting, core c's at entry c - 1;
-- the core whose operation is under way; and what was decided of the operation under way.
pub record Requests : Type 0 where
  pub waiting : List (Option Op)
  pub asker : Option ℕ
  pub decided : Option Decision

abbrev pub no_requests : ℕ → Requests
no_requests others = record { waiting = replicate others None; asker = None; decided = None }

-- the part of its place that core 0 keeps itself; its replica holds the staged operation
pub record CoordinatorState : Type 0 where
  pub others : ℕ
  pub last : ℕ
  pub phase : Phase
  pub requests : Requests

abbrev pub coordinator_place : CoordinatorState → Option Op → CoordinatorPlace
coordinator_place own staged = record { last = own.last; phase = own.phase; staged = staged }

-- Its steps

abbrev pub veto_of : StageFault → Veto
veto_of (stage_fault.Rule fault) = veto.Rule fault
veto_of stage_fault.Budget = veto.Budget
veto_of stage_fault.AlreadyStaged = veto.NoMemory
veto_of stage_fault.NoMemory = veto.NoMemory

abbrev pub veto_by : Vote → Veto
veto_by vote.Budget = veto.Budget
veto_by v = veto.NoMemory

-- the step's number, with what is said and decided
abbrev pub step : ℕ → Option Say → Option Decision → Step
step txn said decided = record { txn = txn; say = said; decided = decided; reply = None }

-- With so many other cores, this table and this budget, a start may lead from this place to that one, commit the
-- operation or nothing, and tell this step.
pub data Starts (others : ℕ) (s : TableState) (budget : ℕ) (place : CoordinatorPlace) (op : Op) (place' : CoordinatorPlace) (committed : Option Op) (told : Step) : Type 0 where
  -- refused by the first rule that stands
  refused : (fault : StageFault) → Allowed s budget op (Some fault)
      → place' ≡ place → committed ≡ None → told ≡ step place.last None (Some (Refused 0 (veto_of fault)))
      → Starts others s budget place op place' committed told
  -- memory was refused to core 0, where staging asks for it
  unstaged : AsksForMemory s budget op → place' ≡ place → committed ≡ None → told ≡ step place.last None (Some (Refused 0 veto.NoMemory))
      → Starts others s budget place op place' committed told
  -- one core alone commits at once
  alone : Allowed s budget op None → others ≡ 0
      → place' ≡ record { last = place.last + 1; phase = Idle; staged = None } → committed ≡ Some op
      → told ≡ step (place.last + 1) None (Some (Committed (s.version + 1) (made s op)))
      → Starts others s budget place op place' committed told
  -- every other core is asked
  prepared : Allowed s budget op None → 0 < others
      → place' ≡ record { last = place.last + 1; phase = Voting (replicate others None); staged = Some op } → committed ≡ None
      → told ≡ step (place.last + 1) (Some say.Prepare) None
      → Starts others s budget place op place' committed told

abbrev pub CanStart : CoordinatorPlace → Type 0
CanStart place = (place.phase ≡ Idle) × (place.last < 18446744073709551615)

-- a decision at once goes to the core as Reply; else the operation is under way for that core
abbrev pub reply_to : ℕ → Option Decision → Option (ℕ × Decision)
reply_to core None = None
reply_to core (Some decision) = Some (core, decision)

abbrev pub asker_after : ℕ → Option Decision → Option ℕ
asker_after core None = Some core
asker_after core (Some decision) = None

-- The operation that the core with this entry has waiting leaves the waiting list and is begun as any other.
pub record StartsFor (others : ℕ) (s : TableState) (budget : ℕ) (place : CoordinatorPlace) (requests : Requests) (entry : ℕ) (place' : CoordinatorPlace) (requests' : Requests) (committed : Option Op) (told : Step) : Type 0 where
  pub op : Op
  pub is_waiting : slice_get requests.waiting entry ≡ Some (Some op)
  pub begun : Step
  pub starts : Starts others s budget place op place' committed begun
  pub next : requests' ≡ record { waiting = slice_set requests.waiting entry None; asker = asker_after (suc entry) begun.decided; decided = None }
  pub tells : told ≡ record begun { reply = reply_to (suc entry) begun.decided }

-- the core with this entry has nothing waiting and nothing under way
pub record CanSubmit (requests : Requests) (entry : ℕ) : Type 0 where
  pub none_waiting : slice_get requests.waiting entry ≡ Some None
  pub none_under_way : requests.asker ≢ Some (suc entry)

-- its operation is kept as waiting
abbrev pub with_waiting : Requests → ℕ → Op → Requests
with_waiting requests entry op = record requests { waiting = slice_set requests.waiting entry (Some op) }

-- core c's vote, with entry c - 1, is the first of the votes that isn't Yes
pub record LeastNo (votes : List (Option Vote)) (core : ℕ) (against : Vote) : Type 0 where
  pub entry : ℕ
  pub is_core : core ≡ suc entry
  pub said : slice_get votes entry ≡ Some (Some against)
  pub not_yes : against ≢ vote.Yes
  pub yes_before : (i : ℕ) → i < entry → slice_get votes i ≡ Some (Some vote.Yes)

-- What is done once these votes are there: wait for the rest, commit where all are Yes, or abort.
pub data Tallies (s : TableState) (last : ℕ) (op : Op) (votes : List (Option Vote)) (place' : CoordinatorPlace) (committed : Option Op) (told : Step) : Type 0 where
  waits : (i : ℕ) → slice_get votes i ≡ Some None
      → place' ≡ record { last = last; phase = Voting votes; staged = Some op } → committed ≡ None
      → told ≡ step last None None
      → Tallies s last op votes place' committed told
  commits_all : ((i : ℕ) (v : Option Vote) → slice_get votes i ≡ Some v → v ≡ Some vote.Yes)
      → place' ≡ record { last = last; phase = Acking (replicate (length votes) false); staged = None } → committed ≡ Some op
      → told ≡ step last (Some say.Commit) (Some (Committed (s.version + 1) (made s op)))
      → Tallies s last op votes place' committed told
  aborts_all : (core : ℕ) (against : Vote) → LeastNo votes core against → ((i : ℕ) → slice_get votes i ≢ Some None)
      → place' ≡ record { last = last; phase = Acking (replicate (length votes) false); staged = None } → committed ≡ None
      → told ≡ step last (Some say.Abort) (Some (Refused core (veto_by against)))
      → Tallies s last op votes place' committed told

-- the decision is kept until all have acknowledged it
abbrev pub with_decided : Requests → Option Decision → Requests
with_decided requests decided = record { waiting = requests.waiting; asker = requests.asker; decided = decided }

-- a vote of the core with this entry is taken, the first on this number
pub record Hears (s : TableState) (place : CoordinatorPlace) (entry txn : ℕ) (v : Vote) (place' : CoordinatorPlace) (committed : Option Op) (told : Step) : Type 0 where
  pub votes : List (Option Vote)
  pub op : Op
  pub voting : place.phase ≡ Voting votes
  pub on_op : place.staged ≡ Some op
  pub number : txn ≡ place.last
  pub first_vote : slice_get votes entry ≡ Some None
  pub tallies : Tallies s txn op (slice_set votes entry (Some v)) place' committed told

-- an acknowledgement of this core that core 0 waits for
pub record AwaitsAck (place : CoordinatorPlace) (from txn : ℕ) : Type 0 where
  pub entry : ℕ
  pub is_core : from ≡ suc entry
  pub acks : List Bool
  pub acking : place.phase ≡ Acking acks
  pub number : txn ≡ place.last
  pub first_ack : slice_get acks entry ≡ Some false

-- after the last acknowledgement core 0 is idle
abbrev pub phase_with : List Bool → Phase
phase_with acks = cond (list_all (λ ack. ack) acks) Idle (Acking acks)

-- then what was decided goes to the core that asked, if one did, and no operation is under way
abbrev pub reply_of : Option ℕ → Option Decision → Option (ℕ × Decision)
reply_of (Some core) (Some decision) = Some (core, decision)
reply_of asker decided = None

abbrev pub reply_at : Phase → Requests → Option (ℕ × Decision)
reply_at Idle requests = reply_of requests.asker requests.decided
reply_at phase requests = None

abbrev pub requests_at : Phase → Requests → Requests
requests_at Idle requests = record { waiting = requests.waiting; asker = None; decided = None }
requests_at phase requests = requests

-- an acknowledgement of the core with this entry is taken, the first on this number
pub record HearsAck (place : CoordinatorPlace) (requests : Requests) (entry txn : ℕ) (place' : CoordinatorPlace) (requests' : Requests) (told : Step) : Type 0 where
  pub acks : List Bool
  pub acking : place.phase ≡ Acking acks
  pub number : txn ≡ place.last
  pub first_ack : slice_get acks entry ≡ Some false
  pub next : place' ≡ record { last = place.last; phase = phase_with (slice_set acks entry true); staged = place.staged }
  pub requests_next : requests' ≡ requests_at place'.phase requests
  pub tells : told ≡ record { txn = txn; say = None; decided = None; reply = reply_at place'.phase requests }

-- a vote of this core that core 0 waits for
pub record AwaitsVote (own : CoordinatorState) (from txn : ℕ) : Type 0 where
  pub entry : ℕ
  pub is_core : from ≡ suc entry
  pub votes : List (Option Vote)
  pub voting : own.phase ≡ Voting votes
  pub number : txn ≡ own.last
  pub first_vote : slice_get votes entry ≡ Some None

-- core 0 has an operation staged exactly while it waits for votes on it
abbrev pub StagedByPhase : Phase → Option Op → Type 0
StagedByPhase (Voting votes) staged = IsSome staged
StagedByPhase phase staged = staged ≡ None
