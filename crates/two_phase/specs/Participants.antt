-- Two-phase commit at a core other than core 0, case by case (Gray 1978, "Notes on data base operating systems", section 5.8.3;
-- Baumann et al. 2009, "The Multikernel", section 4.4: agreement between monitors).
use Rattle.std.specs.Prelude.{◌≡◌, ◌+◌, ◌<◌, ◌≤◌, ℕ, Bool, false, Option, Some, None, IsSome}
use Rattle.filter_table.specs.declared.operation.Op.{Op}
use Rattle.filter_table.specs.declared.operation.OpFault.{OpFault}
use Rattle.filter_table.specs.declared.operation.StageFault.TheVariants.{Rule, Budget}
use Rattle.filter_table.specs.Tables.{TableState, after, instructions, Allowed}
use Rattle.monitor_messages.specs.declared.message.Message.{Message}
use Rattle.monitor_messages.specs.declared.message.Message.TheVariants as message
use Rattle.filter_table.specs.declared.decision.Vote.{Vote}
use Rattle.filter_table.specs.declared.decision.Vote.TheVariants as vote

-- a core's last number; between its vote and the outcome the vote, and the operation where that was Yes
pub record ParticipantPlace : Type 0 where
  pub last : ℕ
  pub voted : Option Vote
  pub staged : Option Op

abbrev pub at_first : ParticipantPlace
at_first = record { last = 0; voted = None; staged = None }

-- the part of its place that it keeps itself, and whether a request of its own is outstanding; its replica holds the staged
-- operation
pub record ParticipantState : Type 0 where
  pub last : ℕ
  pub voted : Option Vote
  pub outstanding : Bool

abbrev pub place_of : ParticipantState → Option Op → ParticipantPlace
place_of own staged = record { last = own.last; voted = own.voted; staged = staged }

-- an operation is staged exactly where the core voted Yes on it and awaits the outcome
abbrev pub StagedByVote : Option Vote → Option Op → Type 0
StagedByVote (Some vote.Yes) staged = IsSome staged
StagedByVote v staged = staged ≡ None

-- A core with this table and budget may cast the vote: Budget exactly where the instructions would exceed the budget, else Yes
-- or NoMemory, on an operation that all tests pass and the verifier accepts. Where `short` is true it has no memory for the
-- operation; where it is false, memory may still be refused to it. An operation that a rule refuses gets no vote.
abbrev pub Casts : Bool → TableState → ℕ → Op → Vote → Type 0
Casts short s budget op vote.Yes = Allowed s budget op None × (instructions (after s op) ≤ budget) × (short ≡ false)
Casts short s budget op vote.Budget = Allowed s budget op (Some Budget) × (budget < instructions (after s op))
Casts short s budget op vote.NoMemory = Allowed s budget op None × (instructions (after s op) ≤ budget)

-- the operation stays staged where the vote is Yes
abbrev pub staged_by : Vote → Op → Option Op
staged_by vote.Yes op = Some op
staged_by v op = None

-- the message is the one that comes next
abbrev pub Fits : TableState → ℕ → ParticipantPlace → Message → Type 0
Fits s budget place (message.Prepare txn op) =
    (place.voted ≡ None) × (txn ≡ place.last + 1) × ((fault : OpFault) → Allowed s budget op (Some (Rule fault)) → ⊥)
Fits s budget place (message.Commit txn) = (place.voted ≡ Some vote.Yes) × (txn ≡ place.last)
Fits s budget place (message.Abort txn) = IsSome place.voted × (txn ≡ place.last)
Fits s budget place m = ⊥

-- from this place the message may lead to that place and be answered so
abbrev pub Answers : Bool → TableState → ℕ → ParticipantPlace → Message → ParticipantPlace → Message → Type 0
Answers short s budget place (message.Prepare txn op) place' (message.Vote txn' v) =
    (place.voted ≡ None) × (txn ≡ place.last + 1) × Casts short s budget op v
    × (place' ≡ record { last = txn; voted = Some v; staged = staged_by v op }) × (txn' ≡ txn)
Answers short s budget place (message.Commit txn) place' (message.Ack txn') =
    (place.voted ≡ Some vote.Yes) × (txn ≡ place.last) × (place' ≡ record { last = txn; voted = None; staged = None }) × (txn' ≡ txn)
Answers short s budget place (message.Abort txn) place' (message.Ack txn') =
    IsSome place.voted × (txn ≡ place.last) × (place' ≡ record { last = txn; voted = None; staged = None }) × (txn' ≡ txn)
Answers short s budget place m place' reply = ⊥

-- what the participant commits when it takes the message
abbrev pub commits : ParticipantPlace → Message → Option Op
commits place (message.Commit txn) = place.staged
commits place m = None
