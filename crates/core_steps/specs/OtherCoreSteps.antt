-- The steps of a core other than core 0, in the words of the cases of an event: the participant's part of two-phase commit
-- (Gray 1978, "Notes on data base operating systems", section 5.8.3; Baumann et al. 2009, "The Multikernel", section 4.4).
use Rattle.std.specs.Prelude.{◌≡◌, ◌+◌, Bool, true, Option, None, Some, IsSome}
use Rattle.filter_table.specs.declared.operation.Op.{Op}
use Rattle.monitor_messages.specs.declared.message.Message.{Message}
use Rattle.monitor_messages.specs.declared.message.Message.TheVariants as message
use Rattle.filter_table.specs.declared.decision.Vote.TheVariants.{Yes}
use Rattle.monitor_2pc.specs.Places.{after_commit}
use Rattle.two_phase.specs.Participants.{ParticipantPlace, place_of, StagedByVote, Casts, Fits, staged_by}
use Rattle.world_events.specs.declared.event.Answer.{Answer}
use Rattle.world_model.specs.Cases.{TakesDownAt}
use Rattle.core_steps.specs.declared.other_core.OtherCore.{OtherCore}

-- its place in the protocol
abbrev pub other_place : OtherCore → ParticipantPlace
other_place core = place_of core.participant core.replica.staged

-- between its steps it has staged just what it voted Yes on
abbrev pub IsBetweenSteps : OtherCore → Type 0
IsBetweenSteps core = StagedByVote core.participant.voted core.replica.staged

-- the message is one that it waits for
abbrev pub AwaitsHere : OtherCore → Message → Type 0
AwaitsHere core (message.Reply decision) = core.participant.outstanding ≡ true
AwaitsHere core m = Fits core.replica.shown core.replica.budget (other_place core) m

-- It waits for the message and will send this. What it votes Yes on is staged, and nothing else changes.
abbrev pub Considers : Bool → OtherCore → Message → Option Message → OtherCore → Type 0
Considers short core (message.Prepare txn op) (Some (message.Vote txn' v)) core' =
    (core.participant.voted ≡ None) × (txn ≡ core.participant.last + 1) × Casts short core.replica.shown core.replica.budget op v
    × (core' ≡ record core { replica = record core.replica { staged = staged_by v op } }) × (txn' ≡ txn)
Considers short core (message.Commit txn) (Some (message.Ack txn')) core' = (core.participant.voted ≡ Some Yes) × (txn ≡ core.participant.last) × (core' ≡ core) × (txn' ≡ txn)
Considers short core (message.Abort txn) (Some (message.Ack txn')) core' = IsSome core.participant.voted × (txn ≡ core.participant.last) × (core' ≡ core) × (txn' ≡ txn)
Considers short core (message.Reply decision) None core' = (core.participant.outstanding ≡ true) × (core' ≡ core)
Considers short core m reply core' = ⊥

-- it takes the message
pub record TakesDown (short : Bool) (core : OtherCore) (m : Message) (core' : OtherCore) (answer : Answer) : Type 0 where
  pub committed : Option Op
  pub here : TakesDownAt short core.replica.shown core.replica.budget core.replica.shown.version (other_place core) core.participant.outstanding m (other_place core') core'.participant.outstanding committed answer
  pub shown_next : core'.replica.shown ≡ after_commit core.replica.shown committed
  pub same_budget : core'.replica.budget ≡ core.replica.budget
  pub between : IsBetweenSteps core'
