-- What one event does at one core: the cases of two-phase commit, and the receipt of a packet (Baumann et al. 2009, "The
-- Multikernel", sections 3.3 and 4.4). The world, the histories of running cores and one turn of a core all cite them.
use Rattle.std.specs.Prelude.{◌≡◌, ◌+◌, ◌≤◌, ℕ, suc, Bool, true, false, Option, Some, None, List, [], ◌∷◌, ◌++◌}
use Rattle.filter_table.specs.declared.operation.Op.{Op}
use Rattle.filter_table.specs.declared.delivery.Kept.{Kept}
use Rattle.filter_table.specs.Tables.{TableState, Accepting}
use Rattle.bpf_insn.specs.Machine as machine
use Rattle.pcap_reader.specs.declared.capture.CapturedPacket.{CapturedPacket}
use Rattle.monitor_messages.specs.declared.message.Message.{Message}
use Rattle.monitor_messages.specs.declared.message.Message.TheVariants as message
use Rattle.filter_table.specs.declared.decision.Vote.{Vote}
use Rattle.two_phase.specs.declared.step.Say.{Say}
use Rattle.two_phase.specs.declared.step.Say.TheVariants as say
use Rattle.filter_table.specs.declared.decision.Decision.{Decision}
use Rattle.two_phase.specs.declared.step.Step.{Step}
use Rattle.two_phase.specs.Participants.{ParticipantPlace, Answers, commits}
use Rattle.two_phase.specs.Coordinators.{CoordinatorPlace, Requests, Starts, StartsFor, CanStart, CanSubmit, with_waiting, Hears, with_decided, HearsAck}
use Rattle.world_events.specs.declared.event.Event.{Event}
use Rattle.world_events.specs.declared.event.Event.TheVariants.{Submit}
use Rattle.world_events.specs.declared.event.Answer.{Answer}
use Rattle.world_events.specs.declared.event.Answer.TheVariants.{Prepared, Decided, Submitted, TookPrepare, TookVote, TookCommit, TookAbort, TookAck, TookSubmit, TookReply, Delivered}

-- What is sent

-- what core 0 sends with one event: nothing, a message to each other core, or one to the core with this entry alone
pub data Outgoing : Type 0 where
  nothing : Outgoing
  to_all : Message → Outgoing
  to_one : (entry : ℕ) → Message → Outgoing

abbrev pub as_reply : Option (ℕ × Decision) → Outgoing
as_reply (Some (suc entry, decision)) = to_one entry (message.Reply decision)
as_reply reply = nothing

-- what a step says, with this number and this operation under vote after it; else what it replies
abbrev pub said : Option Say → ℕ → Option Op → Option (ℕ × Decision) → Outgoing
said None txn staged reply = as_reply reply
said (Some say.Prepare) txn (Some op) reply = to_all (message.Prepare txn op)
said (Some say.Prepare) txn None reply = nothing
said (Some say.Commit) txn staged reply = to_all (message.Commit txn)
said (Some say.Abort) txn staged reply = to_all (message.Abort txn)

abbrev pub outgoing : Step → CoordinatorPlace → Outgoing
outgoing told place = said told.say told.txn place.staged told.reply

-- what another core sends to core 0
abbrev pub sent_up : Event → Answer → Option Message
sent_up (Submit core op) Submitted = Some (message.Submit op)
sent_up event (TookPrepare txn vote) = Some (message.Vote txn vote)
sent_up event (TookCommit txn version) = Some (message.Ack txn)
sent_up event (TookAbort txn version) = Some (message.Ack txn)
sent_up event answer = None

-- What is committed: a log and a version, with one operation more or none

abbrev pub joined : List Op → Option Op → List Op
joined log None = log
joined log (Some op) = log ++ op ∷ []

abbrev pub raised : ℕ → Option Op → ℕ
raised version None = version
raised version (Some op) = version + 1

-- The cases

-- the packet as programs see it
abbrev pub captured : CapturedPacket → machine.Packet
captured packet = record { bytes = packet.bytes; original = packet.original }

-- a core at this version, with this table, receives a packet
pub record ReceivesAt (s : TableState) (version : ℕ) (packet : CapturedPacket) (floor : ℕ) (answer : Answer) : Type 0 where
  pub kept : List Kept
  pub above_floor : floor ≤ version
  pub accepting : Accepting s (captured packet) kept
  pub is_answer : answer ≡ Delivered version kept

-- the answer to a start
abbrev pub start_told : ℕ → Option Decision → Answer
start_told txn None = Prepared txn
start_told txn (Some decision) = Decided decision

-- core 0 starts a request
pub record StartsAt (others : ℕ) (s : TableState) (budget : ℕ) (place : CoordinatorPlace) (op : Op) (place' : CoordinatorPlace) (committed : Option Op) (told : Step) (answer : Answer) : Type 0 where
  pub can_start : CanStart place
  pub starts : Starts others s budget place op place' committed told
  pub is_answer : answer ≡ start_told told.txn told.decided

-- core 0 starts the request that the core with this entry submitted
pub record StartsForAt (others : ℕ) (s : TableState) (budget : ℕ) (place : CoordinatorPlace) (requests : Requests) (entry : ℕ) (place' : CoordinatorPlace) (requests' : Requests) (committed : Option Op) (told : Step) (answer : Answer) : Type 0 where
  pub can_start : CanStart place
  pub starts : StartsFor others s budget place requests entry place' requests' committed told
  pub is_answer : answer ≡ start_told told.txn told.decided

-- another core submits a request
pub record SubmitsAt (outstanding : Bool) (outstanding' : Bool) (answer : Answer) : Type 0 where
  pub none_outstanding : outstanding ≡ false
  pub now_outstanding : outstanding' ≡ true
  pub is_answer : answer ≡ Submitted

-- core 0 takes a vote
pub record VoteAt (s : TableState) (place : CoordinatorPlace) (requests : Requests) (entry txn : ℕ) (v : Vote) (place' : CoordinatorPlace) (requests' : Requests) (committed : Option Op) (told : Step) (answer : Answer) : Type 0 where
  pub hears : Hears s place entry txn v place' committed told
  pub requests_next : requests' ≡ with_decided requests told.decided
  pub is_answer : answer ≡ TookVote txn v told.decided

-- core 0 takes an acknowledgement
pub record AckAt (place : CoordinatorPlace) (requests : Requests) (entry txn : ℕ) (place' : CoordinatorPlace) (requests' : Requests) (committed : Option Op) (told : Step) (answer : Answer) : Type 0 where
  pub hears : HearsAck place requests entry txn place' requests' told
  pub none_committed : committed ≡ None
  pub is_answer : answer ≡ TookAck txn

-- core 0 takes a submitted request
pub record SubmitAt (place : CoordinatorPlace) (requests : Requests) (entry : ℕ) (op : Op) (place' : CoordinatorPlace) (requests' : Requests) (committed : Option Op) (told : Step) (answer : Answer) : Type 0 where
  pub can_submit : CanSubmit requests entry
  pub same_place : place' ≡ place
  pub requests_next : requests' ≡ with_waiting requests entry op
  pub none_committed : committed ≡ None
  pub tells : told ≡ record { txn = place.last; say = None; decided = None; reply = None }
  pub is_answer : answer ≡ TookSubmit

-- core 0 takes a message of the core with this entry
abbrev pub TakesUpAt : TableState → CoordinatorPlace → Requests → ℕ → Message → CoordinatorPlace → Requests → Option Op → Step → Answer → Type 0
TakesUpAt s place requests entry (message.Vote txn v) place' requests' committed told answer = VoteAt s place requests entry txn v place' requests' committed told answer
TakesUpAt s place requests entry (message.Ack txn) place' requests' committed told answer = AckAt place requests entry txn place' requests' committed told answer
TakesUpAt s place requests entry (message.Submit op) place' requests' committed told answer = SubmitAt place requests entry op place' requests' committed told answer
TakesUpAt s place requests entry m place' requests' committed told answer = ⊥

-- the answer of a core that took the message and sends the reply, at the version after it
abbrev pub Took : Message → Message → ℕ → Answer → Type 0
Took (message.Prepare txn op) (message.Vote txn' v) version answer = answer ≡ TookPrepare txn v
Took (message.Commit txn) reply version answer = answer ≡ TookCommit txn version
Took (message.Abort txn) reply version answer = answer ≡ TookAbort txn version
Took m reply version answer = ⊥

-- another core, at this version, takes a message of core 0 and answers it
pub record AnswersAt (short : Bool) (s : TableState) (budget version : ℕ) (place : ParticipantPlace) (outstanding : Bool) (m : Message) (place' : ParticipantPlace) (outstanding' : Bool) (committed : Option Op) (answer : Answer) : Type 0 where
  pub reply : Message
  pub answers : Answers short s budget place m place' reply
  pub same_outstanding : outstanding' ≡ outstanding
  pub is_committed : committed ≡ commits place m
  pub is_answer : Took m reply (raised version committed) answer

-- it takes the reply to its request
pub record ReplyAt (place : ParticipantPlace) (outstanding : Bool) (decision : Decision) (place' : ParticipantPlace) (outstanding' : Bool) (committed : Option Op) (answer : Answer) : Type 0 where
  pub was_outstanding : outstanding ≡ true
  pub none_outstanding : outstanding' ≡ false
  pub same_place : place' ≡ place
  pub none_committed : committed ≡ None
  pub is_answer : answer ≡ TookReply decision

-- another core, at this version, takes a message of core 0
abbrev pub TakesDownAt : Bool → TableState → ℕ → ℕ → ParticipantPlace → Bool → Message → ParticipantPlace → Bool → Option Op → Answer → Type 0
TakesDownAt short s budget version place outstanding (message.Reply decision) place' outstanding' committed answer = ReplyAt place outstanding decision place' outstanding' committed answer
TakesDownAt short s budget version place outstanding m place' outstanding' committed answer = AnswersAt short s budget version place outstanding m place' outstanding' committed answer
