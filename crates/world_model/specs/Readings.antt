-- What a list of events with their answers tells of the cores: versions, votes, and what became of requests. A core's events are a
-- sequence (Lamport 1978, "Time, clocks, and the ordering of events in a distributed system", section "The partial ordering"), and
-- its votes are those of two-phase commit (Gray 1978, "Notes on data base operating systems", section 5.8.3).
use Rattle.std.specs.Prelude.{◌≡◌, ◌==◌, ◌&&◌, ℕ, zero, suc, Bool, true, false, cond, Option, Some, None, List, [], ◌∷◌, ◌++◌, count_by}
use Rattle.filter_table.specs.declared.operation.Op.{Op}
use Rattle.filter_table.specs.declared.decision.Vote.{Vote}
use Rattle.filter_table.specs.declared.decision.Decision.{Decision}
use Rattle.filter_table.specs.declared.decision.Decision.TheVariants.{Committed}
use Rattle.world_events.specs.declared.event.Event.{Event}
use Rattle.world_events.specs.declared.event.Event.TheVariants.{Start, Submit, StartFor, Take}
use Rattle.world_events.specs.declared.event.Answer.{Answer}
use Rattle.world_events.specs.declared.event.Answer.TheVariants.{Prepared, Decided, Submitted, TookPrepare, TookVote, TookCommit}
use Rattle.world_events.specs.declared.event.Done.{Done}

-- Versions

-- the core commits with this event: core 0 by a decision, another core by taking Commit
abbrev pub commits_at : ℕ → Event → Answer → Bool
commits_at zero event (Decided (Committed version id)) = true
commits_at zero event (TookVote txn v (Some (Committed version id))) = true
commits_at (suc entry) (Take to from short) (TookCommit txn version) = to == suc entry
commits_at core event answer = false

-- the version that the core has reached with these events: how often it committed
abbrev pub version_of : ℕ → List Done → ℕ
version_of core events = count_by (λ done. commits_at core done.event done.answer) events

-- Votes

abbrev pub vote_with : ℕ → ℕ → Option Vote → Event → Answer → Option Vote
vote_with core txn known (Take to from short) (TookPrepare number v) = cond ((to == core) && (number == txn)) (Some v) known
vote_with core txn known event answer = known

abbrev pub vote_after : ℕ → ℕ → Option Vote → List Done → Option Vote
vote_after core txn known [] = known
vote_after core txn known (done ∷ later) = vote_after core txn (vote_with core txn known done.event done.answer) later

-- the vote that the core cast on the operation of this number
abbrev pub vote_of : ℕ → ℕ → List Done → Option Vote
vote_of core txn events = vote_after core txn None events

-- Requests

-- what became of the last request that a core submitted: nothing yet, a numbered operation, or a decision
pub data Request : Type 0 where
  unsent : Request
  sent : Op → Request
  numbered : Op → ℕ → Request
  settled : Op → Decision → Request

abbrev pub begun : Request → Answer → Request
begun (sent op) (Prepared txn) = numbered op txn
begun (sent op) (Decided decision) = settled op decision
begun request answer = request

-- the decision on the number is taken
abbrev pub decided_on : Request → ℕ → Decision → Request
decided_on (numbered op number) txn decision = cond (number == txn) (settled op decision) (numbered op number)
decided_on request txn decision = request

-- what an event makes of the last request of this core
abbrev pub followed : ℕ → Request → Event → Answer → Request
followed core request (Submit from op) Submitted = cond (from == core) (sent op) request
followed core request (StartFor from) answer = cond (from == core) (begun request answer) request
followed core request event (TookVote txn v (Some decision)) = decided_on request txn decision
followed core request event answer = request

abbrev pub request_after : ℕ → Request → List Done → Request
request_after core request [] = request
request_after core request (done ∷ later) = request_after core (followed core request done.event done.answer) later

-- the last request that the core submitted in these events
abbrev pub request_of : ℕ → List Done → Request
request_of core events = request_after core unsent events

-- Operations under vote

-- after these events, the event begins the operation for the core: one of core 0's, or the last request of the core
abbrev pub Begins : List Done → Event → ℕ → Op → Type 0
Begins before (Start started) core op = (core ≡ 0) × (op ≡ started)
Begins before (StartFor from) core op = (core ≡ from) × (request_of from before ≡ sent op)
Begins before event core op = ⊥

-- one of the events began the operation for the core, under this number
pub record Begun (events : List Done) (txn core : ℕ) (op : Op) : Type 0 where
  pub before : List Done
  pub after : List Done
  pub event : Event
  pub is_among : events ≡ before ++ record { event = event; answer = Prepared txn } ∷ after
  pub begins : Begins before event core op
