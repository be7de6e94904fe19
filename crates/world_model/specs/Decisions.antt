-- What is right of the answers in a run: of packets, which go by the version of a replica (Baumann et al. 2009, "The Multikernel",
-- section 3.3), and of decisions and replies, which are those of two-phase commit (Gray 1978, "Notes on data base operating
-- systems", section 5.8.3).
use Rattle.std.specs.Prelude.{◌≡◌, ◌+◌, ◌<◌, ◌≤◌, ◌⊎◌, ℕ, suc, Option, Some, None, List, [], ◌∷◌, ◌++◌, length, map, slice_get, slice_set}
use Rattle.std.proofs.Common.{replicate}
use Rattle.filter_table.specs.Limits.{TableLimits}
use Rattle.filter_table.specs.declared.operation.Op.{Op}
use Rattle.filter_table.specs.declared.delivery.Kept.{Kept}
use Rattle.filter_table.specs.declared.operation.Made.{Made}
use Rattle.filter_table.specs.declared.operation.StageFault.{StageFault}
use Rattle.filter_table.specs.Tables.{TableState, after, made, table, instructions, Allowed, Accepting}
use Rattle.filter_table.specs.Staging.{AsksForMemory}
use Rattle.monitor_messages.specs.declared.message.Message.TheVariants as message
use Rattle.filter_table.specs.declared.decision.Vote.{Vote}
use Rattle.filter_table.specs.declared.decision.Vote.TheVariants as vote
use Rattle.filter_table.specs.declared.decision.Veto.{Veto}
use Rattle.filter_table.specs.declared.decision.Veto.TheVariants as veto
use Rattle.filter_table.specs.declared.decision.Decision.{Decision}
use Rattle.filter_table.specs.declared.decision.Decision.TheVariants.{Committed, Refused}
use Rattle.two_phase.specs.Coordinators.{Requests, Voting, veto_of}
use Rattle.world_events.specs.declared.event.Event.{Event}
use Rattle.world_events.specs.declared.event.Event.TheVariants.{Start, StartFor, Take, Rx}
use Rattle.world_events.specs.declared.event.Answer.{Answer}
use Rattle.world_events.specs.declared.event.Answer.TheVariants.{Prepared, Decided, TookVote, TookReply, Delivered}
use Rattle.world_events.specs.declared.event.Done.{Done}
use Rattle.world_model.specs.Cases.{to_one, captured}
use Rattle.world_model.specs.Worlds.{World, newest, version_at, budget_at, send, sent_out}
use Rattle.world_model.specs.Readings.{version_of, vote_of, sent, settled, request_of, Begun}

-- Packets

-- a packet is handed to the endpoints that accept it at the version that its core had reached with the events before, by this log
abbrev pub DeliversBy : TableLimits → List Op → List Done → Event → Answer → Type 0
DeliversBy limits log before (Rx core number packet floor) answer =
    (kept : List Kept) × (answer ≡ Delivered (version_of core before) kept) × (floor ≤ version_of core before) × (version_of core before ≤ length log)
    × Accepting (table limits log (version_of core before)) (captured packet) kept
DeliversBy limits log before event answer = Unit {0}

abbrev pub Delivers : TableLimits → List Op → List Done → Type 0
Delivers limits log events = (before after : List Done) (done : Done) → events ≡ before ++ done ∷ after → DeliversBy limits log before done.event done.answer

-- Decisions

-- the operation is the log's entry at this version, and the answer names the version after it and the id that it makes
pub record IsEntryAt (limits : TableLimits) (log : List Op) (v : ℕ) (op : Op) (version : ℕ) (id : Made) : Type 0 where
  pub entry : slice_get log v ≡ Some op
  pub is_version : version ≡ v + 1
  pub is_made : id ≡ made (table limits log v) op

-- Core 0, with this table and this budget, refuses at once: by the first refusal that stands, or since it is out of memory, where
-- staging asks for it.
abbrev pub HasReason : TableState → ℕ → Op → Veto → Type 0
HasReason s budget op why =
    ((why ≡ veto.NoMemory) × AsksForMemory s budget op)
    ⊎ ((fault : StageFault) × Allowed s budget op (Some fault) × (why ≡ veto_of fault))

-- What core 0 decides at once, with so many other cores, by its budget and the table at this version of the log: it commits where
-- there is no other core, or it refuses.
abbrev pub DecidesAtOnce : ℕ → ℕ → TableLimits → List Op → ℕ → Op → Decision → Type 0
DecidesAtOnce others budget limits log v op (Committed version id) = (others ≡ 0) × IsEntryAt limits log v op version id
DecidesAtOnce others budget limits log v op (Refused core why) = (core ≡ 0) × HasReason (table limits log v) budget op why

-- every other core is asked, under a number that no operation had before
pub record Prepares (events : List Done) (w : World) (op : Op) (requests : Requests) (w' : World) (txn : ℕ) : Type 0 where
  pub allowed : Allowed (newest w) w.budget op None
  pub next_number : txn ≡ w.place.last + 1
  pub new_number : (core : ℕ) (old : Op) → Begun events txn core old → ⊥
  pub asked : w' ≡ record w {
    place = record { last = txn; phase = Voting (replicate (length w.peers) None); staged = Some op };
    requests = requests;
    peers = map (send (message.Prepare txn op)) w.peers;
  }

-- the operation that core 0 has waiting for the core with this entry is that of the core's last request
pub record IsWaiting (events : List Done) (w : World) (entry : ℕ) (op : Op) : Type 0 where
  pub waits : slice_get w.requests.waiting entry ≡ Some (Some op)
  pub is_sent : request_of (suc entry) events ≡ sent op

abbrev pub requests_without : World → ℕ → Option ℕ → Requests
requests_without w entry asker = record { waiting = slice_set w.requests.waiting entry None; asker = asker; decided = None }

-- a waiting request is refused at once, and its core is told so
abbrev pub RepliesAtOnce : World → ℕ → Op → World → Decision → Type 0
RepliesAtOnce w entry op w' (Committed version id) = ⊥
RepliesAtOnce w entry op w' (Refused core why) = DecidesAtOnce (length w.peers) w.budget w.limits w.log (length w.log) op (Refused core why)
    × (w' ≡ record w { requests = requests_without w entry None; peers = sent_out w.peers (to_one entry (message.Reply (Refused core why))) })

-- all of so many other cores voted Yes
abbrev pub AllVoteYes : ℕ → (ℕ → Option Vote) → Type 0
AllVoteYes count votes = (entry : ℕ) → entry < count → votes entry ≡ Some vote.Yes

-- Another core's veto, by the other cores' votes and budgets and the table that all have: it is the least core that did not vote Yes,
-- and its vote gives the reason: memory was refused to an operation that all tests pass and the verifier accepts, or it exceeds the budget.
pub record VetoedBy (votes : ℕ → Option Vote) (budgets : ℕ → Option ℕ) (s : TableState) (op : Op) (core : ℕ) (why : Veto) : Type 0 where
  pub entry : ℕ
  pub is_core : core ≡ suc entry
  pub yes_before : AllVoteYes entry votes
  pub against : Vote
  pub voted : votes entry ≡ Some against
  pub budget : ℕ
  pub is_budget : budgets entry ≡ Some budget
  pub reason : ((against ≡ vote.NoMemory) × (why ≡ veto.NoMemory) × Allowed s budget op None) ⊎ ((against ≡ vote.Budget) × (why ≡ veto.Budget) × (budget < instructions (after s op)))

-- What so many other cores' votes decide, by their budgets and the table at this version of the log: all are Yes, or one is a veto.
abbrev pub VotesDecide : ℕ → (ℕ → Option Vote) → (ℕ → Option ℕ) → TableLimits → List Op → ℕ → Op → Decision → Type 0
VotesDecide others votes budgets limits log v op (Committed version id) = IsEntryAt limits log v op version id × AllVoteYes others votes
VotesDecide others votes budgets limits log v op (Refused core why) = VetoedBy votes budgets (table limits log v) op core why

-- the vote of the other core with this entry
abbrev pub vote_by : List Done → ℕ → ℕ → Option Vote
vote_by events txn entry = vote_of (suc entry) txn events

-- a committed operation is the log's last entry now; a refusal changes no log and no version
abbrev pub MakesChange : World → Op → World → Decision → Type 0
MakesChange w op w' (Committed version id) = w'.log ≡ w.log ++ op ∷ []
MakesChange w op w' (Refused core why) = (w'.log ≡ w.log) × ((c : ℕ) → version_at w' c ≡ version_at w c)

-- some core's vote has not come
pub record AwaitsVotes (w : World) : Type 0 where
  pub votes : List (Option Vote)
  pub entry : ℕ
  pub voting : w.place.phase ≡ Voting votes
  pub missing : slice_get votes entry ≡ Some None

-- What is decided of a request after these events holds. Core 0 commits at once only where there is no other core.
abbrev pub DecidesRightly : List Done → World → Event → World → Answer → Type 0
DecidesRightly events w (Start op) w' (Prepared txn) = Prepares events w op w.requests w' txn
DecidesRightly events w (Start op) w' (Decided (Committed version id)) = (w'.log ≡ w.log ++ op ∷ []) × DecidesAtOnce (length w.peers) w.budget w'.limits w'.log (length w.log) op (Committed version id)
DecidesRightly events w (Start op) w' (Decided (Refused core why)) = (w' ≡ w) × DecidesAtOnce (length w.peers) w.budget w.limits w.log (length w.log) op (Refused core why)
DecidesRightly events w (StartFor (suc entry)) w' (Prepared txn) = (op : Op) × IsWaiting events w entry op × Prepares events w op (requests_without w entry (Some (suc entry))) w' txn
DecidesRightly events w (StartFor (suc entry)) w' (Decided decision) = (op : Op) × IsWaiting events w entry op × RepliesAtOnce w entry op w' decision
DecidesRightly events w event w' (TookVote txn v None) = AwaitsVotes w' × (w'.log ≡ w.log)
DecidesRightly events w event w' (TookVote txn v (Some decision)) = (core : ℕ) × (op : Op) × Begun events txn core op × MakesChange w op w' decision
    × VotesDecide (length w.peers) (vote_by events txn) (λ entry. budget_at w (suc entry)) w'.limits w'.log (length w.log) op decision
DecidesRightly events w event w' answer = Unit {0}

-- Replies

-- the version that a decision names is this one
abbrev pub StandsAt : ℕ → Decision → Type 0
StandsAt version (Committed named id) = version ≡ named
StandsAt version (Refused core why) = Unit {0}

-- a committed operation is the entry of the log that the decision names, with its id
abbrev pub IsEntered : TableLimits → List Op → Op → Decision → Type 0
IsEntered limits log op (Committed version id) = (v : ℕ) × IsEntryAt limits log v op version id
IsEntered limits log op (Refused core why) = Unit {0}

-- A core that takes a Reply after these events takes the decision of its one request; where that is committed, the request is
-- that entry of the log, and the core stands exactly at its version.
abbrev pub RepliesRightly : List Done → World → Event → Answer → Type 0
RepliesRightly events w (Take (suc entry) from short) (TookReply decision) = (op : Op) × (request_of (suc entry) events ≡ settled op decision) × IsEntered w.limits w.log op decision
    × ((version : ℕ) → version_at w (suc entry) ≡ Some version → StandsAt version decision)
RepliesRightly events w event answer = Unit {0}

-- what core 0 has waiting for a core is the operation of its last request
abbrev pub WaitsRightly : List Done → World → Type 0
WaitsRightly events w = (entry : ℕ) (op : Op) → slice_get w.requests.waiting entry ≡ Some (Some op) → request_of (suc entry) events ≡ sent op
