-- What the run tells of a core is what the core's own events tell.
use Rattle.std.proofs.Common.{◌≡◌, ◌+◌, ◌⊎◌, ◌==◌, inl, inr, ℕ, zero, suc, Bool, true, false, cond, Option, Some, None, List, [], ◌∷◌, refl, ap, sym, ◌∙◌, arith}
use Rattle.std.proofs.lemmas.List.Sums.{sum_by-append}
use Rattle.filter_table.specs.declared.operation.Op.{Op}
use Rattle.filter_table.specs.declared.delivery.Kept.{Kept}
use Rattle.filter_table.specs.Tables.{TableState}
use Rattle.pcap_reader.specs.declared.capture.CapturedPacket.{CapturedPacket}
use Rattle.monitor_messages.specs.declared.message.Message.{Message}
use Rattle.monitor_messages.specs.declared.message.Message.TheVariants as message
use Rattle.filter_table.specs.declared.decision.Vote.{Vote}
use Rattle.filter_table.specs.declared.decision.Vote.TheVariants as vote
use Rattle.filter_table.specs.declared.decision.Decision.{Decision}
use Rattle.two_phase.specs.declared.step.Step.{Step}
use Rattle.two_phase.specs.Participants.{ParticipantPlace}
use Rattle.two_phase.specs.Coordinators.{CoordinatorPlace, Requests}
use Rattle.world_events.specs.declared.event.Event.{Event}
use Rattle.world_events.specs.declared.event.Event.TheVariants.{Start, Submit, StartFor, Take, Rx}
use Rattle.world_events.specs.declared.event.Answer.{Answer}
use Rattle.world_events.specs.declared.event.Answer.TheVariants.{Prepared, Decided, Submitted, TookPrepare, TookVote, TookCommit, TookAbort, TookReply, Delivered}
use Rattle.world_events.specs.declared.event.Done.{Done}
use Rattle.world_model.specs.Cases.{start_told, TakesUpAt, TakesDownAt, Took}
use Rattle.world_model.specs.Worlds.{World, Happens, Runs}
use Rattle.world_model.specs.Readings.{commits_at, version_of, vote_with, vote_after, Request, unsent, sent, numbered, settled, begun, decided_on, followed, request_after}
use Rattle.world_model.proofs.Moves.{IsSilent}
use Rattle.world_model.proofs.Lists.{same_or_not}
use Rattle.world_model.proofs.Submissions.{eq_self, eq_other}
use Rattle.world_histories.specs.declared.history.Stamped.{Stamped}
use Rattle.world_histories.specs.Histories.{unstamped}
use Rattle.world_histories.specs.Merging.{core_of, part, as_short, listed, as_listed}
use Rattle.world_histories.proofs.Parts.{part_own, part_other}
use Rattle.world_histories.specs.Answers.{requested, submitted_with, submitted_after, TellsOfCores}

-- The flag of a Take changes nothing that is told

short_commits : (core : ℕ) (event : Event) (answer : Answer) → commits_at core (as_short event answer) answer ≡ commits_at core event answer
short_commits zero (Take to from short) (TookPrepare txn vote.NoMemory) = refl
short_commits (suc i) (Take to from short) (TookPrepare txn vote.NoMemory) = refl
short_commits core event answer = refl

short_votes : (core txn : ℕ) (known : Option Vote) (event : Event) (answer : Answer) → vote_with core txn known (as_short event answer) answer ≡ vote_with core txn known event answer
short_votes core txn known (Take to from short) (TookPrepare n vote.NoMemory) = refl
short_votes core txn known event answer = refl

short_submits : (known : Option Op) (event : Event) (answer : Answer) → submitted_with known (as_short event answer) ≡ submitted_with known event
short_submits known (Take to from short) (TookPrepare n vote.NoMemory) = refl
short_submits known event answer = refl

pub short_core : (event : Event) (answer : Answer) → core_of (as_short event answer) ≡ core_of event
short_core (Take to from short) (TookPrepare n vote.NoMemory) = refl
short_core event answer = refl

-- An event says nothing of another core

start_silent : (core : ℕ) (event : Event) (txn : ℕ) (d : Option Decision) → ((n : ℕ) (k : Option Vote) (a : Answer) → vote_with (suc core) n k event a ≡ k) → commits_at (suc core) event (Prepared txn) ≡ false → ((x : Decision) → commits_at (suc core) event (Decided x) ≡ false) → IsSilent event (start_told txn d) (suc core)
start_silent core event txn None v c c' = record { no_commit = c; no_vote = λ n k. v n k (Prepared txn) }
start_silent core event txn (Some x) v c c' = record { no_commit = c' x; no_vote = λ n k. v n k (Decided x) }

up_silent : (core i : ℕ) (short : Bool) (place place' : CoordinatorPlace) (requests requests' : Requests) (s : TableState) (m : Message) (committed : Option Op) (told : Step) (answer : Answer) → TakesUpAt s place requests i m place' requests' committed told answer
    → IsSilent (Take 0 (suc i) short) answer (suc core)
up_silent core i short place place' requests requests' s (message.Vote txn v) committed told answer h = rw h.is_answer (record { no_commit = refl; no_vote = λ n k. refl })
up_silent core i short place place' requests requests' s (message.Ack txn) committed told answer h = rw h.is_answer (record { no_commit = refl; no_vote = λ n k. refl })
up_silent core i short place place' requests requests' s (message.Submit op) committed told answer h = rw h.is_answer (record { no_commit = refl; no_vote = λ n k. refl })
up_silent core i short place place' requests requests' s m committed told answer h = absurd h

took_silent : (core i : ℕ) (short : Bool) (m reply : Message) (version : ℕ) (answer : Answer) → (suc i ≡ core → ⊥) → Took m reply version answer → IsSilent (Take (suc i) 0 short) answer core
took_silent core i short (message.Prepare txn op) (message.Vote txn' v) version answer ne t = rw t (record { no_commit = prepare_commits core; no_vote = λ n k. rw (eq_other (suc i) core ne) refl })
  where
    prepare_commits : (c : ℕ) → commits_at c (Take (suc i) 0 short) (TookPrepare txn v) ≡ false
    prepare_commits zero = refl
    prepare_commits (suc c) = refl
took_silent core i short (message.Commit txn) reply version answer ne t = rw t (record { no_commit = commit_commits core ne; no_vote = λ n k. refl })
  where
    commit_commits : (c : ℕ) → (suc i ≡ c → ⊥) → commits_at c (Take (suc i) 0 short) (TookCommit txn version) ≡ false
    commit_commits zero n = refl
    commit_commits (suc c) n = eq_other (suc i) (suc c) n
took_silent core i short (message.Abort txn) reply version answer ne t = rw t (record { no_commit = abort_commits core; no_vote = λ n k. refl })
  where
    abort_commits : (c : ℕ) → commits_at c (Take (suc i) 0 short) (TookAbort txn version) ≡ false
    abort_commits zero = refl
    abort_commits (suc c) = refl
took_silent core i short m reply version answer ne t = absurd t

down_silent : (core i : ℕ) (short : Bool) (s : TableState) (b version : ℕ) (place place' : ParticipantPlace) (out out' : Bool) (m : Message) (committed : Option Op) (answer : Answer) → (suc i ≡ core → ⊥) → TakesDownAt short s b version place out m place' out' committed answer
    → IsSilent (Take (suc i) 0 short) answer core
down_silent core i short s b version place place' out out' (message.Reply d) committed answer ne h = rw h.is_answer (record { no_commit = reply_commits core; no_vote = λ n k. refl })
  where
    reply_commits : (c : ℕ) → commits_at c (Take (suc i) 0 short) (TookReply d) ≡ false
    reply_commits zero = refl
    reply_commits (suc c) = refl
down_silent core i short s b version place place' out out' (message.Prepare txn op) committed answer ne h = took_silent core i short (message.Prepare txn op) h.reply _ answer ne h.is_answer
down_silent core i short s b version place place' out out' (message.Commit txn) committed answer ne h = took_silent core i short (message.Commit txn) h.reply _ answer ne h.is_answer
down_silent core i short s b version place place' out out' (message.Abort txn) committed answer ne h = took_silent core i short (message.Abort txn) h.reply _ answer ne h.is_answer
down_silent core i short s b version place place' out out' (message.Vote txn v) committed answer ne h = absurd h.answers
down_silent core i short s b version place place' out out' (message.Ack txn) committed answer ne h = absurd h.answers
down_silent core i short s b version place place' out out' (message.Submit op) committed answer ne h = absurd h.answers

submit_silent : (core i : ℕ) (op : Op) → IsSilent (Submit i op) Submitted core
submit_silent zero i op = record { no_commit = refl; no_vote = λ n k. refl }
submit_silent (suc core) i op = record { no_commit = refl; no_vote = λ n k. refl }

rx_silent : (core number floor version : ℕ) (i : ℕ) (packet : CapturedPacket) (kept : List Kept) → IsSilent (Rx i number packet floor) (Delivered version kept) core
rx_silent zero number floor version i packet kept = record { no_commit = refl; no_vote = λ n k. refl }
rx_silent (suc core) number floor version i packet kept = record { no_commit = refl; no_vote = λ n k. refl }

others_silent : (core : ℕ) (w w' : World) (event : Event) (answer : Answer) → (core_of event ≡ core → ⊥) → Happens w event w' answer → IsSilent event answer core
others_silent zero w w' (Start op) answer ne h = absurd (ne refl)
others_silent (suc core) w w' (Start op) answer ne h = rw h.here.is_answer (start_silent core (Start op) h.told.txn h.told.decided (λ n k a. refl) refl (λ x. refl))
others_silent zero w w' (StartFor (suc i)) answer ne h = absurd (ne refl)
others_silent (suc core) w w' (StartFor (suc i)) answer ne h = rw h.here.is_answer (start_silent core (StartFor (suc i)) h.told.txn h.told.decided (λ n k a. refl) refl (λ x. refl))
others_silent core w w' (Submit (suc i) op) answer ne h = rw h.here.is_answer (submit_silent core (suc i) op)
others_silent zero w w' (Take zero (suc i) short) answer ne h = absurd (ne refl)
others_silent (suc core) w w' (Take zero (suc i) short) answer ne h = up_silent core i short _ _ _ _ _ h.m h.committed h.told answer h.here
others_silent core w w' (Take (suc i) zero short) answer ne h = down_silent core i short _ _ _ _ _ _ _ h.m h.committed answer ne h.here
others_silent core w w' (Rx i number packet floor) answer ne h = rw h.here.is_answer (rx_silent core number floor h.version i packet h.here.kept)
others_silent core w w' event answer ne h = absurd h

-- The operation of a request

pub begun_same : (r : Request) (answer : Answer) → requested (begun r answer) ≡ requested r
begun_same (sent op) (Prepared txn) = refl
begun_same (sent op) (Decided d) = refl
begun_same r answer = refl

pub decided_same : (r : Request) (txn : ℕ) (d : Decision) → requested (decided_on r txn d) ≡ requested r
decided_same (numbered op n) txn d = by_test (n == txn)
  where
    by_test : (b : Bool) → requested (cond b (settled op d) (numbered op n)) ≡ Some op
    by_test true = refl
    by_test false = refl
decided_same r txn d = refl

-- an event changes it only where it is a Submit of the core
abbrev Asks : ℕ → Request → Event → Answer → Type 0
Asks i r event answer = (core_of event ≡ suc i → requested (followed (suc i) r event answer) ≡ submitted_with (requested r) event)
    × ((core_of event ≡ suc i → ⊥) → requested (followed (suc i) r event answer) ≡ requested r)

asks_start : (i : ℕ) (r : Request) (op : Op) (txn : ℕ) (d : Option Decision) → Asks i r (Start op) (start_told txn d)
asks_start i r op txn None = (λ e. refl, λ ne. refl)
asks_start i r op txn (Some x) = (λ e. refl, λ ne. refl)

asks_start_for : (i : ℕ) (r : Request) (core : ℕ) (answer : Answer) → requested (followed (suc i) r (StartFor core) answer) ≡ requested r
asks_start_for i r core answer = by_test (core == suc i)
  where
    by_test : (b : Bool) → requested (cond b (begun r answer) r) ≡ requested r
    by_test true = begun_same r answer
    by_test false = refl

asks_submit : (i : ℕ) (r : Request) (core : ℕ) (op : Op) → Asks i r (Submit core op) Submitted
asks_submit i r core op = (λ e. ap (λ (b : Bool). requested (cond b (sent op) r)) (ap (λ (n : ℕ). n == suc i) e ∙ eq_self (suc i)), λ ne. ap (λ (b : Bool). requested (cond b (sent op) r)) (eq_other core (suc i) ne))

asks_vote : (i : ℕ) (r : Request) (from txn : ℕ) (short : Bool) (v : Vote) (d : Option Decision) → requested (followed (suc i) r (Take 0 from short) (TookVote txn v d)) ≡ requested r
asks_vote i r from txn short v None = refl
asks_vote i r from txn short v (Some d) = decided_same r txn d

asks_up : (i j : ℕ) (r : Request) (short : Bool) (place place' : CoordinatorPlace) (requests requests' : Requests) (s : TableState) (m : Message) (committed : Option Op) (told : Step) (answer : Answer) → TakesUpAt s place requests j m place' requests' committed told answer
    → requested (followed (suc i) r (Take 0 (suc j) short) answer) ≡ requested r
asks_up i j r short place place' requests requests' s (message.Vote txn v) committed told answer h = ap (λ (a : Answer). requested (followed (suc i) r (Take 0 (suc j) short) a)) h.is_answer ∙ asks_vote i r (suc j) txn short v told.decided
asks_up i j r short place place' requests requests' s (message.Ack txn) committed told answer h = ap (λ (a : Answer). requested (followed (suc i) r (Take 0 (suc j) short) a)) h.is_answer
asks_up i j r short place place' requests requests' s (message.Submit op) committed told answer h = ap (λ (a : Answer). requested (followed (suc i) r (Take 0 (suc j) short) a)) h.is_answer
asks_up i j r short place place' requests requests' s m committed told answer h = absurd h

asks_took : (i j : ℕ) (r : Request) (short : Bool) (m reply : Message) (version : ℕ) (answer : Answer) → Took m reply version answer → requested (followed (suc i) r (Take (suc j) 0 short) answer) ≡ requested r
asks_took i j r short (message.Prepare txn op) (message.Vote txn' v) version answer t = ap (λ (a : Answer). requested (followed (suc i) r (Take (suc j) 0 short) a)) t
asks_took i j r short (message.Commit txn) reply version answer t = ap (λ (a : Answer). requested (followed (suc i) r (Take (suc j) 0 short) a)) t
asks_took i j r short (message.Abort txn) reply version answer t = ap (λ (a : Answer). requested (followed (suc i) r (Take (suc j) 0 short) a)) t
asks_took i j r short m reply version answer t = absurd t

asks_down : (i j : ℕ) (r : Request) (short : Bool) (s : TableState) (b version : ℕ) (place place' : ParticipantPlace) (out out' : Bool) (m : Message) (committed : Option Op) (answer : Answer) → TakesDownAt short s b version place out m place' out' committed answer
    → requested (followed (suc i) r (Take (suc j) 0 short) answer) ≡ requested r
asks_down i j r short s b version place place' out out' (message.Reply d) committed answer h = ap (λ (a : Answer). requested (followed (suc i) r (Take (suc j) 0 short) a)) h.is_answer
asks_down i j r short s b version place place' out out' (message.Prepare txn op) committed answer h = asks_took i j r short (message.Prepare txn op) h.reply _ answer h.is_answer
asks_down i j r short s b version place place' out out' (message.Commit txn) committed answer h = asks_took i j r short (message.Commit txn) h.reply _ answer h.is_answer
asks_down i j r short s b version place place' out out' (message.Abort txn) committed answer h = asks_took i j r short (message.Abort txn) h.reply _ answer h.is_answer
asks_down i j r short s b version place place' out out' (message.Vote txn v) committed answer h = absurd h.answers
asks_down i j r short s b version place place' out out' (message.Ack txn) committed answer h = absurd h.answers
asks_down i j r short s b version place place' out out' (message.Submit op) committed answer h = absurd h.answers

both : (i : ℕ) (r : Request) (event : Event) (answer : Answer) → submitted_with (requested r) event ≡ requested r → requested (followed (suc i) r event answer) ≡ requested r → Asks i r event answer
both i r event answer none e = (λ own. e ∙ sym none, λ ne. e)

event_asks : (i : ℕ) (r : Request) (w w' : World) (event : Event) (answer : Answer) → Happens w event w' answer → Asks i r event answer
event_asks i r w w' (Start op) answer h = rw h.here.is_answer (asks_start i r op h.told.txn h.told.decided)
event_asks i r w w' (StartFor (suc j)) answer h = both i r (StartFor (suc j)) answer refl (asks_start_for i r (suc j) answer)
event_asks i r w w' (Submit (suc j) op) answer h = rw h.here.is_answer (asks_submit i r (suc j) op)
event_asks i r w w' (Take zero (suc j) short) answer h = both i r (Take 0 (suc j) short) answer refl (asks_up i j r short _ _ _ _ _ h.m h.committed h.told answer h.here)
event_asks i r w w' (Take (suc j) zero short) answer h = both i r (Take (suc j) 0 short) answer refl (asks_down i j r short _ _ _ _ _ _ _ h.m h.committed answer h.here)
event_asks i r w w' (Rx j number packet floor) answer h = both i r (Rx j number packet floor) answer refl (ap (λ (a : Answer). requested (followed (suc i) r (Rx j number packet floor) a)) h.here.is_answer)
event_asks i r w w' event answer h = absurd h

-- Along a run

version_of-first : (core : ℕ) (d : Done) (later : List Done) → version_of core (d ∷ later) ≡ cond (commits_at core d.event d.answer) 1 0 + version_of core later
version_of-first core d later = omega (arith, sum_by-append (λ (x : Done). cond (commits_at core x.event x.answer) 1 0) (d ∷ []) later)

silent_at : (core : ℕ) (w w' : World) (x : Stamped) → (core_of x.done.event ≡ core → ⊥) → Happens w (listed x).event w' x.done.answer → IsSilent (listed x).event x.done.answer core
silent_at core w w' x ne h = others_silent core w w' (as_short x.done.event x.done.answer) x.done.answer (λ e. ne (sym (short_core x.done.event x.done.answer) ∙ e)) h

tells_versions : (core : ℕ) (w w' : World) (xs : List Stamped) → Runs w (as_listed xs) w' → version_of core (as_listed xs) ≡ version_of core (unstamped (part core xs))
tells_versions core w w' [] r = refl
tells_versions core w w' (x ∷ xs) r = by_core (same_or_not (core_of x.done.event) core) (tells_versions core r.0 w' xs r.2)
  where
    by_core : ((core_of x.done.event ≡ core) ⊎ (core_of x.done.event ≡ core → ⊥)) → version_of core (as_listed xs) ≡ version_of core (unstamped (part core xs)) → version_of core (as_listed (x ∷ xs)) ≡ version_of core (unstamped (part core (x ∷ xs)))
    by_core (inl e) rest = omega (
      arith,
      rest,
      version_of-first core (listed x) (as_listed xs),
      version_of-first core x.done (unstamped (part core xs)),
      ap {B = ℕ} (λ (b : Bool). cond b 1 0) (short_commits core x.done.event x.done.answer),
      ap (λ (ys : List Stamped). version_of core (unstamped ys)) (part_own core x xs e),
    )
    by_core (inr ne) rest = omega (arith, rest, version_of-first core (listed x) (as_listed xs), ap {B = ℕ} (λ (b : Bool). cond b 1 0) (silent_at core w r.0 x ne r.1).no_commit, ap (λ (ys : List Stamped). version_of core (unstamped ys)) (part_other core x xs ne))

tells_votes : (core txn : ℕ) (w w' : World) (known : Option Vote) (xs : List Stamped) → Runs w (as_listed xs) w' → vote_after core txn known (as_listed xs) ≡ vote_after core txn known (unstamped (part core xs))
tells_votes core txn w w' known [] r = refl
tells_votes core txn w w' known (x ∷ xs) r = by_core (same_or_not (core_of x.done.event) core) (tells_votes core txn r.0 w' (vote_with core txn known (listed x).event x.done.answer) xs r.2)
  where
    by_core : ((core_of x.done.event ≡ core) ⊎ (core_of x.done.event ≡ core → ⊥))
        → vote_after core txn (vote_with core txn known (listed x).event x.done.answer) (as_listed xs) ≡ vote_after core txn (vote_with core txn known (listed x).event x.done.answer) (unstamped (part core xs))
        → vote_after core txn known (as_listed (x ∷ xs)) ≡ vote_after core txn known (unstamped (part core (x ∷ xs)))
    by_core (inl e) rest = rest ∙ (ap (λ (k : Option Vote). vote_after core txn k (unstamped (part core xs))) (short_votes core txn known x.done.event x.done.answer) ∙ ap (λ (ys : List Stamped). vote_after core txn known (unstamped ys)) (sym (part_own core x xs e)))
    by_core (inr ne) rest = rest ∙ (ap (λ (k : Option Vote). vote_after core txn k (unstamped (part core xs))) ((silent_at core w r.0 x ne r.1).no_vote txn known) ∙ ap (λ (ys : List Stamped). vote_after core txn known (unstamped ys)) (sym (part_other core x xs ne)))

tells_requests : (i : ℕ) (w w' : World) (r0 : Request) (xs : List Stamped) → Runs w (as_listed xs) w' → requested (request_after (suc i) r0 (as_listed xs)) ≡ submitted_after (requested r0) (part (suc i) xs)
tells_requests i w w' r0 [] r = refl
tells_requests i w w' r0 (x ∷ xs) r = by_core (same_or_not (core_of x.done.event) (suc i)) (tells_requests i r.0 w' (followed (suc i) r0 (listed x).event x.done.answer) xs r.2)
  where
    asks : Asks i r0 (listed x).event x.done.answer
    asks = event_asks i r0 w r.0 (listed x).event x.done.answer r.1

    core_is : core_of (listed x).event ≡ core_of x.done.event
    core_is = short_core x.done.event x.done.answer

    by_core : ((core_of x.done.event ≡ suc i) ⊎ (core_of x.done.event ≡ suc i → ⊥))
        → requested (request_after (suc i) (followed (suc i) r0 (listed x).event x.done.answer) (as_listed xs)) ≡ submitted_after (requested (followed (suc i) r0 (listed x).event x.done.answer)) (part (suc i) xs)
        → requested (request_after (suc i) r0 (as_listed (x ∷ xs))) ≡ submitted_after (requested r0) (part (suc i) (x ∷ xs))
    by_core (inl e) rest = rest ∙ (ap (λ (k : Option Op). submitted_after k (part (suc i) xs)) (asks.0 (core_is ∙ e) ∙ short_submits (requested r0) x.done.event x.done.answer) ∙ ap (submitted_after (requested r0)) (sym (part_own (suc i) x xs e)))
    by_core (inr ne) rest = rest ∙ (ap (λ (k : Option Op). submitted_after k (part (suc i) xs)) (asks.1 (λ e. ne (sym core_is ∙ e))) ∙ ap (submitted_after (requested r0)) (sym (part_other (suc i) x xs ne)))

pub tells_of_cores : (w w' : World) (xs : List Stamped) → Runs w (as_listed xs) w' → TellsOfCores xs
tells_of_cores w w' xs r = record {
  versions = λ core. tells_versions core w w' xs r;
  votes = λ core txn. tells_votes core txn w w' None xs r;
  requests = λ i. tells_requests i w w' unsent xs r;
}
