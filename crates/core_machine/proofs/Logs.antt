-- In every run the log is what the events tell of it.
use Rattle.std.proofs.Common.{◌≡◌, ◌==◌, ◌++◌, ◌∷◌, ℕ, zero, suc, Bool, true, false, cond, Option, Some, None, List, [], length, slice_get, slice_set, refl, ap, sym, ◌∙◌}
use Rattle.std.specs.Prelude.{fold}
use Rattle.std.proofs.lemmas.List.Sums.{fold-append}
use Rattle.filter_table.specs.Limits.{TableLimits}
use Rattle.filter_table.specs.declared.operation.Op.{Op}
use Rattle.filter_table.specs.Tables.{TableState}
use Rattle.filter_table.specs.declared.decision.Decision.{Decision}
use Rattle.filter_table.specs.declared.decision.Decision.TheVariants.{Committed}
use Rattle.filter_table.specs.declared.decision.Vote.{Vote}
use Rattle.monitor_messages.specs.declared.message.Message.{Message}
use Rattle.monitor_messages.specs.declared.message.Message.TheVariants as message
use Rattle.two_phase.specs.declared.step.Step.{Step}
use Rattle.two_phase.specs.Participants.{ParticipantPlace}
use Rattle.two_phase.specs.Coordinators.{CoordinatorPlace, Requests, Phase, Idle, Voting, Acking, phase_with, Starts, refused, unstaged, alone, prepared, Tallies, waits, commits_all, aborts_all}
use Rattle.world_events.specs.declared.event.Event.{Event}
use Rattle.world_events.specs.declared.event.Event.TheVariants.{Start, Submit, StartFor, Take, Rx}
use Rattle.world_events.specs.declared.event.Answer.{Answer}
use Rattle.world_events.specs.declared.event.Answer.TheVariants.{Decided, TookVote}
use Rattle.world_events.specs.declared.event.Done.{Done}
use Rattle.world_model.specs.Cases.{joined, start_told, TakesUpAt, TakesDownAt, Took}
use Rattle.world_model.specs.Worlds.{World, boot, newest, Happens, Run}
use Rattle.world_model.specs.Readings.{Request, unsent, sent, begun, followed, request_of}
use Rattle.world_histories.specs.Answers.{requested}
use Rattle.world_histories.proofs.Tells.{begun_same, decided_same}
use Rattle.world_model.proofs.Runs.{run_keeps}
use Rattle.world_model.proofs.Agreement.{run_stages}
use Rattle.world_model.proofs.Known.{run_known}
use Rattle.world_model.proofs.Followed.{request_after-append, waits_sent}
use Rattle.world_model.specs.Committed.{Told, nothing_told, asked, committing, told_with, log_of}

-- what an answer adds
abbrev decided : Told → Answer → Told
decided t (Decided (Committed version id)) = committing true t
decided t (TookVote txn v (Some (Committed version id))) = committing true t
decided t answer = t

told_by_answer : (t : Told) (event : Event) (answer : Answer) → told_with t (record { event = event; answer = answer }) ≡ decided (asked t event) answer
told_by_answer t event (Decided (Committed version id)) = refl
told_by_answer t event (TookVote txn v (Some (Committed version id))) = refl
told_by_answer t event answer = refl

-- what events tell
abbrev told : List Done → Told
told events = fold told_with nothing_told events

told_more : (events : List Done) (done : Done) → told (events ++ done ∷ []) ≡ told_with (told events) done
told_more events done = fold-append told_with nothing_told events (done ∷ [])

-- The last request of a core

-- an answer tells nothing of what was submitted or started
submitted_same : (t : Told) (answer : Answer) → (decided t answer).submitted ≡ t.submitted
submitted_same t (Decided (Committed version id)) = refl
submitted_same t (TookVote txn v (Some (Committed version id))) = refl
submitted_same t answer = refl

started_same : (t : Told) (answer : Answer) → (decided t answer).started ≡ t.started
started_same t (Decided (Committed version id)) = refl
started_same t (TookVote txn v (Some (Committed version id))) = refl
started_same t answer = refl

-- an event that is no Submit leaves each core's last request
abbrev Leaves : Event → Answer → Type 0
Leaves event answer = (core : ℕ) (r : Request) → requested (followed core r event answer) ≡ requested r

leaves_start : (op : Op) (txn : ℕ) (d : Option Decision) → Leaves (Start op) (start_told txn d)
leaves_start op txn None core r = refl
leaves_start op txn (Some d) core r = refl

leaves_start_for : (from : ℕ) (answer : Answer) → Leaves (StartFor from) answer
leaves_start_for from answer core r = by_test (from == core)
  where
    by_test : (b : Bool) → requested (cond b (begun r answer) r) ≡ requested r
    by_test true = begun_same r answer
    by_test false = refl

leaves_vote : (from txn : ℕ) (short : Bool) (v : Vote) (d : Option Decision) → Leaves (Take 0 from short) (TookVote txn v d)
leaves_vote from txn short v None core r = refl
leaves_vote from txn short v (Some d) core r = decided_same r txn d

leaves_up : (j : ℕ) (short : Bool) (place place' : CoordinatorPlace) (requests requests' : Requests) (s : TableState) (m : Message) (committed : Option Op) (step : Step) (answer : Answer)
    → TakesUpAt s place requests j m place' requests' committed step answer → Leaves (Take 0 (suc j) short) answer
leaves_up j short place place' requests requests' s (message.Vote txn v) committed step answer h core r = ap (λ (a : Answer). requested (followed core r (Take 0 (suc j) short) a)) h.is_answer ∙ leaves_vote (suc j) txn short v step.decided core r
leaves_up j short place place' requests requests' s (message.Ack txn) committed step answer h core r = ap (λ (a : Answer). requested (followed core r (Take 0 (suc j) short) a)) h.is_answer
leaves_up j short place place' requests requests' s (message.Submit op) committed step answer h core r = ap (λ (a : Answer). requested (followed core r (Take 0 (suc j) short) a)) h.is_answer
leaves_up j short place place' requests requests' s m committed step answer h core r = absurd h

-- Answers that commit nothing

-- the answer tells of no commit, and leaves each core's last request
abbrev IsQuiet : Event → Answer → Type 0
IsQuiet event answer = Leaves event answer × ((t : Told) → decided t answer ≡ t)

quiet_took : (i : ℕ) (short : Bool) (m reply : Message) (version : ℕ) (answer : Answer) → Took m reply version answer → IsQuiet (Take (suc i) 0 short) answer
quiet_took i short (message.Prepare txn op) (message.Vote txn' v) version answer t = rw t (λ core r. refl, λ told. refl)
quiet_took i short (message.Commit txn) reply version answer t = rw t (λ core r. refl, λ told. refl)
quiet_took i short (message.Abort txn) reply version answer t = rw t (λ core r. refl, λ told. refl)
quiet_took i short m reply version answer t = absurd t

quiet_down : (i : ℕ) (short : Bool) (s : TableState) (b version : ℕ) (place place' : ParticipantPlace) (out out' : Bool) (m : Message) (committed : Option Op) (answer : Answer)
    → TakesDownAt short s b version place out m place' out' committed answer → IsQuiet (Take (suc i) 0 short) answer
quiet_down i short s b version place place' out out' (message.Reply d) committed answer h = rw h.is_answer (λ core r. refl, λ told. refl)
quiet_down i short s b version place place' out out' (message.Prepare txn op) committed answer h = quiet_took i short (message.Prepare txn op) h.reply _ answer h.is_answer
quiet_down i short s b version place place' out out' (message.Commit txn) committed answer h = quiet_took i short (message.Commit txn) h.reply _ answer h.is_answer
quiet_down i short s b version place place' out out' (message.Abort txn) committed answer h = quiet_took i short (message.Abort txn) h.reply _ answer h.is_answer
quiet_down i short s b version place place' out out' (message.Vote txn v) committed answer h = absurd h.answers
quiet_down i short s b version place place' out out' (message.Ack txn) committed answer h = absurd h.answers
quiet_down i short s b version place place' out out' (message.Submit op) committed answer h = absurd h.answers

-- What events tell of the world

-- core 0's log is told, and so is the operation that votes are on
record Tells (t : Told) (w : World) : Type 0 where
  log_is : w.log ≡ t.committed
  on : (votes : List (Option Vote)) → w.place.phase ≡ Voting votes → t.started ≡ w.place.staged

-- the log and core 0's place are as before, and so is what is told
tells_same : (t t' : Told) (w w' : World) → w'.log ≡ w.log → w'.place ≡ w.place → t'.committed ≡ t.committed → t'.started ≡ t.started → Tells t w → Tells t' w'
tells_same t t' w w' log place committed started h = record {
  log_is = log ∙ (h.log_is ∙ sym committed);
  on = λ votes ph. started ∙ (h.on votes (sym (ap (λ (p : CoordinatorPlace). p.phase) place) ∙ ph) ∙ ap (λ (p : CoordinatorPlace). p.staged) (sym place));
}

-- core 0 starts the operation
tells_start : (t : Told) (w w' : World) (op : Op) (others : ℕ) (s : TableState) (b : ℕ) (committed : Option Op) (step : Step) → w'.log ≡ joined w.log committed → t.started ≡ Some op → w.log ≡ t.committed
    → Starts others s b w.place op w'.place committed step → w.place.phase ≡ Idle → Tells (decided t (start_told step.txn step.decided)) w'
tells_start t w w' op others s b committed step log on is (refused f al p c e) idle = rw e (record { log_is = log ∙ rw c is; on = λ votes ph. absurd (let x = ap (λ (x : CoordinatorPlace). x.phase) p in cc) })
tells_start t w w' op others s b committed step log on is (unstaged f p c e) idle = rw e (record { log_is = log ∙ rw c is; on = λ votes ph. absurd (let x = ap (λ (x : CoordinatorPlace). x.phase) p in cc) })
tells_start t w w' op others s b committed step log on is (alone al n p c e) idle = rw e (record { log_is = log ∙ rw (c, on, is) refl; on = λ votes ph. absurd (let x = ap (λ (x : CoordinatorPlace). x.phase) p in cc) })
tells_start t w w' op others s b committed step log on is (prepared al n p c e) idle = rw e (record { log_is = log ∙ rw c is; on = λ votes ph. on ∙ sym (ap (λ (x : CoordinatorPlace). x.staged) p) })

-- core 0 counts a vote on the operation
tells_vote : (t : Told) (w w' : World) (op : Op) (s : TableState) (last txn : ℕ) (v : Vote) (votes : List (Option Vote)) (committed : Option Op) (step : Step) → w'.log ≡ joined w.log committed → t.started ≡ Some op → w.log ≡ t.committed
    → Tallies s last op votes w'.place committed step → Tells (decided t (TookVote txn v step.decided)) w'
tells_vote t w w' op s last txn v votes committed step log on is (waits k n p c e) = rw e (record { log_is = log ∙ rw c is; on = λ vs ph. on ∙ sym (ap (λ (x : CoordinatorPlace). x.staged) p) })
tells_vote t w w' op s last txn v votes committed step log on is (commits_all a p c e) = rw e (record { log_is = log ∙ rw (c, on, is) refl; on = λ vs ph. absurd (let x = ap (λ (x : CoordinatorPlace). x.phase) p in cc) })
tells_vote t w w' op s last txn v votes committed step log on is (aborts_all core against l a p c e) = rw e (record { log_is = log ∙ rw c is; on = λ vs ph. absurd (let x = ap (λ (x : CoordinatorPlace). x.phase) p in cc) })

never_votes : (acks : List Bool) (votes : List (Option Vote)) (ph : Phase) → ph ≡ phase_with acks → ph ≡ Voting votes → ⊥
never_votes acks votes ph e e' = by_all (Rattle.std.specs.List.list_all (λ ack. ack) acks) (sym e ∙ e')
  where
    by_all : (b : Bool) → cond b Idle (Acking acks) ≡ Voting votes → ⊥
    by_all true x = cc
    by_all false x = cc

-- core 0 takes a message
tells_up : (t : Told) (w w' : World) (i : ℕ) (m : Message) (requests' : Requests) (committed : Option Op) (step : Step) (answer : Answer) → w'.log ≡ joined w.log committed
    → TakesUpAt (newest w) w.place w.requests i m w'.place requests' committed step answer → Tells t w → Tells (decided t answer) w'
tells_up t w w' i (message.Vote txn v) requests' committed step answer log h k = rw h.is_answer (tells_vote t w w' h.hears.op (newest w) txn txn v _ committed step log (k.on h.hears.votes h.hears.voting ∙ h.hears.on_op) k.log_is h.hears.tallies)
tells_up t w w' i (message.Ack txn) requests' committed step answer log h k = rw h.is_answer (record {
  log_is = log ∙ (rw h.none_committed k.log_is);
  on = λ votes ph. absurd (never_votes (slice_set h.hears.acks i true) votes w'.place.phase (ap (λ (x : CoordinatorPlace). x.phase) h.hears.next) ph);
})
tells_up t w w' i (message.Submit op) requests' committed step answer log h k = rw h.is_answer (tells_same t t w w' (log ∙ rw h.none_committed refl) h.same_place refl refl k)
tells_up t w w' i m requests' committed step answer log h k = absurd h

-- Runs

record Follows (events : List Done) (w : World) : Type 0 where
  tells : Tells (told events) w
  asks : (core : ℕ) → (told events).submitted core ≡ requested (request_of core events)

request_more : (events : List Done) (done : Done) (core : ℕ) → request_of core (events ++ done ∷ []) ≡ followed core (request_of core events) done.event done.answer
request_more events done core = request_after-append core unsent events done

-- the event with its answer goes on from what is told
abbrev GoesOn : List Done → World → Event → Answer → Type 0
GoesOn events w' event answer = Tells (decided (asked (told events) event) answer) w'
    × ((core : ℕ) → (decided (asked (told events) event) answer).submitted core ≡ requested (followed core (request_of core events) event answer))

-- of an event that submits nothing
asks_left : (events : List Done) (event : Event) (answer : Answer) → ((core : ℕ) → (told events).submitted core ≡ requested (request_of core events)) → (asked (told events) event).submitted ≡ (told events).submitted → Leaves event answer
    → (core : ℕ) → (decided (asked (told events) event) answer).submitted core ≡ requested (followed core (request_of core events) event answer)
asks_left events event answer asks same leaves core =
    ap (λ (f : ℕ → Option Op). f core) (submitted_same (asked (told events) event) answer ∙ same) ∙ (asks core ∙ sym (leaves core (request_of core events)))

goes_on : (events : List Done) (w w' : World) (event : Event) (answer : Answer) → Follows events w
    → ((i : ℕ) (op : Op) → slice_get w.requests.waiting i ≡ Some (Some op) → request_of (suc i) events ≡ sent op) → Happens w event w' answer → GoesOn events w' event answer
goes_on events w w' (Start op) answer k wait h =
    let place : w'.place ≡ h.place = ap (λ (x : World). x.place) h.next in
    let log : w'.log ≡ joined w.log h.committed = ap (λ (x : World). x.log) h.next in (
      rw h.here.is_answer (tells_start (asked (told events) (Start op)) w w' op (length w.peers) (newest w) w.budget h.committed h.told log refl k.tells.log_is (rw place h.here.starts) h.here.can_start.0),
      asks_left events (Start op) answer k.asks refl (rw h.here.is_answer (leaves_start op h.told.txn h.told.decided)),
    )
goes_on events w w' (StartFor (suc i)) answer k wait h =
    let place : w'.place ≡ h.place = ap (λ (x : World). x.place) h.next in
    let log : w'.log ≡ joined w.log h.committed = ap (λ (x : World). x.log) h.next in
    let on : (told events).submitted (suc i) ≡ Some h.here.starts.op = k.asks (suc i) ∙ ap requested (wait i h.here.starts.op h.here.starts.is_waiting) in
    let is : answer ≡ start_told h.here.starts.begun.txn h.here.starts.begun.decided = h.here.is_answer ∙ ap (λ (s : Step). start_told s.txn s.decided) h.here.starts.tells in (
      rw is (tells_start (asked (told events) (StartFor (suc i))) w w' h.here.starts.op (length w.peers) (newest w) w.budget h.committed h.here.starts.begun log on k.tells.log_is (rw place h.here.starts.starts) h.here.can_start.0),
      asks_left events (StartFor (suc i)) answer k.asks refl (leaves_start_for (suc i) answer),
    )
goes_on events w w' (Submit (suc i) op) answer k wait h = rw h.here.is_answer (
  tells_same (told events) _ w w' (ap (λ (x : World). x.log) h.next) (ap (λ (x : World). x.place) h.next) refl refl k.tells,
  λ core. by_core core (suc i == core),
)
  where
    by_core : (core : ℕ) (b : Bool) → cond b (Some op) ((told events).submitted core) ≡ requested (cond b (sent op) (request_of core events))
    by_core core true = refl
    by_core core false = k.asks core
goes_on events w w' (Take zero (suc i) short) answer k wait h =
    let place : w'.place ≡ h.place = ap (λ (x : World). x.place) h.next in
    let log : w'.log ≡ joined w.log h.committed = ap (λ (x : World). x.log) h.next in (
      tells_up (told events) w w' i h.m h.requests h.committed h.told answer log (rw place h.here) k.tells,
      asks_left events (Take 0 (suc i) short) answer k.asks refl (leaves_up i short _ _ _ _ _ h.m h.committed h.told answer h.here),
    )
goes_on events w w' (Take (suc i) zero short) answer k wait h =
    let q = quiet_down i short _ _ _ _ _ _ _ h.m h.committed answer h.here in (
      rw (q.1 (told events)) (tells_same (told events) (told events) w w' (ap (λ (x : World). x.log) h.next) (ap (λ (x : World). x.place) h.next) refl refl k.tells),
      asks_left events (Take (suc i) 0 short) answer k.asks refl q.0,
    )
goes_on events w w' (Rx core number packet floor) answer k wait h = rw (h.next, h.here.is_answer) (k.tells, k.asks)
goes_on events w w' event answer k wait h = absurd h

follows_more : (events : List Done) (w w' : World) (done : Done) → GoesOn events w' done.event done.answer → Follows (events ++ done ∷ []) w'
follows_more events w w' done g = record {
  tells = rw (told_more events done, told_by_answer (told events) done.event done.answer) g.0;
  asks = λ core. rw (told_more events done, told_by_answer (told events) done.event done.answer, request_more events done core) (g.1 core);
}

follows_boot : (limits : TableLimits) (budget : ℕ) (budgets : List ℕ) → Follows [] (boot limits budget budgets)
follows_boot limits budget budgets = record { tells = record { log_is = refl; on = λ votes ph. absurd cc }; asks = λ core. refl }

run_follows : (limits : TableLimits) (budget : ℕ) (budgets : List ℕ) (events : List Done) (w : World) → Run limits budget budgets events w → Follows events w
run_follows limits budget budgets = run_keeps limits budget budgets Follows (follows_boot limits budget budgets) (λ events w w' done run k h.
    let known = run_known limits budget budgets events w run in
    follows_more events w w' done (goes_on events w w' done.event done.answer k
    (λ i op at. waits_sent w (λ j. request_of (suc j) events) i op (run_stages limits budget budgets events w run) (known.waiting_long ∙ sym known.cores) at) h))

-- in every run the log is what the events tell of it
pub run_log : (limits : TableLimits) (budget : ℕ) (budgets : List ℕ) (events : List Done) (w : World) → Run limits budget budgets events w → w.log ≡ log_of events
run_log limits budget budgets events w run = (run_follows limits budget budgets events w run).tells.log_is
