-- Requests followed to their decisions and to the log.
use Rattle.std.proofs.Common.{◌≡◌, ◌≢◌, ◌+◌, ◌≤◌, ◌⊎◌, ◌==◌, inl, inr, ℕ, zero, suc, Bool, true, false, cond, Option, Some, List, [], ◌∷◌, ◌++◌, length, slice_get, slice_set, refl, ap, sym, ◌∙◌, subst, arith, append_assoc}
use Rattle.filter_table.specs.Limits.{TableLimits}
use Rattle.filter_table.specs.declared.operation.Op.{Op}
use Rattle.filter_table.specs.Tables.{TableState, made, table}
use Rattle.filter_table.proofs.Tables.{table_front, table_version}
use Rattle.monitor_messages.specs.declared.message.Message.{Message}
use Rattle.monitor_messages.specs.declared.message.Message.TheVariants as message
use Rattle.filter_table.specs.declared.decision.Vote.{Vote}
use Rattle.filter_table.specs.declared.decision.Decision.{Decision}
use Rattle.filter_table.specs.declared.decision.Decision.TheVariants.{Committed, Refused}
use Rattle.filter_table.specs.declared.decision.Veto.TheVariants as veto
use Rattle.two_phase.specs.declared.step.Step.{Step}
use Rattle.two_phase.specs.Participants.{ParticipantPlace}
use Rattle.two_phase.specs.Coordinators.{CoordinatorPlace, Requests, Phase, Idle, Voting, Acking, phase_with, veto_of, veto_by, Starts, refused, unstaged, alone, prepared, Tallies, waits, commits_all, aborts_all}
use Rattle.world_events.specs.declared.event.Event.{Event}
use Rattle.world_events.specs.declared.event.Event.TheVariants.{Start, Submit, StartFor, Take, Rx}
use Rattle.world_events.specs.declared.event.Answer.{Answer}
use Rattle.world_events.specs.declared.event.Answer.TheVariants.{Prepared, TookVote}
use Rattle.world_events.specs.declared.event.Done.{Done}
use Rattle.std.specs.Prelude.{option_to_list}
use Rattle.world_model.specs.Cases.{Outgoing, outgoing, sent_up, joined, raised, start_told, VoteAt, TakesUpAt, AnswersAt, TakesDownAt, Took}
use Rattle.world_model.specs.Worlds.{Peer, World, boot, newest, sent_out, core0_moves, HappensStart, HappensUp, HappensDown, Happens, Run}
use Rattle.world_model.specs.Readings.{Request, unsent, sent, numbered, settled, begun, decided_on, followed, request_after, request_of, Begins, Begun}
use Rattle.world_model.specs.Decisions.{IsEntryAt, IsEntered}
use Rattle.world_model.proofs.Lists.{get-set_same, get-set_other, get_end, same_or_not}
use Rattle.world_model.proofs.Submissions.{Stage, free, submitted, waiting, served, replied, Served, Inv2, asks, follows_start, follows_other, follows_begun, began, follows_submit, follows_no_submit, took_follows}
use Rattle.world_model.proofs.Runs.{run_keeps}
use Rattle.world_model.proofs.Moves.{Matches, matches_self, matches_set, matches_sent, log_joined}
use Rattle.world_model.proofs.Agreement.{run_stages}
use Rattle.world_model.proofs.Known.{was, run_known}
use Rattle.std.proofs.lemmas.Option.{slice_get_within}
use Rattle.filter_table.proofs.Positions.{get_front, get_at}

-- Lists of events

pub request_after-append : (core : ℕ) (r : Request) (xs : List Done) (done : Done) → request_after core r (xs ++ done ∷ []) ≡ followed core (request_after core r xs) done.event done.answer
request_after-append core r [] done = refl
request_after-append core r (x ∷ xs) done = request_after-append core (followed core r x.event x.answer) xs done

-- what is among a list with one more is the last, or was there
split_last : (xs before after : List Done) (d e : Done) → xs ++ d ∷ [] ≡ before ++ e ∷ after → ((xs ≡ before) × (d ≡ e)) ⊎ ((rest : List Done) × (xs ≡ before ++ e ∷ rest))
split_last [] [] after d e h = inl (refl, cc)
split_last [] (b ∷ bs) after d e h = absurd (let none : [] ≡ bs ++ e ∷ after = cc in not_empty bs none)
  where
    not_empty : (bs : List Done) → [] ≡ bs ++ e ∷ after → ⊥
    not_empty [] n = cc
    not_empty (b ∷ bs) n = cc
split_last (x ∷ xs) [] after d e h = inr (xs, (let first : x ≡ e = cc in rw first refl))
split_last (x ∷ xs) (b ∷ bs) after d e h = shift (split_last xs bs after d e cc)
  where
    first : x ≡ b
    first = cc

    shift : (((xs ≡ bs) × (d ≡ e)) ⊎ ((rest : List Done) × (xs ≡ bs ++ e ∷ rest))) → (((x ∷ xs) ≡ (b ∷ bs)) × (d ≡ e)) ⊎ ((rest : List Done) × ((x ∷ xs) ≡ (b ∷ bs) ++ e ∷ rest))
    shift (inl s) = inl (rw (first, s.0) refl, s.1)
    shift (inr s) = inr (s.0, rw (first, s.1) refl)

begun_more : (events : List Done) (done : Done) (txn core : ℕ) (op : Op) → Begun events txn core op → Begun (events ++ done ∷ []) txn core op
begun_more events done txn core op b = record {
  before = b.before;
  after = b.after ++ done ∷ [];
  event = b.event;
  is_among = ap (λ (xs : List Done). xs ++ done ∷ []) b.is_among ∙ append_assoc b.before (record { event = b.event; answer = Prepared txn } ∷ b.after) (done ∷ []);
  begins = b.begins;
}

-- it was begun before, or the last event begins it
begun_last : (events : List Done) (done : Done) (txn core : ℕ) (op : Op) → Begun (events ++ done ∷ []) txn core op → Begun events txn core op ⊎ (done.answer ≡ Prepared txn)
begun_last events done txn core op b = by_place (split_last events b.before b.after done (record { event = b.event; answer = Prepared txn }) b.is_among)
  where
    by_place : (((events ≡ b.before) × (done ≡ record { event = b.event; answer = Prepared txn })) ⊎ ((rest : List Done) × (events ≡ b.before ++ record { event = b.event; answer = Prepared txn } ∷ rest))) → Begun events txn core op ⊎ (done.answer ≡ Prepared txn)
    by_place (inl s) = inr (ap (λ (d : Done). d.answer) s.1)
    by_place (inr s) = inl (record { before = b.before; after = s.0; event = b.event; is_among = s.1; begins = b.begins })

-- Numbers

-- after the event the votes are on the operation that they were on, or on the one that the event begins
abbrev VotesOn : List Done → World → Event → World → Answer → Type 0
VotesOn events w event w' answer =
    ((votes : List (Option Vote)) × (w.place.phase ≡ Voting votes) × (w'.place.staged ≡ w.place.staged) × (w'.place.last ≡ w.place.last))
    ⊎ ((op : Op) × (core : ℕ) × (w'.place.staged ≡ Some op) × (answer ≡ Prepared w'.place.last) × Begins events event core op)

record NumberMoves (events : List Done) (w : World) (event : Event) (w' : World) (answer : Answer) : Type 0 where
  grows : w.place.last ≤ w'.place.last
  given : (txn : ℕ) → answer ≡ Prepared txn → txn ≤ w'.place.last
  votes_on : (votes : List (Option Vote)) → w'.place.phase ≡ Voting votes → VotesOn events w event w' answer

-- core 0 stays where it is, and no number is given out
same_place : (events : List Done) (w : World) (event : Event) (w' : World) (answer : Answer) → w'.place ≡ w.place → ((txn : ℕ) → answer ≢ Prepared txn) → NumberMoves events w event w' answer
same_place events w event w' answer e none = record {
  grows = omega (arith, ap (λ (p : CoordinatorPlace). p.last) e);
  given = λ txn is. absurd (none txn is);
  votes_on = λ votes ph. inl (votes, sym (ap (λ (p : CoordinatorPlace). p.phase) e) ∙ ph, ap (λ (p : CoordinatorPlace). p.staged) e, ap (λ (p : CoordinatorPlace). p.last) e);
}

begin_numbers : (events : List Done) (w w' : World) (event : Event) (core : ℕ) (op : Op) (others : ℕ) (s : TableState) (b : ℕ) (committed : Option Op) (told : Step) (answer : Answer)
    → Begins events event core op → w.place.phase ≡ Idle → Starts others s b w.place op w'.place committed told → answer ≡ start_told told.txn told.decided → NumberMoves events w event w' answer
begin_numbers events w w' event core op others s b committed told answer begins idle starts a = by_case starts
  where
    is : (t : Step) → told ≡ t → answer ≡ start_told t.txn t.decided
    is t e = a ∙ ap (λ (x : Step). start_told x.txn x.decided) e

    by_case : Starts others s b w.place op w'.place committed told → NumberMoves events w event w' answer
    by_case (refused f al p c t) = same_place events w event w' answer p (λ txn e. let x = is _ t in cc)
    by_case (unstaged f p c t) = same_place events w event w' answer p (λ txn e. let x = is _ t in cc)
    by_case (alone al n p c t) = record {
      grows = omega (arith, ap (λ (x : CoordinatorPlace). x.last) p);
      given = λ txn e. absurd (let x = is _ t in cc);
      votes_on = λ votes ph. absurd (let x = ap (λ (x : CoordinatorPlace). x.phase) p in cc);
    }
    by_case (prepared al n p c t) = record {
      grows = omega (arith, ap (λ (x : CoordinatorPlace). x.last) p);
      given = λ txn e. (let x = is _ t in let y : w.place.last + 1 ≡ txn = cc in omega (arith, y, ap (λ (x : CoordinatorPlace). x.last) p));
      votes_on = λ votes ph. inr (op, core, ap (λ (x : CoordinatorPlace). x.staged) p, is _ t ∙ ap (λ (n : ℕ). Prepared n) (sym (ap (λ (x : CoordinatorPlace). x.last) p)), begins);
    }

vote_numbers : (events : List Done) (w w' : World) (event : Event) (s : TableState) (i txn : ℕ) (v : Vote) (requests' : Requests) (committed : Option Op) (told : Step) (answer : Answer)
    → VoteAt s w.place w.requests i txn v w'.place requests' committed told answer → NumberMoves events w event w' answer
vote_numbers events w w' event s i txn v requests' committed told answer h = record {
  grows = omega (arith, kept);
  given = λ n e. absurd (let x = h.is_answer in cc);
  votes_on = λ votes ph. inl (h.hears.votes, h.hears.voting, still votes ph h.hears.tallies, kept);
}
  where
    last_is : Tallies s txn h.hears.op (slice_set h.hears.votes i (Some v)) w'.place committed told → w'.place.last ≡ txn
    last_is (waits k n p c t) = ap (λ (x : CoordinatorPlace). x.last) p
    last_is (commits_all a p c t) = ap (λ (x : CoordinatorPlace). x.last) p
    last_is (aborts_all core against l a p c t) = ap (λ (x : CoordinatorPlace). x.last) p

    kept : w'.place.last ≡ w.place.last
    kept = last_is h.hears.tallies ∙ h.hears.number

    still : (votes : List (Option Vote)) → w'.place.phase ≡ Voting votes → Tallies s txn h.hears.op (slice_set h.hears.votes i (Some v)) w'.place committed told → w'.place.staged ≡ w.place.staged
    still votes ph (waits k n p c t) = ap (λ (x : CoordinatorPlace). x.staged) p ∙ sym h.hears.on_op
    still votes ph (commits_all a p c t) = absurd (let x = ap (λ (x : CoordinatorPlace). x.phase) p in cc)
    still votes ph (aborts_all core against l a p c t) = absurd (let x = ap (λ (x : CoordinatorPlace). x.phase) p in cc)

never_votes : (acks : List Bool) (votes : List (Option Vote)) (ph : Phase) → ph ≡ phase_with acks → ph ≡ Voting votes → ⊥
never_votes acks votes ph e e' = by_all (Rattle.std.specs.List.list_all (λ ack. ack) acks) (sym e ∙ e')
  where
    by_all : (b : Bool) → cond b Idle (Acking acks) ≡ Voting votes → ⊥
    by_all true x = cc
    by_all false x = cc

up_numbers : (events : List Done) (w w' : World) (event : Event) (i : ℕ) (m : Message) (requests' : Requests) (committed : Option Op) (told : Step) (answer : Answer)
    → TakesUpAt (newest w) w.place w.requests i m w'.place requests' committed told answer → NumberMoves events w event w' answer
up_numbers events w w' event i (message.Vote txn v) requests' committed told answer h = vote_numbers events w w' event (newest w) i txn v requests' committed told answer h
up_numbers events w w' event i (message.Ack txn) requests' committed told answer h = record {
  grows = omega (arith, ap (λ (x : CoordinatorPlace). x.last) h.hears.next);
  given = λ n e. absurd (let x = h.is_answer in cc);
  votes_on = λ votes ph. absurd (never_votes (slice_set h.hears.acks i true) votes w'.place.phase (ap (λ (x : CoordinatorPlace). x.phase) h.hears.next) ph);
}
up_numbers events w w' event i (message.Submit op) requests' committed told answer h = same_place events w event w' answer h.same_place (λ txn e. let x = h.is_answer in cc)
up_numbers events w w' event i m requests' committed told answer h = absurd h

took_no_number : (m reply : Message) (version txn : ℕ) (answer : Answer) → Took m reply version answer → answer ≢ Prepared txn
took_no_number (message.Prepare n op) (message.Vote txn' v) version txn answer t e = cc
took_no_number (message.Commit n) reply version txn answer t e = cc
took_no_number (message.Abort n) reply version txn answer t e = cc
took_no_number m reply version txn answer t e = absurd t

no_number_down : (short : Bool) (s : TableState) (b ver : ℕ) (place place' : ParticipantPlace) (out out' : Bool) (m : Message) (committed : Option Op) (answer : Answer) (txn : ℕ) → TakesDownAt short s b ver place out m place' out' committed answer → answer ≢ Prepared txn
no_number_down short s b ver place place' out out' (message.Reply d) committed answer txn h e = let x = h.is_answer in cc
no_number_down short s b ver place place' out out' (message.Prepare n op) committed answer txn h e = took_no_number (message.Prepare n op) h.reply _ txn answer h.is_answer e
no_number_down short s b ver place place' out out' (message.Commit n) committed answer txn h e = took_no_number (message.Commit n) h.reply _ txn answer h.is_answer e
no_number_down short s b ver place place' out out' (message.Abort n) committed answer txn h e = took_no_number (message.Abort n) h.reply _ txn answer h.is_answer e
no_number_down short s b ver place place' out out' (message.Vote n v) committed answer txn h e = h.answers
no_number_down short s b ver place place' out out' (message.Ack n) committed answer txn h e = h.answers
no_number_down short s b ver place place' out out' (message.Submit op) committed answer txn h e = h.answers

-- what waits is the operation of its core's last request
pub waits_sent : (w : World) (r : ℕ → Request) (i : ℕ) (op : Op) → Inv2 w r → length w.requests.waiting ≡ length w.peers → slice_get w.requests.waiting i ≡ Some (Some op) → r i ≡ sent op
waits_sent w r i op inv2 long at =
    let p = get_at w.peers i (omega (arith, long, slice_get_within w.requests.waiting i (Some op) at)) in
    (asks w.place w.requests i p.0 (r i) op at (inv2.stages i p.0 p.1)).is_sent

event_numbers : (events : List Done) (w w' : World) (event : Event) (answer : Answer) → Inv2 w (λ j. request_of (suc j) events) → length w.requests.waiting ≡ length w.peers → Happens w event w' answer → NumberMoves events w event w' answer
event_numbers events w w' (Start op) answer inv2 long h =
    let place : w'.place ≡ h.place = ap (λ (x : World). x.place) h.next in
    begin_numbers events w w' (Start op) 0 op (length w.peers) (newest w) w.budget h.committed h.told answer (refl, refl) h.here.can_start.0 (rw place h.here.starts) h.here.is_answer
event_numbers events w w' (StartFor (suc i)) answer inv2 long h =
    let place : w'.place ≡ h.place = ap (λ (x : World). x.place) h.next in
    begin_numbers events w w' (StartFor (suc i)) (suc i) h.here.starts.op (length w.peers) (newest w) w.budget h.committed h.here.starts.begun answer
    (refl, waits_sent w (λ j. request_of (suc j) events) i h.here.starts.op inv2 long h.here.starts.is_waiting) h.here.can_start.0 (rw place h.here.starts.starts)
    (h.here.is_answer ∙ ap (λ (s : Step). start_told s.txn s.decided) h.here.starts.tells)
event_numbers events w w' (Submit (suc i) op) answer inv2 long h = same_place events w (Submit (suc i) op) w' answer (ap (λ (x : World). x.place) h.next) (λ txn e. let x = h.here.is_answer in cc)
event_numbers events w w' (Take zero (suc i) short) answer inv2 long h =
    let place : w'.place ≡ h.place = ap (λ (x : World). x.place) h.next in
    up_numbers events w w' (Take 0 (suc i) short) i h.m h.requests h.committed h.told answer (rw place h.here)
event_numbers events w w' (Take (suc i) zero short) answer inv2 long h =
    same_place events w (Take (suc i) 0 short) w' answer (ap (λ (x : World). x.place) h.next) (λ txn. no_number_down short (newest w) h.peer.budget h.peer.version h.peer.place h.place h.peer.outstanding h.outstanding h.m h.committed answer txn h.here)
event_numbers events w w' (Rx core number packet floor) answer inv2 long h = same_place events w (Rx core number packet floor) w' answer (ap (λ (x : World). x.place) h.next) (λ txn e. let x = h.here.is_answer in cc)
event_numbers events w w' event answer inv2 long h = absurd h

-- In every run numbers are given out once, and the votes are on an operation that was begun under the last number.
pub record Numbered (events : List Done) (w : World) : Type 0 where
  pub given : (txn core : ℕ) (op : Op) → Begun events txn core op → txn ≤ w.place.last
  pub under_vote : (votes : List (Option Vote)) → w.place.phase ≡ Voting votes → (op : Op) × (core : ℕ) × (w.place.staged ≡ Some op) × Begun events w.place.last core op

numbered_boot : (limits : TableLimits) (budget : ℕ) (budgets : List ℕ) → Numbered [] (boot limits budget budgets)
numbered_boot limits budget budgets = record { given = λ txn core op b. absurd (none b.before b.after _ b.is_among); under_vote = λ votes ph. absurd cc }
  where
    none : (before after : List Done) (d : Done) → [] ≡ before ++ d ∷ after → ⊥
    none [] after d e = cc
    none (x ∷ before) after d e = cc

numbered_more : (events : List Done) (w w' : World) (done : Done) → Numbered events w → NumberMoves events w done.event w' done.answer → Numbered (events ++ done ∷ []) w'
numbered_more events w w' done n m = record {
  given = λ txn core op b. by_last txn core op (begun_last events done txn core op b);
  under_vote = λ votes ph. votes_on (m.votes_on votes ph);
}
  where
    by_last : (txn core : ℕ) (op : Op) → (Begun events txn core op ⊎ (done.answer ≡ Prepared txn)) → txn ≤ w'.place.last
    by_last txn core op (inl b) = omega (arith, n.given txn core op b, m.grows)
    by_last txn core op (inr e) = m.given txn e

    votes_on : VotesOn events w done.event w' done.answer → (op : Op) × (core : ℕ) × (w'.place.staged ≡ Some op) × Begun (events ++ done ∷ []) w'.place.last core op
    votes_on (inl x) =
        let u = n.under_vote x.0 x.1 in
        (u.0, u.1, x.2 ∙ u.2, begun_more events done w'.place.last u.1 u.0 (subst (λ (k : ℕ). Begun events k u.1 u.0) (sym x.3) u.3))
    votes_on (inr x) = (x.0, x.1, x.2, record { before = events; after = []; event = done.event; is_among = ap (λ (a : Answer). events ++ record { event = done.event; answer = a } ∷ []) x.3; begins = x.4 })

pub run_numbered : (limits : TableLimits) (budget : ℕ) (budgets : List ℕ) (events : List Done) (w : World) → Run limits budget budgets events w → Numbered events w
run_numbered limits budget budgets = run_keeps limits budget budgets Numbered (numbered_boot limits budget budgets)
    (λ events w w' done run n h. (let k = run_known limits budget budgets events w run in numbered_more events w w' done n (event_numbers events w w' done.event done.answer (run_stages limits budget budgets events w run) (k.waiting_long ∙ sym k.cores) h)))

-- Entries of the log

abbrev Same : ℕ → Peer → Peer → Type 0
Same i p q = q.outstanding ≡ p.outstanding

same_sent : (old new : List Peer) (out : Outgoing) → Matches Same old new → Matches Same old (sent_out new out)
same_sent old new out m = matches_sent Same old new out (λ i p q m e. e) m

-- the entry that a commit adds
pub next_entry : (limits : TableLimits) (log log' : List Op) (op : Op) (version : ℕ) → log' ≡ log ++ op ∷ [] → version ≡ (table limits log (length log)).version + 1 → IsEntryAt limits log' (length log) op version (made (table limits log (length log)) op)
next_entry limits log log' op version next is = rw next (record {
  entry = get_end log op;
  is_version = omega (arith, is, table_version limits log);
  is_made = rw (table_front limits log (op ∷ []) (length log) (omega arith)) refl;
})

entered_more : (limits : TableLimits) (log more : List Op) (op : Op) (d : Decision) → IsEntered limits log op d → IsEntered limits (log ++ more) op d
entered_more limits log more op (Committed version id) e =
    let within = slice_get_within log e.0 op e.1.entry in
    (e.0, record { entry = get_front log more e.0 op e.1.entry; is_version = e.1.is_version; is_made = rw (table_front limits log more e.0 (omega (arith, within))) e.1.is_made })
entered_more limits log more op (Refused core why) e = tt

-- what is settled of a core that has a request outstanding is an entry of the log
pub record Entered (w : World) (r : ℕ → Request) : Type 0 where
  pub each : (i : ℕ) (p : Peer) (op : Op) (d : Decision) → slice_get w.peers i ≡ Some p → p.outstanding ≡ true → r i ≡ settled op d → IsEntered w.limits w.log op d

-- no request is settled
entered_same : (w w' : World) (r r' : ℕ → Request) (more : List Op) → Entered w r → w'.limits ≡ w.limits → Matches Same w.peers w'.peers → w'.log ≡ w.log ++ more → ((i : ℕ) → r' i ≡ r i) → Entered w' r'
entered_same w w' r r' more k limits m log same = record {
  each = λ i q op d at out is.
      let p = was Same w.peers w'.peers i q m at in
      rw (limits, log) (entered_more w.limits w.log more op d (k.each i p.0 op d p.1 (sym p.2 ∙ out) (sym (same i) ∙ is)));
}

-- one core is changed, and nothing else
entered_one : (w : World) (r r' : ℕ → Request) (i : ℕ) (p q : Peer) → Entered w r → slice_get w.peers i ≡ Some p → ((op : Op) (d : Decision) → q.outstanding ≡ true → r' i ≡ settled op d → IsEntered w.limits w.log op d) → ((j : ℕ) → (i ≡ j → ⊥) → r' j ≡ r j)
    → Entered (record w { peers = slice_set w.peers i q }) r'
entered_one w r r' i p q k at here same = record { each = λ j x op d at' out is. by_place j x op d at' out is (same_or_not i j) }
  where
    by_place : (j : ℕ) (x : Peer) (op : Op) (d : Decision) → slice_get (slice_set w.peers i q) j ≡ Some x → x.outstanding ≡ true → r' j ≡ settled op d → ((i ≡ j) ⊎ (i ≡ j → ⊥)) → IsEntered w.limits w.log op d
    by_place j x op d at' out is (inl e) =
        let there : slice_get (slice_set w.peers i q) i ≡ Some x = subst (λ (n : ℕ). slice_get (slice_set w.peers i q) n ≡ Some x) (sym e) at' in
        let s = get-set_same w.peers i q p at in
        let eq : x ≡ q = cc in
        here op d (sym (ap (λ (y : Peer). y.outstanding) eq) ∙ out) (subst (λ (n : ℕ). r' n ≡ settled op d) (sym e) is)
    by_place j x op d at' out is (inr ne) = k.each j x op d (sym (get-set_other w.peers i j q ne) ∙ at') out (sym (same j ne) ∙ is)

start_entered : (w w' : World) (r : ℕ → Request) (op : Op) (answer : Answer) → Entered w r → HappensStart w op w' answer → Entered w' (λ j. followed (suc j) (r j) (Start op) answer)
start_entered w w' r op answer k h = let l = log_joined w.log h.committed in
    rw h.next (entered_same w _ r _ l.0 k refl (same_sent w.peers w.peers (outgoing h.told h.place) (matches_self Same w.peers (λ i p. refl))) l.1
    (λ i. ap (followed (suc i) (r i) (Start op)) h.here.is_answer ∙ follows_start (suc i) (r i) op h.told.txn h.told.decided))

begin_entered : (w : World) (r : ℕ → Request) (i : ℕ) (op : Op) (place : CoordinatorPlace) (requests' : Requests) (committed : Option Op) (begun' : Step) (out : Outgoing) (answer : Answer) → Entered w r → Inv2 w r
    → length w.requests.waiting ≡ length w.peers → slice_get w.requests.waiting i ≡ Some (Some op) → Starts (length w.peers) (newest w) w.budget w.place op place committed begun' → answer ≡ start_told begun'.txn begun'.decided
    → Entered (core0_moves w place requests' committed out) (λ j. followed (suc j) (r j) (StartFor (suc i)) answer)
begin_entered w r i op place requests' committed begun' out answer k inv2 long there starts a = record { each = λ j q o d at outs is. by_place j q o d at outs is (same_or_not i j) }
  where
    matched : Matches Same w.peers (sent_out w.peers out)
    matched = same_sent w.peers w.peers out (matches_self Same w.peers (λ i p. refl))

    is_sent : r i ≡ sent op
    is_sent = waits_sent w r i op inv2 long there

    is : (t : Step) → begun' ≡ t → answer ≡ start_told t.txn t.decided
    is t e = a ∙ ap (λ (x : Step). start_told x.txn x.decided) e

    settles : (o : Op) (d : Decision) → begun (r i) answer ≡ settled o d → Starts (length w.peers) (newest w) w.budget w.place op place committed begun' → IsEntered w.limits (joined w.log committed) o d
    settles o d e (refused f al p c t) = let x = began (r i) answer op _ is_sent (is _ t) in let y : d ≡ Refused 0 (veto_of f) = cc in rw y tt
    settles o d e (unstaged f p c t) = let x = began (r i) answer op _ is_sent (is _ t) in let y : d ≡ Refused 0 veto.NoMemory = cc in rw y tt
    settles o d e (alone al n p c t) = absurd (omega (arith, n, long, slice_get_within w.requests.waiting i (Some op) there))
    settles o d e (prepared al n p c t) = absurd (let x = began (r i) answer op _ is_sent (is _ t) in cc)

    by_place : (j : ℕ) (q : Peer) (o : Op) (d : Decision) → slice_get (sent_out w.peers out) j ≡ Some q → q.outstanding ≡ true → followed (suc j) (r j) (StartFor (suc i)) answer ≡ settled o d → ((i ≡ j) ⊎ (i ≡ j → ⊥)) → IsEntered w.limits (joined w.log committed) o d
    by_place j q o d at outs e (inl same) =
        settles o d (sym (follows_begun i (r i) answer) ∙ subst (λ (n : ℕ). followed (suc n) (r n) (StartFor (suc i)) answer ≡ settled o d) (sym same) e) starts
    by_place j q o d at outs e (inr ne) =
        let p = was Same w.peers (sent_out w.peers out) j q matched at in
        let l = log_joined w.log committed in
        rw l.1 (entered_more w.limits w.log l.0 o d (k.each j p.0 o d p.1 (sym p.2 ∙ outs) (sym (follows_other i j (r j) answer ne) ∙ e)))

-- a request that is numbered, of a core that has it outstanding, is the one under vote
numbered_staged : (place : CoordinatorPlace) (requests : Requests) (i : ℕ) (p : Peer) (r : Request) (votes : List (Option Vote)) (op : Op) (n : ℕ) → place.phase ≡ Voting votes → p.outstanding ≡ true → r ≡ numbered op n → Stage place requests i p r
    → place.staged ≡ Some op
numbered_staged place requests i p r votes op n ph out is (served h a d s) =
    let x = subst (λ (y : Phase). Served y place.last place.staged requests.decided r) ph s in
    let e : x.0 ≡ op = cc (x.1, is) in
    x.2 ∙ ap (λ (o : Op). Some o) e
numbered_staged place requests i p r votes op n ph out is (free h a d) = absurd (cc (out, h.outstanding_is))
numbered_staged place requests i p r votes op n ph out is (submitted o h a d e) = absurd cc
numbered_staged place requests i p r votes op n ph out is (waiting o h a d e) = absurd cc
numbered_staged place requests i p r votes op n ph out is (replied o dec rest h a d e r_is stands) = absurd cc

-- a decision settles a request that was settled so before, or was numbered
decided_was : (r : Request) (txn : ℕ) (d d' : Decision) (op : Op) → decided_on r txn d ≡ settled op d' → (r ≡ settled op d') ⊎ ((n : ℕ) × (r ≡ numbered op n) × (d' ≡ d))
decided_was unsent txn d d' op e = absurd cc
decided_was (sent o) txn d d' op e = absurd cc
decided_was (settled o d'') txn d d' op e = inl e
decided_was (numbered o n) txn d d' op e = by_test (n == txn) e
  where
    by_test : (b : Bool) → cond b (settled o d) (numbered o n) ≡ settled op d' → (numbered o n ≡ settled op d') ⊎ ((k : ℕ) × (numbered o n ≡ numbered op k) × (d' ≡ d))
    by_test true x = inr (n, (let y : o ≡ op = cc in rw y refl), (let z : d ≡ d' = cc in sym z))
    by_test false x = absurd cc

vote_entered : (w w' : World) (r : ℕ → Request) (i txn : ℕ) (v : Vote) (short : Bool) (answer : Answer) → Entered w r → Inv2 w r → (h : HappensUp w i w' answer)
    → VoteAt (newest w) w.place w.requests i txn v h.place h.requests h.committed h.told answer → Entered w' (λ j. followed (suc j) (r j) (Take 0 (suc i) short) answer)
vote_entered w w' r i txn v short answer k inv2 h here = rw h.next (record { each = λ j q op d at out is. by_tally j q op d at out is here.hears.tallies })
  where
    g : List Peer
    g = slice_set w.peers i (record h.peer { up = h.rest })

    matched : Matches Same w.peers (sent_out g (outgoing h.told h.place))
    matched = same_sent w.peers g (outgoing h.told h.place) (matches_set Same w.peers i h.peer (record h.peer { up = h.rest }) h.is_peer refl (λ j p ne. refl))

    is : (t : Step) → h.told ≡ t → answer ≡ TookVote txn v t.decided
    is t e = here.is_answer ∙ ap (λ (x : Step). TookVote txn v x.decided) e

    old : (j : ℕ) (q : Peer) (op : Op) (d : Decision) → slice_get (sent_out g (outgoing h.told h.place)) j ≡ Some q → q.outstanding ≡ true → r j ≡ settled op d → IsEntered w.limits (joined w.log h.committed) op d
    old j q op d at out e =
        let p = was Same w.peers (sent_out g (outgoing h.told h.place)) j q matched at in
        let l = log_joined w.log h.committed in
        rw l.1 (entered_more w.limits w.log l.0 op d (k.each j p.0 op d p.1 (sym p.2 ∙ out) e))

    on_op : (j : ℕ) (q : Peer) (op : Op) (n : ℕ) → slice_get (sent_out g (outgoing h.told h.place)) j ≡ Some q → q.outstanding ≡ true → r j ≡ numbered op n → op ≡ here.hears.op
    on_op j q op n at out e =
        let p = was Same w.peers (sent_out g (outgoing h.told h.place)) j q matched at in
        let s = numbered_staged w.place w.requests j p.0 (r j) here.hears.votes op n here.hears.voting (sym p.2 ∙ out) e (inv2.stages j p.0 p.1) in
        cc (s, here.hears.on_op)

    by_tally : (j : ℕ) (q : Peer) (op : Op) (d : Decision) → slice_get (sent_out g (outgoing h.told h.place)) j ≡ Some q → q.outstanding ≡ true → followed (suc j) (r j) (Take 0 (suc i) short) answer ≡ settled op d
        → Tallies (newest w) txn here.hears.op (slice_set here.hears.votes i (Some v)) h.place h.committed h.told → IsEntered w.limits (joined w.log h.committed) op d
    by_tally j q op d at out e (waits n none p c t) = old j q op d at out (sym (ap (followed (suc j) (r j) (Take 0 (suc i) short)) (is _ t)) ∙ e)
    by_tally j q op d at out e (commits_all all p c t) = by_was (decided_was (r j) txn _ d op (sym (ap (followed (suc j) (r j) (Take 0 (suc i) short)) (is _ t)) ∙ e))
      where
        by_was : ((r j ≡ settled op d) ⊎ ((n : ℕ) × (r j ≡ numbered op n) × (d ≡ Committed ((newest w).version + 1) (made (newest w) here.hears.op)))) → IsEntered w.limits (joined w.log h.committed) op d
        by_was (inl x) = old j q op d at out x
        by_was (inr x) =
            let same = on_op j q op x.0 at out x.1 in
            rw (x.2, c, same) (length w.log, next_entry w.limits w.log (w.log ++ here.hears.op ∷ []) here.hears.op _ refl refl)
    by_tally j q op d at out e (aborts_all core against least all p c t) = by_was (decided_was (r j) txn _ d op (sym (ap (followed (suc j) (r j) (Take 0 (suc i) short)) (is _ t)) ∙ e))
      where
        by_was : ((r j ≡ settled op d) ⊎ ((n : ℕ) × (r j ≡ numbered op n) × (d ≡ Refused core (veto_by against)))) → IsEntered w.limits (joined w.log h.committed) op d
        by_was (inl x) = old j q op d at out x
        by_was (inr x) = rw x.2 tt

-- a message of another kind to core 0 settles nothing
up_entered : (w w' : World) (r : ℕ → Request) (i : ℕ) (short : Bool) (answer : Answer) → Entered w r → Inv2 w r → HappensUp w i w' answer → Entered w' (λ j. followed (suc j) (r j) (Take 0 (suc i) short) answer)
up_entered w w' r i short answer k inv2 h = by_message h.m h.here
  where
    silent : ((j : ℕ) → followed (suc j) (r j) (Take 0 (suc i) short) answer ≡ r j) → Entered w' (λ j. followed (suc j) (r j) (Take 0 (suc i) short) answer)
    silent same = let l = log_joined w.log h.committed in rw h.next (entered_same w _ r _ l.0 k refl
        (same_sent w.peers (slice_set w.peers i (record h.peer { up = h.rest })) (outgoing h.told h.place) (matches_set Same w.peers i h.peer (record h.peer { up = h.rest }) h.is_peer refl (λ j p ne. refl))) l.1 same)

    by_message : (m : Message) → TakesUpAt (newest w) w.place w.requests i m h.place h.requests h.committed h.told answer → Entered w' (λ j. followed (suc j) (r j) (Take 0 (suc i) short) answer)
    by_message (message.Vote txn v) here = vote_entered w w' r i txn v short answer k inv2 h here
    by_message (message.Ack txn) here = silent (λ j. ap (followed (suc j) (r j) (Take 0 (suc i) short)) here.is_answer)
    by_message (message.Submit op) here = silent (λ j. ap (followed (suc j) (r j) (Take 0 (suc i) short)) here.is_answer)
    by_message m here = absurd here

down_entered : (w w' : World) (r : ℕ → Request) (i : ℕ) (short : Bool) (answer : Answer) → Entered w r → HappensDown w i short w' answer → Entered w' (λ j. followed (suc j) (r j) (Take (suc i) 0 short) answer)
down_entered w w' r i short answer k h = by_message h.m refl h.here
  where
    q : Peer
    q = record { budget = h.peer.budget; version = raised h.peer.version h.committed; place = h.place; outstanding = h.outstanding; down = h.rest; up = h.peer.up ++ option_to_list (sent_up (Take (suc i) 0 short) answer) }

    silent : ((j : ℕ) → followed (suc j) (r j) (Take (suc i) 0 short) answer ≡ r j) → (h.outstanding ≡ true → h.peer.outstanding ≡ true) → Entered w' (λ j. followed (suc j) (r j) (Take (suc i) 0 short) answer)
    silent same back = rw h.next (entered_one w r _ i h.peer q k h.is_peer (λ op d out e. k.each i h.peer op d h.is_peer (back out) (sym (same i) ∙ e)) (λ j ne. same j))

    answered : AnswersAt short (newest w) h.peer.budget h.peer.version h.peer.place h.peer.outstanding h.m h.place h.outstanding h.committed answer → Entered w' (λ j. followed (suc j) (r j) (Take (suc i) 0 short) answer)
    answered here = silent (λ j. (took_follows (suc j) i (r j) short h.m here.reply _ answer here.is_answer).0) (λ out. sym here.same_outstanding ∙ out)

    by_message : (m : Message) → h.m ≡ m → TakesDownAt short (newest w) h.peer.budget h.peer.version h.peer.place h.peer.outstanding m h.place h.outstanding h.committed answer → Entered w' (λ j. followed (suc j) (r j) (Take (suc i) 0 short) answer)
    by_message (message.Reply d) e here = silent (λ j. ap (followed (suc j) (r j) (Take (suc i) 0 short)) here.is_answer) (λ out. absurd (let x = here.none_outstanding in cc))
    by_message (message.Prepare txn op) e here = answered (rw e here)
    by_message (message.Commit txn) e here = answered (rw e here)
    by_message (message.Abort txn) e here = answered (rw e here)
    by_message (message.Vote txn v) e here = absurd here.answers
    by_message (message.Ack txn) e here = absurd here.answers
    by_message (message.Submit op) e here = absurd here.answers

event_entered : (w w' : World) (r : ℕ → Request) (event : Event) (answer : Answer) → Entered w r → Inv2 w r → length w.requests.waiting ≡ length w.peers → Happens w event w' answer → Entered w' (λ j. followed (suc j) (r j) event answer)
event_entered w w' r (Start op) answer k inv2 long h = start_entered w w' r op answer k h
event_entered w w' r (StartFor (suc i)) answer k inv2 long h = rw h.next (begin_entered w r i h.here.starts.op h.place h.requests h.committed h.here.starts.begun (outgoing h.told h.place) answer k inv2 long h.here.starts.is_waiting h.here.starts.starts
    (h.here.is_answer ∙ ap (λ (s : Step). start_told s.txn s.decided) h.here.starts.tells))
event_entered w w' r (Submit (suc i) op) answer k inv2 long h = rw h.next (entered_one w r _ i h.peer _ k h.is_peer
    (λ o d out e. absurd (let x = follows_submit i (r i) op answer h.here.is_answer in cc)) (λ j ne. follows_no_submit i j (r j) op answer h.here.is_answer ne))
event_entered w w' r (Take zero (suc i) short) answer k inv2 long h = up_entered w w' r i short answer k inv2 h
event_entered w w' r (Take (suc i) zero short) answer k inv2 long h = down_entered w w' r i short answer k h
event_entered w w' r (Rx core number packet floor) answer k inv2 long h = rw (h.next, h.here.is_answer) (record { each = k.each })
event_entered w w' r event answer k inv2 long h = absurd h

entered_like : (w : World) (r r' : ℕ → Request) → ((j : ℕ) → r' j ≡ r j) → Entered w r → Entered w r'
entered_like w r r' same k = record { each = λ i p op d at out e. k.each i p op d at out (sym (same i) ∙ e) }

pub run_entered : (limits : TableLimits) (budget : ℕ) (budgets : List ℕ) (events : List Done) (w : World) → Run limits budget budgets events w → Entered w (λ j. request_of (suc j) events)
run_entered limits budget budgets = run_keeps limits budget budgets (λ events w. Entered w (λ j. request_of (suc j) events))
    (record { each = λ i p op d at out e. absurd cc })
    (λ events w w' done run k h.
    let known = run_known limits budget budgets events w run in
    entered_like w' (λ j. followed (suc j) (request_of (suc j) events) done.event done.answer) (λ j. request_of (suc j) (events ++ done ∷ [])) (λ j. request_after-append (suc j) unsent events done)
    (event_entered w w' (λ j. request_of (suc j) events) done.event done.answer k (run_stages limits budget budgets events w run) (known.waiting_long ∙ sym known.cores) h))
