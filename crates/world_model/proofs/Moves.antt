-- What an event does to each core: versions, budgets and votes.
use Rattle.std.proofs.Common.{◌≡◌, ◌+◌, ◌≤◌, ◌⊎◌, inl, inr, ℕ, zero, suc, Bool, true, false, cond, Option, Some, None, List, [], ◌∷◌, ◌++◌, length, slice_get, slice_set, refl, ap, sym, ◌∙◌, subst, arith}
use Rattle.std.specs.Prelude.{is_some, option_to_list}
use Rattle.std.proofs.lemmas.List.{length-map, append-nil}
use Rattle.filter_table.specs.Limits.{TableLimits}
use Rattle.filter_table.specs.declared.operation.Op.{Op}
use Rattle.monitor_messages.specs.declared.message.Message.{Message}
use Rattle.monitor_messages.specs.declared.message.Message.TheVariants as message
use Rattle.filter_table.specs.declared.decision.Vote.{Vote}
use Rattle.filter_table.specs.declared.decision.Decision.{Decision}
use Rattle.two_phase.specs.declared.step.Step.{Step}
use Rattle.two_phase.specs.Participants.{ParticipantPlace, Answers, commits}
use Rattle.filter_table.specs.Tables.{TableState}
use Rattle.two_phase.specs.Coordinators.{CoordinatorPlace, Requests, Phase, Idle, Voting, Acking, requests_at, Starts, refused, unstaged, alone, prepared, Tallies, waits, commits_all, aborts_all}
use Rattle.world_events.specs.declared.event.Event.{Event}
use Rattle.world_events.specs.declared.event.Event.TheVariants.{Start, Submit, StartFor, Take, Rx}
use Rattle.world_events.specs.declared.event.Answer.{Answer}
use Rattle.world_events.specs.declared.event.Answer.TheVariants.{Submitted, TookVote}
use Rattle.world_model.specs.Cases.{Outgoing, nothing, to_all, to_one, outgoing, sent_up, joined, raised, start_told, TakesUpAt, AnswersAt, TakesDownAt, Took}
use Rattle.world_model.specs.Worlds.{Peer, World, newest, send, sent_out, sent_to_one, core0_moves, HappensStart, HappensStartFor, HappensSubmit, HappensUp, HappensDown, Happens}
use Rattle.world_model.specs.Agreement.{commitments}
use Rattle.world_model.specs.Readings.{commits_at, vote_with}
use Rattle.world_model.proofs.Lists.{get-set_same, get-set_other, length-slice_set, get_map, same_or_not}
use Rattle.world_model.proofs.Invariant.{Pair, at_rest, asked, voted, counted, to_commit, to_abort, acked, finished, Inv}
use Rattle.world_model.proofs.Submissions.{eq_self, eq_other}

-- Lists of cores, place by place

pub record Matches (R : ℕ → Peer → Peer → Type 0) (old new : List Peer) : Type 0 where
  pub long : length new ≡ length old
  pub each : (i : ℕ) (p q : Peer) → slice_get old i ≡ Some p → slice_get new i ≡ Some q → R i p q

pub matches_self : (R : ℕ → Peer → Peer → Type 0) (ps : List Peer) → ((i : ℕ) (p : Peer) → R i p p) → Matches R ps ps
matches_self R ps self = record { long = refl; each = λ i p q a b. let e : p ≡ q = cc in subst (λ (x : Peer). R i p x) e (self i p) }

pub matches_set : (R : ℕ → Peer → Peer → Type 0) (ps : List Peer) (i : ℕ) (old new : Peer) → slice_get ps i ≡ Some old → R i old new → ((j : ℕ) (p : Peer) → (i ≡ j → ⊥) → R j p p) → Matches R ps (slice_set ps i new)
matches_set R ps i old new at here self = record { long = length-slice_set ps i new; each = λ j p q a b. by_place j p q a b (same_or_not i j) }
  where
    by_place : (j : ℕ) (p q : Peer) → slice_get ps j ≡ Some p → slice_get (slice_set ps i new) j ≡ Some q → ((i ≡ j) ⊎ (i ≡ j → ⊥)) → R j p q
    by_place j p q a b (inl e) =
        let a' : slice_get ps i ≡ Some p = subst (λ (k : ℕ). slice_get ps k ≡ Some p) (sym e) a in
        let b' : slice_get (slice_set ps i new) i ≡ Some q = subst (λ (k : ℕ). slice_get (slice_set ps i new) k ≡ Some q) (sym e) b in
        let s = get-set_same ps i new old at in
        let ep : old ≡ p = cc in
        let eq : new ≡ q = cc in
        subst (λ (k : ℕ). R k p q) e (subst (λ (x : Peer). R i x q) ep (subst (λ (y : Peer). R i old y) eq here))
    by_place j p q a b (inr ne) =
        let b' : slice_get ps j ≡ Some q = sym (get-set_other ps i j new ne) ∙ b in
        let e : p ≡ q = cc in
        subst (λ (x : Peer). R j p x) e (self j p ne)

pub matches_sent : (R : ℕ → Peer → Peer → Type 0) (old new : List Peer) (out : Outgoing) → ((i : ℕ) (p q : Peer) (m : Message) → R i p q → R i p (send m q)) → Matches R old new → Matches R old (sent_out new out)
matches_sent R old new nothing on h = h
matches_sent R old new (to_all m) on h = record {
  long = length-map new (send m) ∙ h.long;
  each = λ i p q a b. let r = get_map (send m) new i q b in subst (λ (x : Peer). R i p x) (sym r.2) (on i p r.0 m (h.each i p r.0 a r.1));
}
matches_sent R old new (to_one k m) on h = by_peer (slice_get new k) refl
  where
    by_peer : (o : Option Peer) → slice_get new k ≡ o → Matches R old (sent_to_one new k m o)
    by_peer None e = h
    by_peer (Some x) e = record { long = length-slice_set new k (send m x) ∙ h.long; each = λ i p q a b. by_place i p q a b (same_or_not k i) }
      where
        by_place : (i : ℕ) (p q : Peer) → slice_get old i ≡ Some p → slice_get (slice_set new k (send m x)) i ≡ Some q → ((k ≡ i) ⊎ (k ≡ i → ⊥)) → R i p q
        by_place i p q a b (inl ki) =
            let b' : slice_get (slice_set new k (send m x)) k ≡ Some q = subst (λ (n : ℕ). slice_get (slice_set new k (send m x)) n ≡ Some q) (sym ki) b in
            let s = get-set_same new k (send m x) x e in
            let eq : send m x ≡ q = cc in
            let at : slice_get new i ≡ Some x = subst (λ (n : ℕ). slice_get new n ≡ Some x) ki e in
            subst (λ (y : Peer). R i p y) eq (on i p x m (h.each i p x a at))
        by_place i p q a b (inr ne) = h.each i p q a (sym (get-set_other new k i (send m x) ne) ∙ b)

-- What an event does to a core

-- the core keeps its vote, or has cast another with the event
abbrev pub KeepsVote : Event → Answer → ℕ → ParticipantPlace → ParticipantPlace → Type 0
KeepsVote event answer core place place' = (known : ℕ → Option Vote) → ((v : Vote) → place.voted ≡ Some v → known place.last ≡ Some v)
    → (v : Vote) → place'.voted ≡ Some v → vote_with core place'.last (known place'.last) event answer ≡ Some v

pub record PeerMoves (event : Event) (answer : Answer) (i : ℕ) (p q : Peer) : Type 0 where
  pub same_budget : q.budget ≡ p.budget
  pub version_is : q.version ≡ p.version + cond (commits_at (suc i) event answer) 1 0
  pub keeps_vote : KeepsVote event answer (suc i) p.place q.place

pub record EventMoves (w : World) (event : Event) (w' : World) (answer : Answer) : Type 0 where
  pub same_limits : w'.limits ≡ w.limits
  pub same_budget : w'.budget ≡ w.budget
  pub version_is : w'.version ≡ w.version + cond (commits_at 0 event answer) 1 0
  pub log_is : (more : List Op) × (w'.log ≡ w.log ++ more) × (length more ≤ 1)
  pub waiting_long : length w'.requests.waiting ≡ length w.requests.waiting
  pub peers : Matches (PeerMoves event answer) w.peers w'.peers

moves_sent : (event : Event) (answer : Answer) (i : ℕ) (p q : Peer) (m : Message) → PeerMoves event answer i p q → PeerMoves event answer i p (send m q)
moves_sent event answer i p q m h = record { same_budget = h.same_budget; version_is = h.version_is; keeps_vote = h.keeps_vote }

-- the event says nothing of the core
pub record IsSilent (event : Event) (answer : Answer) (core : ℕ) : Type 0 where
  pub no_commit : commits_at core event answer ≡ false
  pub no_vote : (txn : ℕ) (known : Option Vote) → vote_with core txn known event answer ≡ known

silent_moves : (event : Event) (answer : Answer) (i : ℕ) (p q : Peer) → IsSilent event answer (suc i) → q.budget ≡ p.budget → q.version ≡ p.version → q.place ≡ p.place → PeerMoves event answer i p q
silent_moves event answer i p q silent b v place = record {
  same_budget = b;
  version_is = rw silent.no_commit (omega (arith, v));
  keeps_vote = λ known was x now. silent.no_vote q.place.last (known q.place.last) ∙ (rw place (was x (sym (ap (λ (y : ParticipantPlace). y.voted) place) ∙ now)));
}

silent_self : (event : Event) (answer : Answer) (i : ℕ) (p : Peer) → IsSilent event answer (suc i) → PeerMoves event answer i p p
silent_self event answer i p silent = silent_moves event answer i p p silent refl refl refl

silent_start : (op : Op) (txn : ℕ) (d : Option Decision) (i : ℕ) → IsSilent (Start op) (start_told txn d) (suc i)
silent_start op txn None i = record { no_commit = refl; no_vote = λ n k. refl }
silent_start op txn (Some d) i = record { no_commit = refl; no_vote = λ n k. refl }

silent_start_for : (core : ℕ) (txn : ℕ) (d : Option Decision) (i : ℕ) → IsSilent (StartFor core) (start_told txn d) (suc i)
silent_start_for core txn None i = record { no_commit = refl; no_vote = λ n k. refl }
silent_start_for core txn (Some d) i = record { no_commit = refl; no_vote = λ n k. refl }

silent_up : (i : ℕ) (short : Bool) (place place' : CoordinatorPlace) (requests requests' : Requests) (s : TableState) (m : Message) (committed : Option Op) (told : Step) (answer : Answer) → TakesUpAt s place requests i m place' requests' committed told answer
    → (j : ℕ) → IsSilent (Take 0 (suc i) short) answer (suc j)
silent_up i short place place' requests requests' s (message.Vote txn v) committed told answer h j = rw h.is_answer (record { no_commit = refl; no_vote = λ n k. refl })
silent_up i short place place' requests requests' s (message.Ack txn) committed told answer h j = rw h.is_answer (record { no_commit = refl; no_vote = λ n k. refl })
silent_up i short place place' requests requests' s (message.Submit op) committed told answer h j = rw h.is_answer (record { no_commit = refl; no_vote = λ n k. refl })
silent_up i short place place' requests requests' s m committed told answer h j = absurd h

-- Core 0

raised_is : (v : ℕ) (committed : Option Op) → raised v committed ≡ v + cond (is_some committed) 1 0
raised_is v None = omega arith
raised_is v (Some op) = refl

pub log_joined : (log : List Op) (committed : Option Op) → (more : List Op) × (joined log committed ≡ log ++ more) × (length more ≤ 1)
log_joined log None = ([], sym (append-nil log), omega arith)
log_joined log (Some op) = (op ∷ [], refl, omega arith)

core0_event : (w : World) (peers : List Peer) (place : CoordinatorPlace) (requests : Requests) (committed : Option Op) (out : Outgoing) (event : Event) (answer : Answer)
    → is_some committed ≡ commits_at 0 event answer → length requests.waiting ≡ length w.requests.waiting → Matches (PeerMoves event answer) w.peers peers
    → EventMoves w event (core0_moves (record w { peers = peers }) place requests committed out) answer
core0_event w peers place requests committed out event answer counts long h = record {
  same_limits = refl;
  same_budget = refl;
  version_is = raised_is w.version committed ∙ ap (λ (b : Bool). w.version + cond b 1 0) counts;
  log_is = log_joined w.log committed;
  waiting_long = long;
  peers = matches_sent (PeerMoves event answer) w.peers peers out (moves_sent event answer) h;
}

pub counts_start : (op : Op) (others : ℕ) (s : TableState) (b : ℕ) (place place' : CoordinatorPlace) (o : Op) (committed : Option Op) (told : Step) → Starts others s b place o place' committed told
    → is_some committed ≡ commits_at 0 (Start op) (start_told told.txn told.decided)
counts_start op others s b place place' o committed told (refused f a p c t) = rw (c, t) refl
counts_start op others s b place place' o committed told (unstaged f p c t) = rw (c, t) refl
counts_start op others s b place place' o committed told (alone a n p c t) = rw (c, t) refl
counts_start op others s b place place' o committed told (prepared a n p c t) = rw (c, t) refl

pub counts_start_for : (core others : ℕ) (s : TableState) (b : ℕ) (place place' : CoordinatorPlace) (o : Op) (committed : Option Op) (told : Step) → Starts others s b place o place' committed told
    → is_some committed ≡ commits_at 0 (StartFor core) (start_told told.txn told.decided)
counts_start_for core others s b place place' o committed told (refused f a p c t) = rw (c, t) refl
counts_start_for core others s b place place' o committed told (unstaged f p c t) = rw (c, t) refl
counts_start_for core others s b place place' o committed told (alone a n p c t) = rw (c, t) refl
counts_start_for core others s b place place' o committed told (prepared a n p c t) = rw (c, t) refl

pub counts_vote : (i : ℕ) (short : Bool) (s : TableState) (last txn : ℕ) (v : Vote) (op : Op) (votes : List (Option Vote)) (place' : CoordinatorPlace) (committed : Option Op) (told : Step) → Tallies s last op votes place' committed told
    → is_some committed ≡ commits_at 0 (Take 0 (suc i) short) (TookVote txn v told.decided)
counts_vote i short s last txn v op votes place' committed told (waits k n p c t) = rw (c, t) refl
counts_vote i short s last txn v op votes place' committed told (commits_all a p c t) = rw (c, t) refl
counts_vote i short s last txn v op votes place' committed told (aborts_all core against l a p c t) = rw (c, t) refl

start_moves : (w w' : World) (op : Op) (answer : Answer) → HappensStart w op w' answer → EventMoves w (Start op) w' answer
start_moves w w' op answer h = rw (h.next, h.here.is_answer)
    (core0_event w w.peers h.place w.requests h.committed (outgoing h.told h.place) (Start op) (start_told h.told.txn h.told.decided)
    (counts_start op _ _ _ _ _ _ _ _ h.here.starts) refl
    (matches_self _ w.peers (λ i p. silent_self _ _ i p (silent_start op h.told.txn h.told.decided i))))

start_for_moves : (w w' : World) (entry : ℕ) (answer : Answer) → HappensStartFor w entry w' answer → EventMoves w (StartFor (suc entry)) w' answer
start_for_moves w w' entry answer h = rw (h.next, h.here.is_answer)
    (core0_event w w.peers h.place h.requests h.committed (outgoing h.told h.place) (StartFor (suc entry)) (start_told h.told.txn h.told.decided)
    (counts_start_for (suc entry) _ _ _ _ _ _ _ _ h.here.starts.starts ∙ ap (λ (t : Step). commits_at 0 (StartFor (suc entry)) (start_told t.txn t.decided)) (sym h.here.starts.tells))
    (ap (λ (r : Requests). length r.waiting) h.here.starts.next ∙ length-slice_set w.requests.waiting entry None)
    (matches_self _ w.peers (λ i p. silent_self _ _ i p (silent_start_for (suc entry) h.told.txn h.told.decided i))))

waiting_at_phase : (phase : Phase) (r : Requests) → (requests_at phase r).waiting ≡ r.waiting
waiting_at_phase Idle r = refl
waiting_at_phase (Voting votes) r = refl
waiting_at_phase (Acking acks) r = refl

pub up_counts : (i : ℕ) (short : Bool) (s : TableState) (place place' : CoordinatorPlace) (requests requests' : Requests) (m : Message) (committed : Option Op) (told : Step) (answer : Answer) → TakesUpAt s place requests i m place' requests' committed told answer
    → (is_some committed ≡ commits_at 0 (Take 0 (suc i) short) answer) × (length requests'.waiting ≡ length requests.waiting)
up_counts i short s place place' requests requests' (message.Vote txn v) committed told answer h =
    (counts_vote i short s txn txn v h.hears.op _ place' committed told h.hears.tallies ∙ ap (commits_at 0 (Take 0 (suc i) short)) (sym h.is_answer), ap (λ (r : Requests). length r.waiting) h.requests_next)
up_counts i short s place place' requests requests' (message.Ack txn) committed told answer h =
    (rw (h.none_committed, h.is_answer) refl, ap (λ (r : Requests). length r.waiting) h.hears.requests_next ∙ ap length (waiting_at_phase place'.phase requests))
up_counts i short s place place' requests requests' (message.Submit op) committed told answer h =
    (rw (h.none_committed, h.is_answer) refl, ap (λ (r : Requests). length r.waiting) h.requests_next ∙ length-slice_set requests.waiting i (Some op))
up_counts i short s place place' requests requests' m committed told answer h = absurd h

up_moves : (w w' : World) (i : ℕ) (short : Bool) (answer : Answer) → HappensUp w i w' answer → EventMoves w (Take 0 (suc i) short) w' answer
up_moves w w' i short answer h =
    let c = up_counts i short (newest w) w.place h.place w.requests h.requests h.m h.committed h.told answer h.here in
    let silent = silent_up i short w.place h.place w.requests h.requests (newest w) h.m h.committed h.told answer h.here in
    rw h.next (core0_event w (slice_set w.peers i (record h.peer { up = h.rest })) h.place h.requests h.committed (outgoing h.told h.place) (Take 0 (suc i) short) answer c.0 c.1
    (matches_set _ w.peers i h.peer (record h.peer { up = h.rest }) h.is_peer (silent_moves _ _ i h.peer _ (silent i) refl refl refl) (λ j p ne. silent_self _ _ j p (silent j))))

-- Another core

submit_moves : (w w' : World) (i : ℕ) (op : Op) (answer : Answer) → HappensSubmit w i op w' answer → EventMoves w (Submit (suc i) op) w' answer
submit_moves w w' i op answer h = rw (h.next, h.here.is_answer) (record {
  same_limits = refl;
  same_budget = refl;
  version_is = omega arith;
  log_is = log_joined w.log None;
  waiting_long = refl;
  peers = matches_set _ w.peers i h.peer _ h.is_peer (silent_moves _ _ i h.peer _ silent refl refl refl) (λ j p ne. silent_self _ _ j p silent);
})
  where
    silent : {j : ℕ} → IsSilent (Submit (suc i) op) Submitted (suc j)
    silent = record { no_commit = refl; no_vote = λ n k. refl }

-- another core than the one that takes
silent_down : (i j : ℕ) (short : Bool) (m reply : Message) (version : ℕ) (answer : Answer) → (i ≡ j → ⊥) → Took m reply version answer → IsSilent (Take (suc i) 0 short) answer (suc j)
silent_down i j short (message.Prepare txn op) (message.Vote txn' v) version answer ne t = rw t (record { no_commit = refl; no_vote = λ n k. rw (eq_other (suc i) (suc j) (λ e. ne (omega (arith, e)))) refl })
silent_down i j short (message.Commit txn) reply version answer ne t = rw t (record { no_commit = eq_other (suc i) (suc j) (λ e. ne (omega (arith, e))); no_vote = λ n k. refl })
silent_down i j short (message.Abort txn) reply version answer ne t = rw t (record { no_commit = refl; no_vote = λ n k. refl })
silent_down i j short m reply version answer ne t = absurd t

-- the core that takes, by its message
took_moves : (i : ℕ) (short : Bool) (s : TableState) (p q : Peer) (m reply : Message) (committed : Option Op) (answer : Answer) → Answers short s p.budget p.place m q.place reply → committed ≡ commits p.place m
    → ((txn : ℕ) → m ≡ message.Commit txn → is_some p.place.staged ≡ true) → Took m reply (raised p.version committed) answer → q.budget ≡ p.budget → q.version ≡ raised p.version committed
    → PeerMoves (Take (suc i) 0 short) answer i p q
took_moves i short s p q (message.Prepare txn op) (message.Vote txn' v) committed answer a c has t b ver = rw t (record {
  same_budget = b;
  version_is = ver ∙ rw c (omega arith);
  keeps_vote = λ known was x now. rw (ap (λ (y : ParticipantPlace). y.last) a.3, eq_self (suc i), eq_self txn) (sym (ap (λ (y : ParticipantPlace). y.voted) a.3) ∙ now);
})
took_moves i short s p q (message.Commit txn) (message.Ack txn') committed answer a c has t b ver = rw t (record {
  same_budget = b;
  version_is = ver ∙ (ap (raised p.version) c ∙ (raised_is p.version p.place.staged ∙ rw (has txn refl, eq_self (suc i)) refl));
  keeps_vote = λ known was x now. absurd (let n : ◌≡◌ {A = Option Vote} None (Some x) = sym (ap (λ (y : ParticipantPlace). y.voted) a.2) ∙ now in cc);
})
took_moves i short s p q (message.Abort txn) (message.Ack txn') committed answer a c has t b ver = rw t (record {
  same_budget = b;
  version_is = ver ∙ rw c (omega arith);
  keeps_vote = λ known was x now. absurd (let n : ◌≡◌ {A = Option Vote} None (Some x) = sym (ap (λ (y : ParticipantPlace). y.voted) a.2) ∙ now in cc);
})
took_moves i short s p q m reply committed answer a c has t b ver = absurd a

-- a core that Commit comes to has the operation staged
commit_staged : (limits : TableLimits) (log : List Op) (place : CoordinatorPlace) (i : ℕ) (p : Peer) (txn : ℕ) (rest : List Message) → commitments p.down ≡ message.Commit txn ∷ rest → Pair limits log place i p → is_some p.place.staged ≡ true
commit_staged limits log place i p txn rest d (to_commit acks op version ph at le fits entry is) = rw is.staged_is refl
commit_staged limits log place i p txn rest d (to_abort acks v st ph at is) = absurd (cc (d, is.down_is))
commit_staged limits log place i p txn rest d (at_rest ph is) = absurd (cc (d, is.down_is))
commit_staged limits log place i p txn rest d (asked votes op last ph st at le is) = absurd (cc (d, is.down_is))
commit_staged limits log place i p txn rest d (voted votes op v short ph st at c is) = absurd (cc (d, is.down_is))
commit_staged limits log place i p txn rest d (counted votes op v short ph st at c is) = absurd (cc (d, is.down_is))
commit_staged limits log place i p txn rest d (acked acks ph at is) = absurd (cc (d, is.down_is))
commit_staged limits log place i p txn rest d (finished acks ph at is) = absurd (cc (d, is.down_is))

down_moves : (w w' : World) (i : ℕ) (short : Bool) (answer : Answer) → Inv w → HappensDown w i short w' answer → EventMoves w (Take (suc i) 0 short) w' answer
down_moves w w' i short answer inv h = by_message h.m refl h.here
  where
    q : Peer
    q = record { budget = h.peer.budget; version = raised h.peer.version h.committed; place = h.place; outstanding = h.outstanding; down = h.rest; up = h.peer.up ++ option_to_list (sent_up (Take (suc i) 0 short) answer) }

    moved : PeerMoves (Take (suc i) 0 short) answer i h.peer q → ((j : ℕ) → (i ≡ j → ⊥) → IsSilent (Take (suc i) 0 short) answer (suc j)) → commits_at 0 (Take (suc i) 0 short) answer ≡ false → EventMoves w (Take (suc i) 0 short) w' answer
    moved here silent none = rw h.next (record {
      same_limits = refl;
      same_budget = refl;
      version_is = rw none (omega arith);
      log_is = log_joined w.log None;
      waiting_long = refl;
      peers = matches_set _ w.peers i h.peer _ h.is_peer here (λ j p ne. silent_self _ _ j p (silent j ne));
    })

    none_by : (m reply : Message) (version : ℕ) → Took m reply version answer → commits_at 0 (Take (suc i) 0 short) answer ≡ false
    none_by (message.Prepare txn op) (message.Vote txn' v) version t = rw t refl
    none_by (message.Commit txn) reply version t = rw t refl
    none_by (message.Abort txn) reply version t = rw t refl
    none_by m reply version t = absurd t

    answered : AnswersAt short (newest w) h.peer.budget h.peer.version h.peer.place h.peer.outstanding h.m h.place h.outstanding h.committed answer → EventMoves w (Take (suc i) 0 short) w' answer
    answered here = moved
        (took_moves i short (newest w) h.peer _ h.m here.reply h.committed answer here.answers here.is_committed
        (λ txn e. commit_staged w.limits w.log w.place i h.peer txn (commitments h.rest) (ap commitments h.oldest ∙ rw e refl) (inv.pairs i h.peer h.is_peer))
        here.is_answer refl refl)
        (λ j ne. silent_down i j short h.m here.reply _ answer ne here.is_answer) (none_by h.m here.reply _ here.is_answer)

    by_message : (m : Message) → h.m ≡ m → TakesDownAt short (newest w) h.peer.budget h.peer.version h.peer.place h.peer.outstanding m h.place h.outstanding h.committed answer → EventMoves w (Take (suc i) 0 short) w' answer
    by_message (message.Reply d) e here = moved (silent_moves _ _ i h.peer _ (silent i) refl (rw here.none_committed refl) here.same_place) (λ j ne. silent j) (rw here.is_answer refl)
      where
        silent : (j : ℕ) → IsSilent (Take (suc i) 0 short) answer (suc j)
        silent j = rw here.is_answer (record { no_commit = refl; no_vote = λ n k. refl })
    by_message (message.Prepare txn op) e here = answered (rw e here)
    by_message (message.Commit txn) e here = answered (rw e here)
    by_message (message.Abort txn) e here = answered (rw e here)
    by_message (message.Vote txn v) e here = absurd here.answers
    by_message (message.Ack txn) e here = absurd here.answers
    by_message (message.Submit op) e here = absurd here.answers

-- All events

pub event_moves : (w w' : World) (event : Event) (answer : Answer) → Inv w → Happens w event w' answer → EventMoves w event w' answer
event_moves w w' (Start op) answer inv h = start_moves w w' op answer h
event_moves w w' (Submit (suc i) op) answer inv h = submit_moves w w' i op answer h
event_moves w w' (StartFor (suc i)) answer inv h = start_for_moves w w' i answer h
event_moves w w' (Take zero (suc i) short) answer inv h = up_moves w w' i short answer h
event_moves w w' (Take (suc i) zero short) answer inv h = down_moves w w' i short answer inv h
event_moves w w' (Rx core number packet floor) answer inv h = rw (h.next, h.here.is_answer) (record {
  same_limits = refl;
  same_budget = refl;
  version_is = omega arith;
  log_is = log_joined w.log None;
  waiting_long = refl;
  peers = matches_self _ w.peers (λ i p. silent_self _ _ i p (record { no_commit = refl; no_vote = λ n k. refl }));
})
event_moves w w' event answer inv h = absurd h
