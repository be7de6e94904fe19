-- What a core other than core 0 does, as the world shows it.
use Rattle.std.proofs.Common.{◌≡◌, ◌∙◌, ◌++◌, ◌∷◌, ◌+◌, ◌⊎◌, inl, inr, ℕ, zero, suc, Bool, true, None, Some, List, [], Result, Ok, Err, length, map, slice_get, slice_set, refl, ap, sym, subst, add-one}
use Rattle.std.specs.Prelude.{option_to_list}
use Rattle.filter_table.specs.Limits.{TableLimits}
use Rattle.filter_table.specs.declared.operation.Op.{Op}
use Rattle.filter_table.specs.Tables.{TableState, after, table}
use Rattle.table_replica.specs.Shown.{ReplicaState}
use Rattle.monitor_messages.specs.declared.message.Message.{Message}
use Rattle.monitor_messages.specs.declared.message.Message.TheVariants as message
use Rattle.monitor_2pc.specs.Places.{after_commit}
use Rattle.two_phase.specs.Coordinators.{CoordinatorPlace}
use Rattle.two_phase.specs.Participants.{ParticipantPlace, Answers}
use Rattle.world_events.specs.declared.event.Event.{Event}
use Rattle.world_events.specs.declared.event.Event.TheVariants.{Submit, Take}
use Rattle.world_events.specs.declared.event.Answer.{Answer}
use Rattle.world_events.specs.declared.fault.WorldFault.{WorldFault}
use Rattle.core_steps.specs.declared.other_core.OtherCore.{OtherCore}
use Rattle.core_steps.specs.OtherCoreSteps.{AwaitsHere}
use Rattle.world_core.specs.declared.core0.LoggedCore0.{LoggedCore0}
use Rattle.world_core.specs.declared.peer.Peer.{Peer}
use Rattle.world_model.specs.Cases.{raised, sent_up, TakesDownAt}
use Rattle.world_model.specs.Worlds as worlds
use Rattle.world_model.specs.Agreement.{commitments, Awaits}
use Rattle.world_core.specs.Keeping.{seen_peer, seen_world, CoreIsKept, PeerIsKept, WorldIsKept, PeerSubmits, AwaitsOldest, PeerTakes, Submits, Takes}
use Rattle.world_model.proofs.Lists.{get-set_same, get-set_other, length-slice_set, same_or_not}
use Rattle.world_model.proofs.Invariant.{Pair, at_rest, asked, voted, counted, to_commit, to_abort, acked, finished, Inv}
use Rattle.world_model.proofs.Runs.{runs_more}
use Rattle.world_model.proofs.Agreement.{run_inv}
use Rattle.world_model.proofs.RunLaws.{run_no_stranger}
use Rattle.world_model.proofs.SoundLogs.{table_of_next}
use Rattle.filter_table.proofs.Lists.{map-get}

-- Lists

pub map-slice_set : {A B : Type 0} (f : A → B) (xs : List A) (i : ℕ) (x : A) → map f (slice_set xs i x) ≡ slice_set (map f xs) i (f x)
map-slice_set f [] i x = refl
map-slice_set f (y ∷ ys) zero x = refl
map-slice_set f (y ∷ ys) (suc i) x = ap (λ zs. f y ∷ zs) (map-slice_set f ys i x)

slice_set-same : {A : Type 0} (xs : List A) (i : ℕ) (x : A) → slice_get xs i ≡ Some x → slice_set xs i x ≡ xs
slice_set-same [] i x at = refl
slice_set-same (y ∷ ys) zero x at = let e : y ≡ x = cc in rw e refl
slice_set-same (y ∷ ys) (suc i) x at = ap (λ zs. y ∷ zs) (slice_set-same ys i x at)

-- the table of a version and of the next
pub table_at : (limits : TableLimits) (log : List Op) (v : ℕ) (op : Op) → slice_get log v ≡ Some op → table limits log (v + 1) ≡ after (table limits log v) op
table_at limits log v op at = ap (table limits log) (add-one v) ∙ table_of_next limits log v op at

-- one core of the world is another
seen_set : {C Piece : Type 0} (messages : C → List Message) (core0 : LoggedCore0) (peers : List (Peer C Piece)) (i : ℕ) (p' : Peer C Piece)
    → seen_world messages core0 (slice_set peers i p') ≡ record (seen_world messages core0 peers) { peers = slice_set (map (seen_peer messages) peers) i (seen_peer messages p') }
seen_set messages core0 peers i p' = ap (λ (ps : List worlds.Peer). record (seen_world messages core0 peers) { peers = ps }) (map-slice_set (seen_peer messages) peers i p')

pub seen_same : {C Piece : Type 0} (messages : C → List Message) (core0 : LoggedCore0) (peers : List (Peer C Piece)) (i : ℕ) (p p' : Peer C Piece) → slice_get peers i ≡ Some p → seen_peer messages p' ≡ seen_peer messages p
    → seen_world messages core0 (slice_set peers i p') ≡ seen_world messages core0 peers
seen_same messages core0 peers i p p' at same = seen_set messages core0 peers i p' ∙ ap (λ (ps : List worlds.Peer). record (seen_world messages core0 peers) { peers = ps })
    (ap (slice_set (map (seen_peer messages) peers) i) same ∙ slice_set-same (map (seen_peer messages) peers) i (seen_peer messages p) (map-get (seen_peer messages) peers i p at))

pub peers_kept_set : {C Piece : Type 0} (limits : TableLimits) (log : List Op) (peers : List (Peer C Piece)) (i : ℕ) (p p' : Peer C Piece) → slice_get peers i ≡ Some p → ((j : ℕ) (q : Peer C Piece) → slice_get peers j ≡ Some q → PeerIsKept limits log q) → PeerIsKept limits log p'
    → (j : ℕ) (q : Peer C Piece) → slice_get (slice_set peers i p') j ≡ Some q → PeerIsKept limits log q
peers_kept_set limits log peers i p p' at old new j q here = by_place (same_or_not i j)
  where
    by_place : ((i ≡ j) ⊎ (i ≡ j → ⊥)) → PeerIsKept limits log q
    by_place (inl e) =
        let there : slice_get (slice_set peers i p') i ≡ Some q = subst (λ (k : ℕ). slice_get (slice_set peers i p') k ≡ Some q) (sym e) here in
        let s = get-set_same peers i p' p at in
        let eq : p' ≡ q = cc in
        rw (← eq) new
    by_place (inr ne) = old j q (sym (get-set_other peers i j p' ne) ∙ here)

-- nothing is shown to have changed
same_kept : {C Piece : Type 0} (messages : C → List Message) (core0 : LoggedCore0) (peers : List (Peer C Piece)) (i : ℕ) (p p' : Peer C Piece) → WorldIsKept messages core0 peers → slice_get peers i ≡ Some p → seen_peer messages p' ≡ seen_peer messages p
    → PeerIsKept core0.core.replica.shown.limits core0.log.items p' → WorldIsKept messages core0 (slice_set peers i p')
same_kept messages core0 peers i p p' k at same kept = record {
  core0_kept = k.core0_kept;
  others = k.others ∙ sym (length-slice_set peers i p');
  peers_kept = peers_kept_set core0.core.replica.shown.limits core0.log.items peers i p p' at k.peers_kept kept;
  few = rw (length-slice_set peers i p') k.few;
  limits = k.limits;
  budget = k.budget;
  budgets = k.budgets;
  events = k.events;
  run = subst (λ (w : worlds.World). worlds.Run k.limits k.budget k.budgets k.events w) (sym (seen_same messages core0 peers i p p' at same)) k.run;
}

-- an event has happened at one core
event_kept : {C Piece : Type 0} (messages : C → List Message) (core0 : LoggedCore0) (peers : List (Peer C Piece)) (i : ℕ) (p p' : Peer C Piece) (event : Event) (answer : Answer) → WorldIsKept messages core0 peers → slice_get peers i ≡ Some p
    → worlds.Happens (seen_world messages core0 peers) event (seen_world messages core0 (slice_set peers i p')) answer → PeerIsKept core0.core.replica.shown.limits core0.log.items p' → WorldIsKept messages core0 (slice_set peers i p')
event_kept messages core0 peers i p p' event answer k at happens kept = record {
  core0_kept = k.core0_kept;
  others = k.others ∙ sym (length-slice_set peers i p');
  peers_kept = peers_kept_set core0.core.replica.shown.limits core0.log.items peers i p p' at k.peers_kept kept;
  few = rw (length-slice_set peers i p') k.few;
  limits = k.limits;
  budget = k.budget;
  budgets = k.budgets;
  events = k.events ++ record { event = event; answer = answer } ∷ [];
  run = runs_more _ (seen_world messages core0 peers) (seen_world messages core0 (slice_set peers i p')) k.events (record { event = event; answer = answer }) k.run happens;
}

-- Submit

pub submit_happens : {C Piece : Type 0} (messages : C → List Message) (core0 : LoggedCore0) (peers : List (Peer C Piece)) (i : ℕ) (p p' : Peer C Piece) (op : Op) (answer : Answer) → slice_get peers i ≡ Some p
    → PeerSubmits (seen_peer messages p) op (seen_peer messages p') answer → worlds.Happens (seen_world messages core0 peers) (Submit (suc i) op) (seen_world messages core0 (slice_set peers i p')) answer
submit_happens messages core0 peers i p p' op answer at s = record {
  peer = seen_peer messages p;
  is_peer = map-get (seen_peer messages) peers i p at;
  outstanding = true;
  here = record { none_outstanding = s.none_outstanding; now_outstanding = refl; is_answer = s.is_answer };
  next = seen_set messages core0 peers i p' ∙ rw (s.next, s.is_answer) refl;
}

submit_peer_kept : {C Piece : Type 0} (messages : C → List Message) (limits : TableLimits) (log : List Op) (op : Op) (r : Result Answer WorldFault) (p p' : Peer C Piece) → PeerIsKept limits log p → Submits messages op r p p' → PeerIsKept limits log p'
submit_peer_kept messages limits log op r p p' k s = record {
  shown = subst (λ (x : ReplicaState). x.shown ≡ table limits log x.shown.version) (sym s.replica) k.shown;
  between = rw (s.replica, s.voted) k.between;
}

pub submit_kept : {C Piece : Type 0} (messages : C → List Message) (core0 : LoggedCore0) (peers : List (Peer C Piece)) (i : ℕ) (p p' : Peer C Piece) (op : Op) (r : Result Answer WorldFault) → WorldIsKept messages core0 peers → slice_get peers i ≡ Some p
    → Submits messages op r p p' → WorldIsKept messages core0 (slice_set peers i p')
submit_kept messages core0 peers i p p' op (Ok answer) k at s =
    event_kept messages core0 peers i p p' (Submit (suc i) op) answer k at (submit_happens messages core0 peers i p p' op answer at s.done) (submit_peer_kept messages core0.core.replica.shown.limits core0.log.items op (Ok answer) p p' (k.peers_kept i p at) s)
submit_kept messages core0 peers i p p' op (Err fault) k at s =
    same_kept messages core0 peers i p p' k at s.same (submit_peer_kept messages core0.core.replica.shown.limits core0.log.items op (Err fault) p p' (k.peers_kept i p at) s)

-- Take

kept_inv : {C Piece : Type 0} (messages : C → List Message) (core0 : LoggedCore0) (peers : List (Peer C Piece)) → (k : WorldIsKept messages core0 peers) → Inv (seen_world messages core0 peers)
kept_inv messages core0 peers k = run_inv k.limits k.budget k.budgets k.events (seen_world messages core0 peers) k.run

-- a core that Prepare comes to is at the newest version
prepared_newest : (limits : TableLimits) (log : List Op) (place : CoordinatorPlace) (i : ℕ) (p : worlds.Peer) (txn : ℕ) (op : Op) (rest : List Message) → commitments p.down ≡ message.Prepare txn op ∷ rest → Pair limits log place i p → p.version ≡ length log
prepared_newest limits log place i p txn op rest d (asked votes o last ph st at le is) = is.version_is
prepared_newest limits log place i p txn op rest d (to_commit acks o version ph at le fits entry is) = absurd (cc (d, is.down_is))
prepared_newest limits log place i p txn op rest d (to_abort acks v st ph at is) = absurd (cc (d, is.down_is))
prepared_newest limits log place i p txn op rest d (at_rest ph is) = absurd (cc (d, is.down_is))
prepared_newest limits log place i p txn op rest d (voted votes o v short ph st at c is) = absurd (cc (d, is.down_is))
prepared_newest limits log place i p txn op rest d (counted votes o v short ph st at c is) = absurd (cc (d, is.down_is))
prepared_newest limits log place i p txn op rest d (acked acks ph at is) = absurd (cc (d, is.down_is))
prepared_newest limits log place i p txn op rest d (finished acks ph at is) = absurd (cc (d, is.down_is))

-- a core that Commit comes to has staged the entry of the log at its version
committed_entry : (limits : TableLimits) (log : List Op) (place : CoordinatorPlace) (i : ℕ) (p : worlds.Peer) (txn : ℕ) (rest : List Message) → commitments p.down ≡ message.Commit txn ∷ rest → Pair limits log place i p
    → (op : Op) × (p.place.staged ≡ Some op) × (slice_get log p.version ≡ Some op)
committed_entry limits log place i p txn rest d (to_commit acks op version ph at le fits entry is) = (op, is.staged_is, rw is.version_is entry)
committed_entry limits log place i p txn rest d (asked votes o last ph st at le is) = absurd (cc (d, is.down_is))
committed_entry limits log place i p txn rest d (to_abort acks v st ph at is) = absurd (cc (d, is.down_is))
committed_entry limits log place i p txn rest d (at_rest ph is) = absurd (cc (d, is.down_is))
committed_entry limits log place i p txn rest d (voted votes o v short ph st at c is) = absurd (cc (d, is.down_is))
committed_entry limits log place i p txn rest d (counted votes o v short ph st at c is) = absurd (cc (d, is.down_is))
committed_entry limits log place i p txn rest d (acked acks ph at is) = absurd (cc (d, is.down_is))
committed_entry limits log place i p txn rest d (finished acks ph at is) = absurd (cc (d, is.down_is))

-- the core's own table is the newest where Prepare comes
own_newest : {C Piece : Type 0} (messages : C → List Message) (core0 : LoggedCore0) (peers : List (Peer C Piece)) (i : ℕ) (p : Peer C Piece) (txn : ℕ) (op : Op) (rest : List Message) → (k : WorldIsKept messages core0 peers) → slice_get peers i ≡ Some p
    → messages p.down ≡ message.Prepare txn op ∷ rest → p.core.replica.shown ≡ worlds.newest (seen_world messages core0 peers)
own_newest messages core0 peers i p txn op rest k at down =
    let pair = (kept_inv messages core0 peers k).pairs i (seen_peer messages p) (map-get (seen_peer messages) peers i p at) in
    (k.peers_kept i p at).shown ∙ ap (table core0.core.replica.shown.limits core0.log.items) (prepared_newest core0.core.replica.shown.limits core0.log.items _ i (seen_peer messages p) txn op (commitments rest) (ap commitments down) pair)

-- the oldest message is one that the core waits for
pub awaits_oldest : {C Piece : Type 0} (messages : C → List Message) (core0 : LoggedCore0) (peers : List (Peer C Piece)) (i : ℕ) (p : Peer C Piece) → WorldIsKept messages core0 peers → slice_get peers i ≡ Some p → AwaitsOldest messages p
awaits_oldest messages core0 peers i p k at m rest down =
    by_message m down ((run_no_stranger k.limits k.budget k.budgets k.events (seen_world messages core0 peers) k.run).down i (seen_peer messages p) m rest (map-get (seen_peer messages) peers i p at) down)
  where
    by_message : (m : Message) → messages p.down ≡ m ∷ rest → Awaits (seen_world messages core0 peers) (seen_peer messages p) m → AwaitsHere p.core m
    by_message (message.Reply d) e a = a
    by_message (message.Prepare txn op) e a = rw (own_newest messages core0 peers i p txn op rest k at e) a
    by_message (message.Commit txn) e a = a
    by_message (message.Abort txn) e a = a
    by_message (message.Vote txn v) e a = a
    by_message (message.Ack txn) e a = a
    by_message (message.Submit op) e a = a

-- Commit and Abort are answered the same at every table
commit_any : (short : Bool) (s s' : TableState) (b txn : ℕ) (place place' : ParticipantPlace) (reply : Message) → Answers short s b place (message.Commit txn) place' reply → Answers short s' b place (message.Commit txn) place' reply
commit_any short s s' b txn place place' (message.Ack n) a = a
commit_any short s s' b txn place place' reply a = absurd a

abort_any : (short : Bool) (s s' : TableState) (b txn : ℕ) (place place' : ParticipantPlace) (reply : Message) → Answers short s b place (message.Abort txn) place' reply → Answers short s' b place (message.Abort txn) place' reply
abort_any short s s' b txn place place' (message.Ack n) a = a
abort_any short s s' b txn place place' reply a = absurd a

pub take_happens : {C Piece : Type 0} (messages : C → List Message) (core0 : LoggedCore0) (peers : List (Peer C Piece)) (i : ℕ) (p p' : Peer C Piece) (short : Bool) (answer : Answer) → WorldIsKept messages core0 peers → slice_get peers i ≡ Some p
    → PeerTakes short p.core.replica.shown (seen_peer messages p) p'.core.replica.shown (seen_peer messages p') answer → worlds.Happens (seen_world messages core0 peers) (Take (suc i) 0 short) (seen_world messages core0 (slice_set peers i p')) answer
take_happens messages core0 peers i p p' short answer k at t = record {
  peer = seen_peer messages p;
  is_peer = map-get (seen_peer messages) peers i p at;
  m = t.m;
  rest = t.rest;
  oldest = t.oldest;
  place = (seen_peer messages p').place;
  outstanding = (seen_peer messages p').outstanding;
  committed = t.committed;
  here = by_message t.m t.oldest t.here;
  next = seen_set messages core0 peers i p' ∙ ap (λ (q : worlds.Peer). record (seen_world messages core0 peers) { peers = slice_set (map (seen_peer messages) peers) i q }) changed;
}
  where
    changed : seen_peer messages p' ≡ record {
      budget = p.core.replica.budget;
      version = raised p.core.replica.shown.version t.committed;
      place = (seen_peer messages p').place;
      outstanding = (seen_peer messages p').outstanding;
      down = t.rest;
      up = messages p.up ++ option_to_list (sent_up (Take (suc i) 0 short) answer);
    }
    changed = rw (← t.same_budget, ← t.version_next, ← t.down_next, ← t.up_next) refl

    by_message : (m : Message) → messages p.down ≡ m ∷ t.rest
        → TakesDownAt short p.core.replica.shown p.core.replica.budget p.core.replica.shown.version (seen_peer messages p).place p.core.participant.outstanding m (seen_peer messages p').place p'.core.participant.outstanding t.committed answer
        → TakesDownAt short (worlds.newest (seen_world messages core0 peers)) p.core.replica.budget p.core.replica.shown.version (seen_peer messages p).place p.core.participant.outstanding m (seen_peer messages p').place p'.core.participant.outstanding t.committed answer
    by_message (message.Reply d) e h = h
    by_message (message.Prepare txn op) e h = record {
      reply = h.reply;
      answers = subst (λ (s : TableState). Answers short s p.core.replica.budget (seen_peer messages p).place (message.Prepare txn op) (seen_peer messages p').place h.reply) (own_newest messages core0 peers i p txn op t.rest k at e) h.answers;
      same_outstanding = h.same_outstanding;
      is_committed = h.is_committed;
      is_answer = h.is_answer;
    }
    by_message (message.Commit txn) e h = record { reply = h.reply; answers = commit_any short p.core.replica.shown (worlds.newest (seen_world messages core0 peers)) p.core.replica.budget txn (seen_peer messages p).place (seen_peer messages p').place h.reply h.answers; same_outstanding = h.same_outstanding; is_committed = h.is_committed; is_answer = h.is_answer }
    by_message (message.Abort txn) e h = record { reply = h.reply; answers = abort_any short p.core.replica.shown (worlds.newest (seen_world messages core0 peers)) p.core.replica.budget txn (seen_peer messages p).place (seen_peer messages p').place h.reply h.answers; same_outstanding = h.same_outstanding; is_committed = h.is_committed; is_answer = h.is_answer }
    by_message (message.Vote txn v) e h = absurd h.answers
    by_message (message.Ack txn) e h = absurd h.answers
    by_message (message.Submit op) e h = absurd h.answers

-- the core's table is that of its new version
take_shown : {C Piece : Type 0} (messages : C → List Message) (core0 : LoggedCore0) (peers : List (Peer C Piece)) (i : ℕ) (p p' : Peer C Piece) (short : Bool) (answer : Answer) → (k : WorldIsKept messages core0 peers) → slice_get peers i ≡ Some p
    → (t : PeerTakes short p.core.replica.shown (seen_peer messages p) p'.core.replica.shown (seen_peer messages p') answer) → p'.core.replica.shown ≡ table core0.core.replica.shown.limits core0.log.items p'.core.replica.shown.version
take_shown messages core0 peers i p p' short answer k at t = by_message t.m t.oldest t.here
  where
    -- nothing is committed
    stays : t.committed ≡ None → p'.core.replica.shown ≡ table core0.core.replica.shown.limits core0.log.items p'.core.replica.shown.version
    stays none =
        let same : p'.core.replica.shown ≡ p.core.replica.shown = t.table_next ∙ rw none refl in
        same ∙ ((k.peers_kept i p at).shown ∙ ap (λ (s : TableState). table core0.core.replica.shown.limits core0.log.items s.version) (sym same))

    by_message : (m : Message) → messages p.down ≡ m ∷ t.rest
        → TakesDownAt short p.core.replica.shown p.core.replica.budget p.core.replica.shown.version (seen_peer messages p).place p.core.participant.outstanding m (seen_peer messages p').place p'.core.participant.outstanding t.committed answer
        → p'.core.replica.shown ≡ table core0.core.replica.shown.limits core0.log.items p'.core.replica.shown.version
    by_message (message.Reply d) e h = stays h.none_committed
    by_message (message.Prepare txn op) e h = stays h.is_committed
    by_message (message.Abort txn) e h = stays h.is_committed
    by_message (message.Vote txn v) e h = absurd h.answers
    by_message (message.Ack txn) e h = absurd h.answers
    by_message (message.Submit op) e h = absurd h.answers
    by_message (message.Commit txn) e h =
        let pair = (kept_inv messages core0 peers k).pairs i (seen_peer messages p) (map-get (seen_peer messages) peers i p at) in
        let c = committed_entry core0.core.replica.shown.limits core0.log.items _ i (seen_peer messages p) txn (commitments t.rest) (ap commitments e) pair in
        let is : t.committed ≡ Some c.0 = h.is_committed ∙ c.1 in
        let next : p'.core.replica.shown ≡ after p.core.replica.shown c.0 = t.table_next ∙ ap (after_commit p.core.replica.shown) is in
        let version : p'.core.replica.shown.version ≡ p.core.replica.shown.version + 1 = t.version_next ∙ ap (raised p.core.replica.shown.version) is in
        next ∙ (ap (λ (s : TableState). after s c.0) (k.peers_kept i p at).shown ∙ (sym (table_at core0.core.replica.shown.limits core0.log.items p.core.replica.shown.version c.0 c.2) ∙ ap (table core0.core.replica.shown.limits core0.log.items) (sym version)))

pub take_kept : {C Piece : Type 0} (messages : C → List Message) (core0 : LoggedCore0) (peers : List (Peer C Piece)) (i : ℕ) (p p' : Peer C Piece) (short : Bool) (r : Result Answer WorldFault) → WorldIsKept messages core0 peers → slice_get peers i ≡ Some p
    → Takes messages short r p p' → WorldIsKept messages core0 (slice_set peers i p')
take_kept messages core0 peers i p p' short (Ok answer) k at t =
    event_kept messages core0 peers i p p' (Take (suc i) 0 short) answer k at (take_happens messages core0 peers i p p' short answer k at t.done)
    (record { shown = take_shown messages core0 peers i p p' short answer k at t.done; between = t.between })
take_kept messages core0 peers i p p' short (Err fault) k at t =
    same_kept messages core0 peers i p p' k at t.same (subst (λ (c : OtherCore). CoreIsKept core0.core.replica.shown.limits core0.log.items c) (sym t.same_core) (k.peers_kept i p at))
