-- Each event keeps the invariant.
use Rattle.std.proofs.Common.{◌≡◌, ◌≢◌, ◌+◌, ◌<◌, ◌≤◌, ◌⊎◌, inl, inr, ℕ, zero, suc, Bool, true, false, cond, Option, Some, None, List, [], ◌∷◌, ◌++◌, length, map, slice_get, slice_set, refl, ap, sym, ◌∙◌, subst, arith, replicate, length-append}
use Rattle.std.proofs.lemmas.List.{length-replicate, length-map, append-nil}
use Rattle.std.specs.List.{list_all}
use Rattle.std.specs.Prelude.{option_to_list}
use Rattle.filter_table.specs.Limits.{TableLimits}
use Rattle.filter_table.specs.declared.operation.Op.{Op}
use Rattle.filter_table.specs.Tables.{TableState, table, instructions, Allowed}
use Rattle.filter_table.proofs.Tables.{table_next}
use Rattle.monitor_messages.specs.declared.message.Message.{Message}
use Rattle.monitor_messages.specs.declared.message.Message.TheVariants as message
use Rattle.filter_table.specs.declared.decision.Vote.{Vote}
use Rattle.filter_table.specs.declared.decision.Vote.TheVariants as vote
use Rattle.filter_table.specs.declared.decision.Decision.{Decision}
use Rattle.two_phase.specs.declared.step.Step.{Step}
use Rattle.two_phase.specs.Participants.{ParticipantPlace, Casts, staged_by, Answers}
use Rattle.two_phase.specs.Coordinators.{CoordinatorPlace, Requests, CanStart, Phase, Idle, Voting, Acking, Starts, refused, unstaged, alone, prepared, Tallies, waits, commits_all, aborts_all, HearsAck, phase_with}
use Rattle.world_events.specs.declared.event.Event.{Event}
use Rattle.world_events.specs.declared.event.Event.TheVariants.{Take}
use Rattle.world_events.specs.declared.event.Answer.{Answer}
use Rattle.world_model.specs.Cases.{nothing, to_all, as_reply, said, outgoing, sent_up, raised, VoteAt, AckAt, TakesUpAt, AnswersAt, ReplyAt, TakesDownAt, Took}
use Rattle.world_model.specs.Worlds.{Peer, World, newest, send, sent_out, sent_to_one, core0_moves, HappensStart, HappensStartFor, HappensSubmit, HappensUp, gave, HappensDown}
use Rattle.world_model.specs.Agreement.{is_commitment, commitments}
use Rattle.world_model.proofs.Lists.{get-set_same, get-set_other, length-slice_set, get_map, get_replicate, get_end, all_true, some_false, same_or_not}
use Rattle.world_model.proofs.Invariant.{more_commitments, same_commitments, pair_like, PeerIs, Pair, at_rest, asked, voted, counted, to_commit, to_abort, acked, finished, Alone, Within, Inv, allowed_more, within_more, fits_more, within_sent}
use Rattle.std.proofs.lemmas.Option.{slice_get_within}

-- Start

-- where core 0 is idle, nothing is under way
pub rests : (limits : TableLimits) (log : List Op) (place : CoordinatorPlace) (i : ℕ) (p : Peer) → place.phase ≡ Idle → Pair limits log place i p → PeerIs p (length log) place.last None None [] []
rests limits log place i p idle (at_rest ph is) = is
rests limits log place i p idle (asked votes op last ph st at le is) = absurd cc
rests limits log place i p idle (voted votes op v short ph st at c is) = absurd cc
rests limits log place i p idle (counted votes op v short ph st at c is) = absurd cc
rests limits log place i p idle (to_commit acks op version ph at le fits entry is) = absurd cc
rests limits log place i p idle (to_abort acks v st ph at is) = absurd cc
rests limits log place i p idle (acked acks ph at is) = absurd cc
rests limits log place i p idle (finished acks ph at is) = absurd cc

asked_by : (limits : TableLimits) (log : List Op) (place : CoordinatorPlace) (op : Op) (n i : ℕ) (p : Peer) → i < n → place.phase ≡ Idle → Pair limits log place i p
    → Pair limits log (record { last = place.last + 1; phase = Voting (replicate n None); staged = Some op }) i (send (message.Prepare (place.last + 1) op) p)
asked_by limits log place op n i p h idle pair =
    let is = rests limits log place i p idle pair in
    asked (replicate n None) op place.last refl refl (get_replicate n i None h) refl (record {
      version_is = is.version_is;
      last_is = is.last_is;
      voted_is = is.voted_is;
      staged_is = is.staged_is;
      down_is = more_commitments p.down (message.Prepare (place.last + 1) op) [] refl is.down_is;
      up_is = is.up_is;
    })

-- what core 0 keeps of requests is nothing to the other cores' places
pub with_requests : (w : World) (requests : Requests) → Inv w → Inv (record w { requests = requests })
with_requests w requests inv = record { version = inv.version; fits = inv.fits; allowed = inv.allowed; alone_ok = inv.alone_ok; pairs = inv.pairs; within = inv.within }

prepared_inv : (w : World) (requests : Requests) (op : Op) → Inv w → w.place.phase ≡ Idle → Allowed (newest w) w.budget op None → 0 < length w.peers
    → Inv (core0_moves w (record { last = w.place.last + 1; phase = Voting (replicate (length w.peers) None); staged = Some op }) requests None (to_all (message.Prepare (w.place.last + 1) op)))
prepared_inv w requests op inv idle allowed some = record {
  version = inv.version;
  fits = inv.fits;
  allowed = inv.allowed;
  alone_ok = (op, 0, refl, allowed, simp (length-map, length-replicate), get_replicate (length w.peers) 0 None some);
  pairs = λ i p at. let r = get_map (send (message.Prepare (w.place.last + 1) op)) w.peers i p at in
      rw r.2 (asked_by w.limits w.log w.place op (length w.peers) i r.0 (slice_get_within w.peers i r.0 r.1) idle (inv.pairs i r.0 r.1));
  within = λ i p at. let r = get_map (send (message.Prepare (w.place.last + 1) op)) w.peers i p at in
      rw r.2 (within_sent w.limits w.log (message.Prepare (w.place.last + 1) op) r.0 (inv.within i r.0 r.1));
}

alone_inv : (w : World) (requests : Requests) (op : Op) → Inv w → Allowed (newest w) w.budget op None → length w.peers ≡ 0
    → Inv (core0_moves w (record { last = w.place.last + 1; phase = Idle; staged = None }) requests (Some op) nothing)
alone_inv w requests op inv allowed none = record {
  version = omega (arith, inv.version, length-append w.log (op ∷ []));
  fits = fits_more w.limits w.log op w.budget allowed inv.fits;
  allowed = allowed_more w.limits w.log op w.budget allowed inv.allowed;
  alone_ok = refl;
  pairs = λ i p at. absurd (omega (arith, slice_get_within w.peers i p at));
  within = λ i p at. absurd (omega (arith, slice_get_within w.peers i p at));
}

-- one core is changed, and nothing else
with_peer : World → ℕ → Peer → World
with_peer w i p = record w { peers = slice_set w.peers i p }

peer_inv : (w : World) (i : ℕ) (old p : Peer) → Inv w → slice_get w.peers i ≡ Some old → Pair w.limits w.log w.place i p → Within w.limits w.log p → Inv (with_peer w i p)
unfolding with_peer
peer_inv w i old p inv at pair within = record {
  version = inv.version;
  fits = inv.fits;
  allowed = inv.allowed;
  alone_ok = rw (length-slice_set w.peers i p) inv.alone_ok;
  pairs = λ j q here. by_place j q here (same_or_not i j);
  within = λ j q here. within_by j q here (same_or_not i j);
}
  where
    same : (j : ℕ) (q : Peer) → i ≡ j → slice_get (slice_set w.peers i p) j ≡ Some q → q ≡ p
    same j q e here = let h : slice_get (slice_set w.peers i p) i ≡ Some q = subst (λ (k : ℕ). slice_get (slice_set w.peers i p) k ≡ Some q) (sym e) here in let s = get-set_same w.peers i p old at in cc

    by_place : (j : ℕ) (q : Peer) → slice_get (slice_set w.peers i p) j ≡ Some q → ((i ≡ j) ⊎ (i ≡ j → ⊥)) → Pair w.limits w.log w.place j q
    by_place j q here (inl e) = rw (same j q e here, ← e) pair
    by_place j q here (inr ne) = inv.pairs j q (sym (get-set_other w.peers i j p ne) ∙ here)

    within_by : (j : ℕ) (q : Peer) → slice_get (slice_set w.peers i p) j ≡ Some q → ((i ≡ j) ⊎ (i ≡ j → ⊥)) → Within w.limits w.log q
    within_by j q here (inl e) = rw (same j q e here) within
    within_by j q here (inr ne) = inv.within j q (sym (get-set_other w.peers i j p ne) ∙ here)

-- a Reply is nothing to it
pub replied_inv : (w : World) (reply : Option (ℕ × Decision)) → Inv w → Inv (record w { peers = sent_out w.peers (as_reply reply) })
unfolding with_peer
replied_inv w None inv = inv
replied_inv w (Some (zero, decision)) inv = inv
replied_inv w (Some (suc i, decision)) inv = by_peer (slice_get w.peers i) refl
  where
    by_peer : (o : Option Peer) → slice_get w.peers i ≡ o → Inv (record w { peers = sent_to_one w.peers i (message.Reply decision) o })
    by_peer None e = inv
    by_peer (Some p) e =
        let x = inv.within i p e in
        peer_inv w i p (send (message.Reply decision) p) inv e
        (pair_like w.limits w.log w.place i p (send (message.Reply decision) p) refl refl refl (same_commitments p.down (message.Reply decision) (commitments p.down) refl refl) refl (inv.pairs i p e))
        (record { not_ahead = x.not_ahead; fits = x.fits })

-- core 0 begins an operation, of its own or another core's
begin_inv : (w : World) (requests : Requests) (op : Op) (place : CoordinatorPlace) (committed : Option Op) (begun : Step) (reply : Option (ℕ × Decision)) → Inv w → CanStart w.place
    → Starts (length w.peers) (newest w) w.budget w.place op place committed begun → Inv (core0_moves w place requests committed (said begun.say begun.txn place.staged reply))
begin_inv w requests op place committed begun reply inv can starts = by_case starts
  where
    by_case : Starts (length w.peers) (newest w) w.budget w.place op place committed begun → Inv (core0_moves w place requests committed (said begun.say begun.txn place.staged reply))
    by_case (refused fault a p c t) = rw (p, c, t) (replied_inv (record w { requests = requests }) reply (with_requests w requests inv))
    by_case (unstaged f p c t) = rw (p, c, t) (replied_inv (record w { requests = requests }) reply (with_requests w requests inv))
    by_case (alone a n p c t) = rw (p, c, t) (replied_inv _ reply (alone_inv w requests op inv a n))
    by_case (prepared a n p c t) = rw (p, c, t) (prepared_inv w requests op inv can.0 a n)

pub start_inv : (w w' : World) (op : Op) (answer : Answer) → Inv w → HappensStart w op w' answer → Inv w'
start_inv w w' op answer inv h = rw h.next (begin_inv w w.requests op h.place h.committed h.told h.told.reply inv h.here.can_start h.here.starts)

pub start_for_inv : (w w' : World) (i : ℕ) (answer : Answer) → Inv w → HappensStartFor w i w' answer → Inv w'
start_for_inv w w' i answer inv h = rw (h.next, h.here.starts.tells) (begin_inv w h.requests h.here.starts.op h.place h.committed h.here.starts.begun _ inv h.here.can_start h.here.starts.starts)

-- A core other than core 0 submits a request

pub submit_inv : (w w' : World) (i : ℕ) (op : Op) (answer : Answer) → Inv w → HappensSubmit w i op w' answer → Inv w'
unfolding with_peer
submit_inv w w' i op answer inv h =
    let x = inv.within i h.peer h.is_peer in
    rw (h.next, h.here.is_answer) (peer_inv w i h.peer _ inv h.is_peer
    (pair_like w.limits w.log w.place i h.peer _ refl refl refl refl (same_commitments h.peer.up (message.Submit op) (commitments h.peer.up) refl refl) (inv.pairs i h.peer h.is_peer))
    (record { not_ahead = x.not_ahead; fits = x.fits }))

-- A core other than core 0 takes a message

-- the core after it took a message and sent what the answer sends
took_down : Peer → ℕ → ParticipantPlace → Bool → Option Op → List Message → Event → Answer → Peer
took_down p version place outstanding committed rest event answer = record {
  budget = p.budget;
  version = raised version committed;
  place = place;
  outstanding = outstanding;
  down = rest;
  up = p.up ++ option_to_list (sent_up event answer);
}

prepare_down : (limits : TableLimits) (log : List Op) (core0 : CoordinatorPlace) (i : ℕ) (short : Bool) (p : Peer) (op : Op) (votes : List (Option Vote)) (last : ℕ) (place : ParticipantPlace) (outstanding : Bool) (rest : List Message) (answer : Answer) (reply : Message)
    → commitments rest ≡ [] → core0.phase ≡ Voting votes → core0.staged ≡ Some op → slice_get votes i ≡ Some None
    → PeerIs p (length log) last None None (message.Prepare core0.last op ∷ []) []
    → Answers short (table limits log (length log)) p.budget p.place (message.Prepare core0.last op) place reply
    → Took (message.Prepare core0.last op) reply p.version answer
    → Pair limits log core0 i (took_down p p.version place outstanding None rest (Take (suc i) 0 short) answer)
unfolding took_down
prepare_down limits log core0 i short p op votes last place outstanding rest answer (message.Vote txn v) none ph st at is a t =
    voted votes op v short ph st at a.2 (record {
      version_is = is.version_is;
      last_is = ap (λ (q : ParticipantPlace). q.last) a.3;
      voted_is = ap (λ (q : ParticipantPlace). q.voted) a.3;
      staged_is = ap (λ (q : ParticipantPlace). q.staged) a.3;
      down_is = none;
      up_is = rw t (more_commitments p.up (message.Vote core0.last v) [] refl is.up_is);
    })
prepare_down limits log core0 i short p op votes last place outstanding rest answer reply none ph st at is a t = absurd a

acked_down : (limits : TableLimits) (log : List Op) (core0 : CoordinatorPlace) (i : ℕ) (p : Peer) (acks : List Bool) (place : ParticipantPlace) (outstanding : Bool) (committed : Option Op) (rest : List Message) (event : Event) (answer : Answer)
    → commitments rest ≡ [] → core0.phase ≡ Acking acks → slice_get acks i ≡ Some false → raised p.version committed ≡ length log → commitments p.up ≡ []
    → place ≡ record { last = core0.last; voted = None; staged = None } → sent_up event answer ≡ Some (message.Ack core0.last)
    → Pair limits log core0 i (took_down p p.version place outstanding committed rest event answer)
unfolding took_down
acked_down limits log core0 i p acks place outstanding committed rest event answer none ph at le up new sent =
    acked acks ph at (record {
      version_is = le;
      last_is = ap (λ (q : ParticipantPlace). q.last) new;
      voted_is = ap (λ (q : ParticipantPlace). q.voted) new;
      staged_is = ap (λ (q : ParticipantPlace). q.staged) new;
      down_is = none;
      up_is = rw sent (more_commitments p.up (message.Ack core0.last) [] refl up);
    })

-- what Commit or Abort leads to
commit_leads : (short : Bool) (s : TableState) (b txn i : ℕ) (place place' : ParticipantPlace) (version : ℕ) (answer : Answer) (reply : Message)
    → Answers short s b place (message.Commit txn) place' reply → Took (message.Commit txn) reply version answer
    → (place' ≡ record { last = txn; voted = None; staged = None }) × (sent_up (Take (suc i) 0 short) answer ≡ Some (message.Ack txn))
commit_leads short s b txn i place place' version answer (message.Ack txn') a t = (a.2, rw t refl)
commit_leads short s b txn i place place' version answer reply a t = absurd a

abort_leads : (short : Bool) (s : TableState) (b txn i : ℕ) (place place' : ParticipantPlace) (version : ℕ) (answer : Answer) (reply : Message)
    → Answers short s b place (message.Abort txn) place' reply → Took (message.Abort txn) reply version answer
    → (place' ≡ record { last = txn; voted = None; staged = None }) × (sent_up (Take (suc i) 0 short) answer ≡ Some (message.Ack txn))
abort_leads short s b txn i place place' version answer (message.Ack txn') a t = (a.2, rw t refl)
abort_leads short s b txn i place place' version answer reply a t = absurd a

-- the core's pair and bounds after it took a message of two-phase commit
answered_inv : (w w' : World) (i : ℕ) (short : Bool) (answer : Answer) → Inv w → (h : HappensDown w i short w' answer) → is_commitment h.m ≡ true
    → AnswersAt short (newest w) h.peer.budget h.peer.version h.peer.place h.peer.outstanding h.m h.place h.outstanding h.committed answer → Inv w'
unfolding with_peer took_down
answered_inv w w' i short answer inv h known here = by_pair (inv.pairs i h.peer h.is_peer)
  where
    front : commitments h.peer.down ≡ h.m ∷ commitments h.rest
    front = ap commitments h.oldest ∙ rw known refl

    settled : (committed : Option Op) → h.committed ≡ committed → Pair w.limits w.log w.place i (took_down h.peer h.peer.version h.place h.outstanding committed h.rest (Take (suc i) 0 short) answer)
        → raised h.peer.version committed ≤ length w.log → instructions (table w.limits w.log (raised h.peer.version committed)) ≤ h.peer.budget → Inv w'
    settled committed c pair le fits =
        rw (h.next, c) (peer_inv w i h.peer _ inv h.is_peer pair (record { not_ahead = le; fits = fits }))

    by_pair : Pair w.limits w.log w.place i h.peer → Inv w'
    by_pair (at_rest ph is) = absurd (cc (front, is.down_is))
    by_pair (voted votes op v s ph st at c is) = absurd (cc (front, is.down_is))
    by_pair (counted votes op v s ph st at c is) = absurd (cc (front, is.down_is))
    by_pair (acked acks ph at is) = absurd (cc (front, is.down_is))
    by_pair (finished acks ph at is) = absurd (cc (front, is.down_is))
    by_pair (asked votes op last ph st at le is) =
        let m : h.m ≡ message.Prepare w.place.last op = cc (front, is.down_is) in
        let r : commitments h.rest ≡ [] = cc (front, is.down_is) in
        let c : h.committed ≡ None = here.is_committed ∙ rw m refl in
        let within = inv.within i h.peer h.is_peer in
        settled None c (prepare_down w.limits w.log w.place i short h.peer op votes last h.place h.outstanding h.rest answer here.reply r ph st at is (rw m at here.answers) (rw (m, c) at here.is_answer)) within.not_ahead within.fits
    by_pair (to_commit acks op version ph at le fits entry is) =
        let m : h.m ≡ message.Commit w.place.last = cc (front, is.down_is) in
        let r : commitments h.rest ≡ [] = cc (front, is.down_is) in
        let c : h.committed ≡ Some op = here.is_committed ∙ rw (m, is.staged_is) refl in
        let up : h.peer.version + 1 ≡ length w.log = omega (arith, is.version_is, le) in
        let leads = commit_leads short (newest w) h.peer.budget w.place.last i h.peer.place h.place _ answer here.reply (rw m at here.answers) (rw m at here.is_answer) in
        settled (Some op) c (acked_down w.limits w.log w.place i h.peer acks h.place h.outstanding (Some op) h.rest (Take (suc i) 0 short) answer r ph at up is.up_is leads.0 leads.1) (omega arith) (rw up fits)
    by_pair (to_abort acks v staged ph at is) =
        let m : h.m ≡ message.Abort w.place.last = cc (front, is.down_is) in
        let r : commitments h.rest ≡ [] = cc (front, is.down_is) in
        let c : h.committed ≡ None = here.is_committed ∙ rw m refl in
        let within = inv.within i h.peer h.is_peer in
        let leads = abort_leads short (newest w) h.peer.budget w.place.last i h.peer.place h.place _ answer here.reply (rw m at here.answers) (rw m at here.is_answer) in
        settled None c (acked_down w.limits w.log w.place i h.peer acks h.place h.outstanding None h.rest (Take (suc i) 0 short) answer r ph at is.version_is is.up_is leads.0 leads.1) within.not_ahead within.fits

-- a Reply that it takes is nothing to its place
reply_inv : (w w' : World) (i : ℕ) (short : Bool) (answer : Answer) (decision : Decision) → Inv w → (h : HappensDown w i short w' answer) → h.m ≡ message.Reply decision
    → ReplyAt h.peer.place h.peer.outstanding decision h.place h.outstanding h.committed answer → Inv w'
unfolding with_peer
reply_inv w w' i short answer decision inv h m here =
    let x = inv.within i h.peer h.is_peer in
    let front : commitments h.rest ≡ commitments h.peer.down = sym (ap commitments h.oldest ∙ rw m refl) in
    rw (h.next, here.same_place, here.none_committed, here.is_answer) (peer_inv w i h.peer _ inv h.is_peer
    (pair_like w.limits w.log w.place i h.peer _ refl refl refl front (ap commitments (append-nil h.peer.up)) (inv.pairs i h.peer h.is_peer))
    (record { not_ahead = x.not_ahead; fits = x.fits }))

pub down_inv : (w w' : World) (i : ℕ) (short : Bool) (answer : Answer) → Inv w → HappensDown w i short w' answer → Inv w'
down_inv w w' i short answer inv h = by_message h.m refl h.here
  where
    by_message : (m : Message) → h.m ≡ m → TakesDownAt short (newest w) h.peer.budget h.peer.version h.peer.place h.peer.outstanding m h.place h.outstanding h.committed answer → Inv w'
    by_message (message.Reply decision) e here = reply_inv w w' i short answer decision inv h e here
    by_message (message.Prepare txn op) e here = answered_inv w w' i short answer inv h (ap is_commitment e) (rw e here)
    by_message (message.Commit txn) e here = answered_inv w w' i short answer inv h (ap is_commitment e) (rw e here)
    by_message (message.Abort txn) e here = answered_inv w w' i short answer inv h (ap is_commitment e) (rw e here)
    by_message (message.Vote txn v) e here = answered_inv w w' i short answer inv h (ap is_commitment e) (rw e here)
    by_message (message.Ack txn) e here = answered_inv w w' i short answer inv h (ap is_commitment e) (rw e here)
    by_message (message.Submit op) e here = absurd here.answers

-- Core 0 takes a vote

-- a core whose vote is under way has cast it on the operation
pub record Voter (limits : TableLimits) (log : List Op) (place : CoordinatorPlace) (p : Peer) (op : Op) (v : Vote) (rest : List Message) : Type 0 where
  pub short : Bool
  pub casts : Casts short (table limits log (length log)) p.budget op v
  pub is : PeerIs p (length log) place.last (Some v) (staged_by v op) [] (message.Vote place.last v ∷ [])
  pub no_more : commitments rest ≡ []

voter : (limits : TableLimits) (log : List Op) (place : CoordinatorPlace) (i : ℕ) (p : Peer) (votes : List (Option Vote)) (op : Op) (txn : ℕ) (v : Vote) (rest : List Message)
    → place.phase ≡ Voting votes → place.staged ≡ Some op → commitments p.up ≡ message.Vote txn v ∷ commitments rest → Pair limits log place i p → Voter limits log place p op v rest
voter limits log place i p votes op txn v rest ph st up (voted votes' op' v' short ph' st' at c is) =
    let same_op : op' ≡ op = cc in
    let same_vote : v' ≡ v = cc (up, is.up_is) in
    record {
      short = short;
      casts = subst (λ (x : Vote). Casts short (table limits log (length log)) p.budget op x) same_vote (subst (λ (o : Op). Casts short (table limits log (length log)) p.budget o v') same_op c);
      is = record {
        version_is = is.version_is;
        last_is = is.last_is;
        voted_is = cc (is.voted_is, same_vote);
        staged_is = is.staged_is ∙ rw (same_op, same_vote) refl;
        down_is = is.down_is;
        up_is = is.up_is ∙ rw same_vote refl;
      };
      no_more = cc (up, is.up_is);
    }
voter limits log place i p votes op txn v rest ph st up (at_rest ph' is) = absurd cc
voter limits log place i p votes op txn v rest ph st up (asked votes' op' last ph' st' at le is) = absurd (cc (up, is.up_is))
voter limits log place i p votes op txn v rest ph st up (counted votes' op' v' short ph' st' at c is) = absurd (cc (up, is.up_is))
voter limits log place i p votes op txn v rest ph st up (to_commit acks op' version ph' at le fits entry is) = absurd cc
voter limits log place i p votes op txn v rest ph st up (to_abort acks v' st' ph' at is) = absurd cc
voter limits log place i p votes op txn v rest ph st up (acked acks ph' at is) = absurd cc
voter limits log place i p votes op txn v rest ph st up (finished acks ph' at is) = absurd cc

unfoldable pub voting_on : ℕ → List (Option Vote) → Op → CoordinatorPlace
voting_on last votes op = record { last = last; phase = Voting votes; staged = Some op }

-- another core's vote leaves this core where it was
revote : (limits : TableLimits) (log : List Op) (place : CoordinatorPlace) (votes votes' : List (Option Vote)) (op : Op) (j : ℕ) (q : Peer)
    → place.phase ≡ Voting votes → place.staged ≡ Some op → slice_get votes' j ≡ slice_get votes j → Pair limits log place j q → Pair limits log (voting_on place.last votes' op) j q
unfolding voting_on
revote limits log place votes votes' op j q ph st same (asked vs o last ph' st' at le is) = asked votes' op last refl refl (cc) le (record { version_is = is.version_is; last_is = is.last_is; voted_is = is.voted_is; staged_is = is.staged_is; down_is = (let e : o ≡ op = cc in rw (← e) is.down_is); up_is = is.up_is })
revote limits log place votes votes' op j q ph st same (voted vs o v short ph' st' at c is) =
    let e : o ≡ op = cc in
    voted votes' op v short refl refl (cc) (subst (λ (x : Op). Casts short (table limits log (length log)) q.budget x v) e c) (record { version_is = is.version_is; last_is = is.last_is; voted_is = is.voted_is; staged_is = is.staged_is ∙ rw e refl; down_is = is.down_is; up_is = is.up_is })
revote limits log place votes votes' op j q ph st same (counted vs o v short ph' st' at c is) =
    let e : o ≡ op = cc in
    counted votes' op v short refl refl (cc) (subst (λ (x : Op). Casts short (table limits log (length log)) q.budget x v) e c) (record { version_is = is.version_is; last_is = is.last_is; voted_is = is.voted_is; staged_is = is.staged_is ∙ rw e refl; down_is = is.down_is; up_is = is.up_is })
revote limits log place votes votes' op j q ph st same (at_rest ph' is) = absurd cc
revote limits log place votes votes' op j q ph st same (to_commit acks o version ph' at le fits entry is) = absurd cc
revote limits log place votes votes' op j q ph st same (to_abort acks v st' ph' at is) = absurd cc
revote limits log place votes votes' op j q ph st same (acked acks ph' at is) = absurd cc
revote limits log place votes votes' op j q ph st same (finished acks ph' at is) = absurd cc

-- where every vote is Yes, Commit goes out, and the log has the operation
commit_out : (limits : TableLimits) (log : List Op) (last : ℕ) (votes : List (Option Vote)) (op : Op) (j : ℕ) (q : Peer)
    → ((k : ℕ) (v : Option Vote) → slice_get votes k ≡ Some v → v ≡ Some vote.Yes) → Pair limits log (voting_on last votes op) j q
    → Pair limits (log ++ op ∷ []) (record { last = last; phase = Acking (replicate (length votes) false); staged = None }) j (send (message.Commit last) q)
unfolding voting_on
commit_out limits log last votes op j q all (asked vs o l ph st at le is) = absurd (let e : vs ≡ votes = cc in let y = all j None (rw (← e) at) in cc)
commit_out limits log last votes op j q all (voted vs o v short ph st at c is) = absurd (let e : vs ≡ votes = cc in let y = all j None (rw (← e) at) in cc)
commit_out limits log last votes op j q all (counted vs o v short ph st at c is) =
    let e : vs ≡ votes = cc in
    let eo : o ≡ op = cc in
    let here : slice_get votes j ≡ Some (Some v) = rw (← e) at in
    let y : v ≡ vote.Yes = (let h = all j (Some v) here in cc) in
    let casts = subst (λ (x : Vote). Casts short (table limits log (length log)) q.budget op x) y (subst (λ (x : Op). Casts short (table limits log (length log)) q.budget x v) eo c) in
    to_commit (replicate (length votes) false) op (length log) refl (get_replicate (length votes) j false (slice_get_within votes j (Some v) here)) (length-append log (op ∷ []))
    (rw (table_next limits log op) casts.1) (get_end log op)
    (record { version_is = is.version_is; last_is = is.last_is; voted_is = is.voted_is ∙ rw y refl; staged_is = is.staged_is ∙ rw (y, eo) refl; down_is = more_commitments q.down (message.Commit last) [] refl is.down_is; up_is = is.up_is })
commit_out limits log last votes op j q all (at_rest ph is) = absurd cc
commit_out limits log last votes op j q all (to_commit acks o version ph at le fits entry is) = absurd cc
commit_out limits log last votes op j q all (to_abort acks v st ph at is) = absurd cc
commit_out limits log last votes op j q all (acked acks ph at is) = absurd cc
commit_out limits log last votes op j q all (finished acks ph at is) = absurd cc

-- where all have voted, Abort may go out
abort_out : (limits : TableLimits) (log : List Op) (last : ℕ) (votes : List (Option Vote)) (op : Op) (j : ℕ) (q : Peer)
    → ((k : ℕ) → slice_get votes k ≢ Some None) → Pair limits log (voting_on last votes op) j q
    → Pair limits log (record { last = last; phase = Acking (replicate (length votes) false); staged = None }) j (send (message.Abort last) q)
unfolding voting_on
abort_out limits log last votes op j q all (asked vs o l ph st at le is) = absurd (let e : vs ≡ votes = cc in all j (rw (← e) at))
abort_out limits log last votes op j q all (voted vs o v short ph st at c is) = absurd (let e : vs ≡ votes = cc in all j (rw (← e) at))
abort_out limits log last votes op j q all (counted vs o v short ph st at c is) =
    let e : vs ≡ votes = cc in
    let here : slice_get votes j ≡ Some (Some v) = rw (← e) at in
    to_abort (replicate (length votes) false) v (staged_by v o) refl (get_replicate (length votes) j false (slice_get_within votes j (Some v) here))
    (record { version_is = is.version_is; last_is = is.last_is; voted_is = is.voted_is; staged_is = is.staged_is; down_is = more_commitments q.down (message.Abort last) [] refl is.down_is; up_is = is.up_is })
abort_out limits log last votes op j q all (at_rest ph is) = absurd cc
abort_out limits log last votes op j q all (to_commit acks o version ph at le fits entry is) = absurd cc
abort_out limits log last votes op j q all (to_abort acks v st ph at is) = absurd cc
abort_out limits log last votes op j q all (acked acks ph at is) = absurd cc
abort_out limits log last votes op j q all (finished acks ph at is) = absurd cc

-- all other cores, once the vote is noted and before it is known what comes of it
pub record Polled (w : World) (peers : List Peer) (place : CoordinatorPlace) : Type 0 where
  pub pairs : (j : ℕ) (q : Peer) → slice_get peers j ≡ Some q → Pair w.limits w.log place j q
  pub within : (j : ℕ) (q : Peer) → slice_get peers j ≡ Some q → Within w.limits w.log q

pub polled : (w : World) (i : ℕ) (p : Peer) (votes : List (Option Vote)) (op : Op) (txn : ℕ) (v : Vote) (rest : List Message)
    → Inv w → slice_get w.peers i ≡ Some p → w.place.phase ≡ Voting votes → w.place.staged ≡ Some op → slice_get votes i ≡ Some None → commitments p.up ≡ message.Vote txn v ∷ commitments rest
    → Polled w (slice_set w.peers i (record p { up = rest })) (voting_on w.place.last (slice_set votes i (Some v)) op)
unfolding voting_on
polled w i p votes op txn v rest inv at ph st none up = record {
  pairs = λ j q here. pair_at j q here (same_or_not i j);
  within = λ j q here. within_at j q here (same_or_not i j);
}
  where
    same : (j : ℕ) (q : Peer) → i ≡ j → slice_get (slice_set w.peers i (record p { up = rest })) j ≡ Some q → q ≡ record p { up = rest }
    same j q e here = let h : slice_get (slice_set w.peers i (record p { up = rest })) i ≡ Some q = subst (λ (k : ℕ). slice_get (slice_set w.peers i (record p { up = rest })) k ≡ Some q) (sym e) here in let s = get-set_same w.peers i (record p { up = rest }) p at in cc

    mine : Pair w.limits w.log (voting_on w.place.last (slice_set votes i (Some v)) op) i (record p { up = rest })
    mine =
        let t = voter w.limits w.log w.place i p votes op txn v rest ph st up (inv.pairs i p at) in
        counted (slice_set votes i (Some v)) op v t.short refl refl (get-set_same votes i (Some v) None none) t.casts
        (record { version_is = t.is.version_is; last_is = t.is.last_is; voted_is = t.is.voted_is; staged_is = t.is.staged_is; down_is = t.is.down_is; up_is = t.no_more })

    pair_at : (j : ℕ) (q : Peer) → slice_get (slice_set w.peers i (record p { up = rest })) j ≡ Some q → ((i ≡ j) ⊎ (i ≡ j → ⊥)) → Pair w.limits w.log (voting_on w.place.last (slice_set votes i (Some v)) op) j q
    pair_at j q here (inl e) = rw (same j q e here, ← e) mine
    pair_at j q here (inr ne) = revote w.limits w.log w.place votes (slice_set votes i (Some v)) op j q ph st (get-set_other votes i j (Some v) ne) (inv.pairs j q (sym (get-set_other w.peers i j (record p { up = rest }) ne) ∙ here))

    within_at : (j : ℕ) (q : Peer) → slice_get (slice_set w.peers i (record p { up = rest })) j ≡ Some q → ((i ≡ j) ⊎ (i ≡ j → ⊥)) → Within w.limits w.log q
    within_at j q here (inl e) = rw (same j q e here) (let h = inv.within i p at in record { not_ahead = h.not_ahead; fits = h.fits })
    within_at j q here (inr ne) = inv.within j q (sym (get-set_other w.peers i j (record p { up = rest }) ne) ∙ here)

-- core 0 by itself, at the operation that is voted on
pub record OnVote (w : World) (votes : List (Option Vote)) (op : Op) : Type 0 where
  pub allowed : Allowed (newest w) w.budget op None
  pub long : length votes ≡ length w.peers

pub on_vote : (w : World) (votes : List (Option Vote)) (op : Op) → Inv w → w.place.phase ≡ Voting votes → w.place.staged ≡ Some op → OnVote w votes op
on_vote w votes op inv ph st =
    let a : Alone (length w.peers) (newest w) w.budget (Voting votes) (Some op) =
    subst (λ (o : Option Op). Alone (length w.peers) (newest w) w.budget (Voting votes) o) st (subst (λ (x : Phase). Alone (length w.peers) (newest w) w.budget x w.place.staged) ph inv.alone_ok) in
    let e : a.0 ≡ op = cc (a.2) in
    record { allowed = rw (← e) a.3; long = a.4 }

waits_inv : (w : World) (requests : Requests) (votes : List (Option Vote)) (op : Op) (peers : List Peer) (k : ℕ) → Inv w → OnVote w votes op → length peers ≡ length w.peers → slice_get votes k ≡ Some None
    → Polled w peers (voting_on w.place.last votes op)
    → Inv (record { limits = w.limits; log = w.log; budget = w.budget; version = w.version; place = voting_on w.place.last votes op; requests = requests; peers = peers })
unfolding voting_on
waits_inv w requests votes op peers k inv on len none polled = record {
  version = inv.version;
  fits = inv.fits;
  allowed = inv.allowed;
  alone_ok = (op, k, refl, on.allowed, on.long ∙ sym len, none);
  pairs = polled.pairs;
  within = polled.within;
}

commit_inv : (w : World) (requests : Requests) (votes : List (Option Vote)) (op : Op) (peers : List Peer) (i : ℕ) (v : Option Vote) → Inv w → OnVote w votes op → length peers ≡ length w.peers → slice_get votes i ≡ Some v
    → ((k : ℕ) (v : Option Vote) → slice_get votes k ≡ Some v → v ≡ Some vote.Yes)
    → Polled w peers (voting_on w.place.last votes op)
    → Inv (record { limits = w.limits; log = w.log ++ op ∷ []; budget = w.budget; version = w.version + 1; place = record { last = w.place.last; phase = Acking (replicate (length votes) false); staged = None }; requests = requests; peers = map (send (message.Commit w.place.last)) peers })
commit_inv w requests votes op peers i v inv on len at all polled = record {
  version = omega (arith, inv.version, length-append w.log (op ∷ []));
  fits = fits_more w.limits w.log op w.budget on.allowed inv.fits;
  allowed = allowed_more w.limits w.log op w.budget on.allowed inv.allowed;
  alone_ok = (i, refl, simp (length-map, length-replicate) (on.long ∙ sym len), get_replicate (length votes) i false (slice_get_within votes i v at));
  pairs = λ j q here. let r = get_map (send (message.Commit w.place.last)) peers j q here in rw r.2 (commit_out w.limits w.log w.place.last votes op j r.0 all (polled.pairs j r.0 r.1));
  within = λ j q here. let r = get_map (send (message.Commit w.place.last)) peers j q here in rw r.2 (within_sent w.limits (w.log ++ op ∷ []) (message.Commit w.place.last) r.0 (within_more w.limits w.log op r.0 (polled.within j r.0 r.1)));
}

abort_inv : (w : World) (requests : Requests) (votes : List (Option Vote)) (op : Op) (peers : List Peer) (i : ℕ) (v : Option Vote) → Inv w → OnVote w votes op → length peers ≡ length w.peers → slice_get votes i ≡ Some v
    → ((k : ℕ) → slice_get votes k ≢ Some None)
    → Polled w peers (voting_on w.place.last votes op)
    → Inv (record { limits = w.limits; log = w.log; budget = w.budget; version = w.version; place = record { last = w.place.last; phase = Acking (replicate (length votes) false); staged = None }; requests = requests; peers = map (send (message.Abort w.place.last)) peers })
abort_inv w requests votes op peers i v inv on len at all polled = record {
  version = inv.version;
  fits = inv.fits;
  allowed = inv.allowed;
  alone_ok = (i, refl, simp (length-map, length-replicate) (on.long ∙ sym len), get_replicate (length votes) i false (slice_get_within votes i v at));
  pairs = λ j q here. let r = get_map (send (message.Abort w.place.last)) peers j q here in rw r.2 (abort_out w.limits w.log w.place.last votes op j r.0 all (polled.pairs j r.0 r.1));
  within = λ j q here. let r = get_map (send (message.Abort w.place.last)) peers j q here in rw r.2 (within_sent w.limits w.log (message.Abort w.place.last) r.0 (polled.within j r.0 r.1));
}

vote_inv : (w w' : World) (i txn : ℕ) (v : Vote) (answer : Answer) → Inv w → (h : HappensUp w i w' answer) → h.m ≡ message.Vote txn v
    → VoteAt (newest w) w.place w.requests i txn v h.place h.requests h.committed h.told answer → Inv w'
unfolding voting_on
vote_inv w w' i txn v answer inv h m here = by_tally here.hears.tallies
  where
    front : commitments h.peer.up ≡ message.Vote txn v ∷ commitments h.rest
    front = ap commitments h.oldest ∙ rw m refl

    now : slice_get (slice_set here.hears.votes i (Some v)) i ≡ Some (Some v)
    now = get-set_same here.hears.votes i (Some v) None here.hears.first_vote

    ps : Polled w (slice_set w.peers i (record h.peer { up = h.rest })) (voting_on w.place.last (slice_set here.hears.votes i (Some v)) here.hears.op)
    ps = polled w i h.peer here.hears.votes here.hears.op txn v h.rest inv h.is_peer here.hears.voting here.hears.on_op here.hears.first_vote front

    on : OnVote w (slice_set here.hears.votes i (Some v)) here.hears.op
    on = let o = on_vote w here.hears.votes here.hears.op inv here.hears.voting here.hears.on_op in record { allowed = o.allowed; long = length-slice_set here.hears.votes i (Some v) ∙ o.long }

    len : length (slice_set w.peers i (record h.peer { up = h.rest })) ≡ length w.peers
    len = length-slice_set w.peers i (record h.peer { up = h.rest })

    moves : (place : CoordinatorPlace) (committed : Option Op) (told : Step) → h.place ≡ place → h.committed ≡ committed → h.told ≡ told
        → w' ≡ core0_moves (gave w i h.peer h.rest) place h.requests committed (outgoing told place)
    moves place committed told p c t = h.next ∙ rw (p, c, t) refl

    by_tally : Tallies (newest w) txn here.hears.op (slice_set here.hears.votes i (Some v)) h.place h.committed h.told → Inv w'
    by_tally (waits k none p c t) = rw (moves _ None _ p c t, here.hears.number) (waits_inv w h.requests _ here.hears.op _ k inv on len none ps)
    by_tally (commits_all all p c t) = rw (moves _ (Some here.hears.op) _ p c t, here.hears.number) (commit_inv w h.requests _ here.hears.op _ i (Some v) inv on len now all ps)
    by_tally (aborts_all core against least all p c t) = rw (moves _ None _ p c t, here.hears.number) (abort_inv w h.requests _ here.hears.op _ i (Some v) inv on len now all ps)

-- Core 0 takes an acknowledgement

-- another core's acknowledgement leaves this core where it was; after the last one, all are at rest
reack : (limits : TableLimits) (log : List Op) (place : CoordinatorPlace) (acks acks' : List Bool) (j : ℕ) (q : Peer)
    → place.phase ≡ Acking acks → slice_get acks' j ≡ slice_get acks j → (b : Bool) → list_all (λ ack. ack) acks' ≡ b → Pair limits log place j q
    → Pair limits log (record { last = place.last; phase = cond b Idle (Acking acks'); staged = place.staged }) j q
reack limits log place acks acks' j q ph same false all (to_commit bs op version ph' at le fits entry is) =
    to_commit acks' op version refl (cc) le fits entry (record { version_is = is.version_is; last_is = is.last_is; voted_is = is.voted_is; staged_is = is.staged_is; down_is = is.down_is; up_is = is.up_is })
reack limits log place acks acks' j q ph same false all (to_abort bs v st ph' at is) =
    to_abort acks' v st refl (cc) (record { version_is = is.version_is; last_is = is.last_is; voted_is = is.voted_is; staged_is = is.staged_is; down_is = is.down_is; up_is = is.up_is })
reack limits log place acks acks' j q ph same false all (acked bs ph' at is) =
    acked acks' refl (cc) (record { version_is = is.version_is; last_is = is.last_is; voted_is = is.voted_is; staged_is = is.staged_is; down_is = is.down_is; up_is = is.up_is })
reack limits log place acks acks' j q ph same false all (finished bs ph' at is) =
    finished acks' refl (cc) (record { version_is = is.version_is; last_is = is.last_is; voted_is = is.voted_is; staged_is = is.staged_is; down_is = is.down_is; up_is = is.up_is })
reack limits log place acks acks' j q ph same true all (to_commit bs op version ph' at le fits entry is) = absurd (let t = all_true acks' all j false (same ∙ (let e : bs ≡ acks = cc in rw (← e) at)) in cc)
reack limits log place acks acks' j q ph same true all (to_abort bs v st ph' at is) = absurd (let t = all_true acks' all j false (same ∙ (let e : bs ≡ acks = cc in rw (← e) at)) in cc)
reack limits log place acks acks' j q ph same true all (acked bs ph' at is) = absurd (let t = all_true acks' all j false (same ∙ (let e : bs ≡ acks = cc in rw (← e) at)) in cc)
reack limits log place acks acks' j q ph same true all (finished bs ph' at is) =
    at_rest refl (record { version_is = is.version_is; last_is = is.last_is; voted_is = is.voted_is; staged_is = is.staged_is; down_is = is.down_is; up_is = is.up_is })
reack limits log place acks acks' j q ph same b all (at_rest ph' is) = absurd cc
reack limits log place acks acks' j q ph same b all (asked votes op last ph' st at le is) = absurd cc
reack limits log place acks acks' j q ph same b all (voted votes op v short ph' st at c is) = absurd cc
reack limits log place acks acks' j q ph same b all (counted votes op v short ph' st at c is) = absurd cc

-- a core whose acknowledgement is under way
acker : (limits : TableLimits) (log : List Op) (place : CoordinatorPlace) (i : ℕ) (p : Peer) (acks : List Bool) (txn : ℕ) (rest : List Message)
    → place.phase ≡ Acking acks → commitments p.up ≡ message.Ack txn ∷ commitments rest → Pair limits log place i p → PeerIs (record p { up = rest }) (length log) place.last None None [] []
acker limits log place i p acks txn rest ph up (acked bs ph' at is) = record { version_is = is.version_is; last_is = is.last_is; voted_is = is.voted_is; staged_is = is.staged_is; down_is = is.down_is; up_is = cc (up, is.up_is) }
acker limits log place i p acks txn rest ph up (at_rest ph' is) = absurd cc
acker limits log place i p acks txn rest ph up (asked votes op last ph' st at le is) = absurd cc
acker limits log place i p acks txn rest ph up (voted votes op v short ph' st at c is) = absurd cc
acker limits log place i p acks txn rest ph up (counted votes op v short ph' st at c is) = absurd cc
acker limits log place i p acks txn rest ph up (to_commit bs op version ph' at le fits entry is) = absurd (cc (up, is.up_is))
acker limits log place i p acks txn rest ph up (to_abort bs v st ph' at is) = absurd (cc (up, is.up_is))
acker limits log place i p acks txn rest ph up (finished bs ph' at is) = absurd (cc (up, is.up_is))

-- that core's own pair after it
self_acked : (limits : TableLimits) (log : List Op) (last : ℕ) (staged : Option Op) (acks' : List Bool) (i : ℕ) (p : Peer) (b : Bool) → slice_get acks' i ≡ Some true
    → PeerIs p (length log) last None None [] [] → Pair limits log (record { last = last; phase = cond b Idle (Acking acks'); staged = staged }) i p
self_acked limits log last staged acks' i p true at is = at_rest refl is
self_acked limits log last staged acks' i p false at is = finished acks' refl at is

alone_acked : (others : ℕ) (s : TableState) (budget : ℕ) (staged : Option Op) (acks' : List Bool) (b : Bool) → list_all (λ ack. ack) acks' ≡ b → staged ≡ None → length acks' ≡ others
    → Alone others s budget (cond b Idle (Acking acks')) staged
alone_acked others s budget staged acks' true all st len = st
alone_acked others s budget staged acks' false all st len = let r = some_false acks' all in (r.0, st, len, r.1)

-- core 0 has taken an acknowledgement, and has not replied yet
pub acked_inv : (w : World) (requests requests' : Requests) (i txn : ℕ) (p : Peer) (rest : List Message) (place : CoordinatorPlace) (told : Step) → Inv w → slice_get w.peers i ≡ Some p
    → commitments p.up ≡ message.Ack txn ∷ commitments rest → HearsAck w.place requests i txn place requests' told → Inv (core0_moves (gave w i p rest) place requests' None nothing)
acked_inv w requests requests' i txn p rest place told inv is_peer front hears = rw hears.next (record {
  version = inv.version;
  fits = inv.fits;
  allowed = inv.allowed;
  alone_ok = alone_acked _ (newest w) w.budget w.place.staged (slice_set hears.acks i true) (list_all (λ ack. ack) (slice_set hears.acks i true)) refl acking.1 (length-slice_set hears.acks i true ∙ (acking.2 ∙ sym (length-slice_set w.peers i (record p { up = rest }))));
  pairs = λ j q here. pair_at j q here (same_or_not i j);
  within = λ j q here. within_at j q here (same_or_not i j);
})
  where
    acking : Alone (length w.peers) (newest w) w.budget (Acking hears.acks) w.place.staged
    acking = subst (λ (x : Phase). Alone (length w.peers) (newest w) w.budget x w.place.staged) hears.acking inv.alone_ok

    same : (j : ℕ) (q : Peer) → i ≡ j → slice_get (slice_set w.peers i (record p { up = rest })) j ≡ Some q → q ≡ record p { up = rest }
    same j q e here = let h' : slice_get (slice_set w.peers i (record p { up = rest })) i ≡ Some q = subst (λ (k : ℕ). slice_get (slice_set w.peers i (record p { up = rest })) k ≡ Some q) (sym e) here in let s = get-set_same w.peers i (record p { up = rest }) p is_peer in cc

    mine : Pair w.limits w.log (record { last = w.place.last; phase = phase_with (slice_set hears.acks i true); staged = w.place.staged }) i (record p { up = rest })
    mine = self_acked w.limits w.log w.place.last w.place.staged (slice_set hears.acks i true) i _ (list_all (λ ack. ack) (slice_set hears.acks i true)) (get-set_same hears.acks i true false hears.first_ack)
        (acker w.limits w.log w.place i p hears.acks txn rest hears.acking front (inv.pairs i p is_peer))

    pair_at : (j : ℕ) (q : Peer) → slice_get (slice_set w.peers i (record p { up = rest })) j ≡ Some q → ((i ≡ j) ⊎ (i ≡ j → ⊥)) → Pair w.limits w.log (record { last = w.place.last; phase = phase_with (slice_set hears.acks i true); staged = w.place.staged }) j q
    pair_at j q here (inl e) = rw (same j q e here, ← e) mine
    pair_at j q here (inr ne) = reack w.limits w.log w.place hears.acks (slice_set hears.acks i true) j q hears.acking (get-set_other hears.acks i j true ne) (list_all (λ ack. ack) (slice_set hears.acks i true)) refl (inv.pairs j q (sym (get-set_other w.peers i j _ ne) ∙ here))

    within_at : (j : ℕ) (q : Peer) → slice_get (slice_set w.peers i (record p { up = rest })) j ≡ Some q → ((i ≡ j) ⊎ (i ≡ j → ⊥)) → Within w.limits w.log q
    within_at j q here (inl e) = rw (same j q e here) (let x = inv.within i p is_peer in record { not_ahead = x.not_ahead; fits = x.fits })
    within_at j q here (inr ne) = inv.within j q (sym (get-set_other w.peers i j _ ne) ∙ here)

ack_inv : (w w' : World) (i txn : ℕ) (answer : Answer) → Inv w → (h : HappensUp w i w' answer) → h.m ≡ message.Ack txn
    → AckAt w.place w.requests i txn h.place h.requests h.committed h.told answer → Inv w'
ack_inv w w' i txn answer inv h m here =
    rw (h.next, here.none_committed, here.hears.tells) (replied_inv (core0_moves (gave w i h.peer h.rest) h.place h.requests None nothing) _
    (acked_inv w w.requests h.requests i txn h.peer h.rest h.place h.told inv h.is_peer (ap commitments h.oldest ∙ rw m refl) here.hears))

-- Core 0 takes a submitted request

took_submit_inv : (w : World) (i : ℕ) (op : Op) (p : Peer) (rest : List Message) → Inv w → slice_get w.peers i ≡ Some p → p.up ≡ message.Submit op ∷ rest → Inv (gave w i p rest)
unfolding with_peer
took_submit_inv w i op p rest inv is_peer oldest =
    let x = inv.within i p is_peer in
    peer_inv w i p (record p { up = rest }) inv is_peer (pair_like w.limits w.log w.place i p (record p { up = rest }) refl refl refl refl (sym (ap commitments oldest)) (inv.pairs i p is_peer)) (record { not_ahead = x.not_ahead; fits = x.fits })

-- Core 0 takes a message
pub up_inv : (w w' : World) (i : ℕ) (answer : Answer) → Inv w → HappensUp w i w' answer → Inv w'
up_inv w w' i answer inv h = by_message h.m refl h.here
  where
    by_message : (m : Message) → h.m ≡ m → TakesUpAt (newest w) w.place w.requests i m h.place h.requests h.committed h.told answer → Inv w'
    by_message (message.Vote txn v) e here = vote_inv w w' i txn v answer inv h e here
    by_message (message.Ack txn) e here = ack_inv w w' i txn answer inv h e here
    by_message (message.Submit op) e here =
        rw (h.next, here.none_committed, here.same_place, here.tells) (with_requests (gave w i h.peer h.rest) h.requests (took_submit_inv w i op h.peer h.rest inv h.is_peer (h.oldest ∙ rw e refl)))
    by_message m e here = absurd here
