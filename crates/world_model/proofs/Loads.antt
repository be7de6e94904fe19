-- Each take leaves fewer takes.
use Rattle.std.proofs.Common.{◌≡◌, ◌≢◌, ◌++◌, ◌∷◌, ◌+◌, ◌*◌, ◌≤◌, ◌<◌, inl, inr, ℕ, zero, suc, Bool, true, false, Option, None, Some, List, [], length, map, slice_get, slice_set, cond, refl, ap, subst, arith}
use Rattle.std.specs.Prelude.{option_to_list}
use Rattle.std.specs.List.{list_all}
use Rattle.filter_table.specs.declared.operation.Op.{Op}
use Rattle.monitor_messages.specs.declared.message.Message.{Message}
use Rattle.monitor_messages.specs.declared.message.Message.TheVariants as message
use Rattle.filter_table.specs.declared.decision.Vote.{Vote}
use Rattle.filter_table.specs.declared.decision.Decision.{Decision}
use Rattle.two_phase.specs.declared.step.Step.{Step}
use Rattle.two_phase.specs.Coordinators.{CoordinatorPlace, Requests, Phase, Idle, Voting, Acking, Tallies, waits, commits_all, aborts_all, reply_at, requests_at, reply_of, phase_with}
use Rattle.world_events.specs.declared.event.Event.TheVariants.{Take}
use Rattle.world_events.specs.declared.event.Answer.{Answer}
use Rattle.world_events.specs.declared.event.Done.{Done}
use Rattle.world_model.specs.Cases.{as_reply, outgoing, sent_up, raised, TakesUpAt, TakesDownAt, Took, VoteAt, AckAt}
use Rattle.world_model.specs.Worlds.{Peer, World, newest, send, sent_out, sent_to_one, gave, HappensUp, HappensDown, Happens}
use Rattle.world_model.proofs.Lists.{length-slice_set}
use Rattle.world_model.proofs.Invariant.{Inv, Alone}
use Rattle.world_model.specs.Refusals.{IsNext}
use Rattle.world_model.specs.Settling.{weight, load, loads, votes_cast, outcomes_due, reply_due, takes_left}

-- What is added and taken away

load-append : (xs ys : List Message) → load (xs ++ ys) ≡ load xs + load ys
load-append [] ys = omega arith
load-append (x ∷ xs) ys = omega (arith, load-append xs ys)

loads_set : (ps : List Peer) (i : ℕ) (p q : Peer) → slice_get ps i ≡ Some p → loads (slice_set ps i q) + (load p.down + load p.up) ≡ loads ps + (load q.down + load q.up)
loads_set [] i p q at = absurd cc
loads_set (x ∷ ps) zero p q at = let e : x ≡ p = cc in rw e (omega arith)
loads_set (x ∷ ps) (suc i) p q at = omega (arith, loads_set ps i p q at)

loads_sent : (ps : List Peer) (m : Message) → weight m ≡ 2 → loads (map (send m) ps) ≡ loads ps + 2 * length ps
loads_sent [] m two = refl
loads_sent (p ∷ ps) m two = omega (arith, loads_sent ps m two, load-append p.down (m ∷ []), two)

loads_sent_one : (ps : List Peer) (entry : ℕ) (m : Message) → loads (sent_to_one ps entry m (slice_get ps entry)) ≤ loads ps + weight m
loads_sent_one ps entry m = by_peer (slice_get ps entry) refl
  where
    by_peer : (o : Option Peer) → slice_get ps entry ≡ o → loads (sent_to_one ps entry m o) ≤ loads ps + weight m
    by_peer None e = omega arith
    by_peer (Some p) e = omega (arith, loads_set ps entry p (send m p) e, load-append p.down (m ∷ []))

-- Votes

cast_set : (votes : List (Option Vote)) (i : ℕ) (v : Vote) → slice_get votes i ≡ Some None → votes_cast (slice_set votes i (Some v)) ≡ votes_cast votes + 1
cast_set [] i v at = absurd cc
cast_set (None ∷ votes) zero v at = omega arith
cast_set (Some x ∷ votes) zero v at = absurd cc
cast_set (None ∷ votes) (suc i) v at = cast_set votes i v at
cast_set (Some x ∷ votes) (suc i) v at = omega (arith, cast_set votes i v at)

cast_all : (votes : List (Option Vote)) → ((i : ℕ) → slice_get votes i ≢ Some None) → votes_cast votes ≡ length votes
cast_all [] all = refl
cast_all (None ∷ votes) all = absurd (all 0 refl)
cast_all (Some v ∷ votes) all = omega (arith, cast_all votes (λ i. all (suc i)))

-- Another core takes a message

took_lighter : (m reply : Message) (version i : ℕ) (short : Bool) (answer : Answer) → Took m reply version answer → load (option_to_list (sent_up (Take (suc i) 0 short) answer)) < weight m
took_lighter (message.Prepare txn op) (message.Vote n v) version i short answer t = rw t (omega arith)
took_lighter (message.Commit txn) reply version i short answer t = rw t (omega arith)
took_lighter (message.Abort txn) reply version i short answer t = rw t (omega arith)
took_lighter m reply version i short answer t = absurd t

down_lighter : (w w' : World) (i : ℕ) (short : Bool) (answer : Answer) → (h : HappensDown w i short w' answer) → load (option_to_list (sent_up (Take (suc i) 0 short) answer)) < weight h.m
down_lighter w w' i short answer h = by_message h.m h.here
  where
    by_message : (m : Message) → TakesDownAt short (newest w) h.peer.budget h.peer.version h.peer.place h.peer.outstanding m h.place h.outstanding h.committed answer → load (option_to_list (sent_up (Take (suc i) 0 short) answer)) < weight m
    by_message (message.Reply d) here = rw here.is_answer (omega arith)
    by_message (message.Prepare txn op) here = took_lighter (message.Prepare txn op) here.reply _ i short answer here.is_answer
    by_message (message.Commit txn) here = took_lighter (message.Commit txn) here.reply _ i short answer here.is_answer
    by_message (message.Abort txn) here = took_lighter (message.Abort txn) here.reply _ i short answer here.is_answer
    by_message (message.Vote txn v) here = absurd here.is_answer
    by_message (message.Ack txn) here = absurd here.is_answer
    by_message (message.Submit op) here = absurd here.is_answer

pub down_leaves : (w w' : World) (i : ℕ) (short : Bool) (answer : Answer) → HappensDown w i short w' answer → takes_left w' < takes_left w
down_leaves w w' i short answer h =
    let next : Peer = record {
      budget = h.peer.budget;
      version = raised h.peer.version h.committed;
      place = h.place;
      outstanding = h.outstanding;
      down = h.rest;
      up = h.peer.up ++ option_to_list (sent_up (Take (suc i) 0 short) answer);
    } in
    let set = loads_set w.peers i h.peer next h.is_peer in
    rw h.next (omega (arith, set, ap load h.oldest, load-append h.peer.up (option_to_list (sent_up (Take (suc i) 0 short) answer)), down_lighter w w' i short answer h))

-- Core 0 takes a message

loads_gave : (w : World) (i : ℕ) (p : Peer) (m : Message) (rest : List Message) → slice_get w.peers i ≡ Some p → p.up ≡ m ∷ rest → loads (gave w i p rest).peers + weight m ≡ loads w.peers
loads_gave w i p m rest at oldest = omega (arith, loads_set w.peers i p (record p { up = rest }) at, ap load oldest)

-- a vote
vote_leaves : (w : World) (i txn : ℕ) (v : Vote) (p : Peer) (rest : List Message) (place' : CoordinatorPlace) (requests' : Requests) (committed : Option Op) (told : Step) (answer : Answer) → Inv w → slice_get w.peers i ≡ Some p → p.up ≡ message.Vote txn v ∷ rest
    → VoteAt (newest w) w.place w.requests i txn v place' requests' committed told answer
    → loads (sent_out (gave w i p rest).peers (outgoing told place')) + outcomes_due place'.phase + reply_due requests'.asker < takes_left w
vote_leaves w i txn v p rest place' requests' committed told answer inv at oldest here = rw (here.requests_next, here.hears.voting) (by_case here.hears.tallies)
  where
    gives : loads (gave w i p rest).peers + 3 ≡ loads w.peers
    gives = loads_gave w i p (message.Vote txn v) rest at oldest

    counted : votes_cast (slice_set here.hears.votes i (Some v)) ≡ votes_cast here.hears.votes + 1
    counted = cast_set here.hears.votes i v here.hears.first_vote

    long : length here.hears.votes ≡ length w.peers
    long = let a = subst (λ (x : Phase). Alone (length w.peers) (newest w) w.budget x w.place.staged) here.hears.voting inv.alone_ok in a.4

    -- all have voted, and the outcome goes to each
    outcome : (m : Message) → weight m ≡ 2 → ((j : ℕ) → slice_get (slice_set here.hears.votes i (Some v)) j ≢ Some None)
        → loads (map (send m) (gave w i p rest).peers) < loads w.peers + 2 * votes_cast here.hears.votes
    outcome m two all = omega (arith, gives, counted, long, cast_all (slice_set here.hears.votes i (Some v)) all, length-slice_set here.hears.votes i (Some v), loads_sent (gave w i p rest).peers m two, length-slice_set w.peers i (record p { up = rest }))

    by_case : Tallies (newest w) txn here.hears.op (slice_set here.hears.votes i (Some v)) place' committed told
        → loads (sent_out (gave w i p rest).peers (outgoing told place')) + outcomes_due place'.phase + reply_due w.requests.asker < loads w.peers + 2 * votes_cast here.hears.votes + reply_due w.requests.asker
    by_case (waits j none pl c t) = rw (t, pl) (omega (arith, gives, counted))
    by_case (commits_all all pl c t) = rw (t, pl) (omega (arith, outcome (message.Commit txn) refl (λ j none. (let x = all j None none in cc))))
    by_case (aborts_all core against least all pl c t) = rw (t, pl) (omega (arith, outcome (message.Abort txn) refl all))

-- an acknowledgement
ack_leaves : (w : World) (i txn : ℕ) (p : Peer) (rest : List Message) (place' : CoordinatorPlace) (requests' : Requests) (committed : Option Op) (told : Step) (answer : Answer) → slice_get w.peers i ≡ Some p → p.up ≡ message.Ack txn ∷ rest
    → AckAt w.place w.requests i txn place' requests' committed told answer
    → loads (sent_out (gave w i p rest).peers (outgoing told place')) + outcomes_due place'.phase + reply_due requests'.asker < takes_left w
ack_leaves w i txn p rest place' requests' committed told answer at oldest here = rw (here.hears.requests_next, here.hears.tells, here.hears.acking) (by_phase place'.phase (ap (λ (x : CoordinatorPlace). x.phase) here.hears.next))
  where
    gives : loads (gave w i p rest).peers + 1 ≡ loads w.peers
    gives = loads_gave w i p (message.Ack txn) rest at oldest

    replied : (asker : Option ℕ) (decided : Option Decision) → loads (sent_out (gave w i p rest).peers (as_reply (reply_of asker decided))) < loads w.peers + reply_due asker
    replied None decided = omega (arith, gives)
    replied (Some core) None = omega (arith, gives)
    replied (Some zero) (Some d) = omega (arith, gives)
    replied (Some (suc entry)) (Some d) = omega (arith, gives, loads_sent_one (gave w i p rest).peers entry (message.Reply d))

    by_phase : (phase : Phase) → phase ≡ phase_with (slice_set here.hears.acks i true)
        → loads (sent_out (gave w i p rest).peers (as_reply (reply_at phase w.requests))) + outcomes_due phase + reply_due (requests_at phase w.requests).asker < loads w.peers + 0 + reply_due w.requests.asker
    by_phase Idle e = omega (arith, replied w.requests.asker w.requests.decided)
    by_phase (Acking acks) e = omega (arith, gives)
    by_phase (Voting votes) e = absurd (not_voting (list_all (λ ack. ack) (slice_set here.hears.acks i true)) e)
      where
        not_voting : (b : Bool) → Voting votes ≡ cond b Idle (Acking (slice_set here.hears.acks i true)) → ⊥
        not_voting true x = cc
        not_voting false x = cc

pub up_leaves : (w w' : World) (i : ℕ) (answer : Answer) → Inv w → HappensUp w i w' answer → takes_left w' < takes_left w
up_leaves w w' i answer inv h = rw h.next (by_message h.m h.oldest h.here)
  where
    by_message : (m : Message) → h.peer.up ≡ m ∷ h.rest → TakesUpAt (newest w) w.place w.requests i m h.place h.requests h.committed h.told answer
        → loads (sent_out (gave w i h.peer h.rest).peers (outgoing h.told h.place)) + outcomes_due h.place.phase + reply_due h.requests.asker < takes_left w
    by_message (message.Vote txn v) e here = vote_leaves w i txn v h.peer h.rest h.place h.requests h.committed h.told answer inv h.is_peer e here
    by_message (message.Ack txn) e here = ack_leaves w i txn h.peer h.rest h.place h.requests h.committed h.told answer h.is_peer e here
    by_message (message.Submit op) e here = rw (here.tells, here.same_place, here.requests_next) (omega (arith, loads_gave w i h.peer (message.Submit op) h.rest h.is_peer e))
    by_message (message.Prepare txn op) e here = absurd here
    by_message (message.Commit txn) e here = absurd here
    by_message (message.Abort txn) e here = absurd here
    by_message (message.Reply d) e here = absurd here

-- the take that comes next leaves fewer
pub next_leaves : (w w' : World) (done : Done) → Inv w → IsNext w done.event → Happens w done.event w' done.answer → takes_left w' < takes_left w
next_leaves w w' done inv n h = elim n.choice [
  | inl x ↦ down_leaves w w' n.entry false done.answer (rw (x.0) at h)
  | inr x ↦ up_leaves w w' n.entry done.answer inv (rw (x.0) at h)
]
