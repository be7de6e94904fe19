-- Core 0 sends to cores that have taken all that it sent before.
use Rattle.std.proofs.Common.{◌≡◌, ◌≢◌, ◌<◌, ◌⊎◌, inl, inr, ℕ, zero, suc, Bool, true, false, cond, Option, None, Some, List, [], ◌∷◌, ◌++◌, length, slice_get, slice_set, refl, ap, sym, ◌∙◌, subst, arith}
use Rattle.std.proofs.lemmas.List.{append-nil}
use Rattle.std.specs.List.{list_all}
use Rattle.std.proofs.lemmas.Option.{slice_get_within}
use Rattle.filter_table.proofs.Positions.{get_at}
use Rattle.filter_table.specs.Limits.{TableLimits}
use Rattle.filter_table.specs.declared.operation.Op.{Op}
use Rattle.filter_table.specs.Tables.{TableState}
use Rattle.filter_table.specs.declared.decision.Vote.{Vote}
use Rattle.filter_table.specs.declared.decision.Decision.{Decision}
use Rattle.monitor_messages.specs.declared.message.Message.{Message}
use Rattle.monitor_messages.specs.declared.message.Message.TheVariants as message
use Rattle.two_phase.specs.declared.step.Step.{Step}
use Rattle.two_phase.specs.Coordinators.{Phase, Requests, CoordinatorPlace, Idle, Voting, Acking, Starts, refused, unstaged, alone, prepared, StartsFor, reply_to, Tallies, waits, commits_all, aborts_all, reply_of, reply_at, phase_with}
use Rattle.world_events.specs.declared.event.Event.{Event}
use Rattle.world_events.specs.declared.event.Event.TheVariants.{Start, Submit, StartFor, Take, Rx}
use Rattle.world_events.specs.declared.event.Answer.{Answer}
use Rattle.world_events.specs.declared.event.Done.{Done}
use Rattle.world_model.specs.Cases.{Outgoing, nothing, to_all, to_one, as_reply, outgoing, TakesUpAt, VoteAt, AckAt}
use Rattle.world_model.specs.Worlds.{Peer, World, newest, boot, new_peer, sent_out, gave, core0_moves, HappensUp, HappensDown, HappensStart, HappensStartFor, HappensSubmit, Happens, Run}
use Rattle.world_model.specs.Agreement.{is_commitment, commitments}
use Rattle.world_model.specs.Readings.{Request, request_of}
use Rattle.world_model.proofs.Lists.{get-set_same, get-set_other, get_map, same_or_not, all_true}
use Rattle.world_model.proofs.Invariant.{Pair, at_rest, asked, voted, counted, to_commit, to_abort, acked, finished, Alone, Inv, commitments-append}
use Rattle.world_model.proofs.Submissions.{requests_in, Stage, free, submitted, waiting, served, replied, Inv2, eq_self, eq_other}
use Rattle.world_model.proofs.Agreement.{run_inv, run_stages}
use Rattle.world_model.proofs.Runs.{run_keeps}
use Rattle.world_histories.specs.Histories.{for_entry}
use Rattle.world_histories.proofs.Lists.{set_cases}
use Rattle.world_histories.proofs.Seats.{got_out}
use Rattle.world_progress.specs.Remaining.{SendsToEmpty, HasReplyAtMost}

-- a list without either kind of message is empty
pub neither : (ms : List Message) → commitments ms ≡ [] → requests_in ms ≡ [] → ms ≡ []
neither [] c r = refl
neither (m ∷ ms) c r = by_test (is_commitment m) refl
  where
    by_test : (b : Bool) → is_commitment m ≡ b → m ∷ ms ≡ []
    by_test true e = absurd (let x : m ∷ commitments ms ≡ [] = rw e at c in cc)
    by_test false e = absurd (let x : m ∷ requests_in ms ≡ [] = rw e at r in cc)

-- A Reply that is under way

-- nothing is being decided, or a Prepare is under way behind it
abbrev pub RepliesFit : CoordinatorPlace → Peer → Type 0
RepliesFit place p = (d : Decision) (rest : List Message) → p.down ≡ message.Reply d ∷ rest → (place.phase ≡ Idle) ⊎ (commitments rest ≢ [])

abbrev pub AllFit : World → Type 0
AllFit w = (i : ℕ) (p : Peer) → slice_get w.peers i ≡ Some p → RepliesFit w.place p

-- while core 0 decides, a core with no message of two-phase commit to take has none to take
pub emptied : (place : CoordinatorPlace) (requests : Requests) (i : ℕ) (p : Peer) (r : Request) → (place.phase ≡ Idle → ⊥) → RepliesFit place p → commitments p.down ≡ [] → Stage place requests i p r → p.down ≡ []
emptied place requests i p r busy fit none (free h asks d) = neither p.down none d
emptied place requests i p r busy fit none (submitted op h asks d s) = neither p.down none d
emptied place requests i p r busy fit none (waiting op h asks d s) = neither p.down none d
emptied place requests i p r busy fit none (served h asks d s) = neither p.down none d
emptied place requests i p r busy fit none (replied op d rest h asks e q s t) = by_fit (fit d rest e)
  where
    by_fit : (place.phase ≡ Idle) ⊎ (commitments rest ≢ []) → p.down ≡ []
    by_fit (inl idle) = absurd (busy idle)
    by_fit (inr some) = absurd (some (sym (ap commitments e) ∙ none))

-- the core whose request is being decided has no Reply to take
pub served_none : (place : CoordinatorPlace) (requests : Requests) (i : ℕ) (p : Peer) (r : Request) → requests.asker ≡ Some (suc i) → Stage place requests i p r → requests_in p.down ≡ []
served_none place requests i p r asks (free h ne d) = d
served_none place requests i p r asks (submitted op h ne d s) = d
served_none place requests i p r asks (waiting op h ne d s) = d
served_none place requests i p r asks (served h is d s) = d
served_none place requests i p r asks (replied op d rest h ne e q s t) = absurd (ne asks)

-- a core whose word is under way has none to take
pub spoken : (limits : TableLimits) (log : List Op) (place : CoordinatorPlace) (i : ℕ) (p : Peer) (m : Message) (ms : List Message) → commitments p.up ≡ m ∷ ms → Pair limits log place i p → commitments p.down ≡ []
spoken limits log place i p m ms u (voted votes op v short ph st at c is) = is.down_is
spoken limits log place i p m ms u (acked acks ph at is) = is.down_is
spoken limits log place i p m ms u (at_rest ph is) = absurd (cc (u, is.up_is))
spoken limits log place i p m ms u (asked votes op last ph st at le is) = absurd (cc (u, is.up_is))
spoken limits log place i p m ms u (counted votes op v short ph st at c is) = absurd (cc (u, is.up_is))
spoken limits log place i p m ms u (to_commit acks op version ph at le fits entry is) = absurd (cc (u, is.up_is))
spoken limits log place i p m ms u (to_abort acks v st ph at is) = absurd (cc (u, is.up_is))
spoken limits log place i p m ms u (finished acks ph at is) = absurd (cc (u, is.up_is))

-- nor has one whose vote was taken
pub counted_none : (limits : TableLimits) (log : List Op) (place : CoordinatorPlace) (i : ℕ) (p : Peer) (votes : List (Option Vote)) (v : Vote) → place.phase ≡ Voting votes → slice_get votes i ≡ Some (Some v) → Pair limits log place i p → commitments p.down ≡ []
counted_none limits log place i p votes v ph here (counted votes' op v' short ph' st at c is) = is.down_is
counted_none limits log place i p votes v ph here (asked votes' op last ph' st at le is) = absurd (let same : votes' ≡ votes = cc (ph, ph') in let x : slice_get votes i ≡ Some None = rw (← same) at in cc)
counted_none limits log place i p votes v ph here (voted votes' op v' short ph' st at c is) = absurd (let same : votes' ≡ votes = cc (ph, ph') in let x : slice_get votes i ≡ Some None = rw (← same) at in cc)
counted_none limits log place i p votes v ph here (at_rest ph' is) = absurd (cc (ph, ph'))
counted_none limits log place i p votes v ph here (to_commit acks op version ph' at le fits entry is) = absurd (cc (ph, ph'))
counted_none limits log place i p votes v ph here (to_abort acks v' st ph' at is) = absurd (cc (ph, ph'))
counted_none limits log place i p votes v ph here (acked acks ph' at is) = absurd (cc (ph, ph'))
counted_none limits log place i p votes v ph here (finished acks ph' at is) = absurd (cc (ph, ph'))

-- nor one whose acknowledgement was taken
pub finished_none : (limits : TableLimits) (log : List Op) (place : CoordinatorPlace) (i : ℕ) (p : Peer) (acks : List Bool) → place.phase ≡ Acking acks → slice_get acks i ≡ Some true → Pair limits log place i p → commitments p.down ≡ []
finished_none limits log place i p acks ph here (finished acks' ph' at is) = is.down_is
finished_none limits log place i p acks ph here (to_commit acks' op version ph' at le fits entry is) = absurd (let same : acks' ≡ acks = cc (ph, ph') in let x : slice_get acks i ≡ Some false = rw (← same) at in cc)
finished_none limits log place i p acks ph here (to_abort acks' v st ph' at is) = absurd (let same : acks' ≡ acks = cc (ph, ph') in let x : slice_get acks i ≡ Some false = rw (← same) at in cc)
finished_none limits log place i p acks ph here (acked acks' ph' at is) = absurd (let same : acks' ≡ acks = cc (ph, ph') in let x : slice_get acks i ≡ Some false = rw (← same) at in cc)
finished_none limits log place i p acks ph here (at_rest ph' is) = absurd (cc (ph, ph'))
finished_none limits log place i p acks ph here (asked votes op last ph' st at le is) = absurd (cc (ph, ph'))
finished_none limits log place i p acks ph here (voted votes op v short ph' st at c is) = absurd (cc (ph, ph'))
finished_none limits log place i p acks ph here (counted votes op v short ph' st at c is) = absurd (cc (ph, ph'))

-- Core 0 takes a message

-- a vote
pub vote_sends : (w : World) (r : ℕ → Request) (i txn : ℕ) (v : Vote) (p : Peer) (rest : List Message) (place' : CoordinatorPlace) (requests' : Requests) (committed : Option Op) (told : Step) (answer : Answer) → Inv w → Inv2 w r → AllFit w
    → slice_get w.peers i ≡ Some p → p.up ≡ message.Vote txn v ∷ rest → VoteAt (newest w) w.place w.requests i txn v place' requests' committed told answer → SendsToEmpty w (outgoing told place')
vote_sends w r i txn v p rest place' requests' committed told answer inv inv2 fits at oldest here = by_case here.hears.tallies
  where
    votes : List (Option Vote)
    votes = here.hears.votes

    busy : w.place.phase ≡ Idle → ⊥
    busy idle = cc (here.hears.voting, idle)

    outcome : ((k : ℕ) → slice_get (slice_set votes i (Some v)) k ≢ Some None) → (j : ℕ) (x : Peer) → slice_get w.peers j ≡ Some x → x.down ≡ []
    outcome all j x at_x = emptied w.place w.requests j x (r j) busy (fits j x at_x) (by_place (same_or_not i j)) (inv2.stages j x at_x)
      where
        by_vote : (o : Option Vote) → slice_get votes j ≡ Some o → slice_get (slice_set votes i (Some v)) j ≡ Some o → commitments x.down ≡ []
        by_vote None a b = absurd (all j b)
        by_vote (Some v') a b = counted_none w.limits w.log w.place j x votes v' here.hears.voting a (inv.pairs j x at_x)

        long : length votes ≡ length w.peers
        long = let a = subst (λ (y : Phase). Alone (length w.peers) (newest w) w.budget y w.place.staged) here.hears.voting inv.alone_ok in a.4

        by_place : (i ≡ j) ⊎ (i ≡ j → ⊥) → commitments x.down ≡ []
        by_place (inl e) =
            let at_i : slice_get w.peers i ≡ Some x = subst (λ (n : ℕ). slice_get w.peers n ≡ Some x) (sym e) at_x in
            let same : p ≡ x = cc (at, at_i) in
            subst (λ (y : Peer). commitments y.down ≡ []) same (spoken w.limits w.log w.place i p (message.Vote txn v) (commitments rest) (ap commitments oldest) (inv.pairs i p at))
        by_place (inr ne) =
            let g = get_at votes j (omega (arith, long, slice_get_within w.peers j x at_x)) in
            by_vote g.0 g.1 (get-set_other votes i j (Some v) ne ∙ g.1)

    by_case : Tallies (newest w) txn here.hears.op (slice_set votes i (Some v)) place' committed told → SendsToEmpty w (outgoing told place')
    by_case (waits k none pl c t) = rw t (λ j x at_x some. absurd (some refl))
    by_case (commits_all all pl c t) = rw t (λ j x at_x some. outcome (λ k none. (let y = all k None none in cc)) j x at_x)
    by_case (aborts_all core against least all pl c t) = rw t (λ j x at_x some. outcome all j x at_x)

-- an acknowledgement
ack_sends : (w : World) (r : ℕ → Request) (i txn : ℕ) (p : Peer) (rest : List Message) (place' : CoordinatorPlace) (requests' : Requests) (committed : Option Op) (told : Step) (answer : Answer) → Inv w → Inv2 w r
    → slice_get w.peers i ≡ Some p → p.up ≡ message.Ack txn ∷ rest → AckAt w.place w.requests i txn place' requests' committed told answer → SendsToEmpty w (outgoing told place')
ack_sends w r i txn p rest place' requests' committed told answer inv inv2 at oldest here = rw here.hears.tells (by_phase place'.phase (ap (λ (x : CoordinatorPlace). x.phase) here.hears.next))
  where
    acks : List Bool
    acks = here.hears.acks

    long : length acks ≡ length w.peers
    long = let a = subst (λ (x : Phase). Alone (length w.peers) (newest w) w.budget x w.place.staged) here.hears.acking inv.alone_ok in a.2

    quiet : list_all (λ ack. ack) (slice_set acks i true) ≡ true → (j : ℕ) (x : Peer) → slice_get w.peers j ≡ Some x → commitments x.down ≡ []
    quiet all j x at_x = by_place (same_or_not i j)
      where
        by_place : (i ≡ j) ⊎ (i ≡ j → ⊥) → commitments x.down ≡ []
        by_place (inl e) =
            let at_i : slice_get w.peers i ≡ Some x = subst (λ (n : ℕ). slice_get w.peers n ≡ Some x) (sym e) at_x in
            let same : p ≡ x = cc (at, at_i) in
            subst (λ (y : Peer). commitments y.down ≡ []) same (spoken w.limits w.log w.place i p (message.Ack txn) (commitments rest) (ap commitments oldest) (inv.pairs i p at))
        by_place (inr ne) =
            let g = get_at acks j (omega (arith, long, slice_get_within w.peers j x at_x)) in
            let b : g.0 ≡ true = all_true (slice_set acks i true) all j g.0 (get-set_other acks i j true ne ∙ g.1) in
            finished_none w.limits w.log w.place j x acks here.hears.acking (g.1 ∙ ap (λ (y : Bool). Some y) b) (inv.pairs j x at_x)

    is_idle : (b : Bool) → Idle ≡ cond b Idle (Acking (slice_set acks i true)) → b ≡ true
    is_idle true e = refl
    is_idle false e = absurd cc

    to_asker : list_all (λ ack. ack) (slice_set acks i true) ≡ true → (asker : Option ℕ) (decided : Option Decision) → w.requests.asker ≡ asker → SendsToEmpty w (as_reply (reply_of asker decided))
    to_asker all None decided e = λ j x at_x some. absurd (some refl)
    to_asker all (Some core) None e = λ j x at_x some. absurd (some refl)
    to_asker all (Some zero) (Some d) e = λ j x at_x some. absurd (some refl)
    to_asker all (Some (suc entry)) (Some d) e = λ j x at_x some. by_place j x at_x some (same_or_not entry j)
      where
        by_place : (j : ℕ) (x : Peer) → slice_get w.peers j ≡ Some x → for_entry j (to_one entry (message.Reply d)) ≢ [] → (entry ≡ j) ⊎ (entry ≡ j → ⊥) → x.down ≡ []
        by_place j x at_x some (inl is) = neither x.down (quiet all j x at_x) (served_none w.place w.requests j x (r j) (e ∙ ap (λ (n : ℕ). Some (suc n)) is) (inv2.stages j x at_x))
        by_place j x at_x some (inr ne) = absurd (some (rw (eq_other entry j ne) refl))

    by_phase : (phase : Phase) → phase ≡ phase_with (slice_set acks i true) → SendsToEmpty w (as_reply (reply_at phase w.requests))
    by_phase Idle e = to_asker (is_idle (list_all (λ ack. ack) (slice_set acks i true)) e) w.requests.asker w.requests.decided refl
    by_phase (Acking acks') e = λ j x at_x some. absurd (some refl)
    by_phase (Voting votes) e = λ j x at_x some. absurd (some refl)

pub up_sends : (w w' : World) (r : ℕ → Request) (i : ℕ) (answer : Answer) → Inv w → Inv2 w r → AllFit w → (h : HappensUp w i w' answer) → SendsToEmpty w (outgoing h.told h.place)
up_sends w w' r i answer inv inv2 fits h = by_message h.m h.oldest h.here
  where
    by_message : (m : Message) → h.peer.up ≡ m ∷ h.rest → TakesUpAt (newest w) w.place w.requests i m h.place h.requests h.committed h.told answer → SendsToEmpty w (outgoing h.told h.place)
    by_message (message.Vote txn v) e here = vote_sends w r i txn v h.peer h.rest h.place h.requests h.committed h.told answer inv inv2 fits h.is_peer e here
    by_message (message.Ack txn) e here = ack_sends w r i txn h.peer h.rest h.place h.requests h.committed h.told answer inv inv2 h.is_peer e here
    by_message (message.Submit op) e here = rw (here.tells) (λ j x at_x some. absurd (some refl))
    by_message (message.Prepare txn op) e here = absurd here
    by_message (message.Commit txn) e here = absurd here
    by_message (message.Abort txn) e here = absurd here
    by_message (message.Reply d) e here = absurd here
