-- A Reply that is under way has nothing behind it, or a Prepare.
use Rattle.std.proofs.Common.{◌≡◌, ◌≢◌, ◌+◌, ◌<◌, ◌⊎◌, inl, inr, ℕ, zero, suc, Bool, true, false, cond, Option, None, Some, List, [], ◌∷◌, ◌++◌, length, map, slice_get, slice_set, refl, ap, sym, ◌∙◌, subst, arith}
use Rattle.std.specs.Prelude.{option_to_list}
use Rattle.std.proofs.lemmas.List.{append-nil}
use Rattle.std.specs.List.{list_all}
use Rattle.filter_table.specs.Limits.{TableLimits}
use Rattle.filter_table.specs.declared.operation.Op.{Op}
use Rattle.filter_table.specs.Tables.{TableState}
use Rattle.filter_table.specs.declared.decision.Vote.{Vote}
use Rattle.filter_table.specs.declared.decision.Decision.{Decision}
use Rattle.monitor_messages.specs.declared.message.Message.{Message}
use Rattle.monitor_messages.specs.declared.message.Message.TheVariants as message
use Rattle.two_phase.specs.declared.step.Step.{Step}
use Rattle.two_phase.specs.Coordinators.{Phase, Requests, CoordinatorPlace, Idle, Voting, Acking, Starts, refused, unstaged, alone, prepared, StartsFor, reply_to, Tallies, waits, commits_all, aborts_all, reply_of, reply_at, phase_with}
use Rattle.world_events.specs.declared.event.Event.{Event}
use Rattle.world_events.specs.declared.event.Event.TheVariants.{Start, Submit, StartFor, Take, Rx}
use Rattle.world_events.specs.declared.event.Answer.{Answer}
use Rattle.world_events.specs.declared.event.Done.{Done}
use Rattle.world_model.specs.Cases.{Outgoing, nothing, to_all, to_one, as_reply, outgoing, sent_up, TakesUpAt, VoteAt, AckAt}
use Rattle.world_model.specs.Worlds.{Peer, World, newest, boot, new_peer, sent_out, gave, HappensUp, HappensDown, HappensStart, HappensStartFor, HappensSubmit, Happens, Run}
use Rattle.world_model.specs.Agreement.{is_commitment, commitments}
use Rattle.world_model.specs.Readings.{Request, request_of}
use Rattle.world_model.proofs.Lists.{get_map}
use Rattle.world_model.proofs.Invariant.{Pair, at_rest, asked, voted, counted, to_commit, to_abort, acked, finished, Inv, commitments-append}
use Rattle.world_model.proofs.Submissions.{requests_in, Stage, free, submitted, waiting, served, replied, Inv2}
use Rattle.world_model.proofs.Agreement.{run_inv, run_stages}
use Rattle.world_model.proofs.Runs.{run_keeps}
use Rattle.world_histories.specs.Histories.{for_entry}
use Rattle.world_histories.proofs.Lists.{set_cases}
use Rattle.world_histories.proofs.Seats.{Got, got_out}
use Rattle.world_progress.specs.Remaining.{SendsToEmpty, HasReplyAtMost}
use Rattle.world_progress.proofs.Emptied.{RepliesFit, AllFit, neither, vote_sends, up_sends}

-- What a core has to take after an event of core 0

abbrev After : World → Outgoing → ℕ → Peer → Type 0
After w out j q = (x : Peer) × (slice_get w.peers j ≡ Some x) × (q.down ≡ x.down ++ for_entry j out)

after_sent : (w : World) (out : Outgoing) (j : ℕ) (q : Peer) → slice_get (sent_out w.peers out) j ≡ Some q → After w out j q
after_sent w out j q here = let g = got_out w.peers out j q here in (g.0, g.1, g.2.down_is)

after_gave : (w : World) (i : ℕ) (p : Peer) (rest : List Message) (out : Outgoing) (j : ℕ) (q : Peer) → slice_get w.peers i ≡ Some p → slice_get (sent_out (gave w i p rest).peers out) j ≡ Some q → After w out j q
after_gave w i p rest out j q at here = let g = got_out (gave w i p rest).peers out j q here in from g.0 g.1 g.2
  where
    from : (x : Peer) → slice_get (slice_set w.peers i (record p { up = rest })) j ≡ Some x → Got x q (for_entry j out) → After w out j q
    from x is g = by_place (set_cases w.peers i (record p { up = rest }) p at j x is)
      where
        by_place : ((i ≡ j) × (x ≡ record p { up = rest })) ⊎ ((i ≡ j → ⊥) × (slice_get w.peers j ≡ Some x)) → After w out j q
        by_place (inl e) = (p, subst (λ (n : ℕ). slice_get w.peers n ≡ Some p) e.0 at, g.down_is ∙ ap (λ (y : Peer). y.down ++ for_entry j out) e.1)
        by_place (inr ne) = (x, ne.1, g.down_is)

-- What fits

fit_idle : (place : CoordinatorPlace) (q : Peer) → place.phase ≡ Idle → RepliesFit place q
fit_idle place q idle = λ d rest e. inl idle

-- a core with the same to take, while core 0 was not idle
fit_busy : (place place' : CoordinatorPlace) (x q : Peer) → (place.phase ≡ Idle → ⊥) → q.down ≡ x.down → RepliesFit place x → RepliesFit place' q
fit_busy place place' x q busy same fit = λ d rest e. by_fit d rest (fit d rest (sym same ∙ e))
  where
    by_fit : (d : Decision) (rest : List Message) → (place.phase ≡ Idle) ⊎ (commitments rest ≢ []) → (place'.phase ≡ Idle) ⊎ (commitments rest ≢ [])
    by_fit d rest (inl idle) = absurd (busy idle)
    by_fit d rest (inr some) = inr some

fit_same : (place : CoordinatorPlace) (x q : Peer) → q.down ≡ x.down → RepliesFit place x → RepliesFit place q
fit_same place x q same fit = λ d rest e. fit d rest (sym same ∙ e)

ends_so : (xs : List Message) (m : Message) → xs ++ m ∷ [] ≡ [] → ⊥
ends_so [] m e = cc
ends_so (x ∷ xs) m e = cc

-- it is asked
fit_asked : (place : CoordinatorPlace) (x q : Peer) (txn : ℕ) (op : Op) → q.down ≡ x.down ++ message.Prepare txn op ∷ [] → RepliesFit place q
fit_asked place x q txn op is = λ d rest e. by_front d rest x.down (sym e ∙ is)
  where
    by_front : (d : Decision) (rest front : List Message) → message.Reply d ∷ rest ≡ front ++ message.Prepare txn op ∷ [] → (place.phase ≡ Idle) ⊎ (commitments rest ≢ [])
    by_front d rest [] e = absurd cc
    by_front d rest (y ∷ ys) e =
        let tail : rest ≡ ys ++ message.Prepare txn op ∷ [] = cc in
        inr (λ none. ends_so (commitments ys) (message.Prepare txn op) (sym (commitments-append ys (message.Prepare txn op ∷ [])) ∙ (ap commitments (sym tail) ∙ none)))

-- it is told the outcome
fit_told : (place : CoordinatorPlace) (x q : Peer) (m : Message) → is_commitment m ≡ true → x.down ≡ [] → q.down ≡ x.down ++ m ∷ [] → RepliesFit place q
fit_told place x q m known none is = λ d rest e. absurd (strange d rest m known (sym e ∙ (is ∙ ap (λ (l : List Message). l ++ m ∷ []) none)))
  where
    strange : (d : Decision) (rest : List Message) (m : Message) → is_commitment m ≡ true → message.Reply d ∷ rest ≡ m ∷ [] → ⊥
    strange d rest m k e = let same : message.Reply d ≡ m = cc in let x : is_commitment (message.Reply d) ≡ true = ap is_commitment same ∙ k in cc

-- Events

-- core 0 is idle after it begins a request, or has asked all
asks_or_rests : (n : ℕ) (s : TableState) (b : ℕ) (place : CoordinatorPlace) (op : Op) (place' : CoordinatorPlace) (committed : Option Op) (begun : Step) → place.phase ≡ Idle → Starts n s b place op place' committed begun
    → (place'.phase ≡ Idle) ⊎ ((txn : ℕ) × (outgoing begun place' ≡ to_all (message.Prepare txn op)) × ((reply : Option (ℕ × Decision)) → outgoing (record begun { reply = reply }) place' ≡ to_all (message.Prepare txn op)))
asks_or_rests n s b place op place' committed begun idle (refused fault al pl c t) = inl (ap (λ (x : CoordinatorPlace). x.phase) pl ∙ idle)
asks_or_rests n s b place op place' committed begun idle (unstaged al pl c t) = inl (ap (λ (x : CoordinatorPlace). x.phase) pl ∙ idle)
asks_or_rests n s b place op place' committed begun idle (alone al none pl c t) = inl (ap (λ (x : CoordinatorPlace). x.phase) pl)
asks_or_rests n s b place op place' committed begun idle (prepared al some pl c t) = inr (place.last + 1, rw (t, pl) refl, λ reply. rw (t, pl) refl)

start_fits : (w w' : World) (op : Op) (answer : Answer) → HappensStart w op w' answer → AllFit w'
start_fits w w' op answer h = rw h.next (by_case (asks_or_rests (length w.peers) (newest w) w.budget w.place op h.place h.committed h.told h.here.can_start.0 h.here.starts))
  where
    by_case : (h.place.phase ≡ Idle) ⊎ ((txn : ℕ) × (outgoing h.told h.place ≡ to_all (message.Prepare txn op)) × ((reply : Option (ℕ × Decision)) → outgoing (record h.told { reply = reply }) h.place ≡ to_all (message.Prepare txn op)))
        → (j : ℕ) (q : Peer) → slice_get (sent_out w.peers (outgoing h.told h.place)) j ≡ Some q → RepliesFit h.place q
    by_case (inl idle) j q here = fit_idle h.place q idle
    by_case (inr a) j q here = let x = after_sent w (outgoing h.told h.place) j q here in fit_asked h.place x.0 q a.0 op (x.2 ∙ ap (λ (o : Outgoing). x.0.down ++ for_entry j o) a.1)

start_for_fits : (w w' : World) (entry : ℕ) (answer : Answer) → HappensStartFor w entry w' answer → AllFit w'
start_for_fits w w' entry answer h = rw h.next (by_case h.here.starts.begun h.here.starts.op h.here.starts.tells (asks_or_rests (length w.peers) (newest w) w.budget w.place h.here.starts.op h.place h.committed h.here.starts.begun h.here.can_start.0 h.here.starts.starts))
  where
    by_case : (begun : Step) (op : Op) → h.told ≡ record begun { reply = reply_to (suc entry) begun.decided } → (h.place.phase ≡ Idle) ⊎ ((txn : ℕ) × (outgoing begun h.place ≡ to_all (message.Prepare txn op)) × ((reply : Option (ℕ × Decision)) → outgoing (record begun { reply = reply }) h.place ≡ to_all (message.Prepare txn op)))
        → (j : ℕ) (q : Peer) → slice_get (sent_out w.peers (outgoing h.told h.place)) j ≡ Some q → RepliesFit h.place q
    by_case begun op t (inl idle) j q here = fit_idle h.place q idle
    by_case begun op t (inr a) j q here =
        let x = after_sent w (outgoing h.told h.place) j q here in
        fit_asked h.place x.0 q a.0 op (x.2 ∙ (ap (λ (s : Step). x.0.down ++ for_entry j (outgoing s h.place)) t ∙ ap (λ (o : Outgoing). x.0.down ++ for_entry j o) (a.2 (reply_to (suc entry) begun.decided))))

-- one core is changed
one_changed : (w : World) (place : CoordinatorPlace) (i : ℕ) (p new : Peer) → slice_get w.peers i ≡ Some p → RepliesFit place new → ((j : ℕ) (q : Peer) → slice_get w.peers j ≡ Some q → RepliesFit place q)
    → (j : ℕ) (q : Peer) → slice_get (slice_set w.peers i new) j ≡ Some q → RepliesFit place q
one_changed w place i p new at fit fits j q here = by_place (set_cases w.peers i new p at j q here)
  where
    by_place : ((i ≡ j) × (q ≡ new)) ⊎ ((i ≡ j → ⊥) × (slice_get w.peers j ≡ Some q)) → RepliesFit place q
    by_place (inl e) = subst (λ (y : Peer). RepliesFit place y) (sym e.1) fit
    by_place (inr ne) = fits j q ne.1

submit_fits : (w w' : World) (entry : ℕ) (op : Op) (answer : Answer) → AllFit w → HappensSubmit w entry op w' answer → AllFit w'
submit_fits w w' entry op answer fits h = rw h.next (one_changed w w.place entry h.peer next h.is_peer (fit_same w.place h.peer next refl (fits entry h.peer h.is_peer)) fits)
  where
    next : Peer
    next = record h.peer { outstanding = h.outstanding; up = h.peer.up ++ option_to_list (sent_up (Submit (suc entry) op) answer) }

-- a core takes a message: behind it there is no Reply
not_behind : (place : CoordinatorPlace) (requests : Requests) (i : ℕ) (p : Peer) (r : Request) (m : Message) (d : Decision) (rest : List Message) → p.down ≡ m ∷ message.Reply d ∷ rest → Stage place requests i p r → ⊥
not_behind place requests i p r m d rest e stage = by_stage stage
  where
    behind : (ms : List Message) → requests_in (message.Reply d ∷ ms) ≡ [] → ⊥
    behind ms x = cc

    first : (m : Message) → requests_in (m ∷ message.Reply d ∷ rest) ≡ [] → ⊥
    first m x = by_test (is_commitment m) refl
      where
        by_test : (b : Bool) → is_commitment m ≡ b → ⊥
        by_test true k = let y : requests_in (message.Reply d ∷ rest) ≡ [] = rw k at x in behind rest y
        by_test false k = let y : m ∷ requests_in (message.Reply d ∷ rest) ≡ [] = rw k at x in cc

    none : requests_in p.down ≡ [] → ⊥
    none x = first m (sym (ap requests_in e) ∙ x)

    by_stage : Stage place requests i p r → ⊥
    by_stage (free h asks x) = none x
    by_stage (submitted op h asks x s) = none x
    by_stage (waiting op h asks x s) = none x
    by_stage (served h asks x s) = none x
    by_stage (replied op d' rest' h asks e' q s t) =
        let tail : rest' ≡ message.Reply d ∷ rest = cc (e, e') in
        behind rest (subst (λ (l : List Message). requests_in l ≡ []) tail q)

down_fits : (w w' : World) (r : ℕ → Request) (i : ℕ) (short : Bool) (answer : Answer) → Inv2 w r → AllFit w → HappensDown w i short w' answer → AllFit w'
down_fits w w' r i short answer inv2 fits h = rw h.next (one_changed w w.place i h.peer _ h.is_peer (λ d rest e. absurd (not_behind w.place w.requests i h.peer (r i) h.m d rest (h.oldest ∙ ap (λ (l : List Message). h.m ∷ l) e) (inv2.stages i h.peer h.is_peer))) fits)

up_fits : (w w' : World) (r : ℕ → Request) (i : ℕ) (answer : Answer) → Inv w → Inv2 w r → AllFit w → HappensUp w i w' answer → AllFit w'
up_fits w w' r i answer inv inv2 fits h = rw h.next (by_message h.m h.oldest h.here)
  where
    after : (j : ℕ) (q : Peer) → slice_get (sent_out (gave w i h.peer h.rest).peers (outgoing h.told h.place)) j ≡ Some q → After w (outgoing h.told h.place) j q
    after j q here = after_gave w i h.peer h.rest (outgoing h.told h.place) j q h.is_peer here

    -- nothing was sent while core 0 was not idle
    silent : (w.place.phase ≡ Idle → ⊥) → outgoing h.told h.place ≡ nothing → (j : ℕ) (q : Peer) → slice_get (sent_out (gave w i h.peer h.rest).peers (outgoing h.told h.place)) j ≡ Some q → RepliesFit h.place q
    silent busy none j q here =
        let x = after j q here in
        fit_busy w.place h.place x.0 q busy (x.2 ∙ (ap (λ (o : Outgoing). x.0.down ++ for_entry j o) none ∙ append-nil x.0.down)) (fits j x.0 x.1)

    told : (m : Message) → is_commitment m ≡ true → SendsToEmpty w (outgoing h.told h.place) → outgoing h.told h.place ≡ to_all m → (j : ℕ) (q : Peer) → slice_get (sent_out (gave w i h.peer h.rest).peers (outgoing h.told h.place)) j ≡ Some q → RepliesFit h.place q
    told m known empty is j q here =
        let x = after j q here in
        let sends : for_entry j (outgoing h.told h.place) ≡ m ∷ [] = ap (for_entry j) is in
        fit_told h.place x.0 q m known (empty j x.0 x.1 (λ none. (let y : m ∷ [] ≡ [] = sym sends ∙ none in cc))) (x.2 ∙ ap (λ (l : List Message). x.0.down ++ l) sends)

    by_vote : (txn : ℕ) (v : Vote) → SendsToEmpty w (outgoing h.told h.place) → VoteAt (newest w) w.place w.requests i txn v h.place h.requests h.committed h.told answer
        → (j : ℕ) (q : Peer) → slice_get (sent_out (gave w i h.peer h.rest).peers (outgoing h.told h.place)) j ≡ Some q → RepliesFit h.place q
    by_vote txn v empty here = by_case here.hears.tallies
      where
        by_case : Tallies (newest w) txn here.hears.op (slice_set here.hears.votes i (Some v)) h.place h.committed h.told → (j : ℕ) (q : Peer) → slice_get (sent_out (gave w i h.peer h.rest).peers (outgoing h.told h.place)) j ≡ Some q → RepliesFit h.place q
        by_case (waits k none pl c t) = silent (λ idle. cc (here.hears.voting, idle)) (ap (λ (s : Step). outgoing s h.place) t)
        by_case (commits_all all pl c t) = told (message.Commit txn) refl empty (ap (λ (s : Step). outgoing s h.place) t)
        by_case (aborts_all core against least all pl c t) = told (message.Abort txn) refl empty (ap (λ (s : Step). outgoing s h.place) t)

    by_ack : (txn : ℕ) → AckAt w.place w.requests i txn h.place h.requests h.committed h.told answer → (phase : Phase) → h.place.phase ≡ phase
        → (j : ℕ) (q : Peer) → slice_get (sent_out (gave w i h.peer h.rest).peers (outgoing h.told h.place)) j ≡ Some q → RepliesFit h.place q
    by_ack txn here Idle e j q at = fit_idle h.place q e
    by_ack txn here (Acking acks) e j q at = silent (λ idle. cc (here.hears.acking, idle)) (ap (λ (s : Step). outgoing s h.place) here.hears.tells ∙ ap (λ (ph : Phase). as_reply (reply_at ph w.requests)) e) j q at
    by_ack txn here (Voting votes) e j q at = silent (λ idle. cc (here.hears.acking, idle)) (ap (λ (s : Step). outgoing s h.place) here.hears.tells ∙ ap (λ (ph : Phase). as_reply (reply_at ph w.requests)) e) j q at

    by_message : (m : Message) → h.peer.up ≡ m ∷ h.rest → TakesUpAt (newest w) w.place w.requests i m h.place h.requests h.committed h.told answer
        → (j : ℕ) (q : Peer) → slice_get (sent_out (gave w i h.peer h.rest).peers (outgoing h.told h.place)) j ≡ Some q → RepliesFit h.place q
    by_message (message.Vote txn v) e here = by_vote txn v (vote_sends w r i txn v h.peer h.rest h.place h.requests h.committed h.told answer inv inv2 fits h.is_peer e here) here
    by_message (message.Ack txn) e here = by_ack txn here h.place.phase refl
    by_message (message.Submit op) e here = λ j q at.
        let x = after j q at in
        let none : outgoing h.told h.place ≡ nothing = ap (λ (s : Step). outgoing s h.place) here.tells in
        subst (λ (y : CoordinatorPlace). RepliesFit y q) (sym here.same_place) (fit_same w.place x.0 q (x.2 ∙ (ap (λ (o : Outgoing). x.0.down ++ for_entry j o) none ∙ append-nil x.0.down)) (fits j x.0 x.1))
    by_message (message.Prepare txn op) e here = absurd here
    by_message (message.Commit txn) e here = absurd here
    by_message (message.Abort txn) e here = absurd here
    by_message (message.Reply d) e here = absurd here

event_fits : (w w' : World) (r : ℕ → Request) (event : Event) (answer : Answer) → Inv w → Inv2 w r → AllFit w → Happens w event w' answer → AllFit w'
event_fits w w' r (Start op) answer inv inv2 fits h = start_fits w w' op answer h
event_fits w w' r (Submit (suc entry) op) answer inv inv2 fits h = submit_fits w w' entry op answer fits h
event_fits w w' r (Submit zero op) answer inv inv2 fits h = absurd h
event_fits w w' r (StartFor (suc entry)) answer inv inv2 fits h = start_for_fits w w' entry answer h
event_fits w w' r (StartFor zero) answer inv inv2 fits h = absurd h
event_fits w w' r (Take zero (suc i) short) answer inv inv2 fits h = up_fits w w' r i answer inv inv2 fits h
event_fits w w' r (Take (suc i) zero short) answer inv inv2 fits h = down_fits w w' r i short answer inv2 fits h
event_fits w w' r (Take zero zero short) answer inv inv2 fits h = absurd h
event_fits w w' r (Take (suc i) (suc j) short) answer inv inv2 fits h = absurd h
event_fits w w' r (Rx core number packet floor) answer inv inv2 fits h = rw h.next fits

boot_fits : (limits : TableLimits) (budget : ℕ) (budgets : List ℕ) → AllFit (boot limits budget budgets)
boot_fits limits budget budgets = λ i p at d rest e. inl refl

pub run_fits : (limits : TableLimits) (budget : ℕ) (budgets : List ℕ) (events : List Done) (w : World) → Run limits budget budgets events w → AllFit w
run_fits limits budget budgets events w run = run_keeps limits budget budgets (λ events w. AllFit w) (boot_fits limits budget budgets)
    (λ before w w' done r fits h. event_fits w w' (λ j. request_of (suc j) before) done.event done.answer (run_inv limits budget budgets before w r) (run_stages limits budget budgets before w r) fits h) events w run

pub run_sends : (limits : TableLimits) (budget : ℕ) (budgets : List ℕ) (events : List Done) (w w' : World) (i : ℕ) (answer : Answer) → Run limits budget budgets events w → (h : HappensUp w i w' answer) → SendsToEmpty w (outgoing h.told h.place)
run_sends limits budget budgets events w w' i answer run h = up_sends w w' (λ j. request_of (suc j) events) i answer (run_inv limits budget budgets events w run) (run_stages limits budget budgets events w run) (run_fits limits budget budgets events w run) h

-- Where core 0 is idle

rested_none : (limits : TableLimits) (log : List Op) (place : CoordinatorPlace) (i : ℕ) (p : Peer) → place.phase ≡ Idle → Pair limits log place i p → commitments p.down ≡ []
rested_none limits log place i p idle (at_rest ph is) = is.down_is
rested_none limits log place i p idle (asked votes op last ph st at le is) = absurd (cc (idle, ph))
rested_none limits log place i p idle (voted votes op v short ph st at c is) = absurd (cc (idle, ph))
rested_none limits log place i p idle (counted votes op v short ph st at c is) = absurd (cc (idle, ph))
rested_none limits log place i p idle (to_commit acks op version ph at le fits entry is) = absurd (cc (idle, ph))
rested_none limits log place i p idle (to_abort acks v st ph at is) = absurd (cc (idle, ph))
rested_none limits log place i p idle (acked acks ph at is) = absurd (cc (idle, ph))
rested_none limits log place i p idle (finished acks ph at is) = absurd (cc (idle, ph))

reply_at_most : (place : CoordinatorPlace) (requests : Requests) (i : ℕ) (p : Peer) (r : Request) → commitments p.down ≡ [] → Stage place requests i p r → HasReplyAtMost p
reply_at_most place requests i p r none (free h asks d) = inl (neither p.down none d)
reply_at_most place requests i p r none (submitted op h asks d s) = inl (neither p.down none d)
reply_at_most place requests i p r none (waiting op h asks d s) = inl (neither p.down none d)
reply_at_most place requests i p r none (served h asks d s) = inl (neither p.down none d)
reply_at_most place requests i p r none (replied op d rest h asks e q s t) =
    let empty : rest ≡ [] = neither rest (sym (ap commitments e) ∙ none) q in
    inr (d, e ∙ ap (λ (l : List Message). message.Reply d ∷ l) empty)

pub run_idle : (limits : TableLimits) (budget : ℕ) (budgets : List ℕ) (events : List Done) (w : World) → Run limits budget budgets events w → w.place.phase ≡ Idle → (i : ℕ) (p : Peer) → slice_get w.peers i ≡ Some p → HasReplyAtMost p
run_idle limits budget budgets events w run idle i p at =
    reply_at_most w.place w.requests i p _ (rested_none w.limits w.log w.place i p idle ((run_inv limits budget budgets events w run).pairs i p at)) ((run_stages limits budget budgets events w run).stages i p at)
