-- An event of another core, by its history, is one of the world.
use Rattle.std.proofs.Common.{◌≡◌, ◌+◌, ◌<◌, ◌⊎◌, inl, inr, ℕ, zero, suc, Bool, Option, Some, None, List, [], ◌∷◌, ◌++◌, length, slice_get, slice_set, refl, ap, sym, ◌∙◌, subst, arith, length-append}
use Rattle.std.specs.Prelude.{option_to_list, option_map}
use Rattle.std.proofs.lemmas.List.{append-nil}
use mathlib.Core.List.{IsPrefix}
use Rattle.filter_table.specs.Limits.{TableLimits}
use Rattle.filter_table.specs.declared.operation.Op.{Op}
use Rattle.filter_table.specs.Tables.{TableState, table}
use Rattle.filter_table.proofs.Tables.{table_front}
use Rattle.pcap_reader.specs.declared.capture.CapturedPacket.{CapturedPacket}
use Rattle.monitor_messages.specs.declared.message.Message.{Message}
use Rattle.monitor_messages.specs.declared.message.Message.TheVariants as message
use Rattle.two_phase.specs.Participants.{ParticipantPlace, Answers}
use Rattle.two_phase.specs.Coordinators.{CoordinatorPlace}
use Rattle.world_events.specs.declared.event.Event.{Event}
use Rattle.world_events.specs.declared.event.Event.TheVariants.{Submit, Take, Rx}
use Rattle.world_events.specs.declared.event.Answer.{Answer}
use Rattle.world_model.specs.Cases.{sent_up, joined, raised, ReceivesAt, SubmitsAt, TakesDownAt}
use Rattle.world_model.specs.Worlds.{Peer, World, newest, Happens}
use Rattle.world_model.specs.Agreement.{commitments}
use Rattle.world_model.proofs.Lists.{empty_list, get_end, same_or_not}
use Rattle.world_model.proofs.Invariant.{Pair, at_rest, asked, voted, counted, to_commit, to_abort, acked, finished, Inv}
use Rattle.world_histories.specs.declared.history.Stamped.{Stamped}
use Rattle.world_histories.specs.Histories.{Stamping, Sending, sent_to, OtherState, SubmitOther, TakeOther, RxOther, StepOther, HistoryOther}
use Rattle.world_histories.proofs.Lists.{front_at, set_cases}
use Rattle.world_histories.proofs.Clocks.{tick_after}
use Rattle.world_histories.proofs.Seats.{messages, Seat, seat_own, raised_long}

-- What the invariant says of the message that a core takes

asked_version : (limits : TableLimits) (log : List Op) (place : CoordinatorPlace) (i : ℕ) (p : Peer) (txn : ℕ) (op : Op) (rest : List Message) → commitments p.down ≡ message.Prepare txn op ∷ rest → Pair limits log place i p → p.version ≡ length log
asked_version limits log place i p txn op rest d (asked votes o last ph st at le is) = is.version_is
asked_version limits log place i p txn op rest d (to_commit acks o version ph at le fits entry is) = absurd (cc (d, is.down_is))
asked_version limits log place i p txn op rest d (to_abort acks v st ph at is) = absurd (cc (d, is.down_is))
asked_version limits log place i p txn op rest d (at_rest ph is) = absurd (cc (d, is.down_is))
asked_version limits log place i p txn op rest d (voted votes o v short ph st at c is) = absurd (cc (d, is.down_is))
asked_version limits log place i p txn op rest d (counted votes o v short ph st at c is) = absurd (cc (d, is.down_is))
asked_version limits log place i p txn op rest d (acked acks ph at is) = absurd (cc (d, is.down_is))
asked_version limits log place i p txn op rest d (finished acks ph at is) = absurd (cc (d, is.down_is))

-- the one operation that a front of the log lacks
last_of : (front more log : List Op) (op : Op) → front ++ more ≡ log → length log ≡ length front + 1 → slice_get log (length front) ≡ Some op → IsPrefix (front ++ op ∷ []) log
last_of front [] log op e long at = absurd (omega (arith, ap length e, length-append front [], long))
last_of front (x ∷ []) log op e long at =
    let a : slice_get (front ++ x ∷ []) (length front) ≡ Some op = subst (λ (l : List Op). slice_get l (length front) ≡ Some op) (sym e) at in
    let b = get_end front x in
    let same : x ≡ op = cc in
    ([], append-nil (front ++ op ∷ []) ∙ (ap (λ (y : Op). front ++ y ∷ []) (sym same) ∙ e))
last_of front (x ∷ y ∷ more) log op e long at = absurd (omega (arith, ap length e, length-append front (x ∷ y ∷ more), long))

-- a core that takes Commit commits the log's next operation
commits_log : (limits : TableLimits) (log front : List Op) (place : CoordinatorPlace) (i : ℕ) (p : Peer) (txn : ℕ) (rest : List Message) → commitments p.down ≡ message.Commit txn ∷ rest → IsPrefix front log → p.version ≡ length front → Pair limits log place i p
    → IsPrefix (joined front p.place.staged) log
commits_log limits log front place i p txn rest d f v (to_commit acks op version ph at le fits entry is) =
    let long : length front ≡ version = sym v ∙ is.version_is in
    rw is.staged_is (last_of front f.0 log op f.1 (omega (arith, le, long)) (rw long entry))
commits_log limits log front place i p txn rest d f v (to_abort acks x st ph at is) = absurd (cc (d, is.down_is))
commits_log limits log front place i p txn rest d f v (asked votes o last ph st at le is) = absurd (cc (d, is.down_is))
commits_log limits log front place i p txn rest d f v (at_rest ph is) = absurd (cc (d, is.down_is))
commits_log limits log front place i p txn rest d f v (voted votes o x short ph st at c is) = absurd (cc (d, is.down_is))
commits_log limits log front place i p txn rest d f v (counted votes o x short ph st at c is) = absurd (cc (d, is.down_is))
commits_log limits log front place i p txn rest d f v (acked acks ph at is) = absurd (cc (d, is.down_is))
commits_log limits log front place i p txn rest d f v (finished acks ph at is) = absurd (cc (d, is.down_is))

-- a front that is as long as the whole
pub whole_front : (front log : List Op) → IsPrefix front log → length front ≡ length log → front ≡ log
whole_front front log f e =
    let none = empty_list f.0 (omega (arith, ap length f.1, length-append front f.0, e)) in
    sym (append-nil front) ∙ (ap (λ (x : List Op). front ++ x) (sym none) ∙ f.1)

-- only a Prepare is answered by the table
takes_like : (short : Bool) (s s' : TableState) (b version : ℕ) (place place' : ParticipantPlace) (out out' : Bool) (m : Message) (committed : Option Op) (answer : Answer)
    → ((txn : ℕ) (op : Op) → m ≡ message.Prepare txn op → s ≡ s') → TakesDownAt short s b version place out m place' out' committed answer → TakesDownAt short s' b version place out m place' out' committed answer
takes_like short s s' b version place place' out out' (message.Reply d) committed answer same h = h
takes_like short s s' b version place place' out out' (message.Prepare txn op) committed answer same h = subst (λ (x : TableState). TakesDownAt short x b version place out (message.Prepare txn op) place' out' committed answer) (same txn op refl) h
takes_like short s s' b version place place' out out' (message.Commit txn) committed answer same h = record { reply = h.reply; answers = by_reply h.reply h.answers; same_outstanding = h.same_outstanding; is_committed = h.is_committed; is_answer = h.is_answer }
  where
    by_reply : (reply : Message) → Answers short s b place (message.Commit txn) place' reply → Answers short s' b place (message.Commit txn) place' reply
    by_reply (message.Ack n) a = a
    by_reply reply a = absurd a
takes_like short s s' b version place place' out out' (message.Abort txn) committed answer same h = record { reply = h.reply; answers = by_reply h.reply h.answers; same_outstanding = h.same_outstanding; is_committed = h.is_committed; is_answer = h.is_answer }
  where
    by_reply : (reply : Message) → Answers short s b place (message.Abort txn) place' reply → Answers short s' b place (message.Abort txn) place' reply
    by_reply (message.Ack n) a = a
    by_reply reply a = absurd a
takes_like short s s' b version place place' out out' (message.Vote txn v) committed answer same h = absurd h.answers
takes_like short s s' b version place place' out out' (message.Ack txn) committed answer same h = absurd h.answers
takes_like short s s' b version place place' out out' (message.Submit op) committed answer same h = absurd h.answers

takes_at : (short : Bool) (s : TableState) (b version known : ℕ) (place at place' : ParticipantPlace) (out told out' : Bool) (m : Message) (committed : Option Op) (answer : Answer) → version ≡ known → place ≡ at → out ≡ told
    → TakesDownAt short s b known at told m place' out' committed answer → TakesDownAt short s b version place out m place' out' committed answer
takes_at short s b version known place at place' out told out' m committed answer ev ep eo h = rw (ev, ep, eo) h

submits_at : (out known out' : Bool) (answer : Answer) → out ≡ known → SubmitsAt known out' answer → SubmitsAt out out' answer
submits_at out known out' answer e h = rw e h

-- a front of the log is a table of the log
receives_at : (limits : TableLimits) (log front : List Op) (version : ℕ) (packet : CapturedPacket) (floor : ℕ) (answer : Answer) → version ≡ length front → IsPrefix front log → ReceivesAt (table limits front (length front)) (length front) packet floor answer
    → ReceivesAt (table limits log version) version packet floor answer
receives_at limits log front version packet floor answer e f h = rw (e, ← f.1, table_front limits front f.0 (length front) (omega arith)) h

-- The world after an event of another core

-- the event happens, and changes this core alone
pub record Moved (w : World) (i : ℕ) (p : Peer) (event : Event) (answer : Answer) (q : Peer) : Type 0 where
  pub world : World
  pub happens : Happens w event world answer
  pub limits_are : world.limits ≡ w.limits
  pub log_is : world.log ≡ w.log
  pub place_is : world.place ≡ w.place
  pub requests_are : world.requests ≡ w.requests
  pub peers : (j : ℕ) (x : Peer) → slice_get world.peers j ≡ Some x → ((i ≡ j) × (x ≡ q)) ⊎ ((i ≡ j → ⊥) × (slice_get w.peers j ≡ Some x))

pub record Owned (rd ru : ℕ → List Stamping) (w : World) (i : ℕ) (p : Peer) (s : Stamped) (r : List Stamped) (e : OtherState) (sent : List Sending) (taken0 : List (ℕ × Stamping)) : Type 0 where
  pub new : Peer
  pub moved : Moved w i p s.done.event s.done.answer new
  pub seat : Seat rd ru i w.limits w.log new r e sent taken0

-- what the core has committed is a front of the log, and its table is the newest where it is asked to vote
record Fitting (log front : List Op) (committed : Option Op) (m : Message) : Type 0 where
  still_front : IsPrefix (joined front committed) log
  newest_front : (txn : ℕ) (op : Op) → m ≡ message.Prepare txn op → front ≡ log

fitting : (limits : TableLimits) (log front : List Op) (place : CoordinatorPlace) (i : ℕ) (p : Peer) (short : Bool) (s : TableState) (b version : ℕ) (place' : ParticipantPlace) (out' : Bool) (m : Message) (rest : List Message) (committed : Option Op) (answer : Answer)
    → p.down ≡ m ∷ rest → Pair limits log place i p → IsPrefix front log → p.version ≡ length front → TakesDownAt short s b version p.place p.outstanding m place' out' committed answer → Fitting log front committed m
fitting limits log front place i p short s b version place' out' (message.Reply d) rest committed answer e pair f v h = record { still_front = rw h.none_committed f; newest_front = λ txn op is. absurd cc }
fitting limits log front place i p short s b version place' out' (message.Prepare txn op) rest committed answer e pair f v h = record {
  still_front = rw h.is_committed f;
  newest_front = λ t o is. whole_front front log f (sym v ∙ asked_version limits log place i p txn op (commitments rest) (ap commitments e) pair);
}
fitting limits log front place i p short s b version place' out' (message.Commit txn) rest committed answer e pair f v h = record {
  still_front = rw h.is_committed (commits_log limits log front place i p txn (commitments rest) (ap commitments e) f v pair);
  newest_front = λ t o is. absurd cc;
}
fitting limits log front place i p short s b version place' out' (message.Abort txn) rest committed answer e pair f v h = record { still_front = rw h.is_committed f; newest_front = λ t o is. absurd cc }
fitting limits log front place i p short s b version place' out' (message.Vote txn v') rest committed answer e pair f v h = absurd h.answers
fitting limits log front place i p short s b version place' out' (message.Ack txn) rest committed answer e pair f v h = absurd h.answers
fitting limits log front place i p short s b version place' out' (message.Submit op) rest committed answer e pair f v h = absurd h.answers

own_take : (rd ru : ℕ → List Stamping) (w : World) (i : ℕ) (p : Peer) (stamp : ℕ) (short : Bool) (answer : Answer) (m : Stamping) (r : List Stamped) (e mid : OtherState) (sent : List Sending) (taken0 : List (ℕ × Stamping)) (taken : List Stamping)
    → Inv w → slice_get w.peers i ≡ Some p → (seat : Seat rd ru i w.limits w.log p (record { stamp = stamp; done = record { event = Take (suc i) 0 short; answer = answer } } ∷ r) e sent taken0)
    → TakeOther p.budget seat.core stamp short m.message mid answer → HistoryOther i p.budget mid r e taken → (m ∷ taken) ++ rd i ≡ seat.down ++ sent_to i sent → ((ms : List Stamping) → sent_to i sent ≡ m ∷ ms → ⊥)
    → Owned rd ru w i p (record { stamp = stamp; done = record { event = Take (suc i) 0 short; answer = answer } }) r e sent taken0
own_take rd ru w i p stamp short answer m r e mid sent taken0 taken inv at seat h ahead takes there = record {
  new = q;
  moved = record {
    world = record w { peers = slice_set w.peers i q };
    happens = record {
      peer = p;
      is_peer = at;
      m = m.message;
      rest = messages box.0;
      oldest = oldest;
      place = h.place;
      outstanding = h.outstanding;
      committed = h.committed;
      here = takes_like short (table d.limits d.log (length d.log)) (newest w) p.budget p.version p.place h.place p.outstanding h.outstanding m.message h.committed answer
          (λ txn op is. ap (λ (l : List Op). table d.limits l (length l)) (fit.newest_front txn op is) ∙ ap (λ (m : TableLimits). table m w.log (length w.log)) (sym seat.limits_are)) here;
      next = refl;
    };
    limits_are = refl;
    log_is = refl;
    place_is = refl;
    requests_are = refl;
    peers = set_cases w.peers i q p at;
  };
  seat = seat_own rd ru i w.limits w.log p q _ r e sent taken0 seat mid taken box.0 ahead (seat.limits_are ∙ ap (λ (x : OtherState). x.limits) (sym h.next))
      (ap (λ (n : ℕ). raised n h.committed) seat.version_is ∙ (raised_long d.log h.committed ∙ ap (λ (x : OtherState). length x.log) (sym h.next)))
      (subst (λ (x : OtherState). IsPrefix x.log w.log) (sym h.next) fit.still_front)
      (ap (λ (x : OtherState). x.place) (sym h.next)) (ap (λ (x : OtherState). x.outstanding) (sym h.next)) refl refl box.2;
}
  where
    d : OtherState
    d = seat.core

    box : (rest : List Stamping) × (seat.down ≡ m ∷ rest) × (taken ++ rd i ≡ rest ++ sent_to i sent)
    box = front_at m taken (rd i) seat.down (sent_to i sent) takes there

    q : Peer
    q = record { budget = p.budget; version = raised p.version h.committed; place = h.place; outstanding = h.outstanding; down = messages box.0; up = p.up ++ option_to_list (sent_up (Take (suc i) 0 short) answer) }

    oldest : p.down ≡ m.message ∷ messages box.0
    oldest = sym seat.down_is ∙ ap messages box.1

    here : TakesDownAt short (table d.limits d.log (length d.log)) p.budget p.version p.place p.outstanding m.message h.place h.outstanding h.committed answer
    here = takes_at short (table d.limits d.log (length d.log)) p.budget p.version (length d.log) p.place d.place h.place p.outstanding d.outstanding h.outstanding m.message h.committed answer seat.version_is seat.place_is seat.outstanding_is h.here

    fit : Fitting w.log d.log h.committed m.message
    fit = fitting w.limits w.log d.log w.place i p short (table d.limits d.log (length d.log)) p.budget p.version h.place h.outstanding m.message (messages box.0) h.committed answer oldest (inv.pairs i p at) seat.is_front seat.version_is here

own_submit : (rd ru : ℕ → List Stamping) (w : World) (i : ℕ) (p : Peer) (stamp : ℕ) (op : Op) (answer : Answer) (r : List Stamped) (e mid : OtherState) (sent : List Sending) (taken0 : List (ℕ × Stamping)) (taken : List Stamping)
    → slice_get w.peers i ≡ Some p → (seat : Seat rd ru i w.limits w.log p (record { stamp = stamp; done = record { event = Submit (suc i) op; answer = answer } } ∷ r) e sent taken0)
    → SubmitOther seat.core stamp mid answer → HistoryOther i p.budget mid r e taken → taken ++ rd i ≡ seat.down ++ sent_to i sent
    → Owned rd ru w i p (record { stamp = stamp; done = record { event = Submit (suc i) op; answer = answer } }) r e sent taken0
own_submit rd ru w i p stamp op answer r e mid sent taken0 taken at seat h ahead takes = record {
  new = q;
  moved = record {
    world = record w { peers = slice_set w.peers i q };
    happens = record { peer = p; is_peer = at; outstanding = h.outstanding; here = submits_at p.outstanding seat.core.outstanding h.outstanding answer seat.outstanding_is h.here; next = refl };
    limits_are = refl;
    log_is = refl;
    place_is = refl;
    requests_are = refl;
    peers = set_cases w.peers i q p at;
  };
  seat = seat_own rd ru i w.limits w.log p q _ r e sent taken0 seat mid taken seat.down ahead (seat.limits_are ∙ ap (λ (x : OtherState). x.limits) (sym h.next))
      (seat.version_is ∙ ap (λ (x : OtherState). length x.log) (sym h.next)) (subst (λ (x : OtherState). IsPrefix x.log w.log) (sym h.next) seat.is_front)
      (seat.place_is ∙ ap (λ (x : OtherState). x.place) (sym h.next)) (ap (λ (x : OtherState). x.outstanding) (sym h.next)) seat.down_is refl takes;
}
  where
    q : Peer
    q = record p { outstanding = h.outstanding; up = p.up ++ option_to_list (sent_up (Submit (suc i) op) answer) }

own_rx : (rd ru : ℕ → List Stamping) (w : World) (i : ℕ) (p : Peer) (stamp number : ℕ) (packet : CapturedPacket) (floor : ℕ) (answer : Answer) (r : List Stamped) (e mid : OtherState) (sent : List Sending) (taken0 : List (ℕ × Stamping)) (taken : List Stamping)
    → slice_get w.peers i ≡ Some p → (seat : Seat rd ru i w.limits w.log p (record { stamp = stamp; done = record { event = Rx (suc i) number packet floor; answer = answer } } ∷ r) e sent taken0)
    → RxOther seat.core stamp packet floor mid answer → HistoryOther i p.budget mid r e taken → taken ++ rd i ≡ seat.down ++ sent_to i sent
    → Owned rd ru w i p (record { stamp = stamp; done = record { event = Rx (suc i) number packet floor; answer = answer } }) r e sent taken0
own_rx rd ru w i p stamp number packet floor answer r e mid sent taken0 taken at seat h ahead takes = record {
  new = p;
  moved = record {
    world = w;
    happens = record {
      version = p.version;
      is_version = ap (option_map (λ (x : Peer). x.version)) at;
      here = receives_at w.limits w.log seat.core.log p.version packet floor answer seat.version_is seat.is_front
          (subst (λ (m : TableLimits). ReceivesAt (table m seat.core.log (length seat.core.log)) (length seat.core.log) packet floor answer) (sym seat.limits_are) h.here);
      next = refl;
    };
    limits_are = refl;
    log_is = refl;
    place_is = refl;
    requests_are = refl;
    peers = λ j x here. same j x here (same_or_not i j);
  };
  seat = seat_own rd ru i w.limits w.log p p _ r e sent taken0 seat mid taken seat.down ahead (seat.limits_are ∙ ap (λ (x : OtherState). x.limits) (sym h.next))
      (seat.version_is ∙ ap (λ (x : OtherState). length x.log) (sym h.next)) (subst (λ (x : OtherState). IsPrefix x.log w.log) (sym h.next) seat.is_front)
      (seat.place_is ∙ ap (λ (x : OtherState). x.place) (sym h.next)) (seat.outstanding_is ∙ ap (λ (x : OtherState). x.outstanding) (sym h.next)) seat.down_is
      (sym (append-nil p.up) ∙ ap (λ (a : Answer). p.up ++ option_to_list (sent_up (Rx (suc i) number packet floor) a)) (sym h.here.is_answer)) takes;
}
  where
    same : (j : ℕ) (x : Peer) → slice_get w.peers j ≡ Some x → ((i ≡ j) ⊎ (i ≡ j → ⊥)) → ((i ≡ j) × (x ≡ p)) ⊎ ((i ≡ j → ⊥) × (slice_get w.peers j ≡ Some x))
    same j x here (inl e') = let here' : slice_get w.peers i ≡ Some x = subst (λ (k : ℕ). slice_get w.peers k ≡ Some x) (sym e') here in inl (e', cc)
    same j x here (inr ne) = inr (ne, here)

-- the first event of a core's history happens in the world, where every message that it takes has been sent
abbrev OwnEvent : (ℕ → List Stamping) → (ℕ → List Stamping) → Event → ℕ → Type 0
OwnEvent rd ru event i = (w : World) (p : Peer) (stamp : ℕ) (answer : Answer) (m : Option Stamping) (r : List Stamped) (e mid : OtherState) (sent : List Sending) (taken0 : List (ℕ × Stamping)) (taken : List Stamping) → Inv w → slice_get w.peers i ≡ Some p
    → (seat : Seat rd ru i w.limits w.log p (record { stamp = stamp; done = record { event = event; answer = answer } } ∷ r) e sent taken0) → StepOther i p.budget seat.core stamp event m mid answer → HistoryOther i p.budget mid r e taken
    → seat.taken ≡ option_to_list m ++ taken → ((n : Stamping) (ms : List Stamping) → sent_to i sent ≡ n ∷ ms → n.stamp < stamp → ⊥) → Owned rd ru w i p (record { stamp = stamp; done = record { event = event; answer = answer } }) r e sent taken0

takes_now : (rd ru : ℕ → List Stamping) (i : ℕ) (limits : TableLimits) (log : List Op) (p : Peer) (h : List Stamped) (e : OtherState) (sent : List Sending) (taken0 : List (ℕ × Stamping)) (seat : Seat rd ru i limits log p h e sent taken0) (taken : List Stamping) → seat.taken ≡ taken → taken ++ rd i ≡ seat.down ++ sent_to i sent
takes_now rd ru i limits log p h e sent taken0 seat taken t = subst (λ (x : List Stamping). x ++ rd i ≡ seat.down ++ sent_to i sent) t seat.takes

own_submits : (rd ru : ℕ → List Stamping) (i : ℕ) (op : Op) → OwnEvent rd ru (Submit (suc i) op) i
own_submits rd ru i op w p stamp answer None r e mid sent taken0 taken inv at seat h ahead t late = own_submit rd ru w i p stamp op answer r e mid sent taken0 taken at seat h.does.1 ahead (takes_now rd ru i w.limits w.log p _ e sent taken0 seat taken t)
own_submits rd ru i op w p stamp answer (Some m) r e mid sent taken0 taken inv at seat h ahead t late = absurd h.does

own_takes : (rd ru : ℕ → List Stamping) (i : ℕ) (short : Bool) → OwnEvent rd ru (Take (suc i) 0 short) i
own_takes rd ru i short w p stamp answer None r e mid sent taken0 taken inv at seat h ahead t late = absurd h.does
own_takes rd ru i short w p stamp answer (Some m) r e mid sent taken0 taken inv at seat h ahead t late =
    own_take rd ru w i p stamp short answer m r e mid sent taken0 taken inv at seat h.does.1 ahead (takes_now rd ru i w.limits w.log p _ e sent taken0 seat (m ∷ taken) t)
    (λ ms first. late m ms first (omega (arith, h.ticks, tick_after seat.core.clock m)))

own_receives : (rd ru : ℕ → List Stamping) (i number : ℕ) (packet : CapturedPacket) (floor : ℕ) → OwnEvent rd ru (Rx (suc i) number packet floor) i
own_receives rd ru i number packet floor w p stamp answer None r e mid sent taken0 taken inv at seat h ahead t late = own_rx rd ru w i p stamp number packet floor answer r e mid sent taken0 taken at seat h.does.1 ahead (takes_now rd ru i w.limits w.log p _ e sent taken0 seat taken t)
own_receives rd ru i number packet floor w p stamp answer (Some m) r e mid sent taken0 taken inv at seat h ahead t late = absurd h.does

own_event : (rd ru : ℕ → List Stamping) (event : Event) (i : ℕ) → OwnEvent rd ru event i
own_event rd ru (Submit (suc core) op) i w p stamp answer None r e mid sent taken0 taken inv at seat h ahead t late =
    subst (λ (k : ℕ). OwnEvent rd ru (Submit (suc k) op) i) (sym h.does.0) (own_submits rd ru i op) w p stamp answer None r e mid sent taken0 taken inv at seat h ahead t late
own_event rd ru (Take (suc to) zero short) i w p stamp answer (Some m) r e mid sent taken0 taken inv at seat h ahead t late =
    subst (λ (k : ℕ). OwnEvent rd ru (Take (suc k) 0 short) i) (sym h.does.0) (own_takes rd ru i short) w p stamp answer (Some m) r e mid sent taken0 taken inv at seat h ahead t late
own_event rd ru (Rx (suc core) number packet floor) i w p stamp answer None r e mid sent taken0 taken inv at seat h ahead t late =
    subst (λ (k : ℕ). OwnEvent rd ru (Rx (suc k) number packet floor) i) (sym h.does.0) (own_receives rd ru i number packet floor) w p stamp answer None r e mid sent taken0 taken inv at seat h ahead t late
own_event rd ru event i w p stamp answer m r e mid sent taken0 taken inv at seat h ahead t late = absurd h.does

pub own_step : (rd ru : ℕ → List Stamping) (w : World) (i : ℕ) (p : Peer) (s : Stamped) (r : List Stamped) (e : OtherState) (sent : List Sending) (taken0 : List (ℕ × Stamping)) → Inv w → slice_get w.peers i ≡ Some p
    → Seat rd ru i w.limits w.log p (s ∷ r) e sent taken0 → ((m : Stamping) (ms : List Stamping) → sent_to i sent ≡ m ∷ ms → m.stamp < s.stamp → ⊥) → Owned rd ru w i p s r e sent taken0
own_step rd ru w i p s r e sent taken0 inv at seat late =
    let h = seat.ahead in
    own_event rd ru s.done.event i w p s.stamp s.done.answer h.1 r e h.0 sent taken0 h.2 inv at seat h.3 h.4 h.5 late
