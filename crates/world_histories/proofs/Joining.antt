-- The first event that is left, by stamp and then by core, leads on in the world.
use Rattle.std.proofs.Common.{◌≡◌, ◌≤◌, ◌⊎◌, inl, inr, ℕ, zero, suc, Bool, true, Option, Some, List, [], ◌∷◌, ◌++◌, length, slice_get, slice_set, refl, sym, ◌∙◌, subst, arith}
use Rattle.std.proofs.lemmas.List.{map-append}
use Rattle.filter_table.specs.Limits.{TableLimits}
use Rattle.filter_table.specs.declared.operation.Op.{Op}
use Rattle.filter_table.specs.Tables.{TableState}
use Rattle.monitor_messages.specs.declared.message.Message.{Message}
use Rattle.monitor_messages.specs.declared.message.Message.TheVariants as message
use Rattle.filter_table.specs.declared.decision.Vote.{Vote}
use Rattle.filter_table.specs.declared.decision.Vote.TheVariants as vote
use Rattle.two_phase.specs.Participants.{ParticipantPlace, Casts, Answers}
use Rattle.world_events.specs.declared.event.Event.{Event}
use Rattle.world_events.specs.declared.event.Event.TheVariants.{Take}
use Rattle.world_events.specs.declared.event.Answer.{Answer}
use Rattle.world_events.specs.declared.event.Answer.TheVariants.{TookPrepare}
use Rattle.world_events.specs.declared.event.Done.{Done}
use Rattle.world_model.specs.Cases.{raised, TakesDownAt, Took}
use Rattle.world_model.specs.Worlds.{Peer, World, newest, new_peer, boot, HappensDown, Happens, Run}
use Rattle.world_model.proofs.Lists.{get-set_same, get-set_other, length-slice_set, get_map}
use Rattle.world_model.proofs.Runs.{runs_more}
use Rattle.world_model.proofs.Agreement.{run_inv}
use Rattle.world_model.proofs.Known.{run_known}
use Rattle.world_histories.specs.declared.history.Stamped.{Stamped}
use Rattle.world_histories.specs.Histories.{Stamping, Sending, sent_to, sent_by, taken_from, taking, TakesInOrder, Core0State, core0_first, OtherState, other_first, Computation}
use Rattle.world_histories.specs.Merging.{as_short, listed, as_listed}
use Rattle.world_histories.proofs.Clocks.{first_sent_to}
use Rattle.world_histories.proofs.Seats.{Seat, SeatOf, Joint}
use Rattle.world_histories.proofs.Leads.{Seats, Led, Stands, NotBefore, core0_step}
use Rattle.world_histories.proofs.Owns.{Owned, own_step}
use Rattle.std.proofs.lemmas.Option.{slice_get_within}
use Rattle.filter_table.proofs.Positions.{get_at}

-- A vote NoMemory is as it would be with the flag

casts_short : (short : Bool) (s : TableState) (b : ℕ) (op : Op) (v : Vote) → v ≡ vote.NoMemory → Casts short s b op v → Casts true s b op v
casts_short short s b op vote.Yes e c = absurd (cc)
casts_short short s b op vote.Budget e c = absurd (cc)
casts_short short s b op vote.NoMemory e c = c

short_at : (short : Bool) (s : TableState) (b version : ℕ) (place place' : ParticipantPlace) (out out' : Bool) (m : Message) (committed : Option Op) (txn : ℕ) → TakesDownAt short s b version place out m place' out' committed (TookPrepare txn vote.NoMemory)
    → TakesDownAt true s b version place out m place' out' committed (TookPrepare txn vote.NoMemory)
short_at short s b version place place' out out' (message.Prepare t op) committed txn h =
    record { reply = h.reply; answers = by_reply h.reply h.answers h.is_answer; same_outstanding = h.same_outstanding; is_committed = h.is_committed; is_answer = h.is_answer }
  where
    by_reply : (reply : Message) → Answers short s b place (message.Prepare t op) place' reply → Took (message.Prepare t op) reply (raised version committed) (TookPrepare txn vote.NoMemory) → Answers true s b place (message.Prepare t op) place' reply
    by_reply (message.Vote n v) a is = (a.0, a.1, casts_short short s b op v (let e : TookPrepare txn vote.NoMemory ≡ TookPrepare t v = is in cc) a.2, a.3, a.4)
    by_reply reply a is = absurd a
short_at short s b version place place' out out' (message.Reply d) committed txn h = absurd (let e = h.is_answer in cc)
short_at short s b version place place' out out' (message.Commit t) committed txn h = absurd (let e = h.is_answer in cc)
short_at short s b version place place' out out' (message.Abort t) committed txn h = absurd (let e = h.is_answer in cc)
short_at short s b version place place' out out' (message.Vote t v) committed txn h = absurd h.answers
short_at short s b version place place' out out' (message.Ack t) committed txn h = absurd h.answers
short_at short s b version place place' out out' (message.Submit op) committed txn h = absurd h.answers

down_short : (w w' : World) (i : ℕ) (short : Bool) (txn : ℕ) → HappensDown w i short w' (TookPrepare txn vote.NoMemory) → HappensDown w i true w' (TookPrepare txn vote.NoMemory)
down_short w w' i short txn h = record {
  peer = h.peer;
  is_peer = h.is_peer;
  m = h.m;
  rest = h.rest;
  oldest = h.oldest;
  place = h.place;
  outstanding = h.outstanding;
  committed = h.committed;
  here = short_at short (newest w) h.peer.budget h.peer.version h.peer.place h.place h.peer.outstanding h.outstanding h.m h.committed txn h.here;
  next = h.next;
}

short_happens : (w w' : World) (event : Event) (answer : Answer) → Happens w event w' answer → Happens w (as_short event answer) w' answer
short_happens w w' (Take (suc i) zero short) (TookPrepare txn vote.NoMemory) h = down_short w w' i short txn h
short_happens w w' (Take zero (suc i) short) (TookPrepare txn vote.NoMemory) h = h
short_happens w w' (Take zero zero short) (TookPrepare txn vote.NoMemory) h = h
short_happens w w' (Take (suc i) (suc j) short) (TookPrepare txn vote.NoMemory) h = h
short_happens w w' event answer h = h

run_more : (limits : TableLimits) (budget : ℕ) (budgets : List ℕ) (before : List Stamped) (s : Stamped) (w w' : World) → Run limits budget budgets (as_listed before) w → Happens w s.done.event w' s.done.answer → Run limits budget budgets (as_listed (before ++ s ∷ [])) w'
run_more limits budget budgets before s w w' run h =
    subst (λ (xs : List Done). Run limits budget budgets xs w') (sym (map-append listed before (s ∷ [])))
    (runs_more (boot limits budget budgets) w w' (as_listed before) (listed s) run (short_happens w w' s.done.event s.done.answer h))

-- After an event of core 0

pub record Next (rd ru : ℕ → List Stamping) (limits : TableLimits) (budget : ℕ) (budgets : List ℕ) (before : List Stamped) (h0 : List Stamped) (hs : List (List Stamped)) (end : Core0State) (ends : List OtherState) : Type 0 where
  pub world : World
  pub core0 : Core0State
  pub joint : Joint rd ru limits budget budgets before world core0 h0 hs end ends

stands_at : (rd ru : ℕ → List Stamping) (limits : TableLimits) (budget : ℕ) (budgets : List ℕ) (before : List Stamped) (w : World) (c : Core0State) (h0 : List Stamped) (hs : List (List Stamped)) (end : Core0State) (ends : List OtherState) → Joint rd ru limits budget budgets before w c h0 hs end ends → Stands budget budgets w c
stands_at rd ru limits budget budgets before w c h0 hs end ends j =
    let k = run_known limits budget budgets (as_listed before) w j.run in
    record { inv = run_inv limits budget budgets (as_listed before) w j.run; budget_is = k.budget_is; cores = k.cores; waiting_long = k.waiting_long; limits_are = j.limits_are; log_is = j.log_is; place_is = j.place_is; requests_are = j.requests_are }

pub joint0 : (rd ru : ℕ → List Stamping) (limits : TableLimits) (budget : ℕ) (budgets : List ℕ) (before : List Stamped) (w : World) (c : Core0State) (s : Stamped) (r : List Stamped) (hs : List (List Stamped)) (end : Core0State) (ends : List OtherState)
    → Joint rd ru limits budget budgets before w c (s ∷ r) hs end ends → NotBefore s.stamp hs → Next rd ru limits budget budgets (before ++ s ∷ []) r hs end ends
joint0 rd ru limits budget budgets before w c s r hs end ends j late = record {
  world = led.world;
  core0 = j.ahead.0;
  joint = record {
    run = run_more limits budget budgets before s w led.world j.run led.happens;
    limits_are = led.limits_are;
    log_is = led.log_is;
    place_is = led.place_is;
    requests_are = led.requests_are;
    sent = j.ahead.3;
    taken = j.ahead.4;
    ahead = j.ahead.6;
    cores = j.cores;
    seats = led.seats;
  };
}
  where
    seats : Seats rd ru w.limits w.log w.peers hs ends (record { stamp = s.stamp; sent = j.ahead.2 } ∷ j.ahead.3) (taking s.done.event j.ahead.1 ++ j.ahead.4)
    seats = subst (λ (x : List (ℕ × Stamping)). Seats rd ru w.limits w.log w.peers hs ends (record { stamp = s.stamp; sent = j.ahead.2 } ∷ j.ahead.3) x) j.ahead.8
        (subst (λ (x : List Sending). Seats rd ru w.limits w.log w.peers hs ends x j.taken) j.ahead.7 j.seats)

    led : Led rd ru w s.done.event s.done.answer j.ahead.0 hs ends j.ahead.3 j.ahead.4
    led = core0_step rd ru budget budgets w c j.ahead.0 s j.ahead.1 j.ahead.2 hs ends j.ahead.3 j.ahead.4 (stands_at rd ru limits budget budgets before w c (s ∷ r) hs end ends j) j.ahead.5 seats late

-- After an event of another core

pub joint_own : (rd ru : ℕ → List Stamping) (limits : TableLimits) (budget : ℕ) (budgets : List ℕ) (before : List Stamped) (w : World) (c : Core0State) (h0 : List Stamped) (i : ℕ) (s : Stamped) (r : List Stamped) (hs : List (List Stamped)) (end : Core0State) (ends : List OtherState)
    → Joint rd ru limits budget budgets before w c h0 hs end ends → slice_get hs i ≡ Some (s ∷ r) → ((t : Stamped) (rest : List Stamped) → h0 ≡ t ∷ rest → s.stamp ≤ t.stamp) → Next rd ru limits budget budgets (before ++ s ∷ []) h0 (slice_set hs i r) end ends
joint_own rd ru limits budget budgets before w c h0 i s r hs end ends j at_h late = record {
  world = own.moved.world;
  core0 = c;
  joint = record {
    run = run_more limits budget budgets before s w own.moved.world j.run own.moved.happens;
    limits_are = own.moved.limits_are ∙ j.limits_are;
    log_is = own.moved.log_is ∙ j.log_is;
    place_is = own.moved.place_is ∙ j.place_is;
    requests_are = own.moved.requests_are ∙ j.requests_are;
    sent = j.sent;
    taken = j.taken;
    ahead = j.ahead;
    cores = length-slice_set hs i r ∙ j.cores;
    seats = λ k x at. by_place k x (own.moved.peers k x at);
  };
}
  where
    st : Stands budget budgets w c
    st = stands_at rd ru limits budget budgets before w c h0 hs end ends j

    at : (p : Peer) × (slice_get w.peers i ≡ Some p)
    at = get_at w.peers i (omega (arith, st.cores, j.cores, slice_get_within hs i (s ∷ r) at_h))

    mine : SeatOf rd ru i w.limits w.log at.0 hs ends j.sent j.taken
    mine = j.seats i at.0 at.1

    is_mine : mine.history ≡ s ∷ r
    is_mine = let x = mine.is_history in cc

    own : Owned rd ru w i at.0 s r mine.end j.sent j.taken
    own = own_step rd ru w i at.0 s r mine.end j.sent j.taken st.inv at.1 (subst (λ (x : List Stamped). Seat rd ru i w.limits w.log at.0 x mine.end j.sent j.taken) is_mine mine.seat)
        (λ m ms first before_it.
        let f = first_sent_to (length budgets) budget i c end h0 j.sent j.taken m ms j.ahead first in
        omega (arith, f.not_before, late f.first f.later f.is))

    by_place : (k : ℕ) (x : Peer) → (((i ≡ k) × (x ≡ own.new)) ⊎ ((i ≡ k → ⊥) × (slice_get w.peers k ≡ Some x))) → SeatOf rd ru k own.moved.world.limits own.moved.world.log x (slice_set hs i r) ends j.sent j.taken
    by_place k x (inl e) =
        subst (λ (n : ℕ). SeatOf rd ru n own.moved.world.limits own.moved.world.log x (slice_set hs i r) ends j.sent j.taken) e.0
        (subst (λ (y : Peer). SeatOf rd ru i own.moved.world.limits own.moved.world.log y (slice_set hs i r) ends j.sent j.taken) (sym e.1)
        (record {
          history = r;
          is_history = get-set_same hs i r (s ∷ r) at_h;
          end = mine.end;
          is_end = mine.is_end;
          seat = subst (λ (m : TableLimits). Seat rd ru i m own.moved.world.log own.new r mine.end j.sent j.taken) (sym own.moved.limits_are)
              (subst (λ (l : List Op). Seat rd ru i w.limits l own.new r mine.end j.sent j.taken) (sym own.moved.log_is) own.seat);
        }))
    by_place k x (inr ne) =
        let o = j.seats k x ne.1 in
        record {
          history = o.history;
          is_history = get-set_other hs i k r ne.0 ∙ o.is_history;
          end = o.end;
          is_end = o.is_end;
          seat = subst (λ (m : TableLimits). Seat rd ru k m own.moved.world.log x o.history o.end j.sent j.taken) (sym own.moved.limits_are)
              (subst (λ (l : List Op). Seat rd ru k w.limits l x o.history o.end j.sent j.taken) (sym own.moved.log_is) o.seat);
        }

-- At first

-- these are the rests of what is sent
abbrev pub Rests : (ℕ → List Stamping) → (ℕ → List Stamping) → TableLimits → List ℕ → List (List Stamped) → List OtherState → List Sending → List (ℕ × Stamping) → Type 0
Rests rd ru limits budgets others ends sent taken0 = (i b : ℕ) (g : List Stamped) (d : OtherState) → slice_get budgets i ≡ Some b → slice_get others i ≡ Some g → slice_get ends i ≡ Some d → (t : TakesInOrder i limits b sent taken0 g d)
    → (t.taken ++ rd i ≡ sent_to i sent) × (taken_from i taken0 ++ ru i ≡ sent_by g)

pub joint_first : (rd ru : ℕ → List Stamping) (limits : TableLimits) (budget : ℕ) (budgets : List ℕ) (core0 : List Stamped) (others : List (List Stamped)) (end : Core0State) (ends : List OtherState) → (h : Computation limits budget budgets core0 others end ends) → Rests rd ru limits budgets others ends h.sent h.taken
    → Joint rd ru limits budget budgets [] (boot limits budget budgets) (core0_first limits (length budgets)) core0 others end ends
joint_first rd ru limits budget budgets core0 others end ends h rests = record {
  run = refl;
  limits_are = refl;
  log_is = refl;
  place_is = refl;
  requests_are = refl;
  sent = h.sent;
  taken = h.taken;
  ahead = h.of_core0;
  cores = h.cores;
  seats = λ i p at. let r = get_map new_peer budgets i p at in subst (λ (x : Peer). SeatOf rd ru i limits [] x others ends h.sent h.taken) (sym r.2) (seat_first i r.0 r.1);
}
  where
    seat_first : (i b : ℕ) → slice_get budgets i ≡ Some b → SeatOf rd ru i limits [] (new_peer b) others ends h.sent h.taken
    seat_first i b at_b =
        let lt = slice_get_within budgets i b at_b in
        let g = get_at others i (omega (arith, h.cores, lt)) in
        let d = get_at ends i (omega (arith, h.all_end, lt)) in
        let t = h.of_other i b g.0 d.0 at_b g.1 d.1 in
        record {
          history = g.0;
          is_history = g.1;
          end = d.0;
          is_end = d.1;
          seat = record {
            core = other_first limits;
            taken = t.taken;
            ahead = t.is_history;
            limits_are = refl;
            version_is = refl;
            is_front = ([], refl);
            place_is = refl;
            outstanding_is = refl;
            down = [];
            up = [];
            down_is = refl;
            up_is = refl;
            takes = (rests i b g.0 d.0 at_b g.1 d.1 t).0;
            gives = (rests i b g.0 d.0 at_b g.1 d.1 t).1;
          };
        }
