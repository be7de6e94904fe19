-- An event of core 0, by its history, is one of the world.
use Rattle.std.proofs.Common.{◌≡◌, ◌<◌, ◌≤◌, ◌⊎◌, inl, inr, ℕ, zero, suc, Bool, false, cond, Option, Some, None, List, [], ◌∷◌, ◌++◌, length, slice_get, slice_set, refl, ap, sym, ◌∙◌, subst, arith}
use Rattle.filter_table.specs.Limits.{TableLimits}
use Rattle.filter_table.specs.declared.operation.Op.{Op}
use Rattle.filter_table.specs.Tables.{table}
use Rattle.pcap_reader.specs.declared.capture.CapturedPacket.{CapturedPacket}
use Rattle.monitor_messages.specs.declared.message.Message.{Message}
use Rattle.monitor_messages.specs.declared.message.Message.TheVariants as message
use Rattle.two_phase.specs.declared.step.Step.{Step}
use Rattle.two_phase.specs.Coordinators.{CoordinatorPlace, Requests, Phase}
use Rattle.world_events.specs.declared.event.Event.{Event}
use Rattle.world_events.specs.declared.event.Event.TheVariants.{Start, StartFor, Take, Rx}
use Rattle.world_events.specs.declared.event.Answer.{Answer}
use Rattle.world_model.specs.Cases.{Outgoing, nothing, outgoing, joined, ReceivesAt, StartsAt, StartsForAt, TakesUpAt}
use Rattle.world_model.specs.Worlds.{Peer, World, newest, sent_out, core0_moves, gave, Happens}
use Rattle.world_model.proofs.Invariant.{Inv, Alone}
use Rattle.world_model.proofs.Steps.{on_vote}
use Rattle.world_model.proofs.Submissions.{eq_self, eq_other}
use Rattle.world_histories.specs.declared.history.Stamped.{Stamped}
use Rattle.world_histories.specs.Histories.{Stamping, Sending, sent_by, taking, taken_from, Core0State, Take0, Step0, OtherState}
use Rattle.world_histories.proofs.Lists.{front_at, set_cases}
use Rattle.world_histories.proofs.Clocks.{tick_after, first_sent_by}
use Rattle.world_histories.proofs.Seats.{messages, Seat, SeatOf, got_out, seat_got}
use Rattle.std.proofs.lemmas.Option.{slice_get_within}
use Rattle.filter_table.proofs.Positions.{get_at}

abbrev pub Seats : (ℕ → List Stamping) → (ℕ → List Stamping) → TableLimits → List Op → List Peer → List (List Stamped) → List OtherState → List Sending → List (ℕ × Stamping) → Type 0
Seats rd ru limits log peers hs ends sent taken = (i : ℕ) (p : Peer) → slice_get peers i ≡ Some p → SeatOf rd ru i limits log p hs ends sent taken

-- the world after an event of core 0, with the rests of the others' histories
pub record Led (rd ru : ℕ → List Stamping) (w : World) (event : Event) (answer : Answer) (mid : Core0State) (hs : List (List Stamped)) (ends : List OtherState) (sent : List Sending) (taken : List (ℕ × Stamping)) : Type 0 where
  pub world : World
  pub happens : Happens w event world answer
  pub limits_are : world.limits ≡ mid.limits
  pub log_is : world.log ≡ mid.log
  pub place_is : world.place ≡ mid.place
  pub requests_are : world.requests ≡ mid.requests
  pub seats : Seats rd ru world.limits world.log world.peers hs ends sent taken

seats_sent : (rd ru : ℕ → List Stamping) (limits : TableLimits) (log : List Op) (peers : List Peer) (committed : Option Op) (stamp : ℕ) (out : Outgoing) (hs : List (List Stamped)) (ends : List OtherState) (sent : List Sending) (taken : List (ℕ × Stamping))
    → Seats rd ru limits log peers hs ends (record { stamp = stamp; sent = out } ∷ sent) taken → Seats rd ru limits (joined log committed) (sent_out peers out) hs ends sent taken
seats_sent rd ru limits log peers committed stamp out hs ends sent taken seats i q at =
    let g = got_out peers out i q at in
    let s = seats i g.0 g.1 in
    record { history = s.history; is_history = s.is_history; end = s.end; is_end = s.is_end; seat = seat_got rd ru i stamp limits log committed out g.0 q s.history s.end sent taken g.2 s.seat }

-- core 0 and the world, before an event of core 0
pub record Stands (budget : ℕ) (budgets : List ℕ) (w : World) (c : Core0State) : Type 0 where
  pub inv : Inv w
  pub budget_is : w.budget ≡ budget
  pub cores : length w.peers ≡ length budgets
  pub waiting_long : length w.requests.waiting ≡ length budgets
  pub limits_are : w.limits ≡ c.limits
  pub log_is : w.log ≡ c.log
  pub place_is : w.place ≡ c.place
  pub requests_are : w.requests ≡ c.requests

-- no message is still to come that the event could take
abbrev pub NotBefore : ℕ → List (List Stamped) → Type 0
NotBefore stamp hs = (i : ℕ) (t : Stamped) (rest : List Stamped) → slice_get hs i ≡ Some (t ∷ rest) → stamp ≤ t.stamp

starts_at : (others others' : ℕ) (limits limits' : TableLimits) (log log' : List Op) (budget budget' : ℕ) (place place' next : CoordinatorPlace) (op : Op) (committed : Option Op) (told : Step) (answer : Answer)
    → others' ≡ others → limits' ≡ limits → log' ≡ log → budget' ≡ budget → place' ≡ place
    → StartsAt others (table limits log (length log)) budget place op next committed told answer → StartsAt others' (table limits' log' (length log')) budget' place' op next committed told answer
starts_at others others' limits limits' log log' budget budget' place place' next op committed told answer eo em el eb ep h = rw (eo, em, el, eb, ep) h

starts_for_at : (others others' : ℕ) (limits limits' : TableLimits) (log log' : List Op) (budget budget' : ℕ) (place place' next : CoordinatorPlace) (requests requests' after : Requests) (entry : ℕ) (committed : Option Op) (told : Step) (answer : Answer)
    → others' ≡ others → limits' ≡ limits → log' ≡ log → budget' ≡ budget → place' ≡ place → requests' ≡ requests
    → StartsForAt others (table limits log (length log)) budget place requests entry next after committed told answer → StartsForAt others' (table limits' log' (length log')) budget' place' requests' entry next after committed told answer
starts_for_at others others' limits limits' log log' budget budget' place place' next requests requests' after entry committed told answer eo em el eb ep er h = rw (eo, em, el, eb, ep, er) h

takes_up_at : (limits limits' : TableLimits) (log log' : List Op) (place place' next : CoordinatorPlace) (requests requests' after : Requests) (entry : ℕ) (m : Message) (committed : Option Op) (told : Step) (answer : Answer)
    → limits' ≡ limits → log' ≡ log → place' ≡ place → requests' ≡ requests
    → TakesUpAt (table limits log (length log)) place requests entry m next after committed told answer → TakesUpAt (table limits' log' (length log')) place' requests' entry m next after committed told answer
takes_up_at limits limits' log log' place place' next requests requests' after entry m committed told answer em el ep er h = rw (em, el, ep, er) h

receives_0 : (limits limits' : TableLimits) (log log' : List Op) (version : ℕ) (packet : CapturedPacket) (floor : ℕ) (answer : Answer) → limits' ≡ limits → log' ≡ log → version ≡ length log
    → ReceivesAt (table limits log (length log)) (length log) packet floor answer → ReceivesAt (table limits' log' version) version packet floor answer
receives_0 limits limits' log log' version packet floor answer em el ev h = rw (em, el, ev) h

abbrev Core0Event : (ℕ → List Stamping) → (ℕ → List Stamping) → Event → Type 0
Core0Event rd ru event = (budget : ℕ) (budgets : List ℕ) (w : World) (c mid : Core0State) (stamp : ℕ) (answer : Answer) (m : Option Stamping) (out : Outgoing) (hs : List (List Stamped)) (ends : List OtherState) (sent : List Sending) (taken : List (ℕ × Stamping))
    → Stands budget budgets w c → Step0 (length budgets) budget c stamp event m mid answer out → Seats rd ru w.limits w.log w.peers hs ends (record { stamp = stamp; sent = out } ∷ sent) (taking event m ++ taken) → NotBefore stamp hs
    → Led rd ru w event answer mid hs ends sent taken

-- the world that core 0 moves to, where the cores' messages are these
moves_to : (rd ru : ℕ → List Stamping) (w w1 : World) (event : Event) (answer : Answer) (place : CoordinatorPlace) (requests : Requests) (committed : Option Op) (stamp : ℕ) (out : Outgoing) (mid : Core0State) (hs : List (List Stamped)) (ends : List OtherState) (sent : List Sending) (taken : List (ℕ × Stamping))
    → Happens w event (core0_moves w1 place requests committed out) answer → mid ≡ record { limits = w1.limits; clock = stamp; place = place; requests = requests; log = joined w1.log committed }
    → Seats rd ru w1.limits w1.log w1.peers hs ends (record { stamp = stamp; sent = out } ∷ sent) taken → Led rd ru w event answer mid hs ends sent taken
moves_to rd ru w w1 event answer place requests committed stamp out mid hs ends sent taken happens next seats = record {
  world = core0_moves w1 place requests committed out;
  happens = happens;
  limits_are = sym (ap (λ (x : Core0State). x.limits) next);
  log_is = sym (ap (λ (x : Core0State). x.log) next);
  place_is = sym (ap (λ (x : Core0State). x.place) next);
  requests_are = sym (ap (λ (x : Core0State). x.requests) next);
  seats = seats_sent rd ru w1.limits w1.log w1.peers committed stamp out hs ends sent taken seats;
}

lead_start : (rd ru : ℕ → List Stamping) (op : Op) → Core0Event rd ru (Start op)
lead_start rd ru op budget budgets w c mid stamp answer (Some m) out hs ends sent taken st step seats late = absurd step.does
lead_start rd ru op budget budgets w c mid stamp answer None out hs ends sent taken st step seats late =
    let h = step.does in
    moves_to rd ru w w (Start op) answer h.place w.requests h.committed stamp (outgoing h.told h.place) mid hs ends sent taken
    (record {
      place = h.place;
      committed = h.committed;
      told = h.told;
      here = starts_at (length budgets) (length w.peers) c.limits w.limits c.log w.log budget w.budget c.place w.place h.place op h.committed h.told answer st.cores st.limits_are st.log_is st.budget_is st.place_is h.here;
      next = refl;
    })
    (h.next ∙ rw (st.limits_are, st.requests_are, st.log_is) refl) (subst (λ (x : Outgoing). Seats rd ru w.limits w.log w.peers hs ends (record { stamp = stamp; sent = x } ∷ sent) taken) h.sends seats)

lead_start_for : (rd ru : ℕ → List Stamping) (entry : ℕ) → Core0Event rd ru (StartFor (suc entry))
lead_start_for rd ru entry budget budgets w c mid stamp answer (Some m) out hs ends sent taken st step seats late = absurd step.does
lead_start_for rd ru entry budget budgets w c mid stamp answer None out hs ends sent taken st step seats late =
    let h = step.does in
    moves_to rd ru w w (StartFor (suc entry)) answer h.place h.requests h.committed stamp (outgoing h.told h.place) mid hs ends sent taken
    (record {
      place = h.place;
      requests = h.requests;
      committed = h.committed;
      told = h.told;
      here = starts_for_at (length budgets) (length w.peers) c.limits w.limits c.log w.log budget w.budget c.place w.place h.place c.requests w.requests h.requests entry h.committed h.told answer st.cores st.limits_are st.log_is st.budget_is st.place_is st.requests_are h.here;
      next = refl;
    })
    (h.next ∙ rw (st.limits_are, st.log_is) refl) (subst (λ (x : Outgoing). Seats rd ru w.limits w.log w.peers hs ends (record { stamp = stamp; sent = x } ∷ sent) taken) h.sends seats)

lead_rx : (rd ru : ℕ → List Stamping) (number : ℕ) (packet : CapturedPacket) (floor : ℕ) → Core0Event rd ru (Rx 0 number packet floor)
lead_rx rd ru number packet floor budget budgets w c mid stamp answer (Some m) out hs ends sent taken st step seats late = absurd step.does
lead_rx rd ru number packet floor budget budgets w c mid stamp answer None out hs ends sent taken st step seats late =
    let h = step.does in
    record {
      world = w;
      happens = record { version = w.version; is_version = refl; here = receives_0 c.limits w.limits c.log w.log w.version packet floor answer st.limits_are st.log_is (st.inv.version ∙ ap length st.log_is) h.here; next = refl };
      limits_are = st.limits_are ∙ sym (ap (λ (x : Core0State). x.limits) h.next);
      log_is = st.log_is ∙ sym (ap (λ (x : Core0State). x.log) h.next);
      place_is = st.place_is ∙ sym (ap (λ (x : Core0State). x.place) h.next);
      requests_are = st.requests_are ∙ sym (ap (λ (x : Core0State). x.requests) h.next);
      seats = seats_sent rd ru w.limits w.log w.peers None stamp nothing hs ends sent taken (subst (λ (x : Outgoing). Seats rd ru w.limits w.log w.peers hs ends (record { stamp = stamp; sent = x } ∷ sent) taken) h.sends seats);
    }

-- core 0 takes messages of its cores alone
from_core : (budget : ℕ) (budgets : List ℕ) (w : World) (c : Core0State) (entry : ℕ) (m : Message) (place : CoordinatorPlace) (requests : Requests) (committed : Option Op) (told : Step) (answer : Answer) → Stands budget budgets w c
    → TakesUpAt (newest w) w.place w.requests entry m place requests committed told answer → entry < length w.peers
from_core budget budgets w c entry (message.Vote txn v) place requests committed told answer st h =
    let long = (on_vote w h.hears.votes h.hears.op st.inv h.hears.voting h.hears.on_op).long in omega (arith, long, slice_get_within h.hears.votes entry None h.hears.first_vote)
from_core budget budgets w c entry (message.Ack txn) place requests committed told answer st h =
    let a = subst (λ (x : Phase). Alone (length w.peers) (newest w) w.budget x w.place.staged) h.hears.acking st.inv.alone_ok in omega (arith, a.2, slice_get_within h.hears.acks entry false h.hears.first_ack)
from_core budget budgets w c entry (message.Submit op) place requests committed told answer st h = omega (arith, st.cores, st.waiting_long, slice_get_within w.requests.waiting entry None h.can_submit.none_waiting)
from_core budget budgets w c entry m place requests committed told answer st h = absurd h

-- a core whose message was taken
seat_gave : (rd ru : ℕ → List Stamping) (entry : ℕ) (limits : TableLimits) (log : List Op) (p : Peer) (m : Stamping) (h : List Stamped) (e : OtherState) (sent : List Sending) (taken : List (ℕ × Stamping)) → Seat rd ru entry limits log p h e sent ((entry, m) ∷ taken) → ((ms : List Stamping) → sent_by h ≡ m ∷ ms → ⊥)
    → (rest : List Stamping) × (p.up ≡ m.message ∷ messages rest) × Seat rd ru entry limits log (record p { up = messages rest }) h e sent taken
seat_gave rd ru entry limits log p m h e sent taken s none =
    let gives : (m ∷ taken_from entry taken) ++ ru entry ≡ s.up ++ sent_by h = subst (λ (b : Bool). (cond b (m ∷ []) [] ++ taken_from entry taken) ++ ru entry ≡ s.up ++ sent_by h) (eq_self entry) s.gives in
    let box = front_at m (taken_from entry taken) (ru entry) s.up (sent_by h) gives none in (
      box.0,
      sym s.up_is ∙ ap messages box.1,
      record {
        core = s.core;
        taken = s.taken;
        ahead = s.ahead;
        limits_are = s.limits_are;
        version_is = s.version_is;
        is_front = s.is_front;
        place_is = s.place_is;
        outstanding_is = s.outstanding_is;
        down = s.down;
        up = box.0;
        down_is = s.down_is;
        up_is = refl;
        takes = s.takes;
        gives = box.2;
      },
    )

-- another core
seat_kept : (rd ru : ℕ → List Stamping) (entry i : ℕ) (limits : TableLimits) (log : List Op) (p : Peer) (m : Stamping) (h : List Stamped) (e : OtherState) (sent : List Sending) (taken : List (ℕ × Stamping)) → (entry ≡ i → ⊥) → Seat rd ru i limits log p h e sent ((entry, m) ∷ taken) → Seat rd ru i limits log p h e sent taken
seat_kept rd ru entry i limits log p m h e sent taken ne s = record {
  core = s.core;
  taken = s.taken;
  ahead = s.ahead;
  limits_are = s.limits_are;
  version_is = s.version_is;
  is_front = s.is_front;
  place_is = s.place_is;
  outstanding_is = s.outstanding_is;
  down = s.down;
  up = s.up;
  down_is = s.down_is;
  up_is = s.up_is;
  takes = s.takes;
  gives = subst (λ (b : Bool). (cond b (m ∷ []) [] ++ taken_from i taken) ++ ru i ≡ s.up ++ sent_by h) (eq_other entry i ne) s.gives;
}

lead_take : (rd ru : ℕ → List Stamping) (entry : ℕ) (short : Bool) → Core0Event rd ru (Take 0 (suc entry) short)
lead_take rd ru entry short budget budgets w c mid stamp answer None out hs ends sent taken st step seats late = absurd step.does
lead_take rd ru entry short budget budgets w c mid stamp answer (Some m) out hs ends sent taken st step seats late =
    moves_to rd ru w (gave w entry p (messages given.0)) (Take 0 (suc entry) short) answer h.place h.requests h.committed stamp (outgoing h.told h.place) mid hs ends sent taken
    (record {
      peer = p;
      is_peer = at.1;
      m = m.message;
      rest = messages given.0;
      oldest = given.1;
      place = h.place;
      requests = h.requests;
      committed = h.committed;
      told = h.told;
      here = here;
      next = refl;
    })
    (h.next ∙ rw (st.limits_are, st.log_is) refl) left
  where
    h : Take0 c stamp entry m.message mid answer out
    h = step.does

    here : TakesUpAt (newest w) w.place w.requests entry m.message h.place h.requests h.committed h.told answer
    here = takes_up_at c.limits w.limits c.log w.log c.place w.place h.place c.requests w.requests h.requests entry m.message h.committed h.told answer st.limits_are st.log_is st.place_is st.requests_are h.here

    at : (p : Peer) × (slice_get w.peers entry ≡ Some p)
    at = get_at w.peers entry (from_core budget budgets w c entry m.message h.place h.requests h.committed h.told answer st here)

    p : Peer
    p = at.0

    known : Seats rd ru w.limits w.log w.peers hs ends (record { stamp = stamp; sent = outgoing h.told h.place } ∷ sent) ((entry, m) ∷ taken)
    known = subst (λ (x : Outgoing). Seats rd ru w.limits w.log w.peers hs ends (record { stamp = stamp; sent = x } ∷ sent) ((entry, m) ∷ taken)) h.sends seats

    of_p : SeatOf rd ru entry w.limits w.log p hs ends (record { stamp = stamp; sent = outgoing h.told h.place } ∷ sent) ((entry, m) ∷ taken)
    of_p = known entry p at.1

    given : (rest : List Stamping) × (p.up ≡ m.message ∷ messages rest) × Seat rd ru entry w.limits w.log (record p { up = messages rest }) of_p.history of_p.end (record { stamp = stamp; sent = outgoing h.told h.place } ∷ sent) taken
    given = seat_gave rd ru entry w.limits w.log p m of_p.history of_p.end (record { stamp = stamp; sent = outgoing h.told h.place } ∷ sent) taken of_p.seat
        (λ ms first.
        let f = first_sent_by entry p.budget of_p.seat.core of_p.end of_p.history of_p.seat.taken m ms of_p.seat.ahead first in
        omega (arith, f.not_before, late entry f.first f.later (of_p.is_history ∙ ap (λ (x : List Stamped). Some x) f.is), step.ticks, tick_after c.clock m))

    left : Seats rd ru w.limits w.log (slice_set w.peers entry (record p { up = messages given.0 })) hs ends (record { stamp = stamp; sent = outgoing h.told h.place } ∷ sent) taken
    left i q is = by_place (set_cases w.peers entry (record p { up = messages given.0 }) p at.1 i q is)
      where
        by_place : (((entry ≡ i) × (q ≡ record p { up = messages given.0 })) ⊎ ((entry ≡ i → ⊥) × (slice_get w.peers i ≡ Some q))) → SeatOf rd ru i w.limits w.log q hs ends (record { stamp = stamp; sent = outgoing h.told h.place } ∷ sent) taken
        by_place (inl e) =
            subst (λ (k : ℕ). SeatOf rd ru k w.limits w.log q hs ends (record { stamp = stamp; sent = outgoing h.told h.place } ∷ sent) taken) e.0
            (subst (λ (x : Peer). SeatOf rd ru entry w.limits w.log x hs ends (record { stamp = stamp; sent = outgoing h.told h.place } ∷ sent) taken) (sym e.1)
            (record { history = of_p.history; is_history = of_p.is_history; end = of_p.end; is_end = of_p.is_end; seat = given.2 }))
        by_place (inr ne) =
            let s = known i q ne.1 in
            record { history = s.history; is_history = s.is_history; end = s.end; is_end = s.is_end; seat = seat_kept rd ru entry i w.limits w.log q m s.history s.end (record { stamp = stamp; sent = outgoing h.told h.place } ∷ sent) taken ne.0 s.seat }

core0_event : (rd ru : ℕ → List Stamping) (event : Event) → Core0Event rd ru event
core0_event rd ru (Start op) budget budgets w c mid stamp answer m out hs ends sent taken st step seats late = lead_start rd ru op budget budgets w c mid stamp answer m out hs ends sent taken st step seats late
core0_event rd ru (StartFor (suc entry)) budget budgets w c mid stamp answer m out hs ends sent taken st step seats late = lead_start_for rd ru entry budget budgets w c mid stamp answer m out hs ends sent taken st step seats late
core0_event rd ru (Take zero (suc entry) short) budget budgets w c mid stamp answer m out hs ends sent taken st step seats late = lead_take rd ru entry short budget budgets w c mid stamp answer m out hs ends sent taken st step seats late
core0_event rd ru (Rx zero number packet floor) budget budgets w c mid stamp answer m out hs ends sent taken st step seats late = lead_rx rd ru number packet floor budget budgets w c mid stamp answer m out hs ends sent taken st step seats late
core0_event rd ru event budget budgets w c mid stamp answer m out hs ends sent taken st step seats late = absurd step.does

-- the first event of core 0's history happens in the world, where every message that it takes has been sent
pub core0_step : (rd ru : ℕ → List Stamping) (budget : ℕ) (budgets : List ℕ) (w : World) (c mid : Core0State) (s : Stamped) (m : Option Stamping) (out : Outgoing) (hs : List (List Stamped)) (ends : List OtherState) (sent : List Sending) (taken : List (ℕ × Stamping))
    → Stands budget budgets w c → Step0 (length budgets) budget c s.stamp s.done.event m mid s.done.answer out → Seats rd ru w.limits w.log w.peers hs ends (record { stamp = s.stamp; sent = out } ∷ sent) (taking s.done.event m ++ taken) → NotBefore s.stamp hs
    → Led rd ru w s.done.event s.done.answer mid hs ends sent taken
core0_step rd ru budget budgets w c mid s m out hs ends sent taken st step seats late = core0_event rd ru s.done.event budget budgets w c mid s.stamp s.done.answer m out hs ends sent taken st step seats late
