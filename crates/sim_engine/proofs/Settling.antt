-- Each request that settling begins leaves it less to begin.
use Rattle.std.proofs.Common.{◌≡◌, ◌++◌, ◌∷◌, ◌+◌, ◌*◌, ◌<◌, inl, inr, ℕ, zero, suc, Bool, true, false, Option, None, Some, List, [], length, map, slice_get, slice_set, refl, ap, ◌∙◌, subst, arith}
use Rattle.std.specs.Prelude.{option_to_list}
use Rattle.filter_table.specs.declared.operation.Op.{Op}
use Rattle.monitor_messages.specs.declared.message.Message.{Message}
use Rattle.monitor_messages.specs.declared.message.Message.TheVariants as message
use Rattle.two_phase.specs.Coordinators.{Requests, Phase, Idle, Voting, Acking, requests_at}
use Rattle.world_events.specs.declared.event.Event.{Event}
use Rattle.world_events.specs.declared.event.Event.TheVariants.{StartFor, Take}
use Rattle.world_events.specs.declared.event.Answer.{Answer}
use Rattle.world_events.specs.declared.event.Answer.TheVariants.{Prepared, Decided, Submitted, TookPrepare, TookVote, TookCommit, TookAbort, TookAck, TookSubmit, TookReply, Delivered}
use Rattle.world_events.specs.declared.event.Done.{Done}
use Rattle.world_model.specs.Cases.{Outgoing, nothing, to_all, to_one, outgoing, sent_up, raised, TakesUpAt}
use Rattle.world_model.specs.Worlds.{Peer, World, newest, send, sent_out, sent_to_one, gave, HappensStart, HappensStartFor, HappensSubmit, HappensUp, HappensDown, Happens}
use Rattle.world_model.specs.Refusals.{IsNext, Settles, waiting_at}
use Rattle.sim_engine.specs.declared.requests.PendingRequest.{PendingRequest}
use Rattle.sim_engine.specs.Ways.{event_of, way_of}
use Rattle.sim_engine.specs.Simulations.{Simulation, BeginsNext, begun, Next, waits, asked, Quiets}
use Rattle.sim_engine.specs.Settling.{is_submit, submits, under_way, is_waiting, all_waiting, submitted, most_left}

-- What is added and taken away

submits-append : (xs ys : List Message) → submits (xs ++ ys) ≡ submits xs + submits ys
submits-append [] ys = omega arith
submits-append (x ∷ xs) ys = omega (arith, submits-append xs ys)

under_way_set : (ps : List Peer) (i : ℕ) (p q : Peer) → slice_get ps i ≡ Some p → under_way (slice_set ps i q) + submits p.up ≡ under_way ps + submits q.up
under_way_set [] i p q at = absurd cc
under_way_set (x ∷ ps) zero p q at = let e : x ≡ p = cc in rw e (omega arith)
under_way_set (x ∷ ps) (suc i) p q at = omega (arith, under_way_set ps i p q at)

waiting_set : (entries : List (Option Op)) (i : ℕ) (x y : Option Op) → slice_get entries i ≡ Some x → all_waiting (slice_set entries i y) + is_waiting x ≡ all_waiting entries + is_waiting y
waiting_set [] i x y at = absurd cc
waiting_set (entry ∷ entries) zero x y at = let e : entry ≡ x = cc in rw e (omega arith)
waiting_set (entry ∷ entries) (suc i) x y at = omega (arith, waiting_set entries i x y at)

-- What core 0 sends submits nothing

sent_all : (ps : List Peer) (m : Message) → under_way (map (send m) ps) ≡ under_way ps
sent_all [] m = refl
sent_all (p ∷ ps) m = omega (arith, sent_all ps m)

sent_one : (ps : List Peer) (entry : ℕ) (m : Message) → under_way (sent_to_one ps entry m (slice_get ps entry)) ≡ under_way ps
sent_one ps entry m = by_peer (slice_get ps entry) refl
  where
    by_peer : (o : Option Peer) → slice_get ps entry ≡ o → under_way (sent_to_one ps entry m o) ≡ under_way ps
    by_peer None e = refl
    by_peer (Some p) e = omega (arith, under_way_set ps entry p (send m p) e)

sent : (ps : List Peer) (out : Outgoing) → under_way (sent_out ps out) ≡ under_way ps
sent ps nothing = refl
sent ps (to_all m) = sent_all ps m
sent ps (to_one entry m) = sent_one ps entry m

-- What begins

started : (w w' : World) (op : Op) (answer : Answer) → HappensStart w op w' answer → submitted w' ≡ submitted w
started w w' op answer h = rw h.next (omega (arith, sent w.peers (outgoing h.told h.place)))

started_for : (w w' : World) (entry : ℕ) (answer : Answer) → HappensStartFor w entry w' answer → submitted w' + 1 ≡ submitted w
started_for w w' entry answer h = rw (h.next, h.here.starts.next) (omega (arith, sent w.peers (outgoing h.told h.place), waiting_set w.requests.waiting entry (Some h.here.starts.op) None h.here.starts.is_waiting))

asked_for : (w w' : World) (entry : ℕ) (op : Op) (answer : Answer) → HappensSubmit w entry op w' answer → submitted w' ≡ submitted w + 1
asked_for w w' entry op answer h =
    let next : Peer = record h.peer { outstanding = h.outstanding; up = h.peer.up ++ message.Submit op ∷ [] } in
    rw (h.next, h.here.is_answer) (omega (arith, under_way_set w.peers entry h.peer next h.is_peer, submits-append h.peer.up (message.Submit op ∷ [])))

-- What is taken

told_up : (to : ℕ) (short : Bool) (answer : Answer) → submits (option_to_list (sent_up (Take to 0 short) answer)) ≡ 0
told_up to short (Prepared txn) = refl
told_up to short (Decided decision) = refl
told_up to short Submitted = refl
told_up to short (TookPrepare txn vote) = refl
told_up to short (TookVote txn vote decided) = refl
told_up to short (TookCommit txn version) = refl
told_up to short (TookAbort txn version) = refl
told_up to short (TookAck txn) = refl
told_up to short TookSubmit = refl
told_up to short (TookReply decision) = refl
told_up to short (Delivered version kept) = refl

taken_down : (w w' : World) (i : ℕ) (short : Bool) (answer : Answer) → HappensDown w i short w' answer → submitted w' ≡ submitted w
taken_down w w' i short answer h =
    let more : List Message = option_to_list (sent_up (Take (suc i) 0 short) answer) in
    let next : Peer = record {
      budget = h.peer.budget;
      version = raised h.peer.version h.committed;
      place = h.place;
      outstanding = h.outstanding;
      down = h.rest;
      up = h.peer.up ++ more;
    } in
    rw h.next (omega (arith, under_way_set w.peers i h.peer next h.is_peer, submits-append h.peer.up more, told_up (suc i) short answer))

waiting_after : (phase : Phase) (requests : Requests) → (requests_at phase requests).waiting ≡ requests.waiting
waiting_after Idle requests = refl
waiting_after (Voting votes) requests = refl
waiting_after (Acking acks) requests = refl

taken_up : (w w' : World) (i : ℕ) (answer : Answer) → HappensUp w i w' answer → submitted w' ≡ submitted w
taken_up w w' i answer h = rw h.next (omega (arith, sent (gave w i h.peer h.rest).peers (outgoing h.told h.place), gives, ap submits h.oldest, by_message h.m h.here))
  where
    gives : under_way (gave w i h.peer h.rest).peers + submits h.peer.up ≡ under_way w.peers + submits h.rest
    gives = under_way_set w.peers i h.peer (record h.peer { up = h.rest }) h.is_peer

    by_message : (m : Message) → TakesUpAt (newest w) w.place w.requests i m h.place h.requests h.committed h.told answer → all_waiting h.requests.waiting ≡ all_waiting w.requests.waiting + is_submit m
    by_message (message.Vote txn v) here = rw here.requests_next (omega arith)
    by_message (message.Ack txn) here = rw here.hears.requests_next (omega (arith, ap all_waiting (waiting_after h.place.phase w.requests)))
    by_message (message.Submit op) here = rw here.requests_next (omega (arith, waiting_set w.requests.waiting i None (Some op) here.can_submit.none_waiting))
    by_message (message.Prepare txn op) here = absurd here
    by_message (message.Commit txn) here = absurd here
    by_message (message.Abort txn) here = absurd here
    by_message (message.Reply d) here = absurd here

taken : (w w' : World) (event : Event) (answer : Answer) → IsNext w event → Happens w event w' answer → submitted w' ≡ submitted w
taken w w' event answer n h = elim n.choice [
  | inl x ↦ taken_down w w' n.entry false answer (rw (x.0) at h)
  | inr x ↦ taken_up w w' n.entry answer (rw (x.0) at h)
]

quieted : (w w' : World) (events : List Done) → Settles w events w' → submitted w' ≡ submitted w
quieted w w' [] s = ap submitted s
quieted w w' (done ∷ later) s = quieted s.0 w' later s.3 ∙ taken w s.0 done.event done.answer s.1 s.2

-- What is left

waits_less : (w w' : World) (core : ℕ) (op : Op) (answer : Answer) → waiting_at w core ≡ Some op → Happens w (StartFor core) w' answer → submitted w' < submitted w
waits_less w w' zero op answer at h = absurd h
waits_less w w' (suc entry) op answer at h = omega (arith, started_for w w' entry answer h)

asked_more : (w w' : World) (home : ℕ) (op : Op) (answer : Answer) → Happens w (event_of (way_of home) op) w' answer → submitted w' < submitted w + 2
asked_more w w' zero op answer h = omega (arith, started w w' op answer h)
asked_more w w' (suc entry) op answer h = omega (arith, asked_for w w' entry op answer h)

next_less : (s : Simulation) (w : World) (event : Event) (rest : List PendingRequest) (answer : Answer) → Next s event rest → Happens s.world event w answer → 2 * length rest + submitted w < most_left s
next_less s w event rest answer (waits core op at least is same) h = rw same (omega (arith, waits_less s.world w core op answer at (subst (λ (e : Event). Happens s.world e w answer) is h)))
next_less s w event rest answer (asked first none is same) h =
    rw is (omega (arith, asked_more s.world w first.home first.op answer (subst (λ (e : Event). Happens s.world e w answer) same h)))

-- what is begun and followed by all messages leaves less
pub begun_leaves : (s : Simulation) (w w' : World) (event : Event) (rest : List PendingRequest) (answer : Answer) (text : List ℕ) → Next s event rest → Happens s.world event w answer → Quiets w w' text
    → most_left (record { world = w'; pending = rest }) < most_left s
begun_leaves s w w' event rest answer text next happens quiet = omega (arith, quieted w w' quiet.taken quiet.settles, next_less s w event rest answer next happens)

pub begun_less : (s s1 : Simulation) (line text : List ℕ) (w : World) → Quiets s.world w text → BeginsNext (record { world = w; pending = s.pending }) s1 line true → most_left s1 < most_left s
begun_less s s1 line text w quiet (begun event rest answer next tells now is) =
    rw now (omega (arith, quieted s.world w quiet.taken quiet.settles, next_less (record { world = w; pending = s.pending }) s1.world event rest answer next tells))
