-- Each step leaves fewer steps, but for what a request brings.
use Rattle.std.proofs.Common.{◌≡◌, ◌++◌, ◌∷◌, ◌+◌, ◌*◌, ◌≤◌, ◌<◌, ℕ, zero, suc, Bool, true, false, Option, None, Some, List, [], length, slice_get, slice_set, cond, refl, ap, sym, ◌∙◌, subst, arith}
use Rattle.std.specs.Prelude.{option_to_list}
use Rattle.std.specs.List.{list_all}
use Rattle.filter_table.specs.Limits.{TableLimits}
use Rattle.filter_table.specs.declared.operation.Op.{Op}
use Rattle.filter_table.specs.Tables.{TableState, made}
use Rattle.filter_table.specs.declared.decision.Veto.TheVariants as veto
use Rattle.filter_table.specs.declared.decision.Decision.TheVariants.{Committed, Refused}
use Rattle.monitor_messages.specs.declared.message.Message.{Message}
use Rattle.monitor_messages.specs.declared.message.Message.TheVariants as message
use Rattle.two_phase.specs.declared.step.Step.{Step}
use Rattle.two_phase.specs.Coordinators.{CoordinatorPlace, Requests, Phase, Idle, Voting, Acking, Starts, refused, unstaged, alone, prepared, asker_after, reply_to, veto_of, StartsFor, requests_at, phase_with}
use Rattle.world_events.specs.declared.event.Event.{Event}
use Rattle.world_events.specs.declared.event.Event.TheVariants.{Start, Submit, StartFor, Take, Rx}
use Rattle.world_events.specs.declared.event.Answer.{Answer}
use Rattle.world_model.specs.Cases.{outgoing, sent_up, raised, TakesUpAt}
use Rattle.world_model.specs.Worlds.{Peer, World, newest, sent_out, gave, core0_moves, HappensStart, HappensStartFor, HappensSubmit, HappensUp, HappensDown, Happens}
use Rattle.world_model.proofs.Invariant.{Inv}
use Rattle.world_model.specs.Settling.{load, loads, outcomes_due, reply_due, takes_left}
use Rattle.world_model.proofs.Loads.{down_leaves, up_leaves}
use Rattle.world_events.specs.declared.event.Done.{Done}
use Rattle.world_model.specs.Worlds.{boot, Run}
use Rattle.world_model.proofs.Agreement.{run_inv}
use Rattle.world_model.proofs.Known.{run_known}
use Rattle.world_model.proofs.Runs.{runs_more}
use Rattle.world_progress.specs.Remaining.{steps_left, is_step, is_request, per_request, unbegun_in, unbegun_up, weigh, waiting_weight, left_among}
use Rattle.world_progress.proofs.Weights.{unbegun-append, unbegun_set, unbegun_sent, unbegun_answer, waiting_set, load-more, loads_put, loads_asked, loads_told, none_cast}

-- A request is begun at core 0

-- its own
began : (n : ℕ) (s : TableState) (b : ℕ) (w : World) (op : Op) (place' : CoordinatorPlace) (committed : Option Op) (told : Step) → length w.peers ≡ n → w.place.phase ≡ Idle
    → Starts n s b w.place op place' committed told → loads (sent_out w.peers (outgoing told place')) + outcomes_due place'.phase ≤ loads w.peers + 4 * n
began n s b w op place' committed told long idle (refused fault al pl c t) = rw (t, pl, idle) (omega arith)
began n s b w op place' committed told long idle (unstaged al pl c t) = rw (t, pl, idle) (omega arith)
began n s b w op place' committed told long idle (alone al none pl c t) = rw (t, pl) (omega arith)
began n s b w op place' committed told long idle (prepared al some pl c t) = rw (t, pl) (omega (arith, long, loads_asked w.peers (w.place.last + 1) op, none_cast n))

-- another core's
began_for : (n : ℕ) (s : TableState) (b : ℕ) (w : World) (op : Op) (entry : ℕ) (place' : CoordinatorPlace) (committed : Option Op) (begun : Step) → length w.peers ≡ n → w.place.phase ≡ Idle
    → Starts n s b w.place op place' committed begun
    → loads (sent_out w.peers (outgoing (record begun { reply = reply_to (suc entry) begun.decided }) place')) + outcomes_due place'.phase + reply_due (asker_after (suc entry) begun.decided) ≤ loads w.peers + (4 * n + 1)
began_for n s b w op entry place' committed begun long idle (refused fault al pl c t) = rw (t, pl, idle) (omega (arith, loads_told w.peers entry (message.Reply (Refused 0 (veto_of fault)))))
began_for n s b w op entry place' committed begun long idle (unstaged al pl c t) = rw (t, pl, idle) (omega (arith, loads_told w.peers entry (message.Reply (Refused 0 veto.NoMemory))))
began_for n s b w op entry place' committed begun long idle (alone al none pl c t) = rw (t, pl) (omega (arith, loads_told w.peers entry (message.Reply (Committed (s.version + 1) (made s op)))))
began_for n s b w op entry place' committed begun long idle (prepared al some pl c t) = rw (t, pl) (omega (arith, long, loads_asked w.peers (w.place.last + 1) op, none_cast n))

start_leaves : (n : ℕ) (w w' : World) (op : Op) (answer : Answer) → length w.peers ≡ n → HappensStart w op w' answer → left_among n w' + 1 ≤ left_among n w + (4 * n + 4)
start_leaves n w w' op answer long h = rw h.next (omega (arith, more, unbegun_sent (4 * n + 2) w.peers (outgoing h.told h.place)))
  where
    more : loads (sent_out w.peers (outgoing h.told h.place)) + outcomes_due h.place.phase ≤ loads w.peers + 4 * n
    more = began n _ _ w op h.place h.committed h.told long h.here.can_start.0 (subst (λ (m : ℕ). Starts m (newest w) w.budget w.place op h.place h.committed h.told) long h.here.starts)

start_for_with : (n : ℕ) (w : World) (entry : ℕ) (place' : CoordinatorPlace) (requests' : Requests) (committed : Option Op) (told begun : Step) (op : Op) → length w.peers ≡ n → w.place.phase ≡ Idle
    → Starts n (newest w) w.budget w.place op place' committed begun → slice_get w.requests.waiting entry ≡ Some (Some op)
    → told ≡ record begun { reply = reply_to (suc entry) begun.decided }
    → requests' ≡ record { waiting = slice_set w.requests.waiting entry None; asker = asker_after (suc entry) begun.decided; decided = None }
    → left_among n (core0_moves w place' requests' committed (outgoing told place')) + 1 ≤ left_among n w
start_for_with n w entry place' requests' committed told begun op long idle starts at tells next =
    rw (tells, next) (omega (
      arith,
      began_for n (newest w) w.budget w op entry place' committed begun long idle starts,
      waiting_set (4 * n + 2) w.requests.waiting entry (Some op) None at,
      unbegun_sent (4 * n + 2) w.peers (outgoing (record begun { reply = reply_to (suc entry) begun.decided }) place'),
    ))

start_for_leaves : (n : ℕ) (w w' : World) (entry : ℕ) (answer : Answer) → length w.peers ≡ n → HappensStartFor w entry w' answer → left_among n w' + 1 ≤ left_among n w
start_for_leaves n w w' entry answer long h =
    let f : StartsFor (length w.peers) (newest w) w.budget w.place w.requests entry h.place h.requests h.committed h.told = h.here.starts in
    rw h.next (start_for_with n w entry h.place h.requests h.committed h.told f.begun f.op long h.here.can_start.0
    (subst (λ (m : ℕ). Starts m (newest w) w.budget w.place f.op h.place h.committed f.begun) long f.starts) f.is_waiting f.tells f.next)

-- A request is submitted

submit_leaves : (n : ℕ) (w w' : World) (entry : ℕ) (op : Op) (answer : Answer) → HappensSubmit w entry op w' answer → left_among n w' + 1 ≤ left_among n w + (4 * n + 4)
submit_leaves n w w' entry op answer h = rw h.next (rw h.here.is_answer (omega (arith, loads_put w.peers entry h.peer next h.is_peer, unbegun_set (4 * n + 2) w.peers entry h.peer next h.is_peer, load-more h.peer.up (message.Submit op ∷ []), unbegun-append (4 * n + 2) h.peer.up (message.Submit op ∷ []))))
  where
    next : Peer
    next = record h.peer { outstanding = h.outstanding; up = h.peer.up ++ message.Submit op ∷ [] }

-- Core 0 takes a message

same_waiting : (phase : Phase) (r : Requests) → (requests_at phase r).waiting ≡ r.waiting
same_waiting Idle r = refl
same_waiting (Voting votes) r = refl
same_waiting (Acking acks) r = refl

up_unbegun : (k : ℕ) (w : World) (i : ℕ) (answer : Answer) (w' : World) (h : HappensUp w i w' answer)
    → unbegun_up k (sent_out (gave w i h.peer h.rest).peers (outgoing h.told h.place)) + waiting_weight k h.requests.waiting ≡ unbegun_up k w.peers + waiting_weight k w.requests.waiting
up_unbegun k w i answer w' h = by_message h.m h.oldest h.here
  where
    gives : unbegun_up k (gave w i h.peer h.rest).peers + unbegun_in k h.peer.up ≡ unbegun_up k w.peers + unbegun_in k h.rest
    gives = unbegun_set k w.peers i h.peer (record h.peer { up = h.rest }) h.is_peer

    sends : unbegun_up k (sent_out (gave w i h.peer h.rest).peers (outgoing h.told h.place)) ≡ unbegun_up k (gave w i h.peer h.rest).peers
    sends = unbegun_sent k (gave w i h.peer h.rest).peers (outgoing h.told h.place)

    by_message : (m : Message) → h.peer.up ≡ m ∷ h.rest → TakesUpAt (newest w) w.place w.requests i m h.place h.requests h.committed h.told answer
        → unbegun_up k (sent_out (gave w i h.peer h.rest).peers (outgoing h.told h.place)) + waiting_weight k h.requests.waiting ≡ unbegun_up k w.peers + waiting_weight k w.requests.waiting
    by_message (message.Vote txn v) e here = omega (arith, gives, sends, ap (unbegun_in k) e, ap (λ (r : Requests). waiting_weight k r.waiting) here.requests_next)
    by_message (message.Ack txn) e here = omega (arith, gives, sends, ap (unbegun_in k) e, ap (λ (r : Requests). waiting_weight k r.waiting) here.hears.requests_next, ap (waiting_weight k) (same_waiting h.place.phase w.requests))
    by_message (message.Submit op) e here = omega (arith, gives, sends, ap (unbegun_in k) e, ap (λ (r : Requests). waiting_weight k r.waiting) here.requests_next, waiting_set k w.requests.waiting i None (Some op) here.can_submit.none_waiting)
    by_message (message.Prepare txn op) e here = absurd here
    by_message (message.Commit txn) e here = absurd here
    by_message (message.Abort txn) e here = absurd here
    by_message (message.Reply d) e here = absurd here

take_up_leaves : (n : ℕ) (w w' : World) (i : ℕ) (answer : Answer) → Inv w → HappensUp w i w' answer → left_among n w' + 1 ≤ left_among n w
take_up_leaves n w w' i answer inv h =
    let same : unbegun_up (4 * n + 2) w'.peers + waiting_weight (4 * n + 2) w'.requests.waiting ≡ unbegun_up (4 * n + 2) w.peers + waiting_weight (4 * n + 2) w.requests.waiting = rw h.next (up_unbegun (4 * n + 2) w i answer w' h) in
    omega (arith, same, up_leaves w w' i answer inv h)

-- Another core takes a message

take_down_leaves : (n : ℕ) (w w' : World) (i : ℕ) (short : Bool) (answer : Answer) → HappensDown w i short w' answer → left_among n w' + 1 ≤ left_among n w
take_down_leaves n w w' i short answer h = omega (arith, same, waiting, down_leaves w w' i short answer h)
  where
    k : ℕ
    k = 4 * n + 2

    next : Peer
    next = record {
      budget = h.peer.budget;
      version = raised h.peer.version h.committed;
      place = h.place;
      outstanding = h.outstanding;
      down = h.rest;
      up = h.peer.up ++ option_to_list (sent_up (Take (suc i) 0 short) answer);
    }

    same : unbegun_up (4 * n + 2) w'.peers ≡ unbegun_up (4 * n + 2) w.peers
    same = rw h.next (omega (arith, unbegun_set (4 * n + 2) w.peers i h.peer next h.is_peer, unbegun-append (4 * n + 2) h.peer.up (option_to_list (sent_up (Take (suc i) 0 short) answer)), unbegun_answer (4 * n + 2) i short answer))

    waiting : waiting_weight (4 * n + 2) w'.requests.waiting ≡ waiting_weight (4 * n + 2) w.requests.waiting
    waiting = rw h.next refl

-- what a request brings
abbrev pub brings : ℕ → Event → ℕ
brings n (Start op) = 4 * n + 4
brings n (Submit core op) = 4 * n + 4
brings n event = 0

pub step_leaves : (n : ℕ) (w w' : World) (event : Event) (answer : Answer) → length w.peers ≡ n → Inv w → Happens w event w' answer → left_among n w' + is_step event ≤ left_among n w + brings n event
step_leaves n w w' (Start op) answer long inv h = start_leaves n w w' op answer long h
step_leaves n w w' (Submit (suc entry) op) answer long inv h = submit_leaves n w w' entry op answer h
step_leaves n w w' (Submit zero op) answer long inv h = absurd h
step_leaves n w w' (StartFor (suc entry)) answer long inv h = omega (arith, start_for_leaves n w w' entry answer long h)
step_leaves n w w' (StartFor zero) answer long inv h = absurd h
step_leaves n w w' (Take zero (suc i) short) answer long inv h = omega (arith, take_up_leaves n w w' i answer inv h)
step_leaves n w w' (Take (suc i) zero short) answer long inv h = omega (arith, take_down_leaves n w w' i short answer h)
step_leaves n w w' (Take zero zero short) answer long inv h = absurd h
step_leaves n w w' (Take (suc i) (suc j) short) answer long inv h = absurd h
step_leaves n w w' (Rx core number packet floor) answer long inv h = rw h.next (omega arith)

-- in every run
pub brings_of : (n : ℕ) (event : Event) → brings n event ≡ per_request n * is_request event
brings_of n (Start op) = omega arith
brings_of n (Submit core op) = omega arith
brings_of n (StartFor core) = omega arith
brings_of n (Take to from short) = omega arith
brings_of n (Rx core number packet floor) = omega arith

pub step_of_run : (limits : TableLimits) (budget : ℕ) (budgets : List ℕ) (before : List Done) (w w' : World) (done : Done) → Run limits budget budgets before w → Happens w done.event w' done.answer
    → steps_left w' + is_step done.event ≤ steps_left w + per_request (length budgets) * is_request done.event
step_of_run limits budget budgets before w w' done run h = by_length (length w'.peers) (length w.peers) long' long
  where
    long : length w.peers ≡ length budgets
    long = (run_known limits budget budgets before w run).cores

    long' : length w'.peers ≡ length budgets
    long' = (run_known limits budget budgets (before ++ done ∷ []) w' (runs_more (boot limits budget budgets) w w' before done run h)).cores

    step : left_among (length budgets) w' + is_step done.event ≤ left_among (length budgets) w + brings (length budgets) done.event
    step = step_leaves (length budgets) w w' done.event done.answer long (run_inv limits budget budgets before w run) h

    by_length : (a b : ℕ) → a ≡ length budgets → b ≡ length budgets → left_among a w' + is_step done.event ≤ left_among b w + per_request (length budgets) * is_request done.event
    by_length a b ea eb = rw (ea, eb) (omega (arith, step, brings_of (length budgets) done.event))
