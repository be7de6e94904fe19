-- Each event of a run's world is done or refused.
use Rattle.std.proofs.Common.{◌≡◌, ◌≢◌, ◌+◌, ◌<◌, ◌≤◌, ◌⊎◌, inl, inr, ℕ, zero, suc, Bool, true, false, Option, Some, None, List, [], ◌∷◌, ◌++◌, length, slice_get, slice_set, refl, ap, ◌∙◌, subst, arith, replicate}
use Rattle.std.specs.Prelude.{option_map, option_and_then, option_to_list}
use Rattle.std.proofs.lemmas.Bool.{cases_eq, cases_lt}
use Rattle.pcap_reader.specs.declared.capture.CapturedPacket.{CapturedPacket}
use Rattle.filter_table.specs.Limits.{TableLimits}
use Rattle.filter_table.specs.declared.operation.Op.{Op}
use Rattle.filter_table.specs.declared.operation.OpFault.{OpFault}
use Rattle.filter_table.specs.declared.operation.StageFault.TheVariants.{Rule, Budget}
use Rattle.filter_table.specs.declared.decision.Vote.{Vote}
use Rattle.filter_table.specs.declared.decision.Vote.TheVariants as vote
use Rattle.filter_table.specs.declared.decision.Veto.TheVariants as veto
use Rattle.filter_table.specs.declared.decision.Decision.TheVariants.{Committed, Refused}
use Rattle.filter_table.specs.Tables.{TableState, table, made, instructions, Allowed}
use Rattle.filter_table.proofs.Tables.{allowed_fits, over_budget}
use Rattle.monitor_messages.specs.declared.message.Message.{Message}
use Rattle.monitor_messages.specs.declared.message.Message.TheVariants as message
use Rattle.two_phase.specs.declared.step.Say.TheVariants as say
use Rattle.two_phase.specs.declared.step.Step.{Step}
use Rattle.two_phase.specs.Participants.{ParticipantPlace, Casts, staged_by}
use Rattle.two_phase.specs.Coordinators.{CoordinatorPlace, Requests, Phase, Idle, Voting, Acking, CanStart, Starts, refused, alone, prepared, step, asker_after, reply_to, with_waiting, with_decided, phase_with, reply_at, requests_at}
use Rattle.world_events.specs.declared.event.Event.{Event}
use Rattle.world_events.specs.declared.event.Event.TheVariants.{Start, Submit, StartFor, Take, Rx}
use Rattle.world_events.specs.declared.event.Answer.{Answer}
use Rattle.world_events.specs.declared.event.Answer.TheVariants.{Submitted, TookPrepare, TookVote, TookCommit, TookAbort, TookAck, TookSubmit, TookReply, Delivered}
use Rattle.world_events.specs.declared.event.Done.{Done}
use Rattle.world_events.specs.declared.fault.WorldFault.TheVariants.{NoSuchCore, Nothing, NotReady, NotIdle, Spent, Outstanding, NoneWaiting}
use Rattle.world_events.specs.Memory.{lacked_memory, IsRefusedForMemory, LacksMemory}
use Rattle.world_model.specs.Cases.{outgoing, sent_up, raised, captured, start_told, TakesUpAt, TakesDownAt}
use Rattle.world_model.specs.Worlds.{Peer, World, newest, version_at, core0_moves, gave, Run}
use Rattle.world_model.specs.Agreement.{commitments, Expects, Awaits, NoStranger}
use Rattle.world_model.proofs.Invariant.{Pair, at_rest, asked, voted, counted, to_commit, to_abort, acked, finished, Alone, Inv}
use Rattle.world_model.proofs.Agreement.{run_inv}
use Rattle.world_model.proofs.RunLaws.{run_agrees, run_no_stranger, version_within}
use Rattle.world_model.proofs.SoundLogs.{run_sound}
use Rattle.world_model.specs.Refusals.{channel}
use Rattle.world_progress.specs.Progress.{IsDoneAmply, DoneOrRefused}
use Rattle.world_progress.proofs.Outcomes.{Outcome, allows, breaks, exceeds, outcome}
use Rattle.world_progress.proofs.Accepted.{some_accepting}
use Rattle.world_progress.proofs.Tallied.{tallied}
use Rattle.world_progress.proofs.Spending.{last_within}

-- What core 0 begins

record Begun (others : ℕ) (s : TableState) (budget : ℕ) (place : CoordinatorPlace) (op : Op) : Type 0 where
  next : CoordinatorPlace
  committed : Option Op
  told : Step
  starts : Starts others s budget place op next committed told
  had_memory : IsRefusedForMemory (start_told told.txn told.decided) → ⊥

begun : (others : ℕ) (s : TableState) (budget : ℕ) (place : CoordinatorPlace) (op : Op) → Outcome s budget op → Begun others s budget place op
begun others s budget place op (breaks fault a) = record {
  next = place;
  committed = None;
  told = step place.last None (Some (Refused 0 (veto.Rule fault)));
  starts = refused (Rule fault) a refl refl refl;
  had_memory = λ h. h;
}
begun others s budget place op (exceeds a) = record {
  next = place;
  committed = None;
  told = step place.last None (Some (Refused 0 veto.Budget));
  starts = refused Budget a refl refl refl;
  had_memory = λ h. h;
}
begun zero s budget place op (allows a) = record {
  next = record { last = place.last + 1; phase = Idle; staged = None };
  committed = Some op;
  told = step (place.last + 1) None (Some (Committed (s.version + 1) (made s op)));
  starts = alone a refl refl refl refl;
  had_memory = λ h. h;
}
begun (suc n) s budget place op (allows a) = record {
  next = record { last = place.last + 1; phase = Voting (replicate (suc n) None); staged = Some op };
  committed = None;
  told = step (place.last + 1) (Some say.Prepare) None;
  starts = prepared a (omega arith) refl refl refl;
  had_memory = λ h. h;
}

-- core 0 can start, or why not
data Ready (place : CoordinatorPlace) : Type 0 where
  ready : CanStart place → place.last ≢ 18446744073709551615 → Ready place
  busy : place.phase ≢ Idle → Ready place
  spent : place.phase ≡ Idle → place.last ≡ 18446744073709551615 → Ready place

ready_or_not : (place : CoordinatorPlace) → place.last ≤ 18446744073709551615 → Ready place
ready_or_not place le = by_phase place.phase refl
  where
    by_last : place.phase ≡ Idle → (place.last ≡ 18446744073709551615) ⊎ (place.last ≢ 18446744073709551615) → Ready place
    by_last idle (inl e) = spent idle e
    by_last idle (inr ne) = ready (idle, omega arith) ne

    by_phase : (ph : Phase) → place.phase ≡ ph → Ready place
    by_phase Idle e = by_last e (cases_eq place.last 18446744073709551615)
    by_phase (Voting votes) e = busy (λ idle. cc)
    by_phase (Acking acks) e = busy (λ idle. cc)

start_done : (w : World) (op : Op) → CanStart w.place → Begun (length w.peers) (newest w) w.budget w.place op → IsDoneAmply w (Start op)
start_done w op can b = record {
  next = core0_moves w b.next w.requests b.committed (outgoing b.told b.next);
  answer = start_told b.told.txn b.told.decided;
  happens = record { place = b.next; committed = b.committed; told = b.told; here = record { can_start = can; starts = b.starts; is_answer = refl }; next = refl };
  had_memory = b.had_memory;
}

start_tells : (w : World) (op : Op) → Ready w.place → DoneOrRefused w (Start op)
start_tells w op (busy ne) = inr (NotIdle, ne)
start_tells w op (spent idle e) = inr (Spent, (idle, e))
start_tells w op (ready can ne) = inl (start_done w op can (begun (length w.peers) (newest w) w.budget w.place op (outcome (newest w) w.budget op)))

-- A request of another core

is_joined : (w : World) (i : ℕ) (p : Peer) → slice_get w.peers i ≡ Some p → channel w zero (suc i) ≢ None
is_joined w i p at none = let x : channel w zero (suc i) ≡ Some p.up = ap (option_map (λ (q : Peer). q.up)) at in cc

not_joined : (w : World) (i : ℕ) → slice_get w.peers i ≡ None → channel w zero (suc i) ≡ None
not_joined w i at = ap (option_map (λ (q : Peer). q.up)) at

start_for_done : (w : World) (i : ℕ) (op : Op) → CanStart w.place → slice_get w.requests.waiting i ≡ Some (Some op) → Begun (length w.peers) (newest w) w.budget w.place op → IsDoneAmply w (StartFor (suc i))
start_for_done w i op can waits b = record {
  next = core0_moves w b.next requests b.committed (outgoing told b.next);
  answer = start_told b.told.txn b.told.decided;
  happens = record {
    place = b.next;
    requests = requests;
    committed = b.committed;
    told = told;
    here = record { can_start = can; starts = record { op = op; is_waiting = waits; begun = b.told; starts = b.starts; next = refl; tells = refl }; is_answer = refl };
    next = refl;
  };
  had_memory = b.had_memory;
}
  where
    requests : Requests
    requests = record { waiting = slice_set w.requests.waiting i None; asker = asker_after (suc i) b.told.decided; decided = None }

    told : Step
    told = record b.told { reply = reply_to (suc i) b.told.decided }

start_for_tells : (w : World) (i : ℕ) → Ready w.place → DoneOrRefused w (StartFor (suc i))
start_for_tells w i r = by_peer (slice_get w.peers i) refl r
  where
    by_waiting : channel w zero (suc i) ≢ None → CanStart w.place → w.place.last ≢ 18446744073709551615 → (o : Option (Option Op)) → slice_get w.requests.waiting i ≡ o → DoneOrRefused w (StartFor (suc i))
    by_waiting joined can ne None e = inr (NoneWaiting, (joined, can.0, ne, ap (option_and_then (λ waits. waits)) e))
    by_waiting joined can ne (Some None) e = inr (NoneWaiting, (joined, can.0, ne, ap (option_and_then (λ waits. waits)) e))
    by_waiting joined can ne (Some (Some op)) e = inl (start_for_done w i op can e (begun (length w.peers) (newest w) w.budget w.place op (outcome (newest w) w.budget op)))

    by_peer : (o : Option Peer) → slice_get w.peers i ≡ o → Ready w.place → DoneOrRefused w (StartFor (suc i))
    by_peer None at r' = inr (NoSuchCore, not_joined w i at)
    by_peer (Some p) at (busy ne) = inr (NotIdle, (is_joined w i p at, ne))
    by_peer (Some p) at (spent idle e) = inr (Spent, (is_joined w i p at, idle, e))
    by_peer (Some p) at (ready can ne) = by_waiting (is_joined w i p at) can ne (slice_get w.requests.waiting i) refl

submit_tells : (w : World) (i : ℕ) (op : Op) → DoneOrRefused w (Submit (suc i) op)
submit_tells w i op = by_peer (slice_get w.peers i) refl
  where
    by_outstanding : (p : Peer) → slice_get w.peers i ≡ Some p → (b : Bool) → p.outstanding ≡ b → DoneOrRefused w (Submit (suc i) op)
    by_outstanding p at true e = inr (Outstanding, (i, p, refl, at, e))
    by_outstanding p at false e = inl (record {
      next = record w { peers = slice_set w.peers i (record p { outstanding = true; up = p.up ++ option_to_list (sent_up (Submit (suc i) op) Submitted) }) };
      answer = Submitted;
      happens = record { peer = p; is_peer = at; outstanding = true; here = record { none_outstanding = e; now_outstanding = refl; is_answer = refl }; next = refl };
      had_memory = λ h. h;
    })

    by_peer : (o : Option Peer) → slice_get w.peers i ≡ o → DoneOrRefused w (Submit (suc i) op)
    by_peer None at = inr (NoSuchCore, not_joined w i at)
    by_peer (Some p) at = by_outstanding p at p.outstanding refl

-- Core 0 takes a message

up_done : (w : World) (i : ℕ) (short : Bool) (p : Peer) (m : Message) (rest : List Message) (place : CoordinatorPlace) (requests : Requests) (committed : Option Op) (told : Step) (answer : Answer) → slice_get w.peers i ≡ Some p → p.up ≡ m ∷ rest
    → TakesUpAt (newest w) w.place w.requests i m place requests committed told answer → lacked_memory answer ≡ false → IsDoneAmply w (Take 0 (suc i) short)
up_done w i short p m rest place requests committed told answer at oldest here had = record {
  next = core0_moves (gave w i p rest) place requests committed (outgoing told place);
  answer = answer;
  happens = record { peer = p; is_peer = at; m = m; rest = rest; oldest = oldest; place = place; requests = requests; committed = committed; told = told; here = here; next = refl };
  had_memory = λ h. (let x = h.1 in cc);
}

vote_done : (w : World) (i : ℕ) (short : Bool) (p : Peer) (txn : ℕ) (v : Vote) (rest : List Message) → Inv w → slice_get w.peers i ≡ Some p → p.up ≡ message.Vote txn v ∷ rest → Expects w.place w.requests i (message.Vote txn v) → IsDoneAmply w (Take 0 (suc i) short)
vote_done w i short p txn v rest inv at oldest waits =
    let a = subst (λ (ph : Phase). Alone (length w.peers) (newest w) w.budget ph w.place.staged) waits.1 inv.alone_ok in
    let t = tallied (newest w) txn a.0 (slice_set waits.0 i (Some v)) in
    up_done w i short p (message.Vote txn v) rest t.place (with_decided w.requests t.told.decided) t.committed t.told (TookVote txn v t.told.decided) at oldest
    (record {
      hears = record { votes = waits.0; op = a.0; voting = waits.1; on_op = a.2; number = waits.2; first_vote = waits.3; tallies = t.tallies };
      requests_next = refl;
      is_answer = refl;
    }) refl

ack_done : (w : World) (i : ℕ) (short : Bool) (p : Peer) (txn : ℕ) (rest : List Message) → slice_get w.peers i ≡ Some p → p.up ≡ message.Ack txn ∷ rest → Expects w.place w.requests i (message.Ack txn) → IsDoneAmply w (Take 0 (suc i) short)
ack_done w i short p txn rest at oldest waits =
    let phase : Phase = phase_with (slice_set waits.0 i true) in
    up_done w i short p (message.Ack txn) rest (record { last = w.place.last; phase = phase; staged = w.place.staged }) (requests_at phase w.requests) None
    (record { txn = txn; say = None; decided = None; reply = reply_at phase w.requests }) (TookAck txn) at oldest
    (record {
      hears = record { acks = waits.0; acking = waits.1; number = waits.2; first_ack = waits.3; next = refl; requests_next = refl; tells = refl };
      none_committed = refl;
      is_answer = refl;
    }) refl

takes_up : (w : World) (i : ℕ) (short : Bool) (p : Peer) (m : Message) (rest : List Message) → Inv w → slice_get w.peers i ≡ Some p → p.up ≡ m ∷ rest → Expects w.place w.requests i m → IsDoneAmply w (Take 0 (suc i) short)
takes_up w i short p (message.Vote txn v) rest inv at oldest waits = vote_done w i short p txn v rest inv at oldest waits
takes_up w i short p (message.Ack txn) rest inv at oldest waits = ack_done w i short p txn rest at oldest waits
takes_up w i short p (message.Submit op) rest inv at oldest waits =
    up_done w i short p (message.Submit op) rest w.place (with_waiting w.requests i op) None (record { txn = w.place.last; say = None; decided = None; reply = None }) TookSubmit at oldest
    (record { can_submit = waits; same_place = refl; requests_next = refl; none_committed = refl; tells = refl; is_answer = refl }) refl
takes_up w i short p m rest inv at oldest waits = absurd waits

up_tells : (w : World) (i : ℕ) (short : Bool) → Inv w → NoStranger w → DoneOrRefused w (Take 0 (suc i) short)
up_tells w i short inv known = by_peer (slice_get w.peers i) refl
  where
    by_channel : (p : Peer) → slice_get w.peers i ≡ Some p → (ms : List Message) → p.up ≡ ms → DoneOrRefused w (Take 0 (suc i) short)
    by_channel p at [] e = inr (Nothing, ap (option_map (λ (q : Peer). q.up)) at ∙ ap (λ (ms : List Message). Some ms) e)
    by_channel p at (m ∷ rest) e = inl (takes_up w i short p m rest inv at e (known.up i p m rest at e))

    by_peer : (o : Option Peer) → slice_get w.peers i ≡ o → DoneOrRefused w (Take 0 (suc i) short)
    by_peer None at = inr (NoSuchCore, not_joined w i at)
    by_peer (Some p) at = by_channel p at p.up refl

-- Another core takes a message

down_done : (w : World) (i : ℕ) (short : Bool) (p : Peer) (m : Message) (rest : List Message) (place : ParticipantPlace) (outstanding : Bool) (committed : Option Op) (answer : Answer) → slice_get w.peers i ≡ Some p → p.down ≡ m ∷ rest
    → TakesDownAt short (newest w) p.budget p.version p.place p.outstanding m place outstanding committed answer → (LacksMemory (Take (suc i) 0 short) answer → ⊥) → IsDoneAmply w (Take (suc i) 0 short)
down_done w i short p m rest place outstanding committed answer at oldest here had = record {
  next = record w {
    peers = slice_set w.peers i (record {
      budget = p.budget;
      version = raised p.version committed;
      place = place;
      outstanding = outstanding;
      down = rest;
      up = p.up ++ option_to_list (sent_up (Take (suc i) 0 short) answer);
    });
  };
  answer = answer;
  happens = record { peer = p; is_peer = at; m = m; rest = rest; oldest = oldest; place = place; outstanding = outstanding; committed = committed; here = here; next = refl };
  had_memory = had;
}

-- a vote that the core may cast, which is NoMemory only where the event says so
record Ballot (short : Bool) (s : TableState) (budget : ℕ) (op : Op) : Type 0 where
  cast : Vote
  casts : Casts short s budget op cast
  had_memory : cast ≡ vote.NoMemory → short ≡ true

ballot : (short : Bool) (s : TableState) (budget : ℕ) (op : Op) → instructions s ≤ budget → ((fault : OpFault) → Allowed s budget op (Some (Rule fault)) → ⊥) → Outcome s budget op → Ballot short s budget op
ballot short s budget op fits none (breaks fault a) = absurd (none fault a)
ballot short s budget op fits none (exceeds a) = record { cast = vote.Budget; casts = (a, over_budget s budget op a); had_memory = λ e. absurd cc }
ballot true s budget op fits none (allows a) = record { cast = vote.NoMemory; casts = (a, allowed_fits s budget op a fits); had_memory = λ e. refl }
ballot false s budget op fits none (allows a) = record { cast = vote.Yes; casts = (a, allowed_fits s budget op a fits, refl); had_memory = λ e. absurd cc }

-- a core that is asked is at the newest version
asked_newest : (w : World) (i txn : ℕ) (p : Peer) (op : Op) (rest : List Message) → p.down ≡ message.Prepare txn op ∷ rest → Pair w.limits w.log w.place i p → p.version ≡ length w.log
asked_newest w i txn p op rest e (at_rest ph is) = is.version_is
asked_newest w i txn p op rest e (asked votes o last ph st at le is) = is.version_is
asked_newest w i txn p op rest e (voted votes o v short ph st at c is) = is.version_is
asked_newest w i txn p op rest e (counted votes o v short ph st at c is) = is.version_is
asked_newest w i txn p op rest e (to_commit acks o version ph at le fits entry is) = absurd (let front : commitments p.down ≡ message.Prepare txn op ∷ commitments rest = ap commitments e in cc (front, is.down_is))
asked_newest w i txn p op rest e (to_abort acks v st ph at is) = is.version_is
asked_newest w i txn p op rest e (acked acks ph at is) = is.version_is
asked_newest w i txn p op rest e (finished acks ph at is) = is.version_is

lacked_vote : (txn : ℕ) (v : Vote) → lacked_memory (TookPrepare txn v) ≡ true → v ≡ vote.NoMemory
lacked_vote txn vote.Yes h = absurd cc
lacked_vote txn vote.Budget h = absurd cc
lacked_vote txn vote.NoMemory h = refl

prepare_done : (w : World) (i : ℕ) (short : Bool) (p : Peer) (txn : ℕ) (op : Op) (rest : List Message) → Inv w → slice_get w.peers i ≡ Some p → p.down ≡ message.Prepare txn op ∷ rest → Awaits w p (message.Prepare txn op) → IsDoneAmply w (Take (suc i) 0 short)
prepare_done w i short p txn op rest inv at oldest fits =
    let within : instructions (newest w) ≤ p.budget = subst (λ (v : ℕ). instructions (table w.limits w.log v) ≤ p.budget) (asked_newest w i txn p op rest oldest (inv.pairs i p at)) (inv.within i p at).fits in
    let b = ballot short (newest w) p.budget op within fits.2 (outcome (newest w) p.budget op) in
    down_done w i short p (message.Prepare txn op) rest (record { last = txn; voted = Some b.cast; staged = staged_by b.cast op }) p.outstanding None (TookPrepare txn b.cast) at oldest
    (record { reply = message.Vote txn b.cast; answers = (fits.0, fits.1, b.casts, refl, refl); same_outstanding = refl; is_committed = refl; is_answer = refl })
    (λ h. let is = b.had_memory (lacked_vote txn b.cast h.1) in let not' = h.0 in cc)

takes_down : (w : World) (i : ℕ) (short : Bool) (p : Peer) (m : Message) (rest : List Message) → Inv w → slice_get w.peers i ≡ Some p → p.down ≡ m ∷ rest → Awaits w p m → IsDoneAmply w (Take (suc i) 0 short)
takes_down w i short p (message.Prepare txn op) rest inv at oldest fits = prepare_done w i short p txn op rest inv at oldest fits
takes_down w i short p (message.Commit txn) rest inv at oldest fits =
    down_done w i short p (message.Commit txn) rest (record { last = txn; voted = None; staged = None }) p.outstanding p.place.staged (TookCommit txn (raised p.version p.place.staged)) at oldest
    (record { reply = message.Ack txn; answers = (fits.0, fits.1, refl, refl); same_outstanding = refl; is_committed = refl; is_answer = refl }) (λ h. let x = h.1 in cc)
takes_down w i short p (message.Abort txn) rest inv at oldest fits =
    down_done w i short p (message.Abort txn) rest (record { last = txn; voted = None; staged = None }) p.outstanding None (TookAbort txn p.version) at oldest
    (record { reply = message.Ack txn; answers = (fits.0, fits.1, refl, refl); same_outstanding = refl; is_committed = refl; is_answer = refl }) (λ h. let x = h.1 in cc)
takes_down w i short p (message.Reply decision) rest inv at oldest outstanding =
    down_done w i short p (message.Reply decision) rest p.place false None (TookReply decision) at oldest
    (record { was_outstanding = outstanding; none_outstanding = refl; same_place = refl; none_committed = refl; is_answer = refl }) (λ h. let x = h.1 in cc)
takes_down w i short p m rest inv at oldest fits = absurd fits

down_tells : (w : World) (i : ℕ) (short : Bool) → Inv w → NoStranger w → DoneOrRefused w (Take (suc i) 0 short)
down_tells w i short inv known = by_peer (slice_get w.peers i) refl
  where
    by_channel : (p : Peer) → slice_get w.peers i ≡ Some p → (ms : List Message) → p.down ≡ ms → DoneOrRefused w (Take (suc i) 0 short)
    by_channel p at [] e = inr (Nothing, ap (option_map (λ (q : Peer). q.down)) at ∙ ap (λ (ms : List Message). Some ms) e)
    by_channel p at (m ∷ rest) e = inl (takes_down w i short p m rest inv at e (known.down i p m rest at e))

    by_peer : (o : Option Peer) → slice_get w.peers i ≡ o → DoneOrRefused w (Take (suc i) 0 short)
    by_peer None at = inr (NoSuchCore, ap (option_map (λ (q : Peer). q.down)) at)
    by_peer (Some p) at = by_channel p at p.down refl

-- A core receives a packet

rx_tells : (limits : TableLimits) (budget : ℕ) (budgets : List ℕ) (events : List Done) (w : World) (core number : ℕ) (packet : CapturedPacket) (floor : ℕ) → Run limits budget budgets events w → DoneOrRefused w (Rx core number packet floor)
rx_tells limits budget budgets events w core number packet floor run = by_version (version_at w core) refl
  where
    by_floor : (version : ℕ) → version_at w core ≡ Some version → (version < floor) ⊎ (floor ≤ version) → DoneOrRefused w (Rx core number packet floor)
    by_floor version at (inl lt) = inr (NotReady, (version, at, lt))
    by_floor version at (inr le) =
        let inside = version_within limits budget budgets w core version (run_agrees limits budget budgets events w run) at in
        let found = some_accepting (table w.limits w.log version) (captured packet) ((run_sound limits budget budgets events w run).sound version inside) in
        inl (record {
          next = w;
          answer = Delivered version found.0;
          happens = record { version = version; is_version = at; here = record { kept = found.0; above_floor = le; accepting = found.1; is_answer = refl }; next = refl };
          had_memory = λ h. h;
        })

    by_version : (o : Option ℕ) → version_at w core ≡ o → DoneOrRefused w (Rx core number packet floor)
    by_version None at = inr (NoSuchCore, at)
    by_version (Some version) at = by_floor version at (cases_lt version floor)

-- All events

pub event_told : (limits : TableLimits) (budget : ℕ) (budgets : List ℕ) (events : List Done) (w : World) (event : Event) → Run limits budget budgets events w → DoneOrRefused w event
event_told limits budget budgets events w (Start op) run = start_tells w op (ready_or_not w.place (last_within limits budget budgets events w run))
event_told limits budget budgets events w (Submit zero op) run = inr (NoSuchCore, refl)
event_told limits budget budgets events w (Submit (suc i) op) run = submit_tells w i op
event_told limits budget budgets events w (StartFor zero) run = inr (NoSuchCore, refl)
event_told limits budget budgets events w (StartFor (suc i)) run = start_for_tells w i (ready_or_not w.place (last_within limits budget budgets events w run))
event_told limits budget budgets events w (Take zero zero short) run = inr (NoSuchCore, refl)
event_told limits budget budgets events w (Take zero (suc i) short) run = up_tells w i short (run_inv limits budget budgets events w run) (run_no_stranger limits budget budgets events w run)
event_told limits budget budgets events w (Take (suc i) zero short) run = down_tells w i short (run_inv limits budget budgets events w run) (run_no_stranger limits budget budgets events w run)
event_told limits budget budgets events w (Take (suc i) (suc j) short) run = inr (NoSuchCore, refl)
event_told limits budget budgets events w (Rx core number packet floor) run = rx_tells limits budget budgets events w core number packet floor run
