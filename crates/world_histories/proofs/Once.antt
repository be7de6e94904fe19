-- From one world an event with its answer leads to one world alone, so that the histories of a computation have one log.
use Rattle.std.proofs.Common.{◌≡◌, ◌+◌, ℕ, zero, suc, Bool, true, false, Option, Some, None, List, [], ◌∷◌, ◌++◌, length, slice_set, refl, ap, sym, ◌∙◌, subst, replicate}
use Rattle.std.specs.Prelude.{option_to_list}
use Rattle.filter_table.specs.declared.operation.Op.{Op}
use Rattle.filter_table.specs.Tables.{TableState}
use Rattle.monitor_messages.specs.declared.message.Message.{Message}
use Rattle.monitor_messages.specs.declared.message.Message.TheVariants as message
use Rattle.filter_table.specs.declared.decision.Vote.{Vote}
use Rattle.filter_table.specs.declared.decision.Decision.{Decision}
use Rattle.filter_table.specs.declared.decision.Decision.TheVariants.{Committed, Refused}
use Rattle.two_phase.specs.declared.step.Say.TheVariants as say
use Rattle.two_phase.specs.declared.step.Step.{Step}
use Rattle.two_phase.specs.Participants.{ParticipantPlace, Answers, staged_by}
use Rattle.two_phase.specs.Coordinators.{CoordinatorPlace, Requests, Idle, Voting, Acking, step, Starts, refused, unstaged, alone, prepared, Tallies, waits, commits_all, aborts_all, with_decided, phase_with, reply_at, requests_at, asker_after, reply_to}
use Rattle.world_events.specs.declared.event.Event.{Event}
use Rattle.world_events.specs.declared.event.Event.TheVariants.{Start, Submit, StartFor, Take, Rx}
use Rattle.world_events.specs.declared.event.Answer.{Answer}
use Rattle.world_events.specs.declared.event.Answer.TheVariants.{Prepared, Decided, TookPrepare}
use Rattle.world_events.specs.declared.event.Done.{Done}
use Rattle.world_model.specs.Cases.{outgoing, sent_up, raised, start_told, TakesUpAt, TakesDownAt, Took}
use Rattle.world_model.specs.Worlds.{Peer, World, newest, core0_moves, gave, HappensStart, HappensStartFor, HappensSubmit, HappensUp, HappensDown, Happens, Runs}

-- What core 0 does, by the answer

-- what a start leads to
abbrev start_place : CoordinatorPlace → ℕ → Op → Answer → CoordinatorPlace
start_place place others op (Prepared txn) = record { last = place.last + 1; phase = Voting (replicate others None); staged = Some op }
start_place place others op (Decided (Committed version id)) = record { last = place.last + 1; phase = Idle; staged = None }
start_place place others op answer = place

abbrev start_commits : Op → Answer → Option Op
start_commits op (Decided (Committed version id)) = Some op
start_commits op answer = None

abbrev start_tells : CoordinatorPlace → Answer → Step
start_tells place (Decided (Committed version id)) = step (place.last + 1) None (Some (Committed version id))
start_tells place (Decided (Refused core why)) = step place.last None (Some (Refused core why))
start_tells place answer = step (place.last + 1) (Some say.Prepare) None

record StartIs (others : ℕ) (place : CoordinatorPlace) (op : Op) (answer : Answer) (place' : CoordinatorPlace) (committed : Option Op) (told : Step) : Type 0 where
  place_is : place' ≡ start_place place others op answer
  committed_is : committed ≡ start_commits op answer
  told_is : told ≡ start_tells place answer

start_is : (others : ℕ) (s : TableState) (b : ℕ) (place place' : CoordinatorPlace) (op : Op) (committed : Option Op) (told : Step) (answer : Answer) → answer ≡ start_told told.txn told.decided → Starts others s b place op place' committed told
    → StartIs others place op answer place' committed told
start_is others s b place place' op committed told answer a (refused f al p c t) =
    let e = a ∙ ap (λ (x : Step). start_told x.txn x.decided) t in record { place_is = rw e p; committed_is = rw e c; told_is = rw e t }
start_is others s b place place' op committed told answer a (unstaged f p c t) =
    let e = a ∙ ap (λ (x : Step). start_told x.txn x.decided) t in record { place_is = rw e p; committed_is = rw e c; told_is = rw e t }
start_is others s b place place' op committed told answer a (alone al n p c t) =
    let e = a ∙ ap (λ (x : Step). start_told x.txn x.decided) t in record { place_is = rw e p; committed_is = rw e c; told_is = rw e t }
start_is others s b place place' op committed told answer a (prepared al n p c t) =
    let e = a ∙ ap (λ (x : Step). start_told x.txn x.decided) t in record { place_is = rw e p; committed_is = rw e c; told_is = rw e t }

start_once : (w w1 w2 : World) (op : Op) (answer : Answer) → HappensStart w op w1 answer → HappensStart w op w2 answer → w1 ≡ w2
start_once w w1 w2 op answer a b = is w1 a ∙ sym (is w2 b)
  where
    is : (w' : World) → HappensStart w op w' answer → w' ≡ core0_moves w (start_place w.place (length w.peers) op answer) w.requests (start_commits op answer) (outgoing (start_tells w.place answer) (start_place w.place (length w.peers) op answer))
    is w' h = let s = start_is (length w.peers) (newest w) w.budget w.place h.place op h.committed h.told answer h.here.is_answer h.here.starts in h.next ∙ rw (s.place_is, s.committed_is, s.told_is) refl

same_move : (w : World) (place place' : CoordinatorPlace) (requests requests' : Requests) (committed committed' : Option Op) (told told' : Step) → place ≡ place' → requests ≡ requests' → committed ≡ committed' → told ≡ told'
    → core0_moves w place requests committed (outgoing told place) ≡ core0_moves w place' requests' committed' (outgoing told' place')
same_move w place place' requests requests' committed committed' told told' ep er ec et = rw (ep, er, ec, et) refl

start_for_once : (w w1 w2 : World) (entry : ℕ) (answer : Answer) → HappensStartFor w entry w1 answer → HappensStartFor w entry w2 answer → w1 ≡ w2
start_for_once w w1 w2 entry answer a b = is w1 a.here.starts.op a refl ∙ sym (is w2 a.here.starts.op b (let x = a.here.starts.is_waiting in let y = b.here.starts.is_waiting in cc))
  where
    requests : Requests
    requests = record { waiting = slice_set w.requests.waiting entry None; asker = asker_after (suc entry) (start_tells w.place answer).decided; decided = None }

    told : Step
    told = record (start_tells w.place answer) { reply = reply_to (suc entry) (start_tells w.place answer).decided }

    is : (w' : World) (op : Op) (h : HappensStartFor w entry w' answer) → h.here.starts.op ≡ op
        → w' ≡ core0_moves w (start_place w.place (length w.peers) op answer) requests (start_commits op answer) (outgoing told (start_place w.place (length w.peers) op answer))
    is w' op h e =
        let s = start_is (length w.peers) (newest w) w.budget w.place h.place h.here.starts.op h.committed h.here.starts.begun answer (h.here.is_answer ∙ ap (λ (x : Step). start_told x.txn x.decided) h.here.starts.tells) h.here.starts.starts in
        h.next
        ∙ same_move w h.place (start_place w.place (length w.peers) op answer) h.requests requests h.committed (start_commits op answer) h.told told
        (s.place_is ∙ ap (λ (x : Op). start_place w.place (length w.peers) x answer) e)
        (h.here.starts.next ∙ ap (λ (x : Step). record { waiting = slice_set w.requests.waiting entry None; asker = asker_after (suc entry) x.decided; decided = None }) s.told_is)
        (s.committed_is ∙ ap (λ (x : Op). start_commits x answer) e)
        (h.here.starts.tells ∙ ap (λ (x : Step). record x { reply = reply_to (suc entry) x.decided }) s.told_is)

-- what votes come to, by what they decide
abbrev tally_place : ℕ → Op → List (Option Vote) → Option Decision → CoordinatorPlace
tally_place last op votes None = record { last = last; phase = Voting votes; staged = Some op }
tally_place last op votes (Some decision) = record { last = last; phase = Acking (replicate (length votes) false); staged = None }

abbrev tally_commits : Op → Option Decision → Option Op
tally_commits op (Some (Committed version id)) = Some op
tally_commits op decided = None

abbrev tally_tells : ℕ → Option Decision → Step
tally_tells last None = step last None None
tally_tells last (Some (Committed version id)) = step last (Some say.Commit) (Some (Committed version id))
tally_tells last (Some (Refused core why)) = step last (Some say.Abort) (Some (Refused core why))

record TallyIs (last : ℕ) (op : Op) (votes : List (Option Vote)) (decided : Option Decision) (place' : CoordinatorPlace) (committed : Option Op) (told : Step) : Type 0 where
  place_is : place' ≡ tally_place last op votes decided
  committed_is : committed ≡ tally_commits op decided
  told_is : told ≡ tally_tells last decided

tally_is : (s : TableState) (last : ℕ) (op : Op) (votes : List (Option Vote)) (place' : CoordinatorPlace) (committed : Option Op) (told : Step) (decided : Option Decision) → told.decided ≡ decided → Tallies s last op votes place' committed told
    → TallyIs last op votes decided place' committed told
tally_is s last op votes place' committed told decided d (waits i n p c t) = let e = sym d ∙ ap (λ (x : Step). x.decided) t in record { place_is = rw e p; committed_is = rw e c; told_is = rw e t }
tally_is s last op votes place' committed told decided d (commits_all a p c t) = let e = sym d ∙ ap (λ (x : Step). x.decided) t in record { place_is = rw e p; committed_is = rw e c; told_is = rw e t }
tally_is s last op votes place' committed told decided d (aborts_all core against l a p c t) = let e = sym d ∙ ap (λ (x : Step). x.decided) t in record { place_is = rw e p; committed_is = rw e c; told_is = rw e t }

-- core 0's next place and requests, what it commits and tells
record SameUp (p1 p2 : CoordinatorPlace) (r1 r2 : Requests) (c1 c2 : Option Op) (t1 t2 : Step) : Type 0 where
  place : p1 ≡ p2
  requests : r1 ≡ r2
  committed : c1 ≡ c2
  told : t1 ≡ t2

up_case_once : (s : TableState) (place p1 p2 : CoordinatorPlace) (requests r1 r2 : Requests) (i : ℕ) (m : Message) (c1 c2 : Option Op) (t1 t2 : Step) (answer : Answer)
    → TakesUpAt s place requests i m p1 r1 c1 t1 answer → TakesUpAt s place requests i m p2 r2 c2 t2 answer → SameUp p1 p2 r1 r2 c1 c2 t1 t2
up_case_once s place p1 p2 requests r1 r2 i (message.Vote txn v) c1 c2 t1 t2 answer a b =
    let votes : a.hears.votes ≡ b.hears.votes = (let x = a.hears.voting in let y = b.hears.voting in cc) in
    let op : a.hears.op ≡ b.hears.op = (let x = a.hears.on_op in let y = b.hears.on_op in cc) in
    let decided : t1.decided ≡ t2.decided = (let x = a.is_answer in let y = b.is_answer in cc) in
    let x = tally_is s txn a.hears.op (slice_set a.hears.votes i (Some v)) p1 c1 t1 t2.decided decided a.hears.tallies in
    let y = tally_is s txn b.hears.op (slice_set b.hears.votes i (Some v)) p2 c2 t2 t2.decided refl b.hears.tallies in
    record {
      place = x.place_is
          ∙ (ap (λ (o : Op). tally_place txn o (slice_set a.hears.votes i (Some v)) t2.decided) op ∙ (ap (λ (vs : List (Option Vote)). tally_place txn b.hears.op (slice_set vs i (Some v)) t2.decided) votes ∙ sym y.place_is));
      requests = a.requests_next ∙ (ap (with_decided requests) decided ∙ sym b.requests_next);
      committed = x.committed_is ∙ (ap (λ (o : Op). tally_commits o t2.decided) op ∙ sym y.committed_is);
      told = x.told_is ∙ sym y.told_is;
    }
up_case_once s place p1 p2 requests r1 r2 i (message.Ack txn) c1 c2 t1 t2 answer a b =
    let acks : a.hears.acks ≡ b.hears.acks = (let x = a.hears.acking in let y = b.hears.acking in cc) in
    let same : p1 ≡ p2 = a.hears.next ∙ (ap (λ (xs : List Bool). record { last = place.last; phase = phase_with (slice_set xs i true); staged = place.staged }) acks ∙ sym b.hears.next) in
    record {
      place = same;
      requests = a.hears.requests_next ∙ (ap (λ (p : CoordinatorPlace). requests_at p.phase requests) same ∙ sym b.hears.requests_next);
      committed = a.none_committed ∙ sym b.none_committed;
      told = a.hears.tells ∙ (ap (λ (p : CoordinatorPlace). record { txn = txn; say = None; decided = None; reply = reply_at p.phase requests }) same ∙ sym b.hears.tells);
    }
up_case_once s place p1 p2 requests r1 r2 i (message.Submit op) c1 c2 t1 t2 answer a b =
    record { place = a.same_place ∙ sym b.same_place; requests = a.requests_next ∙ sym b.requests_next; committed = a.none_committed ∙ sym b.none_committed; told = a.tells ∙ sym b.tells }
up_case_once s place p1 p2 requests r1 r2 i m c1 c2 t1 t2 answer a b = absurd a

up_once : (w w1 w2 : World) (i : ℕ) (answer : Answer) → HappensUp w i w1 answer → HappensUp w i w2 answer → w1 ≡ w2
up_once w w1 w2 i answer a b = a.next ∙ (same_move (gave w i a.peer a.rest) a.place b.place a.requests b.requests a.committed b.committed a.told b.told same.place same.requests same.committed same.told
    ∙ (ap (λ (x : World). core0_moves x b.place b.requests b.committed (outgoing b.told b.place)) (ap (λ (p : Peer). gave w i p a.rest) peer ∙ ap (gave w i b.peer) rest) ∙ sym b.next))
  where
    peer : a.peer ≡ b.peer
    peer = let x = a.is_peer in let y = b.is_peer in cc

    front : a.m ∷ a.rest ≡ b.m ∷ b.rest
    front = sym a.oldest ∙ (ap (λ (p : Peer). p.up) peer ∙ b.oldest)

    rest : a.rest ≡ b.rest
    rest = cc

    m : a.m ≡ b.m
    m = cc

    same : SameUp a.place b.place a.requests b.requests a.committed b.committed a.told b.told
    same = up_case_once (newest w) w.place a.place b.place w.requests a.requests b.requests i b.m a.committed b.committed a.told b.told answer
        (subst (λ (x : Message). TakesUpAt (newest w) w.place w.requests i x a.place a.requests a.committed a.told answer) m a.here) b.here

-- Another core

record SameDown (p1 p2 : ParticipantPlace) (o1 o2 : Bool) (c1 c2 : Option Op) : Type 0 where
  place : p1 ≡ p2
  outstanding : o1 ≡ o2
  committed : c1 ≡ c2

-- the place after a message that the core answers, by its answer
took_place : (short : Bool) (s : TableState) (b version : ℕ) (place p1 p2 : ParticipantPlace) (m reply1 reply2 : Message) (v2 : ℕ) (answer : Answer)
    → Answers short s b place m p1 reply1 → Took m reply1 version answer → Answers short s b place m p2 reply2 → Took m reply2 v2 answer → p1 ≡ p2
took_place short s b version place p1 p2 (message.Prepare txn op) (message.Vote n1 x) (message.Vote n2 y) v2 answer a t a' t' =
    let e : TookPrepare txn x ≡ TookPrepare txn y = sym t ∙ t' in
    let same : x ≡ y = cc in
    a.3 ∙ (ap (λ (v : Vote). record { last = txn; voted = Some v; staged = staged_by v op }) same ∙ sym a'.3)
took_place short s b version place p1 p2 (message.Commit txn) (message.Ack n1) (message.Ack n2) v2 answer a t a' t' = a.2 ∙ sym a'.2
took_place short s b version place p1 p2 (message.Abort txn) (message.Ack n1) (message.Ack n2) v2 answer a t a' t' = a.2 ∙ sym a'.2
took_place short s b version place p1 p2 (message.Prepare txn op) (message.Vote n1 x) reply2 v2 answer a t a' t' = absurd a'
took_place short s b version place p1 p2 (message.Commit txn) (message.Ack n1) reply2 v2 answer a t a' t' = absurd a'
took_place short s b version place p1 p2 (message.Abort txn) (message.Ack n1) reply2 v2 answer a t a' t' = absurd a'
took_place short s b version place p1 p2 m reply1 reply2 v2 answer a t a' t' = absurd a

down_case_once : (short : Bool) (s : TableState) (b version : ℕ) (place p1 p2 : ParticipantPlace) (out o1 o2 : Bool) (m : Message) (c1 c2 : Option Op) (answer : Answer)
    → TakesDownAt short s b version place out m p1 o1 c1 answer → TakesDownAt short s b version place out m p2 o2 c2 answer → SameDown p1 p2 o1 o2 c1 c2
down_case_once short s b version place p1 p2 out o1 o2 (message.Reply d) c1 c2 answer x y = record { place = x.same_place ∙ sym y.same_place; outstanding = x.none_outstanding ∙ sym y.none_outstanding; committed = x.none_committed ∙ sym y.none_committed }
down_case_once short s b version place p1 p2 out o1 o2 (message.Prepare txn op) c1 c2 answer x y = record {
  place = took_place short s b _ place p1 p2 (message.Prepare txn op) x.reply y.reply _ answer x.answers x.is_answer y.answers y.is_answer;
  outstanding = x.same_outstanding ∙ sym y.same_outstanding;
  committed = x.is_committed ∙ sym y.is_committed;
}
down_case_once short s b version place p1 p2 out o1 o2 (message.Commit txn) c1 c2 answer x y = record {
  place = took_place short s b _ place p1 p2 (message.Commit txn) x.reply y.reply _ answer x.answers x.is_answer y.answers y.is_answer;
  outstanding = x.same_outstanding ∙ sym y.same_outstanding;
  committed = x.is_committed ∙ sym y.is_committed;
}
down_case_once short s b version place p1 p2 out o1 o2 (message.Abort txn) c1 c2 answer x y = record {
  place = took_place short s b _ place p1 p2 (message.Abort txn) x.reply y.reply _ answer x.answers x.is_answer y.answers y.is_answer;
  outstanding = x.same_outstanding ∙ sym y.same_outstanding;
  committed = x.is_committed ∙ sym y.is_committed;
}
down_case_once short s b version place p1 p2 out o1 o2 (message.Vote txn v) c1 c2 answer x y = absurd x.answers
down_case_once short s b version place p1 p2 out o1 o2 (message.Ack txn) c1 c2 answer x y = absurd x.answers
down_case_once short s b version place p1 p2 out o1 o2 (message.Submit op) c1 c2 answer x y = absurd x.answers

-- the world in which a core took a message
abbrev took_down : World → ℕ → Bool → Answer → Peer → List Message → ParticipantPlace → Bool → Option Op → World
took_down w i short answer p rest place outstanding committed = record w {
  peers = slice_set w.peers i (record {
    budget = p.budget;
    version = raised p.version committed;
    place = place;
    outstanding = outstanding;
    down = rest;
    up = p.up ++ option_to_list (sent_up (Take (suc i) 0 short) answer);
  });
}

same_down : (w : World) (i : ℕ) (short : Bool) (answer : Answer) (p p' : Peer) (rest rest' : List Message) (place place' : ParticipantPlace) (out out' : Bool) (committed committed' : Option Op)
    → p ≡ p' → rest ≡ rest' → place ≡ place' → out ≡ out' → committed ≡ committed' → took_down w i short answer p rest place out committed ≡ took_down w i short answer p' rest' place' out' committed'
same_down w i short answer p p' rest rest' place place' out out' committed committed' ep er el eo ec = rw (ep, er, el, eo, ec) refl

down_once : (w w1 w2 : World) (i : ℕ) (short : Bool) (answer : Answer) → HappensDown w i short w1 answer → HappensDown w i short w2 answer → w1 ≡ w2
down_once w w1 w2 i short answer a b = a.next ∙ (same_down w i short answer a.peer b.peer a.rest b.rest a.place b.place a.outstanding b.outstanding a.committed b.committed peer rest same.place same.outstanding same.committed ∙ sym b.next)
  where
    peer : a.peer ≡ b.peer
    peer = let x = a.is_peer in let y = b.is_peer in cc

    front : a.m ∷ a.rest ≡ b.m ∷ b.rest
    front = sym a.oldest ∙ (ap (λ (p : Peer). p.down) peer ∙ b.oldest)

    rest : a.rest ≡ b.rest
    rest = cc

    m : a.m ≡ b.m
    m = cc

    at_b : TakesDownAt short (newest w) b.peer.budget b.peer.version b.peer.place b.peer.outstanding b.m a.place a.outstanding a.committed answer
    at_b = subst (λ (p : Peer). TakesDownAt short (newest w) p.budget p.version p.place p.outstanding b.m a.place a.outstanding a.committed answer) peer
        (subst (λ (x : Message). TakesDownAt short (newest w) a.peer.budget a.peer.version a.peer.place a.peer.outstanding x a.place a.outstanding a.committed answer) m a.here)

    same : SameDown a.place b.place a.outstanding b.outstanding a.committed b.committed
    same = down_case_once short (newest w) b.peer.budget b.peer.version b.peer.place a.place b.place b.peer.outstanding a.outstanding b.outstanding b.m a.committed b.committed answer at_b b.here

submit_once : (w w1 w2 : World) (i : ℕ) (op : Op) (answer : Answer) → HappensSubmit w i op w1 answer → HappensSubmit w i op w2 answer → w1 ≡ w2
submit_once w w1 w2 i op answer a b =
    let peer : a.peer ≡ b.peer = (let x = a.is_peer in let y = b.is_peer in cc) in
    let out : a.outstanding ≡ b.outstanding = a.here.now_outstanding ∙ sym b.here.now_outstanding in
    a.next ∙ (submitted_at a.peer b.peer a.outstanding b.outstanding peer out ∙ sym b.next)
  where
    submitted_at : (p p' : Peer) (o o' : Bool) → p ≡ p' → o ≡ o'
        → record w { peers = slice_set w.peers i (record p { outstanding = o; up = p.up ++ option_to_list (sent_up (Submit (suc i) op) answer) }) }
        ≡ record w { peers = slice_set w.peers i (record p' { outstanding = o'; up = p'.up ++ option_to_list (sent_up (Submit (suc i) op) answer) }) }
    submitted_at p p' o o' ep eo = rw (ep, eo) refl

-- All events

pub happens_once : (w w1 w2 : World) (event : Event) (answer : Answer) → Happens w event w1 answer → Happens w event w2 answer → w1 ≡ w2
happens_once w w1 w2 (Start op) answer a b = start_once w w1 w2 op answer a b
happens_once w w1 w2 (Submit (suc i) op) answer a b = submit_once w w1 w2 i op answer a b
happens_once w w1 w2 (StartFor (suc i)) answer a b = start_for_once w w1 w2 i answer a b
happens_once w w1 w2 (Take zero (suc i) short) answer a b = up_once w w1 w2 i answer a b
happens_once w w1 w2 (Take (suc i) zero short) answer a b = down_once w w1 w2 i short answer a b
happens_once w w1 w2 (Rx core number packet floor) answer a b = a.next ∙ sym b.next
happens_once w w1 w2 event answer a b = absurd a

pub runs_once : (w w1 w2 : World) (events : List Done) → Runs w events w1 → Runs w events w2 → w1 ≡ w2
runs_once w w1 w2 [] a b = a ∙ sym b
runs_once w w1 w2 (d ∷ ds) a b =
    let mid : b.0 ≡ a.0 = happens_once w b.0 a.0 d.event d.answer b.1 a.1 in
    runs_once a.0 w1 w2 ds a.2 (subst (λ (x : World). Runs x ds w2) mid b.2)
