-- The invariant of submitted requests: a request of a core is in one place at most, and its Reply comes before anything else.
use Rattle.std.proofs.Common.{◌≡◌, ◌≢◌, ◌+◌, ◌⊎◌, ◌==◌, inl, inr, ℕ, zero, suc, Bool, true, false, not, cond, Option, Some, None, List, [], ◌∷◌, ◌++◌, length, filter, map, slice_get, slice_set, refl, ap, sym, ◌∙◌, subst, arith, append_assoc, replicate, length-append}
use Rattle.std.specs.Prelude.{option_to_list}
use Rattle.std.proofs.lemmas.List.{append-nil}
use Rattle.std.proofs.lemmas.Bool.Decides.{nat_tests}
use Rattle.std.specs.List.{list_all}
use Rattle.filter_table.specs.Limits.{TableLimits}
use Rattle.filter_table.specs.declared.operation.Op.{Op}
use Rattle.filter_table.proofs.Tables.{table_version}
use Rattle.monitor_messages.specs.declared.message.Message.{Message}
use Rattle.monitor_messages.specs.declared.message.Message.TheVariants as message
use Rattle.filter_table.specs.declared.decision.Vote.{Vote}
use Rattle.filter_table.specs.declared.decision.Decision.{Decision}
use Rattle.two_phase.specs.declared.step.Step.{Step}
use Rattle.two_phase.specs.Coordinators.{CoordinatorPlace, Requests, no_requests, with_waiting, with_decided, requests_at, reply_at, reply_of, reply_to, asker_after, phase_with, CanStart, Phase, Idle, Voting, Acking, Starts, refused, unstaged, alone, prepared, Tallies, waits, commits_all, aborts_all}
use Rattle.world_events.specs.declared.event.Event.{Event}
use Rattle.world_events.specs.declared.event.Event.TheVariants.{Start, Submit, StartFor, Take, Rx}
use Rattle.world_events.specs.declared.event.Answer.{Answer}
use Rattle.world_events.specs.declared.event.Answer.TheVariants.{Prepared, Decided, Submitted, TookVote}
use Rattle.world_model.specs.Cases.{Outgoing, nothing, to_all, to_one, as_reply, said, outgoing, sent_up, raised, start_told, VoteAt, AckAt, SubmitAt, TakesUpAt, AnswersAt, ReplyAt, TakesDownAt, Took}
use Rattle.world_model.specs.Worlds.{Peer, World, newest, boot, new_peer, idle_at_first, send, sent_out, sent_to_one, core0_moves, gave, HappensStart, HappensStartFor, HappensSubmit, HappensUp, HappensDown, Happens}
use Rattle.world_model.specs.Agreement.{is_commitment, commitments}
use Rattle.world_model.specs.Readings.{Request, unsent, sent, numbered, settled, begun, decided_on, followed}
use Rattle.world_model.specs.Decisions.{StandsAt}
use Rattle.world_model.proofs.Lists.{get-set_same, get-set_other, get_map, get_replicate, same_or_not}
use Rattle.world_model.proofs.Invariant.{Inv}
use Rattle.world_model.proofs.Steps.{rests, acked_inv}
use Rattle.std.proofs.lemmas.Option.{slice_get_within}

-- Messages of requests

abbrev pub requests_in : List Message → List Message
requests_in ms = filter (λ m. not (is_commitment m)) ms

pub requests_in-append : (xs ys : List Message) → requests_in (xs ++ ys) ≡ requests_in xs ++ requests_in ys
requests_in-append [] ys = refl
requests_in-append (x ∷ xs) ys = by_test (is_commitment x) refl (requests_in-append xs ys)
  where
    by_test : (b : Bool) → is_commitment x ≡ b → requests_in (xs ++ ys) ≡ requests_in xs ++ requests_in ys → requests_in ((x ∷ xs) ++ ys) ≡ requests_in (x ∷ xs) ++ requests_in ys
    by_test false e rest = rw e (ap (λ (ms : List Message). x ∷ ms) rest)
    by_test true e rest = rw e rest

-- a list without either kind of message is empty
no_messages : (ms : List Message) → commitments ms ≡ [] → requests_in ms ≡ [] → ms ≡ []
no_messages [] c r = refl
no_messages (m ∷ ms) c r = by_test (is_commitment m) refl
  where
    by_test : (b : Bool) → is_commitment m ≡ b → m ∷ ms ≡ []
    by_test true e = absurd (let x : m ∷ commitments ms ≡ [] = rw e at c in cc)
    by_test false e = absurd (let x : m ∷ requests_in ms ≡ [] = rw e at r in cc)

-- the message that core 0 or a core takes first is no request
not_request : (ms rest : List Message) (m : Message) → ms ≡ m ∷ rest → is_commitment m ≡ true → requests_in rest ≡ requests_in ms
not_request ms rest m e known = rw (e, known) refl

sent_commitment : (ms more : List Message) → requests_in more ≡ [] → requests_in (ms ++ more) ≡ requests_in ms
sent_commitment ms more none = requests_in-append ms more ∙ rw none (append-nil (requests_in ms))

-- Where a request is

-- a core's own word, and what core 0 has waiting for it
pub record Holds (requests : Requests) (i : ℕ) (p : Peer) (outstanding : Bool) (up : List Message) (waiting : Option Op) : Type 0 where
  pub outstanding_is : p.outstanding ≡ outstanding
  pub up_is : requests_in p.up ≡ up
  pub waiting_is : slice_get requests.waiting i ≡ Some waiting

-- the request of a core is under way
abbrev pub Served : Phase → ℕ → Option Op → Option Decision → Request → Type 0
Served Idle last staged decided r = ⊥
Served (Voting votes) last staged decided r = (op : Op) × (r ≡ numbered op last) × (staged ≡ Some op)
Served (Acking acks) last staged decided r = (op : Op) × (d : Decision) × (r ≡ settled op d) × (decided ≡ Some d)

pub data Stage (place : CoordinatorPlace) (requests : Requests) (i : ℕ) (p : Peer) (r : Request) : Type 0 where
  free : Holds requests i p false [] None → requests.asker ≢ Some (suc i) → requests_in p.down ≡ [] → Stage place requests i p r
  submitted : (op : Op) → Holds requests i p true (message.Submit op ∷ []) None → requests.asker ≢ Some (suc i) → requests_in p.down ≡ [] → r ≡ sent op → Stage place requests i p r
  waiting : (op : Op) → Holds requests i p true [] (Some op) → requests.asker ≢ Some (suc i) → requests_in p.down ≡ [] → r ≡ sent op → Stage place requests i p r
  served : Holds requests i p true [] None → requests.asker ≡ Some (suc i) → requests_in p.down ≡ [] → Served place.phase place.last place.staged requests.decided r → Stage place requests i p r
  -- nothing comes before the Reply
  replied : (op : Op) (d : Decision) (rest : List Message) → Holds requests i p true [] None → requests.asker ≢ Some (suc i) → p.down ≡ message.Reply d ∷ rest → requests_in rest ≡ []
      → r ≡ settled op d → StandsAt p.version d → Stage place requests i p r

-- what was decided of the operation under way
abbrev pub Desk : ℕ → Phase → Requests → Type 0
Desk version Idle requests = (requests.asker ≡ None) × (requests.decided ≡ None)
Desk version (Voting votes) requests = requests.decided ≡ None
Desk version (Acking acks) requests = (d : Decision) × (requests.decided ≡ Some d) × StandsAt version d

pub record Inv2 (w : World) (r : ℕ → Request) : Type 0 where
  pub desk : Desk (length w.log) w.place.phase w.requests
  pub stages : (i : ℕ) (p : Peer) → slice_get w.peers i ≡ Some p → Stage w.place w.requests i p (r i)

-- What leaves a request where it is

pub record Stays (p q : Peer) : Type 0 where
  pub outstanding : q.outstanding ≡ p.outstanding
  pub up : requests_in q.up ≡ requests_in p.up
  pub version : q.version ≡ p.version
  pub more : List Message
  pub down : q.down ≡ p.down ++ more
  pub no_request : requests_in more ≡ []

pub record Keeps (r r' : Request) : Type 0 where
  pub sent_kept : (op : Op) → r ≡ sent op → r' ≡ sent op
  pub settled_kept : (op : Op) (d : Decision) → r ≡ settled op d → r' ≡ settled op d

keeps_self : (r : Request) → Keeps r r
keeps_self r = record { sent_kept = λ op e. e; settled_kept = λ op d e. e }

keeps_decided : (r : Request) (txn : ℕ) (d : Decision) → Keeps r (decided_on r txn d)
keeps_decided r txn d = record { sent_kept = λ op e. rw e refl; settled_kept = λ op d' e. rw e refl }

stage_like : (place place' : CoordinatorPlace) (requests requests' : Requests) (i : ℕ) (p q : Peer) (r r' : Request) → Stays p q
    → slice_get requests'.waiting i ≡ slice_get requests.waiting i → (requests'.asker ≡ Some (suc i) → requests.asker ≡ Some (suc i))
    → (requests.asker ≡ Some (suc i) → Served place.phase place.last place.staged requests.decided r → (requests'.asker ≡ Some (suc i)) × Served place'.phase place'.last place'.staged requests'.decided r')
    → Keeps r r' → Stage place requests i p r → Stage place' requests' i q r'
stage_like place place' requests requests' i p q r r' stays w' back on keeps stage = by_stage stage
  where
    holds : (b : Bool) (up : List Message) (o : Option Op) → Holds requests i p b up o → Holds requests' i q b up o
    holds b up o h = record { outstanding_is = stays.outstanding ∙ h.outstanding_is; up_is = stays.up ∙ h.up_is; waiting_is = w' ∙ h.waiting_is }

    none : requests_in p.down ≡ [] → requests_in q.down ≡ []
    none e = ap requests_in stays.down ∙ (sent_commitment p.down stays.more stays.no_request ∙ e)

    by_stage : Stage place requests i p r → Stage place' requests' i q r'
    by_stage (free h a d) = free (holds _ _ _ h) (λ e. a (back e)) (none d)
    by_stage (submitted op h a d e) = submitted op (holds _ _ _ h) (λ x. a (back x)) (none d) (keeps.sent_kept op e)
    by_stage (waiting op h a d e) = waiting op (holds _ _ _ h) (λ x. a (back x)) (none d) (keeps.sent_kept op e)
    by_stage (served h a d s) = let x = on a s in served (holds _ _ _ h) x.0 (none d) x.1
    by_stage (replied op dec rest h a d e r_is stands) =
        replied op dec (rest ++ stays.more) (holds _ _ _ h) (λ x. a (back x)) (stays.down ∙ ap (λ (ms : List Message). ms ++ stays.more) d)
        (sent_commitment rest stays.more stays.no_request ∙ e) (keeps.settled_kept op dec r_is) (rw stays.version stands)

-- every core of the new list was in the old one, with its request
abbrev pub Kept : List Peer → List Peer → Type 0
Kept old new = (j : ℕ) (q : Peer) → slice_get new j ≡ Some q → (p : Peer) × (slice_get old j ≡ Some p) × Stays p q

stays_self : (p : Peer) → Stays p p
stays_self p = record { outstanding = refl; up = refl; version = refl; more = []; down = sym (append-nil p.down); no_request = refl }

stays_sent : (p : Peer) (m : Message) → is_commitment m ≡ true → Stays p (send m p)
stays_sent p m known = record { outstanding = refl; up = refl; version = refl; more = m ∷ []; down = refl; no_request = rw known refl }

stays_then : (p q x : Peer) → Stays p q → Stays q x → Stays p x
stays_then p q x a b = record {
  outstanding = b.outstanding ∙ a.outstanding;
  up = b.up ∙ a.up;
  version = b.version ∙ a.version;
  more = a.more ++ b.more;
  down = b.down ∙ (ap (λ (ms : List Message). ms ++ b.more) a.down ∙ append_assoc p.down a.more b.more);
  no_request = sent_commitment a.more b.more b.no_request ∙ a.no_request;
}

stays_gave : (p : Peer) (m : Message) (rest : List Message) → p.up ≡ m ∷ rest → is_commitment m ≡ true → Stays p (record p { up = rest })
stays_gave p m rest e known = record { outstanding = refl; up = not_request p.up rest m e known; version = refl; more = []; down = sym (append-nil p.down); no_request = refl }

kept_self : (ps : List Peer) → Kept ps ps
kept_self ps j q at = (q, at, stays_self q)

kept_set : (ps : List Peer) (i : ℕ) (p p' : Peer) → slice_get ps i ≡ Some p → Stays p p' → Kept ps (slice_set ps i p')
kept_set ps i p p' at stays j q here = by_place (same_or_not i j)
  where
    by_place : ((i ≡ j) ⊎ (i ≡ j → ⊥)) → (o : Peer) × (slice_get ps j ≡ Some o) × Stays o q
    by_place (inl e) =
        let here' : slice_get (slice_set ps i p') i ≡ Some q = subst (λ (k : ℕ). slice_get (slice_set ps i p') k ≡ Some q) (sym e) here in
        let s = get-set_same ps i p' p at in
        let same : q ≡ p' = cc in
        (p, subst (λ (k : ℕ). slice_get ps k ≡ Some p) e at, rw same stays)
    by_place (inr ne) = (q, sym (get-set_other ps i j p' ne) ∙ here, stays_self q)

kept_all : (old new : List Peer) (m : Message) → is_commitment m ≡ true → Kept old new → Kept old (map (send m) new)
kept_all old new m known kept j q here =
    let r = get_map (send m) new j q here in
    let k = kept j r.0 r.1 in
    (k.0, k.1, subst (λ (x : Peer). Stays k.0 x) (sym r.2) (stays_then k.0 r.0 (send m r.0) k.2 (stays_sent r.0 m known)))

-- core 0 is somewhere else, and all requests are where they were
kept_stages : (w : World) (r r' : ℕ → Request) (place' : CoordinatorPlace) (requests' : Requests) (peers' : List Peer) → Inv2 w r → Kept w.peers peers'
    → ((j : ℕ) → slice_get requests'.waiting j ≡ slice_get w.requests.waiting j) → requests'.asker ≡ w.requests.asker
    → ((j : ℕ) → Served w.place.phase w.place.last w.place.staged w.requests.decided (r j) → Served place'.phase place'.last place'.staged requests'.decided (r' j))
    → ((j : ℕ) → Keeps (r j) (r' j)) → (j : ℕ) (q : Peer) → slice_get peers' j ≡ Some q → Stage place' requests' j q (r' j)
kept_stages w r r' place' requests' peers' inv kept same_waiting same_asker on keeps j q at =
    let k = kept j q at in
    stage_like w.place place' w.requests requests' j k.0 q (r j) (r' j) k.2 (same_waiting j) (λ e. sym same_asker ∙ e) (λ a s. (same_asker ∙ a, on j s)) (keeps j) (inv.stages j k.0 k.1)

-- where core 0 is idle, no request is under way
idle_served : {B : Type 0} (phase : Phase) (last : ℕ) (staged : Option Op) (decided : Option Decision) (r : Request) → phase ≡ Idle → Served phase last staged decided r → B
idle_served phase last staged decided r idle s = absurd (subst (λ (ph : Phase). Served ph last staged decided r) idle s)

-- Start

pub follows_start : (core : ℕ) (r : Request) (op : Op) (txn : ℕ) (d : Option Decision) → followed core r (Start op) (start_told txn d) ≡ r
follows_start core r op txn None = refl
follows_start core r op txn (Some d) = refl

pub start_stages : (w w' : World) (r : ℕ → Request) (op : Op) (answer : Answer) → Inv w → Inv2 w r → HappensStart w op w' answer → Inv2 w' (λ j. followed (suc j) (r j) (Start op) answer)
start_stages w w' r op answer inv inv2 h = rw h.next (by_case h.here.starts)
  where
    idle : w.place.phase ≡ Idle
    idle = h.here.can_start.0

    desk : (w.requests.asker ≡ None) × (w.requests.decided ≡ None)
    desk = subst (λ (ph : Phase). Desk (length w.log) ph w.requests) idle inv2.desk

    keeps : (j : ℕ) → Keeps (r j) (followed (suc j) (r j) (Start op) answer)
    keeps j = subst (λ (x : Request). Keeps (r j) x) (sym (ap (followed (suc j) (r j) (Start op)) h.here.is_answer ∙ follows_start (suc j) (r j) op h.told.txn h.told.decided)) (keeps_self (r j))

    made : (place' : CoordinatorPlace) (committed : Option Op) (out : Outgoing) → Kept w.peers (sent_out w.peers out) → Desk (length (core0_moves w place' w.requests committed out).log) place'.phase w.requests
        → Inv2 (core0_moves w place' w.requests committed out) (λ j. followed (suc j) (r j) (Start op) answer)
    made place' committed out kept d = record {
      desk = d;
      stages = kept_stages w r (λ j. followed (suc j) (r j) (Start op) answer) place' w.requests (sent_out w.peers out) inv2 kept (λ j. refl) refl
          (λ j s. idle_served w.place.phase w.place.last w.place.staged w.requests.decided (r j) idle s) keeps;
    }

    by_case : Starts (length w.peers) (newest w) w.budget w.place op h.place h.committed h.told → Inv2 (core0_moves w h.place w.requests h.committed (outgoing h.told h.place)) (λ j. followed (suc j) (r j) (Start op) answer)
    by_case (refused fault a p c t) = rw (p, c, t) (made w.place None nothing (kept_self w.peers) (rw idle desk))
    by_case (unstaged f p c t) = rw (p, c, t) (made w.place None nothing (kept_self w.peers) (rw idle desk))
    by_case (alone a n p c t) = rw (p, c, t) (made _ (Some op) nothing (kept_self w.peers) desk)
    by_case (prepared a n p c t) = rw (p, c, t) (made _ None (to_all (message.Prepare (w.place.last + 1) op)) (kept_all w.peers w.peers _ refl (kept_self w.peers)) desk.1)

-- Numbers of cores

pub eq_self : (n : ℕ) → (n == n) ≡ true
eq_self n = by_test (n == n) refl
  where
    by_test : (b : Bool) → (n == n) ≡ b → (n == n) ≡ true
    by_test true e = e
    by_test false e = absurd (grind (arith, nat_tests, e))

pub eq_other : (i j : ℕ) → (i ≡ j → ⊥) → (i == j) ≡ false
eq_other i j ne = by_test (i == j) refl
  where
    by_test : (b : Bool) → (i == j) ≡ b → (i == j) ≡ false
    by_test false e = e
    by_test true e = absurd (ne (grind (arith, nat_tests, e)))

other_core : (i j : ℕ) → (i ≡ j → ⊥) → (◌≡◌ {A = Option ℕ} (Some (suc i)) (Some (suc j)) → ⊥)
other_core i j ne e = ne (let x : suc i ≡ suc j = cc in omega (arith, x))

-- A message to one core

abbrev OneAt : List Peer → ℕ → Message → ℕ → Peer → Type 0
OneAt g k m j q = ((k ≡ j) × (p : Peer) × (slice_get g j ≡ Some p) × (q ≡ send m p)) ⊎ ((k ≡ j → ⊥) × (slice_get g j ≡ Some q))

sent_one_at : (g : List Peer) (k j : ℕ) (m : Message) (q : Peer) → slice_get (sent_to_one g k m (slice_get g k)) j ≡ Some q → OneAt g k m j q
sent_one_at g k j m q here = by_peer (slice_get g k) refl here (same_or_not k j)
  where
    by_peer : (o : Option Peer) → slice_get g k ≡ o → slice_get (sent_to_one g k m o) j ≡ Some q → ((k ≡ j) ⊎ (k ≡ j → ⊥)) → OneAt g k m j q
    by_peer None none at (inl e) = absurd (let x : slice_get g k ≡ Some q = subst (λ (n : ℕ). slice_get g n ≡ Some q) (sym e) at in cc)
    by_peer None none at (inr ne) = inr (ne, at)
    by_peer (Some p) is at (inl e) =
        let at' : slice_get (slice_set g k (send m p)) k ≡ Some q = subst (λ (n : ℕ). slice_get (slice_set g k (send m p)) n ≡ Some q) (sym e) at in
        let s = get-set_same g k (send m p) p is in
        inl (e, p, subst (λ (n : ℕ). slice_get g n ≡ Some p) e is, cc)
    by_peer (Some p) is at (inr ne) = inr (ne, sym (get-set_other g k j (send m p) ne) ∙ at)

-- StartFor

pub record Asks (p : Peer) (r : Request) (op : Op) : Type 0 where
  pub outstanding : p.outstanding ≡ true
  pub none_up : requests_in p.up ≡ []
  pub none_down : requests_in p.down ≡ []
  pub is_sent : r ≡ sent op

pub asks : (place : CoordinatorPlace) (requests : Requests) (i : ℕ) (p : Peer) (r : Request) (op : Op) → slice_get requests.waiting i ≡ Some (Some op) → Stage place requests i p r → Asks p r op
asks place requests i p r op w (waiting op' h a d e) = let same : op' ≡ op = cc (w, h.waiting_is) in record { outstanding = h.outstanding_is; none_up = h.up_is; none_down = d; is_sent = e ∙ ap sent same }
asks place requests i p r op w (free h a d) = absurd (cc (w, h.waiting_is))
asks place requests i p r op w (submitted op' h a d e) = absurd (cc (w, h.waiting_is))
asks place requests i p r op w (served h a d s) = absurd (cc (w, h.waiting_is))
asks place requests i p r op w (replied op' dec rest h a d e r_is stands) = absurd (cc (w, h.waiting_is))

pub follows_other : (i j : ℕ) (r : Request) (answer : Answer) → (i ≡ j → ⊥) → followed (suc j) r (StartFor (suc i)) answer ≡ r
follows_other i j r answer ne = rw (eq_other (suc i) (suc j) (λ e. ne (omega (arith, e)))) refl

pub follows_begun : (i : ℕ) (r : Request) (answer : Answer) → followed (suc i) r (StartFor (suc i)) answer ≡ begun r answer
follows_begun i r answer = rw (eq_self (suc i)) refl

pub began : (r : Request) (answer : Answer) (op : Op) (x : Answer) → r ≡ sent op → answer ≡ x → begun r answer ≡ begun (sent op) x
began r answer op x e e' = rw (e, e') refl

-- a Reply into a channel from core 0 in which nothing else is
reply_sent : (place : CoordinatorPlace) (requests : Requests) (i : ℕ) (p : Peer) (r : Request) (op : Op) (d : Decision) → p.outstanding ≡ true → requests_in p.up ≡ [] → slice_get requests.waiting i ≡ Some None
    → requests.asker ≢ Some (suc i) → requests_in p.down ≡ [] → commitments p.down ≡ [] → r ≡ settled op d → StandsAt p.version d → Stage place requests i (send (message.Reply d) p) r
reply_sent place requests i p r op d out up w a none empty r_is stands =
    replied op d [] (record { outstanding_is = out; up_is = up; waiting_is = w }) a (ap (λ (ms : List Message). ms ++ message.Reply d ∷ []) (no_messages p.down empty none)) refl r_is stands

pub no_peer : (ps : List Peer) (out : Outgoing) (j : ℕ) (q : Peer) → length ps ≡ 0 → slice_get (sent_out ps out) j ≡ Some q → ⊥
no_peer [] nothing j q e at = cc
no_peer [] (to_all m) j q e at = cc
no_peer [] (to_one k m) j q e at = cc
no_peer (p ∷ ps) out j q e at = omega (arith, e)

begin_for_stages : (w : World) (r : ℕ → Request) (i : ℕ) (op : Op) (place : CoordinatorPlace) (requests' : Requests) (committed : Option Op) (begun' : Step) (answer : Answer) → Inv w → Inv2 w r → CanStart w.place
    → slice_get w.requests.waiting i ≡ Some (Some op) → Starts (length w.peers) (newest w) w.budget w.place op place committed begun'
    → requests' ≡ record { waiting = slice_set w.requests.waiting i None; asker = asker_after (suc i) begun'.decided; decided = None } → answer ≡ start_told begun'.txn begun'.decided
    → Inv2 (core0_moves w place requests' committed (said begun'.say begun'.txn place.staged (reply_to (suc i) begun'.decided))) (λ j. followed (suc j) (r j) (StartFor (suc i)) answer)
begin_for_stages w r i op place requests' committed begun' answer inv inv2 can is_waiting starts is_next is_answer' = by_case starts
  where
    idle : w.place.phase ≡ Idle
    idle = can.0

    desk : (w.requests.asker ≡ None) × (w.requests.decided ≡ None)
    desk = subst (λ (ph : Phase). Desk (length w.log) ph w.requests) idle inv2.desk

    is : (told : Step) → begun' ≡ told → answer ≡ start_told told.txn told.decided
    is told t = is_answer' ∙ rw t refl

    next : (told : Step) → begun' ≡ told → requests' ≡ record { waiting = slice_set w.requests.waiting i None; asker = asker_after (suc i) told.decided; decided = None }
    next told t = is_next ∙ rw t refl

    now_none : slice_get (slice_set w.requests.waiting i None) i ≡ Some None
    now_none = get-set_same w.requests.waiting i None (Some op) is_waiting

    -- another core's request stays where it is
    other : (place' : CoordinatorPlace) (asker : Option ℕ) (j : ℕ) (p q : Peer) → (i ≡ j → ⊥) → (asker ≡ Some (suc j) → ⊥) → Stays p q → slice_get w.peers j ≡ Some p
        → Stage place' (record { waiting = slice_set w.requests.waiting i None; asker = asker; decided = None }) j q (followed (suc j) (r j) (StartFor (suc i)) answer)
    other place' asker j p q ne not_asking stays at = rw (follows_other i j (r j) answer ne)
        (stage_like w.place place' w.requests _ j p q (r j) (r j) stays (get-set_other w.requests.waiting i j None ne) (λ e. absurd (not_asking e))
        (λ a s. idle_served w.place.phase w.place.last w.place.staged w.requests.decided (r j) idle s) (keeps_self (r j)) (inv2.stages j p at))

    by_prepared : answer ≡ Prepared (w.place.last + 1) → (n : ℕ)
        → Inv2 (core0_moves w (record { last = w.place.last + 1; phase = Voting (replicate n None); staged = Some op }) (record { waiting = slice_set w.requests.waiting i None; asker = Some (suc i); decided = None }) None (to_all (message.Prepare (w.place.last + 1) op)))
        (λ j. followed (suc j) (r j) (StartFor (suc i)) answer)
    by_prepared is_answer n = record { desk = refl; stages = λ j q at. let k = kept_all w.peers w.peers (message.Prepare (w.place.last + 1) op) refl (kept_self w.peers) j q at in at_place j q k.0 k.1 k.2 (same_or_not i j) }
      where
        at_place : (j : ℕ) (q p : Peer) → slice_get w.peers j ≡ Some p → Stays p q → ((i ≡ j) ⊎ (i ≡ j → ⊥))
            → Stage (record { last = w.place.last + 1; phase = Voting (replicate n None); staged = Some op }) (record { waiting = slice_set w.requests.waiting i None; asker = Some (suc i); decided = None }) j q (followed (suc j) (r j) (StartFor (suc i)) answer)
        at_place j q p at stays (inr ne) = other _ (Some (suc i)) j p q ne (other_core i j ne) stays at
        at_place j q p at stays (inl e) =
            let a = asks w.place w.requests j p (r j) op (subst (λ (k : ℕ). slice_get w.requests.waiting k ≡ Some (Some op)) e is_waiting) (inv2.stages j p at) in
            let f : followed (suc j) (r j) (StartFor (suc i)) answer ≡ numbered op (w.place.last + 1) = subst (λ (k : ℕ). followed (suc j) (r j) (StartFor (suc k)) answer ≡ numbered op (w.place.last + 1)) (sym e) (follows_begun j (r j) answer ∙ began (r j) answer op _ a.is_sent is_answer) in
            served (record { outstanding_is = stays.outstanding ∙ a.outstanding; up_is = stays.up ∙ a.none_up; waiting_is = subst (λ (k : ℕ). slice_get (slice_set w.requests.waiting i None) k ≡ Some None) e now_none })
            (ap (λ (k : ℕ). Some (suc k)) e) (ap requests_in stays.down ∙ (sent_commitment p.down stays.more stays.no_request ∙ a.none_down)) (op, f, refl)

    -- a decision at once, with nothing committed
    by_decided : (d : Decision) → answer ≡ Decided d → ((version : ℕ) → StandsAt version d) → Inv2 (core0_moves w w.place (record { waiting = slice_set w.requests.waiting i None; asker = None; decided = None }) None (to_one i (message.Reply d)))
        (λ j. followed (suc j) (r j) (StartFor (suc i)) answer)
    by_decided d is_answer stands = record { desk = rw idle (refl, refl); stages = λ j q at. at_place j q (sent_one_at w.peers i j (message.Reply d) q at) }
      where
        at_place : (j : ℕ) (q : Peer) → OneAt w.peers i (message.Reply d) j q → Stage w.place (record { waiting = slice_set w.requests.waiting i None; asker = None; decided = None }) j q (followed (suc j) (r j) (StartFor (suc i)) answer)
        at_place j q (inr x) = other w.place None j q q x.0 (λ e. cc) (stays_self q) x.1
        at_place j q (inl x) =
            let a = asks w.place w.requests j x.1 (r j) op (subst (λ (k : ℕ). slice_get w.requests.waiting k ≡ Some (Some op)) x.0 is_waiting) (inv2.stages j x.1 x.2) in
            let f : followed (suc j) (r j) (StartFor (suc i)) answer ≡ settled op d = subst (λ (k : ℕ). followed (suc j) (r j) (StartFor (suc k)) answer ≡ settled op d) (sym x.0) (follows_begun j (r j) answer ∙ began (r j) answer op _ a.is_sent is_answer) in
            let rest = rests w.limits w.log w.place j x.1 idle (inv.pairs j x.1 x.2) in
            rw x.3 (reply_sent w.place _ j x.1 _ op d a.outstanding a.none_up (subst (λ (k : ℕ). slice_get (slice_set w.requests.waiting i None) k ≡ Some None) x.0 now_none) (λ e. cc) a.none_down rest.down_is f (stands x.1.version))

    by_case : Starts (length w.peers) (newest w) w.budget w.place op place committed begun'
        → Inv2 (core0_moves w place requests' committed (said begun'.say begun'.txn place.staged (reply_to (suc i) begun'.decided))) (λ j. followed (suc j) (r j) (StartFor (suc i)) answer)
    by_case (refused fault a p c t) = let s = is _ t in rw (next _ t, p, c, t) (by_decided _ s (λ v. tt))
    by_case (unstaged f p c t) = let s = is _ t in rw (next _ t, p, c, t) (by_decided _ s (λ v. tt))
    by_case (alone a n p c t) = record {
      desk = rw (next _ t, p) (refl, refl);
      stages = λ j q at. absurd (no_peer w.peers (said begun'.say begun'.txn place.staged (reply_to (suc i) begun'.decided)) j q n at);
    }
    by_case (prepared a n p c t) = let s = is _ t in rw (next _ t, p, c, t) (by_prepared s (length w.peers))

pub start_for_stages : (w w' : World) (r : ℕ → Request) (i : ℕ) (answer : Answer) → Inv w → Inv2 w r → HappensStartFor w i w' answer → Inv2 w' (λ j. followed (suc j) (r j) (StartFor (suc i)) answer)
start_for_stages w w' r i answer inv inv2 h = rw (h.next, h.here.starts.tells)
    (begin_for_stages w r i h.here.starts.op h.place h.requests h.committed h.here.starts.begun answer inv inv2 h.here.can_start h.here.starts.is_waiting h.here.starts.starts h.here.starts.next
    (h.here.is_answer ∙ ap (λ (s : Step). start_told s.txn s.decided) h.here.starts.tells))

-- Submit

stays_free : (place : CoordinatorPlace) (requests : Requests) (i : ℕ) (p : Peer) (r : Request) → p.outstanding ≡ false → Stage place requests i p r
    → (requests_in p.up ≡ []) × (slice_get requests.waiting i ≡ Some None) × (requests.asker ≢ Some (suc i)) × (requests_in p.down ≡ [])
stays_free place requests i p r out (free h a d) = (h.up_is, h.waiting_is, a, d)
stays_free place requests i p r out (submitted op h a d e) = absurd (cc (out, h.outstanding_is))
stays_free place requests i p r out (waiting op h a d e) = absurd (cc (out, h.outstanding_is))
stays_free place requests i p r out (served h a d s) = absurd (cc (out, h.outstanding_is))
stays_free place requests i p r out (replied op dec rest h a d e r_is stands) = absurd (cc (out, h.outstanding_is))

-- one core is changed, and nothing else
one_stage : (w : World) (r r' : ℕ → Request) (i : ℕ) (p p' : Peer) → slice_get w.peers i ≡ Some p → Inv2 w r → Stage w.place w.requests i p' (r' i) → ((j : ℕ) → (i ≡ j → ⊥) → r' j ≡ r j)
    → Inv2 (record w { peers = slice_set w.peers i p' }) r'
one_stage w r r' i p p' at inv2 stage same = record { desk = inv2.desk; stages = λ j q here. at_place j q here (same_or_not i j) }
  where
    at_place : (j : ℕ) (q : Peer) → slice_get (slice_set w.peers i p') j ≡ Some q → ((i ≡ j) ⊎ (i ≡ j → ⊥)) → Stage w.place w.requests j q (r' j)
    at_place j q here (inl e) =
        let here' : slice_get (slice_set w.peers i p') i ≡ Some q = subst (λ (k : ℕ). slice_get (slice_set w.peers i p') k ≡ Some q) (sym e) here in
        let s = get-set_same w.peers i p' p at in
        let is : p' ≡ q = cc in
        subst (λ (k : ℕ). Stage w.place w.requests k q (r' k)) e (subst (λ (x : Peer). Stage w.place w.requests i x (r' i)) is stage)
    at_place j q here (inr ne) = subst (λ (x : Request). Stage w.place w.requests j q x) (sym (same j ne)) (inv2.stages j q (sym (get-set_other w.peers i j p' ne) ∙ here))

pub follows_submit : (i : ℕ) (r : Request) (op : Op) (answer : Answer) → answer ≡ Submitted → followed (suc i) r (Submit (suc i) op) answer ≡ sent op
follows_submit i r op answer e = rw (e, eq_self (suc i)) refl

pub follows_no_submit : (i j : ℕ) (r : Request) (op : Op) (answer : Answer) → answer ≡ Submitted → (i ≡ j → ⊥) → followed (suc j) r (Submit (suc i) op) answer ≡ r
follows_no_submit i j r op answer e ne = rw (e, eq_other (suc i) (suc j) (λ x. ne (omega (arith, x)))) refl

pub submit_stages : (w w' : World) (r : ℕ → Request) (i : ℕ) (op : Op) (answer : Answer) → Inv2 w r → HappensSubmit w i op w' answer → Inv2 w' (λ j. followed (suc j) (r j) (Submit (suc i) op) answer)
submit_stages w w' r i op answer inv2 h =
    let f = stays_free w.place w.requests i h.peer (r i) h.here.none_outstanding (inv2.stages i h.peer h.is_peer) in
    rw h.next (one_stage w r (λ j. followed (suc j) (r j) (Submit (suc i) op) answer) i h.peer _ h.is_peer inv2
    (submitted op (record { outstanding_is = h.here.now_outstanding; up_is = in_up f.0; waiting_is = f.1 }) f.2 f.3 (follows_submit i (r i) op answer h.here.is_answer))
    (λ j ne. follows_no_submit i j (r j) op answer h.here.is_answer ne))
  where
    in_up : requests_in h.peer.up ≡ [] → requests_in (h.peer.up ++ option_to_list (sent_up (Submit (suc i) op) answer)) ≡ message.Submit op ∷ []
    in_up none = ap (λ (a : Answer). requests_in (h.peer.up ++ option_to_list (sent_up (Submit (suc i) op) a))) h.here.is_answer ∙ (requests_in-append h.peer.up (message.Submit op ∷ []) ∙ rw none refl)

-- Core 0 takes a vote

pub follows_vote : (core : ℕ) (r : Request) (to from txn : ℕ) (short : Bool) (v : Vote) (d : Option Decision) → Keeps r (followed core r (Take to from short) (TookVote txn v d))
follows_vote core r to from txn short v None = keeps_self r
follows_vote core r to from txn short v (Some d) = keeps_decided r txn d

vote_stages : (w w' : World) (r : ℕ → Request) (i txn : ℕ) (v : Vote) (short : Bool) (answer : Answer) → Inv2 w r → (h : HappensUp w i w' answer) → h.m ≡ message.Vote txn v
    → VoteAt (newest w) w.place w.requests i txn v h.place h.requests h.committed h.told answer → Inv2 w' (λ j. followed (suc j) (r j) (Take 0 (suc i) short) answer)
vote_stages w w' r i txn v short answer inv2 h m here = rw (h.next, here.requests_next) (by_tally here.hears.tallies)
  where
    g : List Peer
    g = slice_set w.peers i (record h.peer { up = h.rest })

    kept : Kept w.peers g
    kept = kept_set w.peers i h.peer (record h.peer { up = h.rest }) h.is_peer (stays_gave h.peer h.m h.rest h.oldest (ap is_commitment m))

    is : (told : Step) → h.told ≡ told → answer ≡ TookVote txn v told.decided
    is told t = here.is_answer ∙ ap (λ (s : Step). TookVote txn v s.decided) t

    voting : (j : ℕ) → Served w.place.phase w.place.last w.place.staged w.requests.decided (r j) → (op : Op) × (r j ≡ numbered op w.place.last) × (w.place.staged ≡ Some op)
    voting j s = subst (λ (ph : Phase). Served ph w.place.last w.place.staged w.requests.decided (r j)) here.hears.voting s

    made : (place' : CoordinatorPlace) (committed : Option Op) (out : Outgoing) (d : Option Decision) → answer ≡ TookVote txn v d → Kept w.peers (sent_out g out)
        → Desk (length (core0_moves (gave w i h.peer h.rest) place' (with_decided w.requests d) committed out).log) place'.phase (with_decided w.requests d)
        → ((j : ℕ) (op : Op) → r j ≡ numbered op w.place.last → w.place.staged ≡ Some op → Served place'.phase place'.last place'.staged d (followed (suc j) (r j) (Take 0 (suc i) short) (TookVote txn v d)))
        → Inv2 (core0_moves (gave w i h.peer h.rest) place' (with_decided w.requests d) committed out) (λ j. followed (suc j) (r j) (Take 0 (suc i) short) answer)
    made place' committed out d a kept' desk on = record {
      desk = desk;
      stages = kept_stages w r (λ j. followed (suc j) (r j) (Take 0 (suc i) short) answer) place' (with_decided w.requests d) (sent_out g out) inv2 kept' (λ j. refl) refl
          (λ j s. let x = voting j s in subst (λ (b : Answer). Served place'.phase place'.last place'.staged d (followed (suc j) (r j) (Take 0 (suc i) short) b)) (sym a) (on j x.0 x.1 x.2))
          (λ j. subst (λ (b : Answer). Keeps (r j) (followed (suc j) (r j) (Take 0 (suc i) short) b)) (sym a) (follows_vote (suc j) (r j) 0 (suc i) txn short v d));
    }

    number : w.place.last ≡ txn
    number = sym here.hears.number

    on_decided : (op : Op) (j : ℕ) (d : Decision) → r j ≡ numbered op w.place.last → followed (suc j) (r j) (Take 0 (suc i) short) (TookVote txn v (Some d)) ≡ settled op d
    on_decided op j d e = ap (λ (x : Request). decided_on x txn d) e ∙ rw (number, eq_self txn) refl

    by_tally : Tallies (newest w) txn here.hears.op (slice_set here.hears.votes i (Some v)) h.place h.committed h.told
        → Inv2 (core0_moves (gave w i h.peer h.rest) h.place (with_decided w.requests h.told.decided) h.committed (outgoing h.told h.place)) (λ j. followed (suc j) (r j) (Take 0 (suc i) short) answer)
    by_tally (waits k none p c t) = let a = is _ t in rw (p, c, t) (made _ None nothing None a kept refl (λ j op e st. (op, e ∙ ap (numbered op) number, sym here.hears.on_op ∙ st)))
    by_tally (commits_all all p c t) = let a = is _ t in rw (p, c, t) (made _ (Some here.hears.op) (to_all (message.Commit txn)) _ a (kept_all w.peers g (message.Commit txn) refl kept)
        (_, refl, omega (arith, table_version w.limits w.log, length-append w.log (here.hears.op ∷ []))) (λ j op e st. (op, _, on_decided op j _ e, refl)))
    by_tally (aborts_all core against least all p c t) = let a = is _ t in rw (p, c, t) (made _ None (to_all (message.Abort txn)) _ a (kept_all w.peers g (message.Abort txn) refl kept)
        (_, refl, tt) (λ j op e st. (op, _, on_decided op j _ e, refl)))

-- Core 0 takes an acknowledgement

never_votes : (acks : List Bool) (votes : List (Option Vote)) → phase_with acks ≡ Voting votes → ⊥
never_votes acks votes e = by_all (list_all (λ ack. ack) acks) e
  where
    by_all : (b : Bool) → cond b Idle (Acking acks) ≡ Voting votes → ⊥
    by_all true e = cc
    by_all false e = cc

ack_stages : (w w' : World) (r : ℕ → Request) (i txn : ℕ) (short : Bool) (answer : Answer) → Inv w → Inv2 w r → (h : HappensUp w i w' answer) → h.m ≡ message.Ack txn
    → AckAt w.place w.requests i txn h.place h.requests h.committed h.told answer → Inv2 w' (λ j. followed (suc j) (r j) (Take 0 (suc i) short) answer)
ack_stages w w' r i txn short answer inv inv2 h m here =
    rw (h.next, here.none_committed, here.hears.tells, here.hears.requests_next) (by_phase h.place.phase refl (ap (λ (p : CoordinatorPlace). p.phase) here.hears.next))
  where
    g : List Peer
    g = slice_set w.peers i (record h.peer { up = h.rest })

    kept : Kept w.peers g
    kept = kept_set w.peers i h.peer (record h.peer { up = h.rest }) h.is_peer (stays_gave h.peer h.m h.rest h.oldest (ap is_commitment m))

    acked : Inv (core0_moves (gave w i h.peer h.rest) h.place h.requests None nothing)
    acked = acked_inv w w.requests h.requests i txn h.peer h.rest h.place h.told inv h.is_peer (ap commitments h.oldest ∙ rw m refl) here.hears

    desk : (d : Decision) × (w.requests.decided ≡ Some d) × StandsAt (length w.log) d
    desk = subst (λ (ph : Phase). Desk (length w.log) ph w.requests) here.hears.acking inv2.desk

    serving : (j : ℕ) → Served w.place.phase w.place.last w.place.staged w.requests.decided (r j) → (op : Op) × (d : Decision) × (r j ≡ settled op d) × (w.requests.decided ≡ Some d)
    serving j s = subst (λ (ph : Phase). Served ph w.place.last w.place.staged w.requests.decided (r j)) here.hears.acking s

    followed_as : Answer → ℕ → Request
    followed_as a j = followed (suc j) (r j) (Take 0 (suc i) short) a

    same : (j : ℕ) → followed_as answer j ≡ r j
    same j = ap (λ (a : Answer). followed (suc j) (r j) (Take 0 (suc i) short) a) here.is_answer

    keeps : (j : ℕ) → Keeps (r j) (followed (suc j) (r j) (Take 0 (suc i) short) answer)
    keeps j = subst (λ (x : Request). Keeps (r j) x) (sym (same j)) (keeps_self (r j))

    -- all have acknowledged: the Reply goes out, if a core asked
    ends : h.place.phase ≡ Idle → (asker : Option ℕ) → w.requests.asker ≡ asker
        → (j : ℕ) (q : Peer) → slice_get (sent_out g (as_reply (reply_of asker (Some desk.0)))) j ≡ Some q
        → Stage h.place (record { waiting = w.requests.waiting; asker = None; decided = None }) j q (followed (suc j) (r j) (Take 0 (suc i) short) answer)
    ends idle None asked j q at =
        let k = kept j q at in
        stage_like w.place h.place w.requests _ j k.0 q (r j) _ k.2 refl (λ e. absurd cc) (λ a s. absurd (cc (a, asked))) (keeps j) (inv2.stages j k.0 k.1)
    ends idle (Some zero) asked j q at =
        let k = kept j q at in
        stage_like w.place h.place w.requests _ j k.0 q (r j) _ k.2 refl (λ e. absurd cc) (λ a s. absurd (cc (a, asked))) (keeps j) (inv2.stages j k.0 k.1)
    ends idle (Some (suc c)) asked j q at = by_core (sent_one_at g c j (message.Reply desk.0) q at)
      where
        by_core : OneAt g c (message.Reply desk.0) j q → Stage h.place (record { waiting = w.requests.waiting; asker = None; decided = None }) j q (followed (suc j) (r j) (Take 0 (suc i) short) answer)
        by_core (inr x) =
            let k = kept j q x.1 in
            stage_like w.place h.place w.requests _ j k.0 q (r j) _ k.2 refl (λ e. absurd cc) (λ a s. absurd (other_core c j x.0 (sym asked ∙ a))) (keeps j) (inv2.stages j k.0 k.1)
        by_core (inl x) =
            let k = kept j x.1 x.2 in
            let is : w.requests.asker ≡ Some (suc j) = asked ∙ ap (λ (n : ℕ). Some (suc n)) x.0 in
            let there = rests w.limits w.log h.place j x.1 idle (acked.pairs j x.1 x.2) in
            subst (λ (z : Peer). Stage h.place (record { waiting = w.requests.waiting; asker = None; decided = None }) j z (followed (suc j) (r j) (Take 0 (suc i) short) answer)) (sym x.3)
            (of_served is k.0 k.2 there.down_is there.version_is (inv2.stages j k.0 k.1))
          where
            of_served : w.requests.asker ≡ Some (suc j) → (p0 : Peer) → Stays p0 x.1 → commitments x.1.down ≡ [] → x.1.version ≡ length w.log → Stage w.place w.requests j p0 (r j)
                → Stage h.place (record { waiting = w.requests.waiting; asker = None; decided = None }) j (send (message.Reply desk.0) x.1) (followed (suc j) (r j) (Take 0 (suc i) short) answer)
            of_served is p0 stays empty version (free hd a d) = absurd (a is)
            of_served is p0 stays empty version (submitted op hd a d e) = absurd (a is)
            of_served is p0 stays empty version (waiting op hd a d e) = absurd (a is)
            of_served is p0 stays empty version (replied op dec rest hd a d e r_is stands) = absurd (a is)
            of_served is p0 stays empty version (served hd a d s) =
                let y = serving j s in
                let e : y.1 ≡ desk.0 = cc (y.3, desk.1) in
                reply_sent h.place (record { waiting = w.requests.waiting; asker = None; decided = None }) j x.1 (followed (suc j) (r j) (Take 0 (suc i) short) answer) y.0 desk.0 (stays.outstanding ∙ hd.outstanding_is) (stays.up ∙ hd.up_is) hd.waiting_is (λ z. cc)
                (ap requests_in stays.down ∙ (sent_commitment p0.down stays.more stays.no_request ∙ d)) empty (same j ∙ (y.2 ∙ ap (settled y.0) e)) (rw version desk.2)

    by_phase : (ph : Phase) → h.place.phase ≡ ph → h.place.phase ≡ phase_with (slice_set here.hears.acks i true)
        → Inv2 (core0_moves (gave w i h.peer h.rest) h.place (requests_at h.place.phase w.requests) None (as_reply (reply_at h.place.phase w.requests))) (λ j. followed (suc j) (r j) (Take 0 (suc i) short) answer)
    by_phase Idle e is = record {
      desk = rw e (refl, refl);
      stages = λ j q at.
          let at' : slice_get (sent_out g (as_reply (reply_of w.requests.asker w.requests.decided))) j ≡ Some q = subst (λ (ph : Phase). slice_get (sent_out g (as_reply (reply_at ph w.requests))) j ≡ Some q) e at in
          subst (λ (ph : Phase). Stage h.place (requests_at ph w.requests) j q (followed (suc j) (r j) (Take 0 (suc i) short) answer)) (sym e)
          (ends e w.requests.asker refl j q (subst (λ (d : Option Decision). slice_get (sent_out g (as_reply (reply_of w.requests.asker d))) j ≡ Some q) desk.1 at'));
    }
    by_phase (Voting votes) e is = absurd (never_votes (slice_set here.hears.acks i true) votes (sym is ∙ e))
    by_phase (Acking acks) e is = record {
      desk = subst (λ (ph : Phase). Desk (length w.log) ph (requests_at ph w.requests)) (sym e) desk;
      stages = λ j q at.
          let at' : slice_get g j ≡ Some q = subst (λ (ph : Phase). slice_get (sent_out g (as_reply (reply_at ph w.requests))) j ≡ Some q) e at in
          subst (λ (ph : Phase). Stage h.place (requests_at ph w.requests) j q (followed (suc j) (r j) (Take 0 (suc i) short) answer)) (sym e)
          (kept_stages w r (λ k. followed (suc k) (r k) (Take 0 (suc i) short) answer) h.place w.requests g inv2 kept (λ k. refl) refl
          (λ k s. let y = serving k s in subst (λ (ph : Phase). Served ph h.place.last h.place.staged w.requests.decided (followed (suc k) (r k) (Take 0 (suc i) short) answer)) (sym e) (y.0, y.1, same k ∙ y.2, y.3)) keeps j q at');
    }

-- Core 0 takes a submitted request

pub record InChannel (requests : Requests) (i : ℕ) (p : Peer) (r : Request) (op : Op) (rest : List Message) : Type 0 where
  pub outstanding : p.outstanding ≡ true
  pub none_left : requests_in rest ≡ []
  pub not_asking : requests.asker ≢ Some (suc i)
  pub none_waiting : slice_get requests.waiting i ≡ Some None
  pub none_down : requests_in p.down ≡ []
  pub is_sent : r ≡ sent op

pub in_channel : (place : CoordinatorPlace) (requests : Requests) (i : ℕ) (p : Peer) (r : Request) (op : Op) (rest : List Message) → p.up ≡ message.Submit op ∷ rest → Stage place requests i p r → InChannel requests i p r op rest
in_channel place requests i p r op rest up (submitted op' h a d e) =
    let x : message.Submit op ∷ requests_in rest ≡ message.Submit op' ∷ [] = sym (ap requests_in up) ∙ h.up_is in
    let y : op' ≡ op = cc in
    record { outstanding = h.outstanding_is; none_left = cc; not_asking = a; none_waiting = h.waiting_is; none_down = d; is_sent = e ∙ ap sent y }
in_channel place requests i p r op rest up (free h a d) = absurd (let x : message.Submit op ∷ requests_in rest ≡ [] = sym (ap requests_in up) ∙ h.up_is in cc)
in_channel place requests i p r op rest up (waiting op' h a d e) = absurd (let x : message.Submit op ∷ requests_in rest ≡ [] = sym (ap requests_in up) ∙ h.up_is in cc)
in_channel place requests i p r op rest up (served h a d s) = absurd (let x : message.Submit op ∷ requests_in rest ≡ [] = sym (ap requests_in up) ∙ h.up_is in cc)
in_channel place requests i p r op rest up (replied op' dec rest' h a d e r_is stands) = absurd (let x : message.Submit op ∷ requests_in rest ≡ [] = sym (ap requests_in up) ∙ h.up_is in cc)

took_submit_stages : (w w' : World) (r : ℕ → Request) (i : ℕ) (op : Op) (short : Bool) (answer : Answer) → Inv2 w r → (h : HappensUp w i w' answer) → h.m ≡ message.Submit op
    → SubmitAt w.place w.requests i op h.place h.requests h.committed h.told answer → Inv2 w' (λ j. followed (suc j) (r j) (Take 0 (suc i) short) answer)
took_submit_stages w w' r i op short answer inv2 h m here =
    rw (h.next, here.none_committed, here.same_place, here.tells, here.requests_next) (record { desk = desk w.place.phase inv2.desk; stages = λ j q at. by_core j q at (same_or_not i j) })
  where
    desk : (ph : Phase) → Desk (length w.log) ph w.requests → Desk (length w.log) ph (with_waiting w.requests i op)
    desk Idle d = d
    desk (Voting votes) d = d
    desk (Acking acks) d = d

    same : (j : ℕ) → followed (suc j) (r j) (Take 0 (suc i) short) answer ≡ r j
    same j = ap (λ (a : Answer). followed (suc j) (r j) (Take 0 (suc i) short) a) here.is_answer

    by_core : (j : ℕ) (q : Peer) → slice_get (slice_set w.peers i (record h.peer { up = h.rest })) j ≡ Some q → ((i ≡ j) ⊎ (i ≡ j → ⊥)) → Stage w.place (with_waiting w.requests i op) j q (followed (suc j) (r j) (Take 0 (suc i) short) answer)
    by_core j q at (inl e) =
        let at' : slice_get (slice_set w.peers i (record h.peer { up = h.rest })) i ≡ Some q = subst (λ (k : ℕ). slice_get (slice_set w.peers i (record h.peer { up = h.rest })) k ≡ Some q) (sym e) at in
        let s = get-set_same w.peers i (record h.peer { up = h.rest }) h.peer h.is_peer in
        let is : record h.peer { up = h.rest } ≡ q = cc in
        let c = in_channel w.place w.requests i h.peer (r i) op h.rest (h.oldest ∙ rw m refl) (inv2.stages i h.peer h.is_peer) in
        subst (λ (k : ℕ). Stage w.place (with_waiting w.requests i op) k q (followed (suc k) (r k) (Take 0 (suc i) short) answer)) e
        (subst (λ (x : Peer). Stage w.place (with_waiting w.requests i op) i x (followed (suc i) (r i) (Take 0 (suc i) short) answer)) is
        (waiting op (record { outstanding_is = c.outstanding; up_is = c.none_left; waiting_is = get-set_same w.requests.waiting i (Some op) None c.none_waiting }) c.not_asking c.none_down (same i ∙ c.is_sent)))
    by_core j q at (inr ne) =
        let at' : slice_get w.peers j ≡ Some q = sym (get-set_other w.peers i j (record h.peer { up = h.rest }) ne) ∙ at in
        stage_like w.place w.place w.requests (with_waiting w.requests i op) j q q (r j) _ (stays_self q) (get-set_other w.requests.waiting i j (Some op) ne) (λ e. e)
        (λ a s. (a, subst (λ (x : Request). Served w.place.phase w.place.last w.place.staged w.requests.decided x) (sym (same j)) s))
        (subst (λ (x : Request). Keeps (r j) x) (sym (same j)) (keeps_self (r j))) (inv2.stages j q at')

-- Core 0 takes a message
pub up_stages : (w w' : World) (r : ℕ → Request) (i : ℕ) (short : Bool) (answer : Answer) → Inv w → Inv2 w r → HappensUp w i w' answer → Inv2 w' (λ j. followed (suc j) (r j) (Take 0 (suc i) short) answer)
up_stages w w' r i short answer inv inv2 h = by_message h.m refl h.here
  where
    by_message : (m : Message) → h.m ≡ m → TakesUpAt (newest w) w.place w.requests i m h.place h.requests h.committed h.told answer → Inv2 w' (λ j. followed (suc j) (r j) (Take 0 (suc i) short) answer)
    by_message (message.Vote txn v) e here = vote_stages w w' r i txn v short answer inv2 h e here
    by_message (message.Ack txn) e here = ack_stages w w' r i txn short answer inv inv2 h e here
    by_message (message.Submit op) e here = took_submit_stages w w' r i op short answer inv2 h e here
    by_message m e here = absurd here

-- A core other than core 0 takes a message

-- the answer is none that a request follows, and what it sends is no request
pub took_follows : (core i : ℕ) (r : Request) (short : Bool) (m reply : Message) (version : ℕ) (answer : Answer) → Took m reply version answer
    → (followed core r (Take (suc i) 0 short) answer ≡ r) × (requests_in (option_to_list (sent_up (Take (suc i) 0 short) answer)) ≡ []) × (is_commitment m ≡ true)
took_follows core i r short (message.Prepare txn op) (message.Vote txn' v) version answer t = rw t (refl, refl, refl)
took_follows core i r short (message.Commit txn) reply version answer t = rw t (refl, refl, refl)
took_follows core i r short (message.Abort txn) reply version answer t = rw t (refl, refl, refl)
took_follows core i r short m reply version answer t = absurd t

answered_stages : (w w' : World) (r : ℕ → Request) (i : ℕ) (short : Bool) (answer : Answer) → Inv2 w r → (h : HappensDown w i short w' answer)
    → AnswersAt short (newest w) h.peer.budget h.peer.version h.peer.place h.peer.outstanding h.m h.place h.outstanding h.committed answer → Inv2 w' (λ j. followed (suc j) (r j) (Take (suc i) 0 short) answer)
answered_stages w w' r i short answer inv2 h here =
    rw h.next (one_stage w r (λ j. followed (suc j) (r j) (Take (suc i) 0 short) answer) i h.peer _ h.is_peer inv2 (by_stage (inv2.stages i h.peer h.is_peer)) (λ j ne. (took_follows (suc j) i (r j) short h.m here.reply _ answer here.is_answer).0))
  where
    f : (followed (suc i) (r i) (Take (suc i) 0 short) answer ≡ r i) × (requests_in (option_to_list (sent_up (Take (suc i) 0 short) answer)) ≡ []) × (is_commitment h.m ≡ true)
    f = took_follows (suc i) i (r i) short h.m here.reply _ answer here.is_answer

    q : Peer
    q = record { budget = h.peer.budget; version = raised h.peer.version h.committed; place = h.place; outstanding = h.outstanding; down = h.rest; up = h.peer.up ++ option_to_list (sent_up (Take (suc i) 0 short) answer) }

    holds : (b : Bool) (up : List Message) (o : Option Op) → Holds w.requests i h.peer b up o → Holds w.requests i q b up o
    holds b up o x = record { outstanding_is = here.same_outstanding ∙ x.outstanding_is; up_is = sent_commitment h.peer.up (option_to_list (sent_up (Take (suc i) 0 short) answer)) f.1 ∙ x.up_is; waiting_is = x.waiting_is }

    none : requests_in h.peer.down ≡ [] → requests_in h.rest ≡ []
    none d = not_request h.peer.down h.rest h.m h.oldest f.2 ∙ d

    by_stage : Stage w.place w.requests i h.peer (r i) → Stage w.place w.requests i q (followed (suc i) (r i) (Take (suc i) 0 short) answer)
    by_stage (free x a d) = free (holds _ _ _ x) a (none d)
    by_stage (submitted op x a d e) = submitted op (holds _ _ _ x) a (none d) (f.0 ∙ e)
    by_stage (waiting op x a d e) = waiting op (holds _ _ _ x) a (none d) (f.0 ∙ e)
    by_stage (served x a d s) = served (holds _ _ _ x) a (none d) (subst (λ (z : Request). Served w.place.phase w.place.last w.place.staged w.requests.decided z) (sym f.0) s)
    by_stage (replied op dec rest x a d e r_is stands) = absurd (let m : h.m ≡ message.Reply dec = cc (h.oldest, d) in let k : false ≡ true = sym (ap is_commitment m) ∙ f.2 in cc)

-- the Reply that is the oldest message
pub record Taken (requests : Requests) (i : ℕ) (p : Peer) (r : Request) (d : Decision) (rest : List Message) : Type 0 where
  pub outstanding : p.outstanding ≡ true
  pub none_up : requests_in p.up ≡ []
  pub none_waiting : slice_get requests.waiting i ≡ Some None
  pub not_asking : requests.asker ≢ Some (suc i)
  pub none_left : requests_in rest ≡ []
  pub op : Op
  pub is_settled : r ≡ settled op d
  pub stands : StandsAt p.version d

pub taken : (place : CoordinatorPlace) (requests : Requests) (i : ℕ) (p : Peer) (r : Request) (d : Decision) (rest : List Message) → p.down ≡ message.Reply d ∷ rest → Stage place requests i p r → Taken requests i p r d rest
taken place requests i p r d rest down (replied op dec rest' h a e none r_is stands) =
    let same : dec ≡ d = cc (down, e) in
    let same_rest : rest' ≡ rest = cc (down, e) in
    record { outstanding = h.outstanding_is; none_up = h.up_is; none_waiting = h.waiting_is; not_asking = a; none_left = rw (← same_rest) none; op = op; is_settled = r_is ∙ ap (settled op) same; stands = rw (← same) stands }
taken place requests i p r d rest down (free h a e) = absurd (let x : message.Reply d ∷ requests_in rest ≡ [] = sym (ap requests_in down) ∙ e in cc)
taken place requests i p r d rest down (submitted op h a e s) = absurd (let x : message.Reply d ∷ requests_in rest ≡ [] = sym (ap requests_in down) ∙ e in cc)
taken place requests i p r d rest down (waiting op h a e s) = absurd (let x : message.Reply d ∷ requests_in rest ≡ [] = sym (ap requests_in down) ∙ e in cc)
taken place requests i p r d rest down (served h a e s) = absurd (let x : message.Reply d ∷ requests_in rest ≡ [] = sym (ap requests_in down) ∙ e in cc)

reply_stages : (w w' : World) (r : ℕ → Request) (i : ℕ) (d : Decision) (short : Bool) (answer : Answer) → Inv2 w r → (h : HappensDown w i short w' answer) → h.m ≡ message.Reply d
    → ReplyAt h.peer.place h.peer.outstanding d h.place h.outstanding h.committed answer → Inv2 w' (λ j. followed (suc j) (r j) (Take (suc i) 0 short) answer)
reply_stages w w' r i d short answer inv2 h m here =
    let old = taken w.place w.requests i h.peer (r i) d h.rest (h.oldest ∙ rw m refl) (inv2.stages i h.peer h.is_peer) in
    rw h.next (one_stage w r (λ j. followed (suc j) (r j) (Take (suc i) 0 short) answer) i h.peer _ h.is_peer inv2
    (free (record { outstanding_is = here.none_outstanding; up_is = sent_commitment h.peer.up (option_to_list (sent_up (Take (suc i) 0 short) answer)) none_sent ∙ old.none_up; waiting_is = old.none_waiting }) old.not_asking old.none_left)
    (λ j ne. ap (λ (a : Answer). followed (suc j) (r j) (Take (suc i) 0 short) a) here.is_answer))
  where
    none_sent : requests_in (option_to_list (sent_up (Take (suc i) 0 short) answer)) ≡ []
    none_sent = ap (λ (a : Answer). requests_in (option_to_list (sent_up (Take (suc i) 0 short) a))) here.is_answer

pub down_stages : (w w' : World) (r : ℕ → Request) (i : ℕ) (short : Bool) (answer : Answer) → Inv2 w r → HappensDown w i short w' answer → Inv2 w' (λ j. followed (suc j) (r j) (Take (suc i) 0 short) answer)
down_stages w w' r i short answer inv2 h = by_message h.m refl h.here
  where
    by_message : (m : Message) → h.m ≡ m → TakesDownAt short (newest w) h.peer.budget h.peer.version h.peer.place h.peer.outstanding m h.place h.outstanding h.committed answer → Inv2 w' (λ j. followed (suc j) (r j) (Take (suc i) 0 short) answer)
    by_message (message.Reply d) e here = reply_stages w w' r i d short answer inv2 h e here
    by_message (message.Prepare txn op) e here = answered_stages w w' r i short answer inv2 h (rw e here)
    by_message (message.Commit txn) e here = answered_stages w w' r i short answer inv2 h (rw e here)
    by_message (message.Abort txn) e here = answered_stages w w' r i short answer inv2 h (rw e here)
    by_message (message.Vote txn v) e here = answered_stages w w' r i short answer inv2 h (rw e here)
    by_message (message.Ack txn) e here = answered_stages w w' r i short answer inv2 h (rw e here)
    by_message (message.Submit op) e here = absurd here.answers

-- All events

pub event_stages : (w w' : World) (r : ℕ → Request) (event : Event) (answer : Answer) → Inv w → Inv2 w r → Happens w event w' answer → Inv2 w' (λ j. followed (suc j) (r j) event answer)
event_stages w w' r (Start op) answer inv inv2 h = start_stages w w' r op answer inv inv2 h
event_stages w w' r (Submit (suc i) op) answer inv inv2 h = submit_stages w w' r i op answer inv2 h
event_stages w w' r (StartFor (suc i)) answer inv inv2 h = start_for_stages w w' r i answer inv inv2 h
event_stages w w' r (Take zero (suc i) short) answer inv inv2 h = up_stages w w' r i short answer inv inv2 h
event_stages w w' r (Take (suc i) zero short) answer inv inv2 h = down_stages w w' r i short answer inv2 h
event_stages w w' r (Rx core number packet floor) answer inv inv2 h = rw (h.next, h.here.is_answer) (record { desk = inv2.desk; stages = inv2.stages })
event_stages w w' r event answer inv inv2 h = absurd h

pub boot_stages : (limits : TableLimits) (budget : ℕ) (budgets : List ℕ) → Inv2 (boot limits budget budgets) (λ j. unsent)
boot_stages limits budget budgets = record { desk = (refl, refl); stages = λ i p at. at_boot i p at (get_map new_peer budgets i p at) }
  where
    at_boot : (i : ℕ) (p : Peer) → slice_get (map new_peer budgets) i ≡ Some p → ((b : ℕ) × (slice_get budgets i ≡ Some b) × (p ≡ new_peer b)) → Stage idle_at_first (no_requests (length budgets)) i p unsent
    at_boot i p at r = rw r.2 (free (record { outstanding_is = refl; up_is = refl; waiting_is = get_replicate (length budgets) i None (slice_get_within budgets i r.0 r.1) }) (λ e. cc) refl)

-- What no channel holds

pub never_down : (place : CoordinatorPlace) (requests : Requests) (i : ℕ) (p : Peer) (r : Request) (op : Op) (rest : List Message) → p.down ≡ message.Submit op ∷ rest → Stage place requests i p r → ⊥
never_down place requests i p r op rest down (free h a e) = let x : message.Submit op ∷ requests_in rest ≡ [] = sym (ap requests_in down) ∙ e in cc
never_down place requests i p r op rest down (submitted o h a e s) = let x : message.Submit op ∷ requests_in rest ≡ [] = sym (ap requests_in down) ∙ e in cc
never_down place requests i p r op rest down (waiting o h a e s) = let x : message.Submit op ∷ requests_in rest ≡ [] = sym (ap requests_in down) ∙ e in cc
never_down place requests i p r op rest down (served h a e s) = let x : message.Submit op ∷ requests_in rest ≡ [] = sym (ap requests_in down) ∙ e in cc
never_down place requests i p r op rest down (replied o d rest' h a e none r_is stands) = cc (down, e)

pub never_up : (place : CoordinatorPlace) (requests : Requests) (i : ℕ) (p : Peer) (r : Request) (d : Decision) (rest : List Message) → p.up ≡ message.Reply d ∷ rest → Stage place requests i p r → ⊥
never_up place requests i p r d rest up (free h a e) = let x : message.Reply d ∷ requests_in rest ≡ [] = sym (ap requests_in up) ∙ h.up_is in cc
never_up place requests i p r d rest up (submitted o h a e s) = let x : message.Reply d ∷ requests_in rest ≡ message.Submit o ∷ [] = sym (ap requests_in up) ∙ h.up_is in cc
never_up place requests i p r d rest up (waiting o h a e s) = let x : message.Reply d ∷ requests_in rest ≡ [] = sym (ap requests_in up) ∙ h.up_is in cc
never_up place requests i p r d rest up (served h a e s) = let x : message.Reply d ∷ requests_in rest ≡ [] = sym (ap requests_in up) ∙ h.up_is in cc
never_up place requests i p r d rest up (replied o d' rest' h a e none r_is stands) = let x : message.Reply d ∷ requests_in rest ≡ [] = sym (ap requests_in up) ∙ h.up_is in cc
