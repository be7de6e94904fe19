-- The requests of a core in a run: each is begun once, in the order in which they were submitted.
use Rattle.std.proofs.Common.{◌≡◌, ◌+◌, ◌⊎◌, ◌==◌, inl, inr, ℕ, zero, suc, Bool, true, false, cond, Option, Some, None, List, [], ◌∷◌, ◌++◌, slice_get, slice_set, refl, ap, sym, ◌∙◌, subst, arith, append_assoc}
use Rattle.std.specs.Prelude.{count_by, option_to_list}
use Rattle.std.proofs.lemmas.List.Sums.{sum_by-append}
use Rattle.filter_table.specs.Limits.{TableLimits}
use Rattle.filter_table.specs.declared.operation.Op.{Op}
use Rattle.monitor_messages.specs.declared.message.Message.{Message}
use Rattle.monitor_messages.specs.declared.message.Message.TheVariants as message
use Rattle.filter_table.specs.declared.decision.Vote.{Vote}
use Rattle.filter_table.specs.declared.decision.Decision.{Decision}
use Rattle.world_events.specs.declared.event.Event.{Event}
use Rattle.world_events.specs.declared.event.Event.TheVariants.{Start, Submit, StartFor, Take, Rx}
use Rattle.world_events.specs.declared.event.Answer.{Answer}
use Rattle.world_events.specs.declared.event.Answer.TheVariants.{Prepared, Decided, TookVote, TookReply}
use Rattle.world_events.specs.declared.event.Done.{Done}
use Rattle.world_model.specs.Cases.{Outgoing, outgoing, sent_up, raised, start_told, TakesUpAt, TakesDownAt}
use Rattle.world_model.specs.Worlds.{Peer, World, newest, sent_out, HappensUp, HappensDown, Happens, Run}
use Rattle.world_model.specs.Readings.{Request, unsent, sent, numbered, settled, begun, decided_on, followed, request_of}
use Rattle.world_model.proofs.Lists.{same_or_not}
use Rattle.world_model.proofs.Runs.{run_keeps}
use Rattle.world_model.proofs.Agreement.{run_stages}
use Rattle.world_model.proofs.Submissions.{eq_self, eq_other, follows_start, follows_other, follows_no_submit, took_follows}
use Rattle.world_model.proofs.Known.{Known, run_known}
use Rattle.world_model.proofs.Followed.{waits_sent, request_after-append}
use Rattle.world_model.proofs.RunLaws.{run_replies}
use Rattle.world_histories.specs.Answers.{begins_for}
use Rattle.world_histories.proofs.Lists.{set_cases}
use Rattle.world_histories.proofs.Seats.{got_out}

-- Counts over a run

abbrev pub submits_by : ℕ → Event → Bool
submits_by core (Submit from op) = from == core
submits_by core event = false

abbrev pub begins_of : ℕ → List Done → ℕ
begins_of core events = count_by (λ d. begins_for core d.event) events

abbrev pub submits_of : ℕ → List Done → ℕ
submits_of core events = count_by (λ d. submits_by core d.event) events

begins_more : (core : ℕ) (events : List Done) (d : Done) → begins_of core (events ++ d ∷ []) ≡ begins_of core events + cond (begins_for core d.event) 1 0
begins_more core events d = omega (arith, sum_by-append (λ (x : Done). cond (begins_for core x.event) 1 0) events (d ∷ []))

submits_more : (core : ℕ) (events : List Done) (d : Done) → submits_of core (events ++ d ∷ []) ≡ submits_of core events + cond (submits_by core d.event) 1 0
submits_more core events d = omega (arith, sum_by-append (λ (x : Done). cond (submits_by core x.event) 1 0) events (d ∷ []))

-- Where the last request of a core was begun and decided

pub record BegunAt (core : ℕ) (events : List Done) (answer : Answer) : Type 0 where
  pub before : List Done
  pub after : List Done
  pub is_split : events ≡ before ++ record { event = StartFor core; answer = answer } ∷ after
  pub nth : begins_of core before + 1 ≡ begins_of core events

-- the votes decide on the number
pub record VotedAfter (txn : ℕ) (events : List Done) (decision : Decision) : Type 0 where
  pub front : List Done
  pub from : ℕ
  pub short : Bool
  pub v : Vote
  pub rest : List Done
  pub is_split : events ≡ front ++ record { event = Take 0 from short; answer = TookVote txn v (Some decision) } ∷ rest

pub data DecidedAt (core : ℕ) (events : List Done) (decision : Decision) : Type 0 where
  at_once : BegunAt core events (Decided decision) → DecidedAt core events decision
  by_votes : (txn : ℕ) (b : BegunAt core events (Prepared txn)) → VotedAfter txn b.after decision → DecidedAt core events decision

begun_later : (core : ℕ) (events : List Done) (d : Done) (answer : Answer) → begins_for core d.event ≡ false → BegunAt core events answer → BegunAt core (events ++ d ∷ []) answer
begun_later core events d answer none b = record {
  before = b.before;
  after = b.after ++ d ∷ [];
  is_split = ap (λ (xs : List Done). xs ++ d ∷ []) b.is_split ∙ append_assoc b.before (record { event = StartFor core; answer = answer } ∷ b.after) (d ∷ []);
  nth = omega (arith, b.nth, begins_more core events d, ap {B = ℕ} (λ (x : Bool). cond x 1 0) none);
}

voted_later : (txn : ℕ) (events : List Done) (d : Done) (decision : Decision) → VotedAfter txn events decision → VotedAfter txn (events ++ d ∷ []) decision
voted_later txn events d decision h = record {
  front = h.front;
  from = h.from;
  short = h.short;
  v = h.v;
  rest = h.rest ++ d ∷ [];
  is_split = ap (λ (xs : List Done). xs ++ d ∷ []) h.is_split ∙ append_assoc h.front (record { event = Take 0 h.from h.short; answer = TookVote txn h.v (Some decision) } ∷ h.rest) (d ∷ []);
}

decided_later : (core : ℕ) (events : List Done) (d : Done) (decision : Decision) → begins_for core d.event ≡ false → DecidedAt core events decision → DecidedAt core (events ++ d ∷ []) decision
unfolding begun_later
decided_later core events d decision none (at_once b) = at_once (begun_later core events d (Decided decision) none b)
decided_later core events d decision none (by_votes txn b h) = by_votes txn (begun_later core events d (Prepared txn) none b) (voted_later txn b.after d decision h)

abbrev pub Places : ℕ → List Done → Request → Type 0
Places core events (numbered op txn) = BegunAt core events (Prepared txn)
Places core events (settled op decision) = DecidedAt core events decision
Places core events r = Unit {0}

places_later : (core : ℕ) (events : List Done) (d : Done) (r : Request) → begins_for core d.event ≡ false → Places core events r → Places core (events ++ d ∷ []) r
places_later core events d (numbered op txn) none p = begun_later core events d (Prepared txn) none p
places_later core events d (settled op decision) none p = decided_later core events d decision none p
places_later core events d unsent none p = tt
places_later core events d (sent op) none p = tt

-- a request that core 0 has not begun yet counts
abbrev pub waiting_in : Request → ℕ
waiting_in (sent op) = 1
waiting_in r = 0

-- a request that has no decision yet
abbrev pub Pending : Request → Type 0
Pending (sent op) = Unit {0}
Pending (numbered op txn) = Unit {0}
Pending r = ⊥

pub record Tracks (core : ℕ) (events : List Done) (r : Request) : Type 0 where
  pub counted : submits_of core events ≡ begins_of core events + waiting_in r
  pub places : Places core events r

-- What an event does to the last request of a core

data Follows (core : ℕ) (r : Request) (event : Event) (answer : Answer) (r' : Request) : Type 0 where
  keeps : submits_by core event ≡ false → begins_for core event ≡ false → r' ≡ r → Follows core r event answer r'
  submits : (op : Op) → submits_by core event ≡ true → begins_for core event ≡ false → r' ≡ sent op → (Pending r → ⊥) → Follows core r event answer r'
  numbers : (op : Op) (txn : ℕ) → event ≡ StartFor core → r ≡ sent op → answer ≡ Prepared txn → r' ≡ numbered op txn → Follows core r event answer r'
  settles : (op : Op) (d : Decision) → event ≡ StartFor core → r ≡ sent op → answer ≡ Decided d → r' ≡ settled op d → Follows core r event answer r'
  decides : (from : ℕ) (short : Bool) (txn : ℕ) (v : Vote) (d : Decision) → event ≡ Take 0 from short → answer ≡ TookVote txn v (Some d) → r' ≡ decided_on r txn d → Follows core r event answer r'

not_waiting : (r : Request) → (Pending r → ⊥) → waiting_in r ≡ 0
not_waiting (sent op) n = absurd (n tt)
not_waiting (numbered op txn) n = refl
not_waiting (settled op d) n = refl
not_waiting unsent n = refl

begins_now : (core : ℕ) (events : List Done) (d : Done) → d.event ≡ StartFor core → begins_of core (events ++ d ∷ []) ≡ begins_of core events + 1
begins_now core events d e = omega (arith, begins_more core events d, ap {B = ℕ} (λ (x : Event). cond (begins_for core x) 1 0) e, ap {B = ℕ} (λ (x : Bool). cond x 1 0) (eq_self core))

begun_now : (core : ℕ) (events : List Done) (d : Done) (answer : Answer) → d.event ≡ StartFor core → d.answer ≡ answer → BegunAt core (events ++ d ∷ []) answer
begun_now core events d answer e a = record {
  before = events;
  after = [];
  is_split = ap (λ (x : Event). events ++ record { event = x; answer = d.answer } ∷ []) e ∙ ap (λ (x : Answer). events ++ record { event = StartFor core; answer = x } ∷ []) a;
  nth = sym (begins_now core events d e);
}

-- a decision on a number, for the request that has the number
decided_now : (core : ℕ) (events : List Done) (d : Done) (from : ℕ) (short : Bool) (txn : ℕ) (v : Vote) (dec : Decision) (r : Request) → d.event ≡ Take 0 from short → d.answer ≡ TookVote txn v (Some dec) → Tracks core events r → Tracks core (events ++ d ∷ []) (decided_on r txn dec)
unfolding begun_later
decided_now core events d from short txn v dec r e a t = by_request r t
  where
    none : begins_for core d.event ≡ false
    none = ap (begins_for core) e

    counts : (x : Request) → submits_of core events ≡ begins_of core events + waiting_in x → submits_of core (events ++ d ∷ []) ≡ begins_of core (events ++ d ∷ []) + waiting_in x
    counts x c = omega (arith, c, begins_more core events d, submits_more core events d, ap {B = ℕ} (λ (y : Bool). cond y 1 0) none, ap {B = ℕ} (λ (y : Event). cond (submits_by core y) 1 0) e)

    same : (x : Request) → Tracks core events x → Tracks core (events ++ d ∷ []) x
    same x k = record { counted = counts x k.counted; places = places_later core events d x none k.places }

    voted : (b : BegunAt core events (Prepared txn)) → DecidedAt core (events ++ d ∷ []) dec
    voted b = by_votes txn (begun_later core events d (Prepared txn) none b) (record {
      front = b.after;
      from = from;
      short = short;
      v = v;
      rest = [];
      is_split = ap (λ (x : Event). b.after ++ record { event = x; answer = d.answer } ∷ []) e ∙ ap (λ (x : Answer). b.after ++ record { event = Take 0 from short; answer = x } ∷ []) a;
    })

    by_number : (op : Op) (n : ℕ) → Tracks core events (numbered op n) → ((n ≡ txn) ⊎ (n ≡ txn → ⊥)) → Tracks core (events ++ d ∷ []) (cond (n == txn) (settled op dec) (numbered op n))
    by_number op n k (inl is) =
        subst (λ (b : Bool). Tracks core (events ++ d ∷ []) (cond b (settled op dec) (numbered op n))) (sym (ap (λ (x : ℕ). x == txn) is ∙ eq_self txn))
        (record { counted = counts (settled op dec) k.counted; places = voted (subst (λ (x : ℕ). BegunAt core events (Prepared x)) is k.places) })
    by_number op n k (inr ne) = subst (λ (b : Bool). Tracks core (events ++ d ∷ []) (cond b (settled op dec) (numbered op n))) (sym (eq_other n txn ne)) (same (numbered op n) k)

    by_request : (x : Request) → Tracks core events x → Tracks core (events ++ d ∷ []) (decided_on x txn dec)
    by_request (numbered op n) k = by_number op n k (same_or_not n txn)
    by_request (sent op) k = same (sent op) k
    by_request (settled op dec') k = same (settled op dec') k
    by_request unsent k = same unsent k

tracks_more : (core : ℕ) (events : List Done) (d : Done) (r r' : Request) → Tracks core events r → Follows core r d.event d.answer r' → Tracks core (events ++ d ∷ []) r'
tracks_more core events d r r' t (keeps s b e) = subst (λ (x : Request). Tracks core (events ++ d ∷ []) x) (sym e) (record {
  counted = omega (arith, t.counted, begins_more core events d, submits_more core events d, ap {B = ℕ} (λ (y : Bool). cond y 1 0) s, ap {B = ℕ} (λ (y : Bool). cond y 1 0) b);
  places = places_later core events d r b t.places;
})
tracks_more core events d r r' t (submits op s b e n) = subst (λ (x : Request). Tracks core (events ++ d ∷ []) x) (sym e) (record {
  counted = omega (arith, t.counted, not_waiting r n, begins_more core events d, submits_more core events d, ap {B = ℕ} (λ (y : Bool). cond y 1 0) s, ap {B = ℕ} (λ (y : Bool). cond y 1 0) b);
  places = tt;
})
tracks_more core events d r r' t (numbers op txn e is a e') = subst (λ (x : Request). Tracks core (events ++ d ∷ []) x) (sym e') (record {
  counted = omega (arith, t.counted, ap waiting_in is, begins_now core events d e, submits_more core events d, ap {B = ℕ} (λ (y : Event). cond (submits_by core y) 1 0) e);
  places = begun_now core events d (Prepared txn) e a;
})
tracks_more core events d r r' t (settles op dec e is a e') = subst (λ (x : Request). Tracks core (events ++ d ∷ []) x) (sym e') (record {
  counted = omega (arith, t.counted, ap waiting_in is, begins_now core events d e, submits_more core events d, ap {B = ℕ} (λ (y : Event). cond (submits_by core y) 1 0) e);
  places = at_once (begun_now core events d (Decided dec) e a);
})
tracks_more core events d r r' t (decides from short txn v dec e a e') = subst (λ (x : Request). Tracks core (events ++ d ∷ []) x) (sym e') (decided_now core events d from short txn v dec r e a t)

-- Each event

told_follows : (core : ℕ) (event : Event) (answer : Answer) (op : Op) (r r' : Request) (txn : ℕ) (d : Option Decision) → event ≡ StartFor core → r ≡ sent op → answer ≡ start_told txn d → r' ≡ begun r answer → Follows core r event answer r'
told_follows core event answer op r r' txn None e is a e' = numbers op txn e is a (e' ∙ rw (is, a) refl)
told_follows core event answer op r r' txn (Some d) e is a e' = settles op d e is a (e' ∙ rw (is, a) refl)

up_follows : (i j : ℕ) (r : Request) (short : Bool) (w : World) (h : (w' : World) × (answer : Answer) × HappensUp w j w' answer) → Follows (suc i) r (Take 0 (suc j) short) h.1 (followed (suc i) r (Take 0 (suc j) short) h.1)
up_follows i j r short w x = by_message x.2.m x.2.here
  where
    voted : (txn : ℕ) (v : Vote) (d : Option Decision) → x.1 ≡ TookVote txn v d → Follows (suc i) r (Take 0 (suc j) short) x.1 (followed (suc i) r (Take 0 (suc j) short) x.1)
    voted txn v None a = keeps refl refl (ap (followed (suc i) r (Take 0 (suc j) short)) a)
    voted txn v (Some d) a = decides (suc j) short txn v d refl a (ap (followed (suc i) r (Take 0 (suc j) short)) a)

    by_message : (m : Message) → TakesUpAt (newest w) w.place w.requests j m x.2.place x.2.requests x.2.committed x.2.told x.1 → Follows (suc i) r (Take 0 (suc j) short) x.1 (followed (suc i) r (Take 0 (suc j) short) x.1)
    by_message (message.Vote txn v) here = voted txn v x.2.told.decided here.is_answer
    by_message (message.Ack txn) here = keeps refl refl (ap (followed (suc i) r (Take 0 (suc j) short)) here.is_answer)
    by_message (message.Submit op) here = keeps refl refl (ap (followed (suc i) r (Take 0 (suc j) short)) here.is_answer)
    by_message m here = absurd here

down_follows : (i j : ℕ) (r : Request) (short : Bool) (w w' : World) (answer : Answer) → HappensDown w j short w' answer → Follows (suc i) r (Take (suc j) 0 short) answer (followed (suc i) r (Take (suc j) 0 short) answer)
down_follows i j r short w w' answer h = by_message h.m h.here
  where
    by_message : (m : Message) → TakesDownAt short (newest w) h.peer.budget h.peer.version h.peer.place h.peer.outstanding m h.place h.outstanding h.committed answer → Follows (suc i) r (Take (suc j) 0 short) answer (followed (suc i) r (Take (suc j) 0 short) answer)
    by_message (message.Reply d) here = keeps refl refl (ap (followed (suc i) r (Take (suc j) 0 short)) here.is_answer)
    by_message (message.Prepare txn op) here = keeps refl refl (took_follows (suc i) j r short (message.Prepare txn op) here.reply _ answer here.is_answer).0
    by_message (message.Commit txn) here = keeps refl refl (took_follows (suc i) j r short (message.Commit txn) here.reply _ answer here.is_answer).0
    by_message (message.Abort txn) here = keeps refl refl (took_follows (suc i) j r short (message.Abort txn) here.reply _ answer here.is_answer).0
    by_message (message.Vote txn v) here = absurd here.answers
    by_message (message.Ack txn) here = absurd here.answers
    by_message (message.Submit op) here = absurd here.answers

-- after these events of a run
record After (limits : TableLimits) (budget : ℕ) (budgets : List ℕ) (events : List Done) (w : World) : Type 0 where
  run : Run limits budget budgets events w
  -- a core whose last request has no decision yet has it outstanding
  outstanding : (i : ℕ) (p : Peer) → slice_get w.peers i ≡ Some p → Pending (request_of (suc i) events) → p.outstanding ≡ true

event_follows : (limits : TableLimits) (budget : ℕ) (budgets : List ℕ) (events : List Done) (w w' : World) (i : ℕ) (p : Peer) (event : Event) (answer : Answer) → After limits budget budgets events w → slice_get w.peers i ≡ Some p → Happens w event w' answer
    → Follows (suc i) (request_of (suc i) events) event answer (followed (suc i) (request_of (suc i) events) event answer)
event_follows limits budget budgets events w w' i p (Start op) answer k at h =
    keeps refl refl (ap (followed (suc i) (request_of (suc i) events) (Start op)) h.here.is_answer ∙ follows_start (suc i) (request_of (suc i) events) op h.told.txn h.told.decided)
event_follows limits budget budgets events w w' i p (StartFor (suc j)) answer k at h = by_core (same_or_not j i)
  where
    known : Known limits budget budgets events w
    known = run_known limits budget budgets events w k.run

    is_sent : request_of (suc j) events ≡ sent h.here.starts.op
    is_sent = waits_sent w (λ n. request_of (suc n) events) j h.here.starts.op (run_stages limits budget budgets events w k.run) (known.waiting_long ∙ sym known.cores) h.here.starts.is_waiting

    by_core : ((j ≡ i) ⊎ (j ≡ i → ⊥)) → Follows (suc i) (request_of (suc i) events) (StartFor (suc j)) answer (followed (suc i) (request_of (suc i) events) (StartFor (suc j)) answer)
    by_core (inl e) =
        let mine : request_of (suc i) events ≡ sent h.here.starts.op = subst (λ (n : ℕ). request_of (suc n) events ≡ sent h.here.starts.op) e is_sent in
        let f : followed (suc i) (request_of (suc i) events) (StartFor (suc j)) answer ≡ begun (request_of (suc i) events) answer
        = ap (λ (b : Bool). cond b (begun (request_of (suc i) events) answer) (request_of (suc i) events)) (ap (λ (n : ℕ). suc n == suc i) e ∙ eq_self (suc i)) in
        told_follows (suc i) (StartFor (suc j)) answer h.here.starts.op (request_of (suc i) events) _ h.told.txn h.told.decided (ap (λ (n : ℕ). StartFor (suc n)) e) mine h.here.is_answer f
    by_core (inr ne) = keeps refl (eq_other (suc j) (suc i) (λ e. ne (omega (arith, e)))) (follows_other j i (request_of (suc i) events) answer ne)
event_follows limits budget budgets events w w' i p (Submit (suc j) op) answer k at h = by_core (same_or_not j i)
  where
    by_core : ((j ≡ i) ⊎ (j ≡ i → ⊥)) → Follows (suc i) (request_of (suc i) events) (Submit (suc j) op) answer (followed (suc i) (request_of (suc i) events) (Submit (suc j) op) answer)
    by_core (inl e) =
        let test : (suc j == suc i) ≡ true = ap (λ (n : ℕ). suc n == suc i) e ∙ eq_self (suc i) in
        submits op test refl
        (ap (followed (suc i) (request_of (suc i) events) (Submit (suc j) op)) h.here.is_answer ∙ ap (λ (b : Bool). cond b (sent op) (request_of (suc i) events)) test)
        (λ pending.
        let same : h.peer ≡ p = (let x = subst (λ (n : ℕ). slice_get w.peers n ≡ Some h.peer) e h.is_peer in cc) in
        let o : p.outstanding ≡ true = k.outstanding i p at pending in
        let f : p.outstanding ≡ false = ap (λ (q : Peer). q.outstanding) (sym same) ∙ h.here.none_outstanding in
        (let x : true ≡ false = sym o ∙ f in cc))
    by_core (inr ne) = keeps (eq_other (suc j) (suc i) (λ e. ne (omega (arith, e)))) refl (follows_no_submit j i (request_of (suc i) events) op answer h.here.is_answer ne)
event_follows limits budget budgets events w w' i p (Take zero (suc j) short) answer k at h = up_follows i j (request_of (suc i) events) short w (w', answer, h)
event_follows limits budget budgets events w w' i p (Take (suc j) zero short) answer k at h = down_follows i j (request_of (suc i) events) short w w' answer h
event_follows limits budget budgets events w w' i p (Rx core number packet floor) answer k at h = keeps refl refl (ap (followed (suc i) (request_of (suc i) events) (Rx core number packet floor)) h.here.is_answer)
event_follows limits budget budgets events w w' i p event answer k at h = absurd h

-- What an event does to whether a request is outstanding
data Outstood (i : ℕ) (event : Event) (answer : Answer) (p p' : Peer) : Type 0 where
  same : submits_by (suc i) event ≡ false → p'.outstanding ≡ p.outstanding → Outstood i event answer p p'
  now : p'.outstanding ≡ true → Outstood i event answer p p'
  replied : (short : Bool) (d : Decision) → event ≡ Take (suc i) 0 short → answer ≡ TookReply d → Outstood i event answer p p'

abbrev OutstoodFrom : World → ℕ → Event → Answer → Peer → Type 0
OutstoodFrom w i event answer p' = (p : Peer) × (slice_get w.peers i ≡ Some p) × Outstood i event answer p p'

sent_outstood : (w : World) (peers peers' : List Peer) (out : Outgoing) (i : ℕ) (event : Event) (answer : Answer) (p' : Peer) → submits_by (suc i) event ≡ false → peers' ≡ sent_out peers out
    → ((p : Peer) → slice_get peers i ≡ Some p → OutstoodFrom w i event answer p) → slice_get peers' i ≡ Some p' → OutstoodFrom w i event answer p'
sent_outstood w peers peers' out i event answer p' none e known at =
    let g = got_out peers out i p' (subst (λ (xs : List Peer). slice_get xs i ≡ Some p') e at) in
    let k = known g.0 g.1 in
    (k.0, k.1, by_case k.0 g.0 g.2.outstanding_is k.2)
  where
    by_case : (p q : Peer) → p'.outstanding ≡ q.outstanding → Outstood i event answer p q → Outstood i event answer p p'
    by_case p q e' (same s o) = same s (e' ∙ o)
    by_case p q e' (now o) = now (e' ∙ o)
    by_case p q e' (replied short d x a) = replied short d x a

kept_outstood : (w : World) (i : ℕ) (event : Event) (answer : Answer) → submits_by (suc i) event ≡ false → (p : Peer) → slice_get w.peers i ≡ Some p → OutstoodFrom w i event answer p
kept_outstood w i event answer none p at = (p, at, same none refl)

down_outstood : (w w' : World) (i j : ℕ) (short : Bool) (answer : Answer) (p' : Peer) → HappensDown w j short w' answer → slice_get w'.peers i ≡ Some p' → OutstoodFrom w i (Take (suc j) 0 short) answer p'
down_outstood w w' i j short answer p' h at = by_place (set_cases w.peers j q h.peer h.is_peer i p' (subst (λ (x : World). slice_get x.peers i ≡ Some p') h.next at))
  where
    q : Peer
    q = record { budget = h.peer.budget; version = raised h.peer.version h.committed; place = h.place; outstanding = h.outstanding; down = h.rest; up = h.peer.up ++ option_to_list (sent_up (Take (suc j) 0 short) answer) }

    by_message : (m : Message) → TakesDownAt short (newest w) h.peer.budget h.peer.version h.peer.place h.peer.outstanding m h.place h.outstanding h.committed answer → j ≡ i → p' ≡ q → Outstood i (Take (suc j) 0 short) answer h.peer p'
    by_message (message.Reply d) here e is = replied short d (ap (λ (n : ℕ). Take (suc n) 0 short) e) here.is_answer
    by_message (message.Prepare txn op) here e is = same refl (ap (λ (x : Peer). x.outstanding) is ∙ here.same_outstanding)
    by_message (message.Commit txn) here e is = same refl (ap (λ (x : Peer). x.outstanding) is ∙ here.same_outstanding)
    by_message (message.Abort txn) here e is = same refl (ap (λ (x : Peer). x.outstanding) is ∙ here.same_outstanding)
    by_message (message.Vote txn v) here e is = absurd here.answers
    by_message (message.Ack txn) here e is = absurd here.answers
    by_message (message.Submit op) here e is = absurd here.answers

    by_place : (((j ≡ i) × (p' ≡ q)) ⊎ ((j ≡ i → ⊥) × (slice_get w.peers i ≡ Some p'))) → OutstoodFrom w i (Take (suc j) 0 short) answer p'
    by_place (inl e) = (h.peer, subst (λ (n : ℕ). slice_get w.peers n ≡ Some h.peer) e.0 h.is_peer, by_message h.m h.here e.0 e.1)
    by_place (inr ne) = kept_outstood w i (Take (suc j) 0 short) answer refl p' ne.1

up_outstood : (w w' : World) (i j : ℕ) (short : Bool) (answer : Answer) (p' : Peer) → HappensUp w j w' answer → slice_get w'.peers i ≡ Some p' → OutstoodFrom w i (Take 0 (suc j) short) answer p'
up_outstood w w' i j short answer p' h at =
    sent_outstood w (slice_set w.peers j (record h.peer { up = h.rest })) w'.peers (outgoing h.told h.place) i (Take 0 (suc j) short) answer p' refl (ap (λ (x : World). x.peers) h.next)
    (λ p is. by_place p (set_cases w.peers j (record h.peer { up = h.rest }) h.peer h.is_peer i p is)) at
  where
    by_place : (p : Peer) → (((j ≡ i) × (p ≡ record h.peer { up = h.rest })) ⊎ ((j ≡ i → ⊥) × (slice_get w.peers i ≡ Some p))) → OutstoodFrom w i (Take 0 (suc j) short) answer p
    by_place p (inl e) = (h.peer, subst (λ (n : ℕ). slice_get w.peers n ≡ Some h.peer) e.0 h.is_peer, same refl (ap (λ (x : Peer). x.outstanding) e.1))
    by_place p (inr ne) = kept_outstood w i (Take 0 (suc j) short) answer refl p ne.1

outstood : (w w' : World) (i : ℕ) (event : Event) (answer : Answer) (p' : Peer) → Happens w event w' answer → slice_get w'.peers i ≡ Some p' → OutstoodFrom w i event answer p'
outstood w w' i (Start op) answer p' h at = sent_outstood w w.peers w'.peers (outgoing h.told h.place) i (Start op) answer p' refl (ap (λ (x : World). x.peers) h.next) (kept_outstood w i (Start op) answer refl) at
outstood w w' i (StartFor (suc j)) answer p' h at = sent_outstood w w.peers w'.peers (outgoing h.told h.place) i (StartFor (suc j)) answer p' refl (ap (λ (x : World). x.peers) h.next) (kept_outstood w i (StartFor (suc j)) answer refl) at
outstood w w' i (Submit (suc j) op) answer p' h at =
    by_place (set_cases w.peers j (record h.peer { outstanding = h.outstanding; up = h.peer.up ++ option_to_list (sent_up (Submit (suc j) op) answer) }) h.peer h.is_peer i p' (subst (λ (x : World). slice_get x.peers i ≡ Some p') h.next at))
  where
    by_place : (((j ≡ i) × (p' ≡ record h.peer { outstanding = h.outstanding; up = h.peer.up ++ option_to_list (sent_up (Submit (suc j) op) answer) })) ⊎ ((j ≡ i → ⊥) × (slice_get w.peers i ≡ Some p'))) → OutstoodFrom w i (Submit (suc j) op) answer p'
    by_place (inl e) = (h.peer, subst (λ (n : ℕ). slice_get w.peers n ≡ Some h.peer) e.0 h.is_peer, now (ap (λ (x : Peer). x.outstanding) e.1 ∙ h.here.now_outstanding))
    by_place (inr ne) = kept_outstood w i (Submit (suc j) op) answer (eq_other (suc j) (suc i) (λ e. ne.0 (omega (arith, e)))) p' ne.1
outstood w w' i (Take zero (suc j) short) answer p' h at = up_outstood w w' i j short answer p' h at
outstood w w' i (Take (suc j) zero short) answer p' h at = down_outstood w w' i j short answer p' h at
outstood w w' i (Rx core number packet floor) answer p' h at = kept_outstood w i (Rx core number packet floor) answer refl p' (subst (λ (x : World). slice_get x.peers i ≡ Some p') h.next at)
outstood w w' i event answer p' h at = absurd h

pending_decided : (r : Request) (txn : ℕ) (d : Decision) → Pending (decided_on r txn d) → Pending r
pending_decided (numbered op n) txn d p = tt
pending_decided (sent op) txn d p = tt
pending_decided (settled op x) txn d p = p
pending_decided unsent txn d p = p

pending_before : (core : ℕ) (r r' : Request) (event : Event) (answer : Answer) → Follows core r event answer r' → submits_by core event ≡ false → Pending r' → Pending r
pending_before core r r' event answer (keeps s b e) none p = subst Pending e p
pending_before core r r' event answer (submits op s b e n) none p = absurd (let x : true ≡ false = sym s ∙ none in cc)
pending_before core r r' event answer (numbers op txn e is a e') none p = subst Pending (sym is) tt
pending_before core r r' event answer (settles op d e is a e') none p = absurd (subst Pending e' p)
pending_before core r r' event answer (decides from short txn v d e a e') none p = pending_decided r txn d (subst Pending e' p)

-- Every run

record Kept (budget : ℕ) (budgets : List ℕ) (events : List Done) (w : World) : Type 0 where
  outstanding : (i : ℕ) (p : Peer) → slice_get w.peers i ≡ Some p → Pending (request_of (suc i) events) → p.outstanding ≡ true
  tracks : (i : ℕ) (p : Peer) → slice_get w.peers i ≡ Some p → Tracks (suc i) events (request_of (suc i) events)

kept_more : (limits : TableLimits) (budget : ℕ) (budgets : List ℕ) (events : List Done) (w w' : World) (done : Done) → Run limits budget budgets events w → Kept budget budgets events w → Happens w done.event w' done.answer → Kept budget budgets (events ++ done ∷ []) w'
kept_more limits budget budgets events w w' done run k h = record { outstanding = outstanding'; tracks = tracks' }
  where
    after : After limits budget budgets events w
    after = record { run = run; outstanding = k.outstanding }

    last : (i : ℕ) → request_of (suc i) (events ++ done ∷ []) ≡ followed (suc i) (request_of (suc i) events) done.event done.answer
    last i = request_after-append (suc i) unsent events done

    tracks' : (i : ℕ) (p' : Peer) → slice_get w'.peers i ≡ Some p' → Tracks (suc i) (events ++ done ∷ []) (request_of (suc i) (events ++ done ∷ []))
    tracks' i p' at =
        let o = outstood w w' i done.event done.answer p' h at in
        subst (λ (r : Request). Tracks (suc i) (events ++ done ∷ []) r) (sym (last i))
        (tracks_more (suc i) events done (request_of (suc i) events) _ (k.tracks i o.0 o.1) (event_follows limits budget budgets events w w' i o.0 done.event done.answer after o.1 h))

    outstanding' : (i : ℕ) (p' : Peer) → slice_get w'.peers i ≡ Some p' → Pending (request_of (suc i) (events ++ done ∷ [])) → p'.outstanding ≡ true
    outstanding' i p' at pending =
        let o = outstood w w' i done.event done.answer p' h at in
        by_case o.0 o.1 o.2 (event_follows limits budget budgets events w w' i o.0 done.event done.answer after o.1 h) (subst Pending (last i) pending)
      where
        none_left : (short : Bool) (d : Decision) → done.event ≡ Take (suc i) 0 short → done.answer ≡ TookReply d → Pending (followed (suc i) (request_of (suc i) events) done.event done.answer) → ⊥
        none_left short d e a p =
            let happens : Happens w (Take (suc i) 0 short) w' (TookReply d) = subst (λ (x : Answer). Happens w (Take (suc i) 0 short) w' x) a (subst (λ (x : Event). Happens w x w' done.answer) e h) in
            let r = run_replies limits budget budgets events w w' (Take (suc i) 0 short) (TookReply d) run happens in
            let p' : Pending (followed (suc i) (request_of (suc i) events) (Take (suc i) 0 short) (TookReply d)) = subst (λ (x : Answer). Pending (followed (suc i) (request_of (suc i) events) (Take (suc i) 0 short) x)) a (subst (λ (x : Event). Pending (followed (suc i) (request_of (suc i) events) x done.answer)) e p) in
            subst Pending r.1 p'

        by_case : (p : Peer) → slice_get w.peers i ≡ Some p → Outstood i done.event done.answer p p' → Follows (suc i) (request_of (suc i) events) done.event done.answer (followed (suc i) (request_of (suc i) events) done.event done.answer)
            → Pending (followed (suc i) (request_of (suc i) events) done.event done.answer) → p'.outstanding ≡ true
        by_case p is (same s e) f x = e ∙ k.outstanding i p is (pending_before (suc i) _ _ done.event done.answer f s x)
        by_case p is (now e) f x = e
        by_case p is (replied short d e a) f x = absurd (none_left short d e a x)

pub run_tracks : (limits : TableLimits) (budget : ℕ) (budgets : List ℕ) (events : List Done) (w : World) → Run limits budget budgets events w → (i : ℕ) (p : Peer) → slice_get w.peers i ≡ Some p → Tracks (suc i) events (request_of (suc i) events)
run_tracks limits budget budgets events w run =
    (run_keeps limits budget budgets (Kept budget budgets) (record { outstanding = λ i p at pending. absurd pending; tracks = λ i p at. record { counted = omega arith; places = tt } }) (kept_more limits budget budgets) events w run).tracks
