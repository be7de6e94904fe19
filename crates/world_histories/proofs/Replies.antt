-- A Reply carries what core 0 decided on the one request that it answers, read off the histories.
use Rattle.std.proofs.Common.{◌≡◌, ◌+◌, ◌≤◌, ◌⊎◌, ◌==◌, inl, inr, ℕ, zero, suc, Bool, false, cond, Some, List, [], ◌∷◌, ◌++◌, length, slice_get, refl, ap, sym, ◌∙◌, subst, arith, append_assoc}
use Rattle.std.specs.Prelude.{count_by}
use Rattle.std.proofs.lemmas.List.Sums.{sum_by-append}
use mathlib.Core.List.{IsPrefix}
use Rattle.filter_table.specs.Limits.{TableLimits}
use Rattle.filter_table.specs.declared.operation.Op.{Op}
use Rattle.filter_table.specs.Tables.{TableState, made, table}
use Rattle.filter_table.proofs.Tables.{table_front}
use Rattle.filter_table.specs.declared.decision.Vote.TheVariants as vote
use Rattle.filter_table.specs.declared.decision.Decision.{Decision}
use Rattle.filter_table.specs.declared.decision.Decision.TheVariants.{Committed, Refused}
use Rattle.world_events.specs.declared.event.Event.{Event}
use Rattle.world_events.specs.declared.event.Event.TheVariants.{Start, Submit, StartFor, Take, Rx}
use Rattle.world_events.specs.declared.event.Answer.{Answer}
use Rattle.world_events.specs.declared.event.Answer.TheVariants.{Prepared, Decided, TookPrepare, TookVote, TookReply}
use Rattle.world_events.specs.declared.event.Done.{Done}
use Rattle.world_model.specs.Worlds.{World, version_at, Happens}
use Rattle.world_model.specs.Readings.{Request, version_of, request_of, settled}
use Rattle.world_model.specs.Decisions.{StandsAt, IsEntered, RepliesRightly}
use Rattle.world_model.proofs.Lists.{same_or_not}
use Rattle.world_model.proofs.Submissions.{eq_self, eq_other}
use Rattle.world_model.proofs.Known.{run_known}
use Rattle.world_model.proofs.RunLaws.{run_replies}
use Rattle.world_histories.specs.declared.history.Stamped.{Stamped}
use Rattle.world_histories.specs.Histories.{unstamped, Core0State, OtherState, Computation}
use Rattle.world_histories.specs.Merging.{core_of, part, as_short, listed, as_listed}
use Rattle.world_histories.specs.Answers.{requested, last_submitted, begins_for, is_submit, begun_for, submissions, DecidesLater, DecidedFor, Replied}
use Rattle.world_histories.proofs.Lists.{Found, found}
use Rattle.world_histories.proofs.Parts.{part_own, part_other, part-append}
use Rattle.world_histories.proofs.Tells.{short_core}
use Rattle.world_histories.proofs.Requests.{submits_by, begins_of, submits_of, BegunAt, VotedAfter, DecidedAt, at_once, by_votes, Tracks, run_tracks}
use Rattle.world_histories.proofs.Merge.{one_run}
use Rattle.world_histories.proofs.Agreement.{in_the_run}
use Rattle.std.proofs.lemmas.Option.{slice_get_within}
use Rattle.filter_table.proofs.Positions.{get_front, get_at}

-- The flag of a Take is of no account here

short_begins : (core : ℕ) (event : Event) (answer : Answer) → begins_for core (as_short event answer) ≡ begins_for core event
short_begins core (Take to from short) (TookPrepare txn vote.NoMemory) = refl
short_begins core event answer = refl

short_submits_by : (core : ℕ) (event : Event) (answer : Answer) → submits_by core (as_short event answer) ≡ submits_by core event
short_submits_by core (Take to from short) (TookPrepare txn vote.NoMemory) = refl
short_submits_by core event answer = refl

short_start_for : (event : Event) (answer : Answer) (core : ℕ) → as_short event answer ≡ StartFor core → event ≡ StartFor core
short_start_for (Take to from short) (TookPrepare txn vote.NoMemory) core e = absurd (cc)
short_start_for event answer core e = e

-- Counts, by core

others_begin : (core : ℕ) (event : Event) → (core_of event ≡ 0 → ⊥) → begins_for core event ≡ false
others_begin core (StartFor from) ne = absurd (ne refl)
others_begin core event ne = refl

own_submits : (i : ℕ) (event : Event) → core_of event ≡ suc i → submits_by (suc i) event ≡ is_submit event
own_submits i (Submit core op) e = ap (λ (n : ℕ). n == suc i) e ∙ eq_self (suc i)
own_submits i event e = refl

others_submit : (i : ℕ) (event : Event) → (core_of event ≡ suc i → ⊥) → submits_by (suc i) event ≡ false
others_submit i (Submit core op) ne = eq_other core (suc i) ne
others_submit i event ne = refl

count_first : {A : Type 0} (p : A → Bool) (x : A) (xs : List A) → count_by p (x ∷ xs) ≡ cond (p x) 1 0 + count_by p xs
count_first p x xs = omega (arith, sum_by-append (λ y. cond (p y) 1 0) (x ∷ []) xs)

pub begins_in : (i : ℕ) (xs : List Stamped) → begins_of (suc i) (as_listed xs) ≡ begun_for i (part 0 xs)
begins_in i [] = refl
begins_in i (x ∷ xs) = by_core (same_or_not (core_of x.done.event) 0) (begins_in i xs)
  where
    first : begins_of (suc i) (as_listed (x ∷ xs)) ≡ cond (begins_for (suc i) x.done.event) 1 0 + begins_of (suc i) (as_listed xs)
    first = omega (arith, count_first (λ (d : Done). begins_for (suc i) d.event) (listed x) (as_listed xs), ap {B = ℕ} (λ (b : Bool). cond b 1 0) (short_begins (suc i) x.done.event x.done.answer))

    by_core : ((core_of x.done.event ≡ 0) ⊎ (core_of x.done.event ≡ 0 → ⊥)) → begins_of (suc i) (as_listed xs) ≡ begun_for i (part 0 xs) → begins_of (suc i) (as_listed (x ∷ xs)) ≡ begun_for i (part 0 (x ∷ xs))
    by_core (inl e) rest = omega (arith, rest, first, count_first (λ (s : Stamped). begins_for (suc i) s.done.event) x (part 0 xs), ap (begun_for i) (part_own 0 x xs e))
    by_core (inr ne) rest = omega (arith, rest, first, ap {B = ℕ} (λ (b : Bool). cond b 1 0) (others_begin (suc i) x.done.event ne), ap (begun_for i) (part_other 0 x xs ne))

pub submits_in : (i : ℕ) (xs : List Stamped) → submits_of (suc i) (as_listed xs) ≡ submissions (part (suc i) xs)
submits_in i [] = refl
submits_in i (x ∷ xs) = by_core (same_or_not (core_of x.done.event) (suc i)) (submits_in i xs)
  where
    first : submits_of (suc i) (as_listed (x ∷ xs)) ≡ cond (submits_by (suc i) x.done.event) 1 0 + submits_of (suc i) (as_listed xs)
    first = omega (arith, count_first (λ (d : Done). submits_by (suc i) d.event) (listed x) (as_listed xs), ap {B = ℕ} (λ (b : Bool). cond b 1 0) (short_submits_by (suc i) x.done.event x.done.answer))

    by_core : ((core_of x.done.event ≡ suc i) ⊎ (core_of x.done.event ≡ suc i → ⊥)) → submits_of (suc i) (as_listed xs) ≡ submissions (part (suc i) xs) → submits_of (suc i) (as_listed (x ∷ xs)) ≡ submissions (part (suc i) (x ∷ xs))
    by_core (inl e) rest = omega (arith, rest, first, count_first (λ (s : Stamped). is_submit s.done.event) x (part (suc i) xs), ap {B = ℕ} (λ (b : Bool). cond b 1 0) (own_submits i x.done.event e), ap submissions (part_own (suc i) x xs e))
    by_core (inr ne) rest = omega (arith, rest, first, ap {B = ℕ} (λ (b : Bool). cond b 1 0) (others_submit i x.done.event ne), ap submissions (part_other (suc i) x xs ne))

-- Where core 0 began and decided the request

-- an event of core 0 in a list of all, in core 0's part
part_split : (xs front rest : List Stamped) (s : Stamped) → xs ≡ front ++ s ∷ rest → core_of s.done.event ≡ 0 → part 0 xs ≡ part 0 front ++ s ∷ part 0 rest
part_split xs front rest s e is = ap (part 0) e ∙ (part-append 0 front (s ∷ rest) ∙ ap (λ (ys : List Stamped). part 0 front ++ ys) (part_own 0 s rest is))

-- with what core 0 did later
with_later : (core0 xs front rest more : List Stamped) (s : Stamped) → xs ++ more ≡ core0 → xs ≡ front ++ s ∷ rest → core0 ≡ front ++ s ∷ (rest ++ more)
with_later core0 xs front rest more s e is = sym e ∙ (ap (λ (ys : List Stamped). ys ++ more) is ∙ append_assoc front (s ∷ rest) more)

record BegunIn0 (core0 : List Stamped) (i n : ℕ) (after : List Done) (answer : Answer) : Type 0 where
  earlier : List Stamped
  begins : Stamped
  rest : List Stamped
  later : List Stamped
  is_among : core0 ≡ earlier ++ begins ∷ (part 0 rest ++ later)
  for_core : begins.done.event ≡ StartFor (suc i)
  nth : begun_for i earlier ≡ n
  is_answer : begins.done.answer ≡ answer
  is_rest : as_listed rest ≡ after

begun_in_0 : (core0 events : List Stamped) (i : ℕ) (answer : Answer) → IsPrefix (part 0 events) core0 → (b : BegunAt (suc i) (as_listed events) answer) → BegunIn0 core0 i (begins_of (suc i) b.before) b.after answer
begun_in_0 core0 events i answer front b = record {
  earlier = part 0 f.front;
  begins = f.item;
  rest = f.rest;
  later = front.0;
  is_among = with_later core0 (part 0 events) (part 0 f.front) (part 0 f.rest) front.0 f.item front.1 (part_split events f.front f.rest f.item f.is_split core_0);
  for_core = is_event;
  nth = sym (begins_in i f.front) ∙ ap (begins_of (suc i)) f.is_front;
  is_answer = ap (λ (d : Done). d.answer) f.is_item;
  is_rest = f.is_rest;
}
  where
    f : Found listed events b.before (record { event = StartFor (suc i); answer = answer }) b.after
    f = found listed events b.before b.after (record { event = StartFor (suc i); answer = answer }) b.is_split

    is_event : f.item.done.event ≡ StartFor (suc i)
    is_event = short_start_for f.item.done.event f.item.done.answer (suc i) (ap (λ (d : Done). d.event) f.is_item)

    core_0 : core_of f.item.done.event ≡ 0
    core_0 = ap core_of is_event

voted_in_0 : (rest later : List Stamped) (txn : ℕ) (decision : Decision) (after : List Done) → as_listed rest ≡ after → VotedAfter txn after decision → DecidesLater (part 0 rest ++ later) txn decision
voted_in_0 rest later txn decision after e v = record {
  earlier = part 0 f.front;
  decides = f.item;
  rest = part 0 f.rest ++ later;
  is_among = with_later (part 0 rest ++ later) (part 0 rest) (part 0 f.front) (part 0 f.rest) later f.item refl (part_split rest f.front f.rest f.item f.is_split core_0);
  v = v.v;
  is_decided = ap (λ (d : Done). d.answer) f.is_item;
}
  where
    f : Found listed rest v.front (record { event = Take 0 v.from v.short; answer = TookVote txn v.v (Some decision) }) v.rest
    f = found listed rest v.front v.rest (record { event = Take 0 v.from v.short; answer = TookVote txn v.v (Some decision) }) (e ∙ v.is_split)

    core_0 : core_of f.item.done.event ≡ 0
    core_0 = sym (short_core f.item.done.event f.item.done.answer) ∙ ap (λ (d : Done). core_of d.event) f.is_item

-- the request's place among the core's requests, and what core 0 decided on it
record OneRequest (core0 : List Stamped) (i submitted : ℕ) (decision : Decision) : Type 0 where
  others : ℕ
  nth : submitted ≡ others + 1
  decided : DecidedFor core0 i others decision

one_request : (core0 events : List Stamped) (i submitted : ℕ) (decision : Decision) → IsPrefix (part 0 events) core0 → submitted ≡ begins_of (suc i) (as_listed events) → DecidedAt (suc i) (as_listed events) decision → OneRequest core0 i submitted decision
one_request core0 events i submitted decision front e (at_once b) =
    let x = begun_in_0 core0 events i (Decided decision) front b in
    record {
      others = begins_of (suc i) b.before;
      nth = omega (arith, e, b.nth);
      decided = record { earlier = x.earlier; begins = x.begins; rest = part 0 x.rest ++ x.later; is_among = x.is_among; for_core = x.for_core; nth = x.nth; decided = inl x.is_answer };
    }
one_request core0 events i submitted decision front e (by_votes txn b v) =
    let x = begun_in_0 core0 events i (Prepared txn) front b in
    record {
      others = begins_of (suc i) b.before;
      nth = omega (arith, e, b.nth);
      decided = record {
        earlier = x.earlier;
        begins = x.begins;
        rest = part 0 x.rest ++ x.later;
        is_among = x.is_among;
        for_core = x.for_core;
        nth = x.nth;
        decided = inr (txn, x.is_answer, voted_in_0 x.rest x.later txn decision b.after x.is_rest v);
      };
    }

-- Replies

entered_front : (limits : TableLimits) (log front : List Op) (op : Op) (d : Decision) → IsPrefix front log → IsEntered limits front op d → IsEntered limits log op d
entered_front limits log front op (Committed version id) f x =
    let le : x.0 ≤ length front = omega (arith, slice_get_within front x.0 op x.1.entry) in (
      x.0,
      record {
        entry = subst (λ (l : List Op). slice_get l x.0 ≡ Some op) f.1 (get_front front f.0 x.0 op x.1.entry);
        is_version = x.1.is_version;
        is_made = x.1.is_made ∙ ap (λ (s : TableState). made s op) (sym (ap (λ (l : List Op). table limits l x.0) (sym f.1) ∙ table_front limits front f.0 x.0 le));
      },
    )
entered_front limits log front op (Refused core why) f x = tt

replied_by : (i : ℕ) (events : List Done) (w w' : World) (event : Event) (d : Decision) (version : ℕ) → core_of event ≡ suc i → version_at w (suc i) ≡ Some version → Happens w event w' (TookReply d) → RepliesRightly events w event (TookReply d)
    → (op : Op) × (request_of (suc i) events ≡ settled op d) × IsEntered w.limits w.log op d × StandsAt version d
replied_by i events w w' (Take (suc j) zero short) d version is at h r =
    let r' = subst (λ (k : ℕ). (op : Op) × (request_of k events ≡ settled op d) × IsEntered w.limits w.log op d × ((v : ℕ) → version_at w k ≡ Some v → StandsAt v d)) is r in
    (r'.0, r'.1, r'.2, r'.3 version at)
replied_by i events w w' (Submit (suc j) op) d version is at h r = absurd (let e = h.here.is_answer in cc)
replied_by i events w w' (Rx j number packet floor) d version is at h r = absurd (let e = h.here.is_answer in cc)
replied_by i events w w' (Start op) d version is at h r = absurd (omega (arith, is))
replied_by i events w w' (StartFor core) d version is at h r = absurd (omega (arith, is))
replied_by i events w w' (Take zero from short) d version is at h r = absurd (omega (arith, is))
replied_by i events w w' event d version is at h r = absurd h

pub replied : (limits : TableLimits) (budget : ℕ) (budgets : List ℕ) (core0 : List Stamped) (others : List (List Stamped)) (end : Core0State) (ends : List OtherState) → Computation limits budget budgets core0 others end ends
    → (i : ℕ) (h before after : List Stamped) (s : Stamped) (d : Decision) → slice_get others i ≡ Some h → h ≡ before ++ s ∷ after → s.done.answer ≡ TookReply d → Replied core0 limits end.log i before d
replied limits budget budgets core0 others end ends c i h before after s d at e is_reply =
    let o = one_run limits budget budgets core0 others end ends c in
    let r = in_the_run limits budget budgets core0 others end ends o (suc i) h before after s c.cores at e in
    let x = replied_by i (as_listed r.earlier) r.world r.world' (listed s).event d (version_of (suc i) (unstamped before)) (short_core s.done.event s.done.answer ∙ r.is_core) r.version
    (subst (λ (a : Answer). Happens r.world (listed s).event r.world' a) is_reply r.happens) (subst (λ (a : Answer). RepliesRightly (as_listed r.earlier) r.world (listed s).event a) is_reply (run_replies limits budget budgets (as_listed r.earlier) r.world r.world' (listed s).event s.done.answer r.run r.happens)) in
    let known = run_known limits budget budgets (as_listed r.earlier) r.world r.run in
    let p = get_at r.world.peers i (omega (arith, known.cores, c.cores, slice_get_within others i h at)) in
    let t : Tracks (suc i) (as_listed r.earlier) (settled x.0 d) = subst (λ (q : Request). Tracks (suc i) (as_listed r.earlier) q) x.1 (run_tracks limits budget budgets (as_listed r.earlier) r.world r.run i p.0 p.1) in
    let q = one_request core0 r.earlier i (submissions before) d (r.fronts 0 core0 refl) (omega (arith, t.counted, submits_in i r.earlier, ap submissions r.own)) t.places in
    record {
      op = x.0;
      asked = sym (ap last_submitted r.own) ∙ (sym (r.tells.requests i) ∙ ap requested x.1);
      others = q.others;
      nth = q.nth;
      decided = q.decided;
      entered = entered_front limits end.log r.world.log x.0 d r.log_front (subst (λ (m : TableLimits). IsEntered m r.world.log x.0 d) known.limits_is x.2);
      stands = x.3;
    }
