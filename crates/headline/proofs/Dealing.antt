-- What each event of a run does to the accounts of the cores.
use Rattle.std.proofs.Common.{◌≡◌, ◌≢◌, ◌==◌, ◌+◌, ◌<◌, ◌≤◌, ◌++◌, ◌∷◌, ◌⊎◌, inl, inr, ℕ, zero, suc, Bool, true, false, cond, Option, Some, None, List, [], length, slice_get, slice_set, refl, ap, sym, ◌∙◌, subst, arith, append_assoc, length-append, replicate}
use Rattle.std.specs.Prelude.{is_none, option_map}
use Rattle.std.proofs.lemmas.List.{append-nil}
use Rattle.std.proofs.lemmas.Bool.{cases_lt}
use Rattle.std.proofs.lemmas.Option.{slice_get_within}
use Rattle.filter_table.specs.Limits.{TableLimits}
use Rattle.filter_table.specs.declared.operation.Op.{Op}
use Rattle.filter_table.specs.declared.operation.Made.{Made}
use Rattle.filter_table.specs.declared.operation.StageFault.TheVariants as fault
use Rattle.filter_table.specs.Tables.{TableState, table, made, Allowed}
use Rattle.filter_table.specs.declared.decision.Decision.{Decision}
use Rattle.filter_table.specs.declared.decision.Decision.TheVariants.{Committed, Refused}
use Rattle.filter_table.specs.declared.decision.Vote.{Vote}
use Rattle.filter_table.specs.declared.decision.Vote.TheVariants as vote
use Rattle.filter_table.specs.declared.decision.Veto.{Veto}
use Rattle.filter_table.specs.declared.decision.Veto.TheVariants as veto
use Rattle.filter_table.proofs.Positions.{get_at}
use Rattle.filter_table.proofs.Tables.{table_front, table_version}
use Rattle.monitor_messages.specs.declared.message.Message.{Message}
use Rattle.monitor_messages.specs.declared.message.Message.TheVariants as message
use Rattle.two_phase.specs.declared.step.Step.{Step}
use Rattle.two_phase.specs.Participants.{Casts}
use Rattle.two_phase.specs.Coordinators.{CoordinatorPlace, Requests, Phase, Idle, Voting, Acking, LeastNo, veto_by, veto_of, asker_after, Starts, refused, unstaged, alone, prepared, Tallies, waits, commits_all, aborts_all, phase_with, requests_at}
use Rattle.world_events.specs.declared.event.Event.{Event}
use Rattle.world_events.specs.declared.event.Event.TheVariants.{Start, Submit, StartFor, Take, Rx}
use Rattle.world_events.specs.declared.event.Answer.{Answer}
use Rattle.world_events.specs.declared.event.Answer.TheVariants.{Prepared, Decided, Submitted, TookPrepare, TookVote, TookCommit, TookAbort, TookAck, TookSubmit, TookReply, Delivered}
use Rattle.world_events.specs.declared.event.Done.{Done}
use Rattle.world_model.specs.Cases.{Outgoing, outgoing, start_told, joined, VoteAt, TakesUpAt, TakesDownAt, Took}
use Rattle.world_model.specs.Worlds.{Peer, World, newest, version_at, send, sent_out, core0_moves, HappensStart, HappensStartFor, HappensSubmit, HappensUp, HappensDown, Happens, Run}
use Rattle.world_model.specs.Committed.{log_of}
use Rattle.world_model.specs.Readings.{Request, unsent, sent, numbered, settled, begun, decided_on, followed, request_of, version_of}
use Rattle.world_model.specs.Agreement.{commitments}
use Rattle.world_model.specs.Decisions.{HasReason, IsEntryAt}
use Rattle.world_model.proofs.Lists.{get-set_same, get-set_other, length-slice_set, same_or_not, beyond}
use Rattle.world_model.proofs.Invariant.{Pair, at_rest, asked, voted, counted, to_commit, to_abort, acked, finished, Inv}
use Rattle.world_model.proofs.Steps.{on_vote, Polled, polled, voting_on}
use Rattle.world_model.proofs.Submissions.{Stage, free, submitted, waiting, served, replied, Served, Inv2, Desk, asks, follows_start, follows_other, follows_begun, began, follows_submit, follows_no_submit, took_follows, taken, eq_self, eq_other}
use Rattle.world_model.proofs.Moves.{Matches, matches_self, matches_set, matches_sent, log_joined}
use Rattle.world_model.proofs.Agreement.{pair_version}
use Rattle.world_model.proofs.Known.{Known, was}
use Rattle.world_model.proofs.Followed.{waits_sent, request_after-append, next_entry}
use Rattle.std.specs.List.{list_all}
use Rattle.pcap_reader.specs.declared.capture.CapturedPacket.{CapturedPacket}
use Rattle.filter_table.specs.declared.delivery.Kept.{Kept}
use Rattle.world_histories.specs.Answers.{requested}
use Rattle.world_histories.proofs.Tells.{decided_same}
use Rattle.world_histories.specs.Merging.{core_of}
use Rattle.core_loop.specs.Answering.{own_decision, is_own}
use Rattle.headline.specs.Decided.{decided_in}
use Rattle.headline.specs.Headline.{begun_by, begun_in}
use Rattle.headline.specs.Judged.{IsVeto, IsRefused, IsSince, IsDecisionOn}
use Rattle.headline.proofs.Accounts.{Account, Moves, stays, begins, settles, tells, decides, at_once, IsRightOf, Balanced, IsNew, one}
use Rattle.headline.proofs.Sources.{Deals, IsNext, source_of}
use Rattle.headline.proofs.Growth.{own_at, added, decided_more, begun_more, own_more, own_other, since_more, since_now}

-- The accounts of the cores of a world

abbrev pub out_of : Option Peer → Bool
out_of None = false
out_of (Some p) = p.outstanding

abbrev pub outs : List Peer → ℕ → Bool
outs peers i = out_of (slice_get peers i)

abbrev pub settled_in : Request → Option Decision
settled_in (settled op d) = Some d
settled_in r = None

-- core 0's own request, while votes on it are awaited
abbrev pub own_under : Phase → Option ℕ → Option Op → Option Op
own_under (Voting votes) None staged = staged
own_under phase asker staged = None

abbrev pub under_at : World → (ℕ → Request) → ℕ → Option Op
under_at w r zero = own_under w.place.phase w.requests.asker w.place.staged
under_at w r (suc i) = cond (outs w.peers i) (requested (r i)) None

abbrev pub settled_at : World → (ℕ → Request) → ℕ → Option Decision
settled_at w r zero = None
settled_at w r (suc i) = cond (outs w.peers i) (settled_in (r i)) None

abbrev pub account : List Done → World → ℕ → Account
account events w core = record {
  begun = begun_in core events;
  decided = decided_in core events;
  under_way = under_at w (λ j. request_of (suc j) events) core;
  settled = settled_at w (λ j. request_of (suc j) events) core;
}

-- whose request is under way
pub record Owns (events : List Done) (w : World) : Type 0 where
  pub own : (votes : List (Option Vote)) → w.place.phase ≡ Voting votes → own_at 0 events ≡ is_none w.requests.asker
  pub asks_for : (core : ℕ) → w.requests.asker ≡ Some core → (j : ℕ) × (core ≡ suc j) × (j < length w.peers)

abbrev parts : List Op → List Decision → Option Op → Option Decision → Account
parts B D U S = record { begun = B; decided = D; under_way = U; settled = S }

account_is : (B B' : List Op) (D D' : List Decision) (U U' : Option Op) (S S' : Option Decision) → B ≡ B' → D ≡ D' → U ≡ U' → S ≡ S' → parts B D U S ≡ parts B' D' U' S'
account_is B B' D D' U U' S S' eb ed eu es = rw (eb, ed, eu, es) refl

-- Which requests are outstanding

abbrev Same : ℕ → Peer → Peer → Type 0
Same i p q = q.outstanding ≡ p.outstanding

outs_matched : (old new : List Peer) → Matches Same old new → (j : ℕ) → outs new j ≡ outs old j
outs_matched old new m j = elim (cases_lt j (length old)) [
  | inl within ↦ (let p = get_at old j within in let q = get_at new j (omega (arith, within, m.long)) in
      ap out_of q.1 ∙ (m.each j p.0 q.0 p.1 q.1 ∙ sym (ap out_of p.1)))
  | inr le ↦ ap out_of (beyond new j (omega (arith, le, m.long))) ∙ sym (ap out_of (beyond old j le))
]

same_sent : (old new : List Peer) (out : Outgoing) → Matches Same old new → Matches Same old (sent_out new out)
same_sent old new out m = matches_sent Same old new out (λ i p q m e. e) m

outs_set_same : (ps : List Peer) (i : ℕ) (p q : Peer) → slice_get ps i ≡ Some p → outs (slice_set ps i q) i ≡ q.outstanding
outs_set_same ps i p q at = ap out_of (get-set_same ps i q p at)

outs_set_other : (ps : List Peer) (i j : ℕ) (q : Peer) → (i ≡ j → ⊥) → outs (slice_set ps i q) j ≡ outs ps j
outs_set_other ps i j q ne = ap out_of (get-set_other ps i j q ne)

-- What an event adds

begun_other : (core : ℕ) (e : Event) → (core_of e ≡ core → ⊥) → begun_by core e ≡ []
begun_other core (Start op) ne = ap (λ (b : Bool). cond b (op ∷ []) []) (eq_other 0 core ne)
begun_other core (Submit from op) ne = ap (λ (b : Bool). cond b (op ∷ []) []) (eq_other from core ne)
begun_other core (StartFor from) ne = refl
begun_other core (Take to from short) ne = refl
begun_other core (Rx to number packet floor) ne = refl

added_other : (core : ℕ) (events : List Done) (d : Done) → (core_of d.event ≡ core → ⊥) → added core events d ≡ []
added_other core events d ne = ap (λ (b : Bool). cond b (own_decision (own_at core events) d.event d.answer) []) (eq_other (core_of d.event) core ne)

added_own : (core : ℕ) (events : List Done) (d : Done) → core_of d.event ≡ core → added core events d ≡ own_decision (own_at core events) d.event d.answer
added_own core events d own = ap (λ (b : Bool). cond b (own_decision (own_at core events) d.event d.answer) []) (ap (λ (n : ℕ). n == core) own ∙ eq_self core)

-- an answer that decides nothing of one's own
abbrev IsQuiet : Answer → Type 0
IsQuiet (Decided d) = ⊥
IsQuiet (TookVote txn v (Some d)) = ⊥
IsQuiet (TookReply d) = ⊥
IsQuiet answer = Unit {0}

quiet : (own : Bool) (event : Event) (answer : Answer) → IsQuiet answer → own_decision own event answer ≡ []
quiet own event (Decided d) q = absurd q
quiet own event (TookReply d) q = absurd q
quiet true event (TookVote txn v (Some d)) q = absurd q
quiet false event (TookVote txn v (Some d)) q = absurd q
quiet true event (TookVote txn v None) q = refl
quiet false event (TookVote txn v None) q = refl
quiet true event (Prepared txn) q = refl
quiet false event (Prepared txn) q = refl
quiet true event Submitted q = refl
quiet false event Submitted q = refl
quiet true event (TookPrepare txn v) q = refl
quiet false event (TookPrepare txn v) q = refl
quiet true event (TookCommit txn version) q = refl
quiet false event (TookCommit txn version) q = refl
quiet true event (TookAbort txn version) q = refl
quiet false event (TookAbort txn version) q = refl
quiet true event (TookAck txn) q = refl
quiet false event (TookAck txn) q = refl
quiet true event TookSubmit q = refl
quiet false event TookSubmit q = refl
quiet true event (Delivered version kept) q = refl
quiet false event (Delivered version kept) q = refl

-- a start for another core decides nothing of core 0's own
starts_none : (own : Bool) (core : ℕ) (d : Decision) → own_decision own (StartFor core) (Decided d) ≡ []
starts_none true core d = refl
starts_none false core d = refl

starts_own : (own : Bool) (op : Op) (d : Decision) → own_decision own (Start op) (Decided d) ≡ d ∷ []
starts_own true op d = refl
starts_own false op d = refl

-- a core that takes the decision of its own has it
tells_own : (own : Bool) (event : Event) (d : Decision) → own_decision own event (TookReply d) ≡ d ∷ []
tells_own true event d = refl
tells_own false event d = refl

-- What is known before the event
pub record Facts (limits : TableLimits) (budget : ℕ) (budgets : List ℕ) (events : List Done) (w : World) : Type 0 where
  pub inv : Inv w
  pub inv2 : Inv2 w (λ j. request_of (suc j) events)
  pub known : Known limits budget budgets events w
  pub owns : Owns events w
  pub balanced : (core : ℕ) → Balanced (IsDecisionOn limits (budget ∷ budgets) events) core (account events w core)

module _ (limits : TableLimits) (budget : ℕ) (budgets : List ℕ) (events : List Done) (w w' : World) (event : Event) (answer : Answer) (f : Facts limits budget budgets events w)
    (log' : log_of (events ++ record { event = event; answer = answer } ∷ []) ≡ w'.log) (limits' : w'.limits ≡ limits) where
  abbrev d : Done
  d = record { event = event; answer = answer }

  abbrev events' : List Done
  events' = events ++ d ∷ []

  abbrev right' : IsRightOf
  right' = IsDecisionOn limits (budget ∷ budgets) events'

  pub record Deal : Type 0 where
    pub deals : Deals (account events w) (account events' w')
    pub next : IsNext (length w.log) deals.news
    pub new : IsNew right' deals.who (account events w deals.who) deals.news
    pub logged : length w'.log ≡ length w.log + length (source_of deals.who (length (account events w deals.who).decided) deals.news)
    pub owns : Owns events' w'

  request_is : (j : ℕ) → request_of (suc j) events' ≡ followed (suc j) (request_of (suc j) events) event answer
  request_is j = request_after-append (suc j) unsent events d

  begun_is : (core : ℕ) (ops : List Op) → begun_by core event ≡ ops → begun_in core events' ≡ begun_in core events ++ ops
  begun_is core ops b = begun_more core events d ∙ ap (λ (x : List Op). begun_in core events ++ x) b

  begun_kept : (core : ℕ) → begun_by core event ≡ [] → begun_in core events' ≡ begun_in core events
  begun_kept core b = begun_is core [] b ∙ append-nil (begun_in core events)

  decided_is : (core : ℕ) (ds : List Decision) → added core events d ≡ ds → decided_in core events' ≡ decided_in core events ++ ds
  decided_is core ds a = decided_more core events d ∙ ap (λ (x : List Decision). decided_in core events ++ x) a

  decided_kept : (core : ℕ) → added core events d ≡ [] → decided_in core events' ≡ decided_in core events
  decided_kept core a = decided_is core [] a ∙ append-nil (decided_in core events)

  -- the account after the event, by its parts
  account_to : (core : ℕ) (B : List Op) (D : List Decision) (U : Option Op) (S : Option Decision) → begun_in core events' ≡ B → decided_in core events' ≡ D → under_at w' (λ j. request_of (suc j) events') core ≡ U
      → settled_at w' (λ j. request_of (suc j) events') core ≡ S → account events' w' core ≡ parts B D U S
  account_to core B D U S eb ed eu es = account_is (begun_in core events') B (decided_in core events') D (under_at w' (λ j. request_of (suc j) events') core) U (settled_at w' (λ j. request_of (suc j) events') core) S eb ed eu es

  -- an account that stays as it is
  staying : (core : ℕ) → begun_by core event ≡ [] → added core events d ≡ [] → under_at w' (λ j. request_of (suc j) events') core ≡ under_at w (λ j. request_of (suc j) events) core
      → settled_at w' (λ j. request_of (suc j) events') core ≡ settled_at w (λ j. request_of (suc j) events) core → Moves (account events w core) (account events' w' core) None
  staying core b a under told = stays (account_to core (begun_in core events) (decided_in core events) (under_at w (λ j. request_of (suc j) events) core) (settled_at w (λ j. request_of (suc j) events) core) (begun_kept core b) (decided_kept core a) under told)

  staying_peer : (j : ℕ) → begun_by (suc j) event ≡ [] → added (suc j) events d ≡ [] → outs w'.peers j ≡ outs w.peers j → followed (suc j) (request_of (suc j) events) event answer ≡ request_of (suc j) events
      → Moves (account events w (suc j)) (account events' w' (suc j)) None
  staying_peer j b a out same =
      let r : request_of (suc j) events' ≡ request_of (suc j) events = request_is j ∙ same in
      staying (suc j) b a (ap (λ (x : Bool). cond x (requested (request_of (suc j) events')) None) out ∙ ap (λ (x : Request). cond (outs w.peers j) (requested x) None) r)
      (ap (λ (x : Bool). cond x (settled_in (request_of (suc j) events')) None) out ∙ ap (λ (x : Request). cond (outs w.peers j) (settled_in x) None) r)

  -- another core's account, where the event is core 0's
  staying_other : (j : ℕ) → core_of event ≡ 0 → outs w'.peers j ≡ outs w.peers j → followed (suc j) (request_of (suc j) events) event answer ≡ request_of (suc j) events
      → Moves (account events w (suc j)) (account events' w' (suc j)) None
  staying_other j own out same =
      let other : core_of event ≡ suc j → ⊥ = λ e. (let x : 0 ≡ suc j = sym own ∙ e in cc) in
      staying_peer j (begun_other (suc j) event other) (added_other (suc j) events d other) out same

  -- Decisions that are right

  version_0 : version_of 0 events ≤ length w.log
  version_0 = omega (arith, f.known.version0, f.inv.version)

  version_peer : (j : ℕ) → j < length w.peers → version_of (suc j) events ≤ length w.log
  version_peer j within =
      let p = get_at w.peers j within in
      let is = f.known.versions j p.0 p.1 in
      le is (pair_version w.limits w.log w.place j p.0 (f.inv.pairs j p.0 p.1))
    where
      le : {v : ℕ} → v ≡ version_of (suc j) events → ((v ≡ length w.log) ⊎ (v + 1 ≡ length w.log)) → version_of (suc j) events ≤ length w.log
      le is (inl e) = omega (arith, is, e)
      le is (inr e) = omega (arith, is, e)

  newest_is : (more : List Op) → w'.log ≡ w.log ++ more → table limits (log_of events') (length w.log) ≡ newest w
  newest_is more l =
      ap (λ (x : List Op). table limits x (length w.log)) (log' ∙ l) ∙ (table_front limits w.log more (length w.log) (omega arith) ∙ ap (λ (m : TableLimits). table m w.log (length w.log)) (sym f.known.limits_is))

  refused_right : (core n by : ℕ) (op : Op) (why : Veto) → w'.log ≡ w.log → n < length (begun_in core events') → version_of core events ≤ length w.log → IsRefused (budget ∷ budgets) (newest w) op by why → right' core n op (Refused by why)
  refused_right core n by op why same begun le is = (
    length w.log,
    omega (arith, ap length log', ap length same),
    since_more events d core n (length w.log) begun (since_now events core n (length w.log) le),
    subst (λ (s : TableState). IsRefused (budget ∷ budgets) s op by why) (sym (newest_is [] (same ∙ sym (append-nil w.log)))) is,
  )

  committed_right : (core n : ℕ) (op : Op) → w'.log ≡ w.log ++ op ∷ [] → right' core n op (Committed ((newest w).version + 1) (made (newest w) op))
  committed_right core n op next = (
    length w.log,
    subst (λ (l : List Op). IsEntryAt limits l (length w.log) op ((newest w).version + 1) (made (newest w) op)) (sym log')
        (subst (λ (m : TableLimits). IsEntryAt m w'.log (length w.log) op ((newest w).version + 1) (made (newest w) op)) f.known.limits_is (next_entry w.limits w.log w'.log op ((newest w).version + 1) next refl)),
  )

  newest_version : (newest w).version + 1 ≡ length w.log + 1
  newest_version = omega (arith, table_version w.limits w.log)

  -- a request under way is among those begun
  under_begun : (core : ℕ) (op : Op) → under_at w (λ j. request_of (suc j) events) core ≡ Some op → length (decided_in core events) < length (begun_in core events')
  under_begun core op under =
      let c = (f.balanced core).counted in
      omega (arith, c, ap one under, ap length (begun_more core events d), length-append (begun_in core events) (begun_by core event))

  -- Core 0 starts a request of its own

  module _ (op : Op) (e : event ≡ Start op) (h : HappensStart w op w' answer) where
    start_outs : (j : ℕ) → outs w'.peers j ≡ outs w.peers j
    start_outs j = ap (λ (x : World). outs x.peers j) h.next ∙ outs_matched w.peers (sent_out w.peers (outgoing h.told h.place)) (same_sent w.peers w.peers (outgoing h.told h.place) (matches_self Same w.peers (λ i p. refl))) j

    start_long : length w'.peers ≡ length w.peers
    start_long = ap (λ (x : World). length x.peers) h.next ∙ (same_sent w.peers w.peers (outgoing h.told h.place) (matches_self Same w.peers (λ i p. refl))).long

    start_others : (core : ℕ) → (0 ≡ core → ⊥) → Moves (account events w core) (account events' w' core) None
    start_others zero ne = absurd (ne refl)
    start_others (suc j) ne = staying_other j (ap core_of e) (start_outs j)
        (ap (λ (x : Event). followed (suc j) (request_of (suc j) events) x answer) e ∙ (ap (followed (suc j) (request_of (suc j) events) (Start op)) h.here.is_answer ∙ follows_start (suc j) (request_of (suc j) events) op h.told.txn h.told.decided))

    start_place : w'.place ≡ h.place
    start_place = ap (λ (x : World). x.place) h.next

    start_requests : w'.requests ≡ w.requests
    start_requests = ap (λ (x : World). x.requests) h.next

    start_log : w'.log ≡ joined w.log h.committed
    start_log = ap (λ (x : World). x.log) h.next

    idle : w.place.phase ≡ Idle
    idle = h.here.can_start.0

    none_under : under_at w (λ j. request_of (suc j) events) 0 ≡ None
    none_under = ap (λ (ph : Phase). own_under ph w.requests.asker w.place.staged) idle

    none_asks : w.requests.asker ≡ None
    none_asks = (subst (λ (ph : Phase). Desk (length w.log) ph w.requests) idle f.inv2.desk).0

    start_begun : begun_by 0 event ≡ op ∷ []
    start_begun = ap (begun_by 0) e

    start_among : length (decided_in 0 events) < length (begun_in 0 events')
    start_among = omega (arith, (f.balanced 0).counted, ap one none_under, ap length (begun_is 0 (op ∷ []) start_begun), length-append (begun_in 0 events) (op ∷ []))

    start_added : (dec : Decision) → answer ≡ Decided dec → added 0 events d ≡ dec ∷ []
    start_added dec is = added_own 0 events d (ap core_of e)
        ∙ (ap (λ (x : Event). own_decision (own_at 0 events) x answer) e ∙ (ap (own_decision (own_at 0 events) (Start op)) is ∙ starts_own (own_at 0 events) op dec))

    start_owns : w'.place.phase ≡ Idle → Owns events' w'
    start_owns ph = record {
      own = λ votes voting. absurd (let x : Idle ≡ Voting votes = sym ph ∙ voting in cc);
      asks_for = λ core asker. absurd (let x : None ≡ Some core = sym none_asks ∙ (sym (ap (λ (r : Requests). r.asker) start_requests) ∙ asker) in cc);
    }

    decided_0 : (dec : Decision) → answer ≡ Decided dec → w'.place.phase ≡ Idle → Moves (account events w 0) (account events' w' 0) (Some (op, dec))
    decided_0 dec is ph = at_once op dec none_under refl
        (account_to 0 (begun_in 0 events ++ op ∷ []) (decided_in 0 events ++ dec ∷ []) None None (begun_is 0 (op ∷ []) start_begun) (decided_is 0 (dec ∷ []) (start_added dec is)) (ap (λ (x : Phase). own_under x w'.requests.asker w'.place.staged) ph) refl)

    refuses_0 : (why : Veto) → HasReason (newest w) w.budget op why → answer ≡ Decided (Refused 0 why) → h.place ≡ w.place → h.committed ≡ None → Deal
    refuses_0 why reason is p c =
        let ph : w'.place.phase ≡ Idle = ap (λ (x : CoordinatorPlace). x.phase) (start_place ∙ p) ∙ idle in
        let same : w'.log ≡ w.log = start_log ∙ ap (joined w.log) c in
        record {
          deals = record { who = 0; news = Some (op, Refused 0 why); moved = decided_0 (Refused 0 why) is ph; others = start_others };
          next = tt;
          new = refused_right 0 (length (decided_in 0 events)) 0 op why same start_among version_0 (budget, refl, subst (λ (b : ℕ). HasReason (newest w) b op why) f.known.budget_is reason);
          logged = omega (arith, ap length same);
          owns = start_owns ph;
        }

    start_deals : Deal
    start_deals = by_case h.here.starts
      where
        is : (told : Step) → h.told ≡ told → answer ≡ start_told told.txn told.decided
        is told t = h.here.is_answer ∙ ap (λ (s : Step). start_told s.txn s.decided) t

        by_case : Starts (length w.peers) (newest w) w.budget w.place op h.place h.committed h.told → Deal
        by_case (refused fault al p c t) = refuses_0 (veto_of fault) (inr (fault, al, refl)) (is _ t) p c
        by_case (unstaged asks p c t) = refuses_0 veto.NoMemory (inl (refl, asks)) (is _ t) p c
        by_case (alone al n p c t) =
            let ph : w'.place.phase ≡ Idle = ap (λ (x : CoordinatorPlace). x.phase) (start_place ∙ p) in
            let next : w'.log ≡ w.log ++ op ∷ [] = start_log ∙ ap (joined w.log) c in
            let dec : Decision = Committed ((newest w).version + 1) (made (newest w) op) in
            record {
              deals = record { who = 0; news = Some (op, dec); moved = decided_0 dec (is _ t) ph; others = start_others };
              next = newest_version;
              new = committed_right 0 (length (decided_in 0 events)) op next;
              logged = omega (arith, ap length next, length-append w.log (op ∷ []));
              owns = start_owns ph;
            }
        by_case (prepared al n p c t) =
            let place : w'.place ≡ _ = start_place ∙ p in
            let asker : w'.requests.asker ≡ None = ap (λ (r : Requests). r.asker) start_requests ∙ none_asks in
            let same : w'.log ≡ w.log = start_log ∙ ap (joined w.log) c in
            let under : under_at w' (λ j. request_of (suc j) events') 0 ≡ Some op = ap (λ (x : CoordinatorPlace). own_under x.phase w'.requests.asker x.staged) place ∙ ap (λ (a : Option ℕ). own_under (Voting (replicate (length w.peers) None)) a (Some op)) asker in
            let none_added : added 0 events d ≡ [] = added_own 0 events d (ap core_of e) ∙ (ap (own_decision (own_at 0 events) event) (is _ t) ∙ quiet (own_at 0 events) event (Prepared (w.place.last + 1)) tt) in
            record {
              deals = record {
                who = 0;
                news = None;
                moved = begins op none_under (account_to 0 (begun_in 0 events ++ op ∷ []) (decided_in 0 events) (Some op) None (begun_is 0 (op ∷ []) start_begun) (decided_kept 0 none_added) under refl);
                others = start_others;
              };
              next = tt;
              new = tt;
              logged = omega (arith, ap length same);
              owns = record {
                own = λ votes ph. own_more 0 events d (ap core_of e) ∙ (ap (is_own (own_at 0 events)) e ∙ sym (ap is_none asker));
                asks_for = λ core asks. absurd (let x : None ≡ Some core = sym asker ∙ asks in cc);
              };
            }

  -- Core 0 starts a request of another core

  module _ (i : ℕ) (e : event ≡ StartFor (suc i)) (h : HappensStartFor w i w' answer) where
    abbrev asked_op : Op
    asked_op = h.here.starts.op

    for_outs : (j : ℕ) → outs w'.peers j ≡ outs w.peers j
    for_outs j = ap (λ (x : World). outs x.peers j) h.next ∙ outs_matched w.peers (sent_out w.peers (outgoing h.told h.place)) (same_sent w.peers w.peers (outgoing h.told h.place) (matches_self Same w.peers (λ i p. refl))) j

    for_long : length w'.peers ≡ length w.peers
    for_long = ap (λ (x : World). length x.peers) h.next ∙ (same_sent w.peers w.peers (outgoing h.told h.place) (matches_self Same w.peers (λ i p. refl))).long

    for_within : i < length w.peers
    for_within = omega (arith, slice_get_within w.requests.waiting i (Some asked_op) h.here.starts.is_waiting, f.known.waiting_long, f.known.cores)

    is_sent : request_of (suc i) events ≡ sent asked_op
    is_sent = waits_sent w (λ j. request_of (suc j) events) i asked_op f.inv2 (f.known.waiting_long ∙ sym f.known.cores) h.here.starts.is_waiting

    is_out : outs w.peers i ≡ true
    is_out =
        let p = get_at w.peers i for_within in
        ap out_of p.1 ∙ (asks w.place w.requests i p.0 (request_of (suc i) events) asked_op h.here.starts.is_waiting (f.inv2.stages i p.0 p.1)).outstanding

    for_under : under_at w (λ j. request_of (suc j) events) (suc i) ≡ Some asked_op
    for_under = ap (λ (b : Bool). cond b (requested (request_of (suc i) events)) None) is_out ∙ ap requested is_sent

    for_settled : settled_at w (λ j. request_of (suc j) events) (suc i) ≡ None
    for_settled = ap (λ (b : Bool). cond b (settled_in (request_of (suc i) events)) None) is_out ∙ ap settled_in is_sent

    for_request : (x : Answer) → answer ≡ x → request_of (suc i) events' ≡ begun (sent asked_op) x
    for_request x is = request_is i ∙ (ap (λ (y : Event). followed (suc i) (request_of (suc i) events) y answer) e ∙ (follows_begun i (request_of (suc i) events) answer ∙ began (request_of (suc i) events) answer asked_op x is_sent is))

    -- the account of the core that asked, by what its request is now
    for_now : {A : Type 0} (of : Request → Option A) (r : Request) → request_of (suc i) events' ≡ r → cond (outs w'.peers i) (of (request_of (suc i) events')) None ≡ of r
    for_now of r is = ap (λ (b : Bool). cond b (of (request_of (suc i) events')) None) (for_outs i ∙ is_out) ∙ ap of is

    for_begun : begun_by (suc i) event ≡ []
    for_begun = ap (begun_by (suc i)) e

    for_added : added (suc i) events d ≡ []
    for_added = added_other (suc i) events d (λ own. (let x : 0 ≡ suc i = sym (ap core_of e) ∙ own in cc))

    for_others : (x : Answer) → answer ≡ x → own_decision (own_at 0 events) (StartFor (suc i)) x ≡ [] → own_under w'.place.phase w'.requests.asker w'.place.staged ≡ None → (core : ℕ) → (suc i ≡ core → ⊥) → Moves (account events w core) (account events' w' core) None
    for_others x is none under zero ne = staying 0 (ap (begun_by 0) e)
        (added_own 0 events d (ap core_of e) ∙ (ap (λ (y : Event). own_decision (own_at 0 events) y answer) e ∙ (ap (own_decision (own_at 0 events) (StartFor (suc i))) is ∙ none)))
        (under ∙ sym (ap (λ (ph : Phase). own_under ph w.requests.asker w.place.staged) h.here.can_start.0)) refl
    for_others x is none under (suc j) ne = staying_other j (ap core_of e) (for_outs j)
        (ap (λ (y : Event). followed (suc j) (request_of (suc j) events) y answer) e ∙ follows_other i j (request_of (suc j) events) answer (λ same. ne (ap suc same)))

    for_place : w'.place ≡ h.place
    for_place = ap (λ (x : World). x.place) h.next

    for_log : w'.log ≡ joined w.log h.committed
    for_log = ap (λ (x : World). x.log) h.next

    for_asker : (told : Step) → h.here.starts.begun ≡ told → w'.requests.asker ≡ asker_after (suc i) told.decided
    for_asker told t = ap (λ (x : World). x.requests.asker) h.next ∙ (ap (λ (r : Requests). r.asker) h.here.starts.next ∙ ap (λ (s : Step). asker_after (suc i) s.decided) t)

    refuses_for : (told : Step) (why : Veto) → HasReason (newest w) w.budget asked_op why → answer ≡ Decided (Refused 0 why) → h.place ≡ w.place → h.committed ≡ None → h.here.starts.begun ≡ told → told.decided ≡ Some (Refused 0 why) → Deal
    refuses_for told why reason is p c t dec =
        let ph : w'.place.phase ≡ Idle = ap (λ (x : CoordinatorPlace). x.phase) (for_place ∙ p) ∙ h.here.can_start.0 in
        let same : w'.log ≡ w.log = for_log ∙ ap (joined w.log) c in
        let request = for_request (Decided (Refused 0 why)) is in
        let asker : w'.requests.asker ≡ None = for_asker told t ∙ ap (asker_after (suc i)) dec in
        record {
          deals = record {
            who = suc i;
            news = Some (asked_op, Refused 0 why);
            moved = settles asked_op (Refused 0 why) for_under for_settled
                (account_to (suc i) (begun_in (suc i) events) (decided_in (suc i) events) (under_at w (λ j. request_of (suc j) events) (suc i)) (Some (Refused 0 why)) (begun_kept (suc i) for_begun) (decided_kept (suc i) for_added)
                (for_now requested (settled asked_op (Refused 0 why)) request ∙ sym for_under) (for_now settled_in (settled asked_op (Refused 0 why)) request));
            others = for_others (Decided (Refused 0 why)) is (starts_none (own_at 0 events) (suc i) (Refused 0 why)) (ap (λ (x : Phase). own_under x w'.requests.asker w'.place.staged) ph);
          };
          next = tt;
          new = refused_right (suc i) (length (decided_in (suc i) events)) 0 asked_op why same (under_begun (suc i) asked_op for_under) (version_peer i for_within) (budget, refl, subst (λ (b : ℕ). HasReason (newest w) b asked_op why) f.known.budget_is reason);
          logged = omega (arith, ap length same);
          owns = record {
            own = λ votes voting. absurd (let x : Idle ≡ Voting votes = sym ph ∙ voting in cc);
            asks_for = λ core asks. absurd (let x : None ≡ Some core = sym asker ∙ asks in cc);
          };
        }

    for_deals : Deal
    for_deals = by_case h.here.starts.starts
      where
        is : (told : Step) → h.here.starts.begun ≡ told → answer ≡ start_told told.txn told.decided
        is told t = h.here.is_answer ∙ (ap (λ (s : Step). start_told s.txn s.decided) h.here.starts.tells ∙ ap (λ (s : Step). start_told s.txn s.decided) t)

        by_case : Starts (length w.peers) (newest w) w.budget w.place asked_op h.place h.committed h.here.starts.begun → Deal
        by_case (refused fault al p c t) = refuses_for _ (veto_of fault) (inr (fault, al, refl)) (is _ t) p c t refl
        by_case (unstaged asks p c t) = refuses_for _ veto.NoMemory (inl (refl, asks)) (is _ t) p c t refl
        by_case (alone al n p c t) = absurd (omega (arith, n, for_within))
        by_case (prepared al n p c t) =
            let request = for_request (Prepared (w.place.last + 1)) (is _ t) in
            let asker : w'.requests.asker ≡ Some (suc i) = for_asker _ t in
            let same : w'.log ≡ w.log = for_log ∙ ap (joined w.log) c in
            let under : own_under w'.place.phase w'.requests.asker w'.place.staged ≡ None = ap (λ (x : CoordinatorPlace). own_under x.phase w'.requests.asker x.staged) (for_place ∙ p) ∙ ap (λ (a : Option ℕ). own_under (Voting (replicate (length w.peers) None)) a (Some asked_op)) asker in
            record {
              deals = record {
                who = suc i;
                news = None;
                moved = staying (suc i) for_begun for_added (for_now requested (numbered asked_op (w.place.last + 1)) request ∙ sym for_under) (for_now settled_in (numbered asked_op (w.place.last + 1)) request ∙ sym for_settled);
                others = for_others (Prepared (w.place.last + 1)) (is _ t) (quiet (own_at 0 events) (StartFor (suc i)) (Prepared (w.place.last + 1)) tt) under;
              };
              next = tt;
              new = tt;
              logged = omega (arith, ap length same);
              owns = record {
                own = λ votes ph. own_more 0 events d (ap core_of e) ∙ (ap (is_own (own_at 0 events)) e ∙ sym (ap is_none asker));
                asks_for = λ core asks. (i, (let x : Some (suc i) ≡ Some core = sym asker ∙ asks in cc), omega (arith, for_within, for_long));
              };
            }

  -- Another core submits a request

  -- an event that leaves core 0's place as it is
  owns_kept : (core_of event ≡ 0 → ⊥) → w'.place ≡ w.place → w'.requests ≡ w.requests → length w'.peers ≡ length w.peers → Owns events' w'
  owns_kept other place requests long = record {
    own = λ votes ph. own_other 0 events d other ∙ (f.owns.own votes (sym (ap (λ (x : CoordinatorPlace). x.phase) place) ∙ ph) ∙ sym (ap (λ (r : Requests). is_none r.asker) requests));
    asks_for = λ core asks. (let a = f.owns.asks_for core (sym (ap (λ (r : Requests). r.asker) requests) ∙ asks) in (a.0, a.1, omega (arith, a.2, long)));
  }

  -- core 0's account is as it was
  staying_0 : (core_of event ≡ 0 → ⊥) → w'.place ≡ w.place → w'.requests ≡ w.requests → Moves (account events w 0) (account events' w' 0) None
  staying_0 other place requests = staying 0 (begun_other 0 event other) (added_other 0 events d other)
      (ap (λ (x : CoordinatorPlace). own_under x.phase w'.requests.asker x.staged) place ∙ ap (λ (r : Requests). own_under w.place.phase r.asker w.place.staged) requests) refl

  module _ (i : ℕ) (op : Op) (e : event ≡ Submit (suc i) op) (h : HappensSubmit w i op w' answer) where
    submit_core : core_of event ≡ suc i
    submit_core = ap core_of e

    not_0 : core_of event ≡ 0 → ⊥
    not_0 own = let x : suc i ≡ 0 = sym submit_core ∙ own in cc

    submit_now : {A : Type 0} (of : Request → Option A) → cond (outs w'.peers i) (of (request_of (suc i) events')) None ≡ of (sent op)
    submit_now of =
        ap (λ (b : Bool). cond b (of (request_of (suc i) events')) None) (ap (λ (x : World). outs x.peers i) h.next ∙ (outs_set_same w.peers i h.peer _ h.is_peer ∙ h.here.now_outstanding))
        ∙ ap of (request_is i ∙ (ap (λ (x : Event). followed (suc i) (request_of (suc i) events) x answer) e ∙ follows_submit i (request_of (suc i) events) op answer h.here.is_answer))

    submit_deals : Deal
    submit_deals =
        let long : length w'.peers ≡ length w.peers = ap (λ (x : World). length x.peers) h.next ∙ length-slice_set w.peers i _ in
        let place : w'.place ≡ w.place = ap (λ (x : World). x.place) h.next in
        let requests : w'.requests ≡ w.requests = ap (λ (x : World). x.requests) h.next in
        let same : w'.log ≡ w.log = ap (λ (x : World). x.log) h.next in
        let none : under_at w (λ j. request_of (suc j) events) (suc i) ≡ None = ap (λ (b : Bool). cond b (requested (request_of (suc i) events)) None) (ap out_of h.is_peer ∙ h.here.none_outstanding) in
        let begun : begun_by (suc i) event ≡ op ∷ [] = ap (begun_by (suc i)) e ∙ ap (λ (b : Bool). cond b (op ∷ []) []) (eq_self (suc i)) in
        let quiet_answer : own_decision (own_at (suc i) events) event answer ≡ [] = ap (own_decision (own_at (suc i) events) event) h.here.is_answer ∙ quiet (own_at (suc i) events) event Submitted tt in
        record {
          deals = record {
            who = suc i;
            news = None;
            moved = begins op none (account_to (suc i) (begun_in (suc i) events ++ op ∷ []) (decided_in (suc i) events) (Some op) None (begun_is (suc i) (op ∷ []) begun) (decided_kept (suc i) (added_own (suc i) events d submit_core ∙ quiet_answer)) (submit_now requested) (submit_now settled_in));
            others = λ core ne. others core ne place requests;
          };
          next = tt;
          new = tt;
          logged = omega (arith, ap length same);
          owns = owns_kept not_0 place requests long;
        }
      where
        others : (core : ℕ) → (suc i ≡ core → ⊥) → w'.place ≡ w.place → w'.requests ≡ w.requests → Moves (account events w core) (account events' w' core) None
        others zero ne place requests = staying_0 not_0 place requests
        others (suc j) ne place requests =
            let apart : i ≡ j → ⊥ = λ same. ne (ap suc same) in
            let other : core_of event ≡ suc j → ⊥ = λ own. ne (sym submit_core ∙ own) in
            staying_peer j (begun_other (suc j) event other) (added_other (suc j) events d other) (ap (λ (x : World). outs x.peers j) h.next ∙ outs_set_other w.peers i j _ apart)
            (ap (λ (x : Event). followed (suc j) (request_of (suc j) events) x answer) e ∙ follows_no_submit i j (request_of (suc j) events) op answer h.here.is_answer apart)

  -- Another core takes a message

  module _ (i : ℕ) (short : Bool) (e : event ≡ Take (suc i) 0 short) (h : HappensDown w i short w' answer) where
    down_core : core_of event ≡ suc i
    down_core = ap core_of e

    down_not_0 : core_of event ≡ 0 → ⊥
    down_not_0 own = let x : suc i ≡ 0 = sym down_core ∙ own in cc

    down_others : ((j : ℕ) → followed (suc j) (request_of (suc j) events) event answer ≡ request_of (suc j) events) → (core : ℕ) → (suc i ≡ core → ⊥) → Moves (account events w core) (account events' w' core) None
    down_others same zero ne = staying_0 down_not_0 (ap (λ (x : World). x.place) h.next) (ap (λ (x : World). x.requests) h.next)
    down_others same (suc j) ne =
        let other : core_of event ≡ suc j → ⊥ = λ own. ne (sym down_core ∙ own) in
        staying_peer j (begun_other (suc j) event other) (added_other (suc j) events d other) (ap (λ (x : World). outs x.peers j) h.next ∙ outs_set_other w.peers i j _ (λ s. ne (ap suc s))) (same j)

    down_owns : Owns events' w'
    down_owns = owns_kept down_not_0 (ap (λ (x : World). x.place) h.next) (ap (λ (x : World). x.requests) h.next) (ap (λ (x : World). length x.peers) h.next ∙ length-slice_set w.peers i _)

    down_out : outs w'.peers i ≡ h.outstanding
    down_out = ap (λ (x : World). outs x.peers i) h.next ∙ outs_set_same w.peers i h.peer _ h.is_peer

    down_begun : begun_by (suc i) event ≡ []
    down_begun = ap (begun_by (suc i)) e

    down_deal : ((j : ℕ) → followed (suc j) (request_of (suc j) events) event answer ≡ request_of (suc j) events) → Moves (account events w (suc i)) (account events' w' (suc i)) None → Deal
    down_deal same moved = record {
      deals = record { who = suc i; news = None; moved = moved; others = down_others same };
      next = tt;
      new = tt;
      logged = omega (arith, ap (λ (x : World). length x.log) h.next);
      owns = down_owns;
    }

    -- it votes or acknowledges
    took_deal : (m reply : Message) (version : ℕ) → Took m reply version answer → h.outstanding ≡ h.peer.outstanding → Deal
    took_deal m reply version t out =
        let same : (j : ℕ) → followed (suc j) (request_of (suc j) events) event answer ≡ request_of (suc j) events =
        λ j. ap (λ (x : Event). followed (suc j) (request_of (suc j) events) x answer) e ∙ (took_follows (suc j) i (request_of (suc j) events) short m reply version answer t).0 in
        down_deal same (staying_peer i down_begun (added_own (suc i) events d down_core ∙ none m reply t) (down_out ∙ (out ∙ sym (ap out_of h.is_peer))) (same i))
      where
        none : (m reply : Message) → Took m reply version answer → own_decision (own_at (suc i) events) event answer ≡ []
        none (message.Prepare txn op) (message.Vote txn' v) t = ap (own_decision (own_at (suc i) events) event) t ∙ quiet (own_at (suc i) events) event (TookPrepare txn v) tt
        none (message.Commit txn) reply t = ap (own_decision (own_at (suc i) events) event) t ∙ quiet (own_at (suc i) events) event (TookCommit txn version) tt
        none (message.Abort txn) reply t = ap (own_decision (own_at (suc i) events) event) t ∙ quiet (own_at (suc i) events) event (TookAbort txn version) tt
        none m reply t = absurd t

    down_deals : Deal
    down_deals = by_message h.m refl h.here
      where
        by_message : (m : Message) → h.m ≡ m → TakesDownAt short (newest w) h.peer.budget h.peer.version h.peer.place h.peer.outstanding m h.place h.outstanding h.committed answer → Deal
        by_message (message.Reply dec) m here =
            let t = taken w.place w.requests i h.peer (request_of (suc i) events) dec h.rest (h.oldest ∙ ap (λ (x : Message). x ∷ h.rest) m) (f.inv2.stages i h.peer h.is_peer) in
            let was_out : outs w.peers i ≡ true = ap out_of h.is_peer ∙ here.was_outstanding in
            let now_out : outs w'.peers i ≡ false = down_out ∙ here.none_outstanding in
            let settled_is : settled_at w (λ j. request_of (suc j) events) (suc i) ≡ Some dec = ap (λ (b : Bool). cond b (settled_in (request_of (suc i) events)) None) was_out ∙ ap settled_in t.is_settled in
            down_deal (λ j. ap (λ (x : Event). followed (suc j) (request_of (suc j) events) x answer) e ∙ ap (followed (suc j) (request_of (suc j) events) (Take (suc i) 0 short)) here.is_answer)
            (tells dec settled_is (account_to (suc i) (begun_in (suc i) events) (decided_in (suc i) events ++ dec ∷ []) None None (begun_kept (suc i) down_begun)
            (decided_is (suc i) (dec ∷ []) (added_own (suc i) events d down_core ∙ (ap (own_decision (own_at (suc i) events) event) here.is_answer ∙ tells_own (own_at (suc i) events) event dec)))
            (ap (λ (b : Bool). cond b (requested (request_of (suc i) events')) None) now_out) (ap (λ (b : Bool). cond b (settled_in (request_of (suc i) events')) None) now_out)))
        by_message (message.Prepare txn op) m here = took_deal (message.Prepare txn op) here.reply _ here.is_answer here.same_outstanding
        by_message (message.Commit txn) m here = took_deal (message.Commit txn) here.reply _ here.is_answer here.same_outstanding
        by_message (message.Abort txn) m here = took_deal (message.Abort txn) here.reply _ here.is_answer here.same_outstanding
        by_message (message.Vote txn v) m here = absurd here.answers
        by_message (message.Ack txn) m here = absurd here.answers
        by_message (message.Submit op) m here = absurd here.answers

  -- Core 0 takes a message

  module _ (i : ℕ) (short : Bool) (e : event ≡ Take 0 (suc i) short) (h : HappensUp w i w' answer) where
    abbrev given : List Peer
    given = slice_set w.peers i (record h.peer { up = h.rest })

    up_matched : Matches Same w.peers (sent_out given (outgoing h.told h.place))
    up_matched = same_sent w.peers given (outgoing h.told h.place) (matches_set Same w.peers i h.peer (record h.peer { up = h.rest }) h.is_peer refl (λ j p ne. refl))

    up_outs : (j : ℕ) → outs w'.peers j ≡ outs w.peers j
    up_outs j = ap (λ (x : World). outs x.peers j) h.next ∙ outs_matched w.peers (sent_out given (outgoing h.told h.place)) up_matched j

    up_long : length w'.peers ≡ length w.peers
    up_long = ap (λ (x : World). length x.peers) h.next ∙ up_matched.long

    up_place : w'.place ≡ h.place
    up_place = ap (λ (x : World). x.place) h.next

    up_requests : w'.requests ≡ h.requests
    up_requests = ap (λ (x : World). x.requests) h.next

    up_log : w'.log ≡ joined w.log h.committed
    up_log = ap (λ (x : World). x.log) h.next

    up_own : own_at 0 events' ≡ own_at 0 events
    up_own = own_more 0 events d (ap core_of e) ∙ ap (is_own (own_at 0 events)) e

    up_begun : begun_by 0 event ≡ []
    up_begun = ap (begun_by 0) e

    up_added : (x : Answer) (ds : List Decision) → answer ≡ x → own_decision (own_at 0 events) event x ≡ ds → added 0 events d ≡ ds
    up_added x ds is own = added_own 0 events d (ap core_of e) ∙ (ap (own_decision (own_at 0 events) event) is ∙ own)

    up_follows : (x : Answer) → answer ≡ x → (j : ℕ) → followed (suc j) (request_of (suc j) events) event answer ≡ followed (suc j) (request_of (suc j) events) (Take 0 (suc i) short) x
    up_follows x is j = ap (λ (y : Event). followed (suc j) (request_of (suc j) events) y answer) e ∙ ap (followed (suc j) (request_of (suc j) events) (Take 0 (suc i) short)) is

    -- nothing is decided
    up_quiet : (x : Answer) → answer ≡ x → IsQuiet x → ((j : ℕ) → followed (suc j) (request_of (suc j) events) (Take 0 (suc i) short) x ≡ request_of (suc j) events) → own_under w'.place.phase w'.requests.asker w'.place.staged ≡ own_under w.place.phase w.requests.asker w.place.staged
        → h.committed ≡ None → Owns events' w' → Deal
    up_quiet x is q same under none owns = record {
      deals = record { who = 0; news = None; moved = staying 0 up_begun (up_added x [] is (quiet (own_at 0 events) event x q)) under refl; others = others };
      next = tt;
      new = tt;
      logged = omega (arith, ap length (up_log ∙ ap (joined w.log) none));
      owns = owns;
    }
      where
        others : (core : ℕ) → (0 ≡ core → ⊥) → Moves (account events w core) (account events' w' core) None
        others zero ne = absurd (ne refl)
        others (suc j) ne = staying_other j (ap core_of e) (up_outs j) (up_follows x is j ∙ same j)

    phase_none : (b : Bool) (acks : List Bool) (asker : Option ℕ) (staged : Option Op) → own_under (cond b Idle (Acking acks)) asker staged ≡ None
    phase_none true acks asker staged = refl
    phase_none false acks asker staged = refl

    never_votes : (b : Bool) (acks : List Bool) (votes : List (Option Vote)) (ph : Phase) → ph ≡ cond b Idle (Acking acks) → ph ≡ Voting votes → ⊥
    never_votes true acks votes ph is voting = let x : Idle ≡ Voting votes = sym is ∙ voting in cc
    never_votes false acks votes ph is voting = let x : Acking acks ≡ Voting votes = sym is ∙ voting in cc

    asker_at : (ph : Phase) (core : ℕ) → (requests_at ph w.requests).asker ≡ Some core → w.requests.asker ≡ Some core
    asker_at Idle core asks = absurd (let x : None ≡ Some core = asks in cc)
    asker_at (Voting votes) core asks = asks
    asker_at (Acking acks) core asks = asks

    vote_under : (votes votes' : List (Option Vote)) (asker : Option ℕ) (staged : Option Op) → own_under (Voting votes') asker staged ≡ own_under (Voting votes) asker staged
    vote_under votes votes' None staged = refl
    vote_under votes votes' (Some core) staged = refl

    -- Votes that decide

    module _ (txn : ℕ) (v : Vote) (m : h.m ≡ message.Vote txn v) (here : VoteAt (newest w) w.place w.requests i txn v h.place h.requests h.committed h.told answer) where
      abbrev op : Op
      op = here.hears.op

      abbrev votes' : List (Option Vote)
      votes' = slice_set here.hears.votes i (Some v)

      up_asker : w'.requests.asker ≡ w.requests.asker
      up_asker = ap (λ (r : Requests). r.asker) (up_requests ∙ here.requests_next)

      up_asks_for : (core : ℕ) → w'.requests.asker ≡ Some core → (j : ℕ) × (core ≡ suc j) × (j < length w'.peers)
      up_asks_for core asks = let a = f.owns.asks_for core (sym up_asker ∙ asks) in (a.0, a.1, omega (arith, a.2, up_long))

      acking_owns : (acks : List Bool) → w'.place.phase ≡ Acking acks → Owns events' w'
      acking_owns acks ph = record { own = λ votes voting. absurd (let x : Acking acks ≡ Voting votes = sym ph ∙ voting in cc); asks_for = up_asks_for }

      -- the votes that core 0 has were cast on the operation, at the newest table
      ps : Polled w given (voting_on w.place.last votes' op)
      ps = polled w i h.peer here.hears.votes op txn v h.rest f.inv h.is_peer here.hears.voting here.hears.on_op here.hears.first_vote (ap commitments h.oldest ∙ rw m refl)

      long : length votes' ≡ length w.peers
      long = length-slice_set here.hears.votes i (Some v) ∙ (on_vote w here.hears.votes op f.inv here.hears.voting here.hears.on_op).long

      record CastBy (j : ℕ) (x : Vote) : Type 0 where
        lacks : Bool
        bound : ℕ
        is_bound : slice_get budgets j ≡ Some bound
        casts : Casts lacks (newest w) bound op x

      cast_by : (q : Peer) (x : Vote) (votes : List (Option Vote)) (last : ℕ) (j : ℕ) → slice_get votes j ≡ Some (Some x) → Pair w.limits w.log (voting_on last votes op) j q → (lacks : Bool) × Casts lacks (newest w) q.budget op x
      unfolding voting_on
      cast_by q x votes last j at (counted vs o v' lacks ph st at' c is) =
          let e : vs ≡ votes = cc in let eo : o ≡ op = cc in
          let ev : v' ≡ x = (let y : slice_get votes j ≡ Some (Some v') = rw (← e) at' in cc) in
          (lacks, subst (λ (y : Vote). Casts lacks (newest w) q.budget op y) ev (subst (λ (y : Op). Casts lacks (newest w) q.budget y v') eo c))
      cast_by q x votes last j at (asked vs o l ph st at' le is) = absurd (let e : vs ≡ votes = cc in let y : slice_get votes j ≡ Some None = rw (← e) at' in cc)
      cast_by q x votes last j at (voted vs o v' lacks ph st at' c is) = absurd (let e : vs ≡ votes = cc in let y : slice_get votes j ≡ Some None = rw (← e) at' in cc)
      cast_by q x votes last j at (at_rest ph is) = absurd cc
      cast_by q x votes last j at (to_commit acks o version ph at' le fits entry is) = absurd cc
      cast_by q x votes last j at (to_abort acks v' st ph at' is) = absurd cc
      cast_by q x votes last j at (acked acks ph at' is) = absurd cc
      cast_by q x votes last j at (finished acks ph at' is) = absurd cc

      cast : (j : ℕ) (x : Vote) → slice_get votes' j ≡ Some (Some x) → CastBy j x
      cast j x at =
          let q = get_at given j (omega (arith, long, length-slice_set w.peers i (record h.peer { up = h.rest }), slice_get_within votes' j (Some x) at)) in
          let c = cast_by q.0 x votes' w.place.last j at (ps.pairs j q.0 q.1) in
          let p = was (λ i p q. q.budget ≡ p.budget) w.peers given j q.0 (matches_set (λ i p q. q.budget ≡ p.budget) w.peers i h.peer (record h.peer { up = h.rest }) h.is_peer refl (λ j p ne. refl)) q.1 in
          record { lacks = c.0; bound = q.0.budget; is_bound = f.known.budgets_are j p.0 p.1 ∙ ap (λ (n : ℕ). Some n) (sym p.2); casts = c.1 }

      reason_of : (x : Vote) (lacks : Bool) (b : ℕ) → x ≢ vote.Yes → Casts lacks (newest w) b op x → ((veto_by x ≡ veto.NoMemory) × Allowed (newest w) b op None) ⊎ ((veto_by x ≡ veto.Budget) × Allowed (newest w) b op (Some fault.Budget))
      reason_of vote.Yes lacks b ne c = absurd (ne refl)
      reason_of vote.Budget lacks b ne c = inr (refl, c.0)
      reason_of vote.NoMemory lacks b ne c = inl (refl, c.0)

      veto_of_least : (core : ℕ) (against : Vote) → LeastNo votes' core against → IsRefused (budget ∷ budgets) (newest w) op core (veto_by against)
      veto_of_least core against least =
          let c = cast least.entry against least.said in
          subst (λ (n : ℕ). IsRefused (budget ∷ budgets) (newest w) op n (veto_by against)) (sym least.is_core) (record {
            budget = c.bound;
            is_budget = c.is_bound;
            reason = reason_of against c.lacks c.bound least.not_yes c.casts;
            others_can = yes least;
          })
        where
          yes : (l : LeastNo votes' core against) (other b : ℕ) → 0 < other → other < suc l.entry → slice_get (budget ∷ budgets) other ≡ Some b → Allowed (newest w) b op None
          yes l zero b above below at = absurd (omega (arith, above))
          yes l (suc j) b above below at =
              let c = cast j vote.Yes (l.yes_before j (omega (arith, below))) in
              let same : c.bound ≡ b = (let x : Some c.bound ≡ Some b = sym c.is_bound ∙ at in cc) in
              subst (λ (n : ℕ). Allowed (newest w) n op None) same c.casts.0

      -- the request that the decision is on is core 0's own

      module _ (dec : Decision) (is : answer ≡ TookVote txn v (Some dec)) (acks : List Bool) (ph : w'.place.phase ≡ Acking acks) where
        none_under' : own_under w'.place.phase w'.requests.asker w'.place.staged ≡ None
        none_under' = ap (λ (x : Phase). own_under x w'.requests.asker w'.place.staged) ph

        -- the decision settles no request of a core that core 0 has none under way for
        settles_none : (j : ℕ) → w.requests.asker ≢ Some (suc j) → cond (outs w.peers j) (settled_in (decided_on (request_of (suc j) events) txn dec)) None ≡ cond (outs w.peers j) (settled_in (request_of (suc j) events)) None
        settles_none j ne = elim (cases_lt j (length w.peers)) [
          | inl within ↦ (let p = get_at w.peers j within in by_stage p.0 p.1 (f.inv2.stages j p.0 p.1))
          | inr le ↦ (let none : outs w.peers j ≡ false = ap out_of (beyond w.peers j le) in
              ap (λ (b : Bool). cond b (settled_in (decided_on (request_of (suc j) events) txn dec)) None) none ∙ sym (ap (λ (b : Bool). cond b (settled_in (request_of (suc j) events)) None) none))
        ]
          where
            of_request : (r : Request) → request_of (suc j) events ≡ r → decided_on r txn dec ≡ r → cond (outs w.peers j) (settled_in (decided_on (request_of (suc j) events) txn dec)) None ≡ cond (outs w.peers j) (settled_in (request_of (suc j) events)) None
            of_request r r_is kept = ap (λ (x : Request). cond (outs w.peers j) (settled_in (decided_on x txn dec)) None) r_is
                ∙ (ap (λ (x : Request). cond (outs w.peers j) (settled_in x) None) kept ∙ sym (ap (λ (x : Request). cond (outs w.peers j) (settled_in x) None) r_is))

            by_stage : (p : Peer) → slice_get w.peers j ≡ Some p → Stage w.place w.requests j p (request_of (suc j) events) → cond (outs w.peers j) (settled_in (decided_on (request_of (suc j) events) txn dec)) None ≡ cond (outs w.peers j) (settled_in (request_of (suc j) events)) None
            by_stage p at (free x a dn) =
                let none : outs w.peers j ≡ false = ap out_of at ∙ x.outstanding_is in
                ap (λ (b : Bool). cond b (settled_in (decided_on (request_of (suc j) events) txn dec)) None) none ∙ sym (ap (λ (b : Bool). cond b (settled_in (request_of (suc j) events)) None) none)
            by_stage p at (submitted o x a dn r_is) = of_request (sent o) r_is refl
            by_stage p at (waiting o x a dn r_is) = of_request (sent o) r_is refl
            by_stage p at (served x a dn s) = absurd (ne a)
            by_stage p at (replied o de rest x a dn n r_is stands) = of_request (settled o de) r_is refl

        vote_other : (j : ℕ) → w.requests.asker ≢ Some (suc j) → Moves (account events w (suc j)) (account events' w' (suc j)) None
        vote_other j ne =
            let r : request_of (suc j) events' ≡ decided_on (request_of (suc j) events) txn dec = request_is j ∙ up_follows (TookVote txn v (Some dec)) is j in
            let other : core_of event ≡ suc j → ⊥ = λ own. (let x : 0 ≡ suc j = sym (ap core_of e) ∙ own in cc) in
            staying (suc j) (begun_other (suc j) event other) (added_other (suc j) events d other)
            (ap (λ (b : Bool). cond b (requested (request_of (suc j) events')) None) (up_outs j) ∙ ap (λ (x : Option Op). cond (outs w.peers j) x None) (ap requested r ∙ decided_same (request_of (suc j) events) txn dec))
            (ap (λ (b : Bool). cond b (settled_in (request_of (suc j) events')) None) (up_outs j) ∙ (ap (λ (x : Request). cond (outs w.peers j) (settled_in x) None) r ∙ settles_none j ne))

        own_deals : w.requests.asker ≡ None → Deals (account events w) (account events' w')
        own_deals none = record {
          who = 0;
          news = Some (op, dec);
          moved = decides op dec under refl (account_to 0 (begun_in 0 events) (decided_in 0 events ++ dec ∷ []) None None (begun_kept 0 up_begun) (decided_is 0 (dec ∷ []) (up_added (TookVote txn v (Some dec)) (dec ∷ []) is own)) none_under' refl);
          others = others;
        }
          where
            under : own_under w.place.phase w.requests.asker w.place.staged ≡ Some op
            under = ap (λ (x : Phase). own_under x w.requests.asker w.place.staged) here.hears.voting ∙ (ap (λ (a : Option ℕ). own_under (Voting here.hears.votes) a w.place.staged) none ∙ here.hears.on_op)

            own : own_decision (own_at 0 events) event (TookVote txn v (Some dec)) ≡ dec ∷ []
            own =
                ap (λ (b : Bool). own_decision b event (TookVote txn v (Some dec))) (f.owns.own here.hears.votes here.hears.voting ∙ ap is_none none)
                ∙ ap (λ (x : Event). own_decision true x (TookVote txn v (Some dec))) e

            others : (core : ℕ) → (0 ≡ core → ⊥) → Moves (account events w core) (account events' w' core) None
            others zero ne = absurd (ne refl)
            others (suc j) ne = vote_other j (λ asks. (let x : None ≡ Some (suc j) = sym none ∙ asks in cc))

        record ServedAt (k : ℕ) : Type 0 where
          out : outs w.peers k ≡ true
          is_numbered : request_of (suc k) events ≡ numbered op w.place.last

        served_at : (k : ℕ) → w.requests.asker ≡ Some (suc k) → k < length w.peers → ServedAt k
        served_at k asks within = let p = get_at w.peers k within in by_stage p.0 p.1 (f.inv2.stages k p.0 p.1)
          where
            by_stage : (p : Peer) → slice_get w.peers k ≡ Some p → Stage w.place w.requests k p (request_of (suc k) events) → ServedAt k
            by_stage p at (served x a dn s) =
                let n = subst (λ (y : Phase). Served y w.place.last w.place.staged w.requests.decided (request_of (suc k) events)) here.hears.voting s in
                let same : n.0 ≡ op = (let y : Some n.0 ≡ Some op = sym n.2 ∙ here.hears.on_op in cc) in
                record { out = ap out_of at ∙ x.outstanding_is; is_numbered = n.1 ∙ ap (λ (o : Op). numbered o w.place.last) same }
            by_stage p at (free x a dn) = absurd (a asks)
            by_stage p at (submitted o x a dn r_is) = absurd (a asks)
            by_stage p at (waiting o x a dn r_is) = absurd (a asks)
            by_stage p at (replied o de rest x a dn n r_is stands) = absurd (a asks)

        asker_under : (k : ℕ) → ServedAt k → under_at w (λ j. request_of (suc j) events) (suc k) ≡ Some op
        asker_under k s = ap (λ (b : Bool). cond b (requested (request_of (suc k) events)) None) s.out ∙ ap requested s.is_numbered

        other_deals : (k : ℕ) → w.requests.asker ≡ Some (suc k) → ServedAt k → Deals (account events w) (account events' w')
        other_deals k asks s = record {
          who = suc k;
          news = Some (op, dec);
          moved = settles op dec (asker_under k s) settled_none
              (account_to (suc k) (begun_in (suc k) events) (decided_in (suc k) events) (under_at w (λ j. request_of (suc j) events) (suc k)) (Some dec) (begun_kept (suc k) (begun_other (suc k) event other)) (decided_kept (suc k) (added_other (suc k) events d other))
              (now requested ∙ sym (asker_under k s)) (now settled_in));
          others = others;
        }
          where
            other : core_of event ≡ suc k → ⊥
            other own = let x : 0 ≡ suc k = sym (ap core_of e) ∙ own in cc

            settled_none : settled_at w (λ j. request_of (suc j) events) (suc k) ≡ None
            settled_none = ap (λ (b : Bool). cond b (settled_in (request_of (suc k) events)) None) s.out ∙ ap settled_in s.is_numbered

            request : request_of (suc k) events' ≡ settled op dec
            request = request_is k ∙ (up_follows (TookVote txn v (Some dec)) is k ∙ (ap (λ (r : Request). decided_on r txn dec) s.is_numbered
                ∙ ap (λ (b : Bool). cond b (settled op dec) (numbered op w.place.last)) (ap (λ (n : ℕ). w.place.last == n) here.hears.number ∙ eq_self w.place.last)))

            now : {A : Type 0} (of : Request → Option A) → cond (outs w'.peers k) (of (request_of (suc k) events')) None ≡ of (settled op dec)
            now of = ap (λ (b : Bool). cond b (of (request_of (suc k) events')) None) (up_outs k ∙ s.out) ∙ ap of request

            own : own_decision (own_at 0 events) event (TookVote txn v (Some dec)) ≡ []
            own =
                ap (λ (b : Bool). own_decision b event (TookVote txn v (Some dec))) (f.owns.own here.hears.votes here.hears.voting ∙ ap is_none asks)
                ∙ ap (λ (x : Event). own_decision false x (TookVote txn v (Some dec))) e

            under_0 : own_under w.place.phase w.requests.asker w.place.staged ≡ None
            under_0 = ap (λ (x : Phase). own_under x w.requests.asker w.place.staged) here.hears.voting ∙ ap (λ (a : Option ℕ). own_under (Voting here.hears.votes) a w.place.staged) asks

            others : (core : ℕ) → (suc k ≡ core → ⊥) → Moves (account events w core) (account events' w' core) None
            others zero ne = staying 0 up_begun (up_added (TookVote txn v (Some dec)) [] is own) (none_under' ∙ sym under_0) refl
            others (suc j) ne = vote_other j (λ a. ne (let x : Some (suc k) ≡ Some (suc j) = sym asks ∙ a in cc))

        -- the decision, and what it does to the log
        decided_deal : ((core : ℕ) → length (decided_in core events) < length (begun_in core events') → version_of core events ≤ length w.log → right' core (length (decided_in core events)) op dec)
            → IsNext (length w.log) (Some (op, dec)) → ((core n : ℕ) → length w'.log ≡ length w.log + length (source_of core n (Some (op, dec)))) → Deal
        unfolding own_deals other_deals
        decided_deal right next logged = by_asker w.requests.asker refl
          where
            by_asker : (a : Option ℕ) → w.requests.asker ≡ a → Deal
            by_asker None none =
                let deals = own_deals none in
                let under : under_at w (λ j. request_of (suc j) events) 0 ≡ Some op = ap (λ (x : Phase). own_under x w.requests.asker w.place.staged) here.hears.voting ∙ (ap (λ (a : Option ℕ). own_under (Voting here.hears.votes) a w.place.staged) none ∙ here.hears.on_op) in
                record {
                  deals = deals;
                  next = next;
                  new = right 0 (under_begun 0 op under) version_0;
                  logged = logged 0 (length (decided_in 0 events));
                  owns = acking_owns acks ph;
                }
            by_asker (Some core) asks =
                let a = f.owns.asks_for core asks in
                let asks' : w.requests.asker ≡ Some (suc a.0) = asks ∙ ap (λ (n : ℕ). Some n) a.1 in
                let s = served_at a.0 asks' a.2 in
                record {
                  deals = other_deals a.0 asks' s;
                  next = next;
                  new = right (suc a.0) (under_begun (suc a.0) op (asker_under a.0 s)) (version_peer a.0 a.2);
                  logged = logged (suc a.0) (length (decided_in (suc a.0) events));
                  owns = acking_owns acks ph;
                }

      vote_deals : Deal
      vote_deals = by_tally here.hears.tallies
        where
          told_is : (told : Step) → h.told ≡ told → answer ≡ TookVote txn v told.decided
          told_is told t = here.is_answer ∙ ap (λ (s : Step). TookVote txn v s.decided) t

          by_tally : Tallies (newest w) txn op votes' h.place h.committed h.told → Deal
          by_tally (waits n none p c t) =
              let place = up_place ∙ p in
              let under : own_under w'.place.phase w'.requests.asker w'.place.staged ≡ own_under w.place.phase w.requests.asker w.place.staged =
              ap (λ (x : CoordinatorPlace). own_under x.phase w'.requests.asker x.staged) place ∙ (ap (λ (a : Option ℕ). own_under (Voting votes') a (Some op)) up_asker
              ∙ (vote_under here.hears.votes votes' w.requests.asker (Some op) ∙ (ap (own_under (Voting here.hears.votes) w.requests.asker) (sym here.hears.on_op) ∙ sym (ap (λ (x : Phase). own_under x w.requests.asker w.place.staged) here.hears.voting)))) in
              up_quiet (TookVote txn v None) (told_is _ t) tt (λ j. refl) under c (record {
                own = λ votes ph. up_own ∙ (f.owns.own here.hears.votes here.hears.voting ∙ sym (ap is_none up_asker));
                asks_for = up_asks_for;
              })
          by_tally (commits_all all p c t) =
              let next : w'.log ≡ w.log ++ op ∷ [] = up_log ∙ ap (joined w.log) c in
              decided_deal (Committed ((newest w).version + 1) (made (newest w) op)) (told_is _ t) (replicate (length votes') false) (ap (λ (x : CoordinatorPlace). x.phase) (up_place ∙ p))
              (λ core begun le. committed_right core (length (decided_in core events)) op next) newest_version (λ core n. omega (arith, ap length next, length-append w.log (op ∷ [])))
          by_tally (aborts_all core against least all p c t) =
              let same : w'.log ≡ w.log = up_log ∙ ap (joined w.log) c in
              decided_deal (Refused core (veto_by against)) (told_is _ t) (replicate (length votes') false) (ap (λ (x : CoordinatorPlace). x.phase) (up_place ∙ p))
              (λ asker begun le. refused_right asker (length (decided_in asker events)) core op (veto_by against) same begun le (veto_of_least core against least)) tt (λ asker n. omega (arith, ap length same))

    up_deals : Deal
    up_deals = by_message h.m refl h.here
      where
        by_message : (m : Message) → h.m ≡ m → TakesUpAt (newest w) w.place w.requests i m h.place h.requests h.committed h.told answer → Deal
        by_message (message.Vote txn v) m here = vote_deals txn v m here
        by_message (message.Ack txn) m here =
            let ph : w'.place.phase ≡ phase_with (slice_set here.hears.acks i true) = ap (λ (x : CoordinatorPlace). x.phase) (up_place ∙ here.hears.next) in
            let all : Bool = list_all (λ ack. ack) (slice_set here.hears.acks i true) in
            up_quiet (TookAck txn) here.is_answer tt (λ j. refl)
            (ap (λ (x : Phase). own_under x w'.requests.asker w'.place.staged) ph ∙ (phase_none all (slice_set here.hears.acks i true) w'.requests.asker w'.place.staged ∙ sym (ap (λ (x : Phase). own_under x w.requests.asker w.place.staged) here.hears.acking)))
            here.none_committed (record {
              own = λ votes voting. absurd (never_votes all (slice_set here.hears.acks i true) votes w'.place.phase ph voting);
              asks_for = λ core asks. (let a = f.owns.asks_for core (asker_at h.place.phase core (sym (ap (λ (r : Requests). r.asker) (up_requests ∙ here.hears.requests_next)) ∙ asks)) in (a.0, a.1, omega (arith, a.2, up_long)));
            })
        by_message (message.Submit op) m here =
            let place : w'.place ≡ w.place = up_place ∙ here.same_place in
            let asker : w'.requests.asker ≡ w.requests.asker = ap (λ (r : Requests). r.asker) (up_requests ∙ here.requests_next) in
            up_quiet TookSubmit here.is_answer tt (λ j. refl) (ap (λ (x : CoordinatorPlace). own_under x.phase w'.requests.asker x.staged) place ∙ ap (λ (a : Option ℕ). own_under w.place.phase a w.place.staged) asker) here.none_committed (record {
              own = λ votes ph. up_own ∙ (f.owns.own votes (sym (ap (λ (x : CoordinatorPlace). x.phase) place) ∙ ph) ∙ sym (ap is_none asker));
              asks_for = λ core asks. (let a = f.owns.asks_for core (sym asker ∙ asks) in (a.0, a.1, omega (arith, a.2, up_long)));
            })
        by_message m e here = absurd here

  -- A core receives a packet

  rx_deals : (core number : ℕ) (packet : CapturedPacket) (floor : ℕ) → event ≡ Rx core number packet floor → (version : ℕ) (kept : List Kept) → answer ≡ Delivered version kept → w' ≡ w → Deal
  rx_deals core number packet floor e version kept is same = record {
    deals = record { who = 0; news = None; moved = still 0; others = λ c ne. still c };
    next = tt;
    new = tt;
    logged = omega (arith, ap (λ (x : World). length x.log) same);
    owns = record {
      own = λ votes ph. own ∙ (f.owns.own votes (sym (ap (λ (x : World). x.place.phase) same) ∙ ph) ∙ sym (ap (λ (x : World). is_none x.requests.asker) same));
      asks_for = λ c asks. (let a = f.owns.asks_for c (sym (ap (λ (x : World). x.requests.asker) same) ∙ asks) in (a.0, a.1, omega (arith, a.2, ap (λ (x : World). length x.peers) same)));
    };
  }
    where
      own : own_at 0 events' ≡ own_at 0 events
      own = elim (same_or_not (core_of event) 0) [
        | inl at_0 ↦ own_more 0 events d at_0 ∙ ap (is_own (own_at 0 events)) e
        | inr ne ↦ own_other 0 events d ne
      ]

      nothing_added : (c : ℕ) → added c events d ≡ []
      nothing_added c = elim (same_or_not (core_of event) c) [
        | inl at_c ↦ added_own c events d at_c ∙ (ap (own_decision (own_at c events) event) is ∙ quiet (own_at c events) event (Delivered version kept) tt)
        | inr ne ↦ added_other c events d ne
      ]

      still : (c : ℕ) → Moves (account events w c) (account events' w' c) None
      still zero = staying 0 (ap (begun_by 0) e) (nothing_added 0) (ap (λ (x : World). own_under x.place.phase x.requests.asker x.place.staged) same) refl
      still (suc j) = staying_peer j (ap (begun_by (suc j)) e) (nothing_added (suc j)) (ap (λ (x : World). outs x.peers j) same) (ap (λ (x : Event). followed (suc j) (request_of (suc j) events) x answer) e ∙ ap (followed (suc j) (request_of (suc j) events) (Rx core number packet floor)) is)

-- Each event of a run
pub event_deals : (limits : TableLimits) (budget : ℕ) (budgets : List ℕ) (events : List Done) (w w' : World) (event : Event) (answer : Answer) (f : Facts limits budget budgets events w)
    (log' : log_of (events ++ record { event = event; answer = answer } ∷ []) ≡ w'.log) (limits' : w'.limits ≡ limits) → Happens w event w' answer → Deal limits budget budgets events w w' event answer f log' limits'
event_deals limits budget budgets events w w' (Start op) answer f log' limits' h = start_deals limits budget budgets events w w' (Start op) answer f log' limits' op refl h
event_deals limits budget budgets events w w' (StartFor (suc i)) answer f log' limits' h = for_deals limits budget budgets events w w' (StartFor (suc i)) answer f log' limits' i refl h
event_deals limits budget budgets events w w' (Submit (suc i) op) answer f log' limits' h = submit_deals limits budget budgets events w w' (Submit (suc i) op) answer f log' limits' i op refl h
event_deals limits budget budgets events w w' (Take zero (suc i) short) answer f log' limits' h = up_deals limits budget budgets events w w' (Take 0 (suc i) short) answer f log' limits' i short refl h
event_deals limits budget budgets events w w' (Take (suc i) zero short) answer f log' limits' h = down_deals limits budget budgets events w w' (Take (suc i) 0 short) answer f log' limits' i short refl h
event_deals limits budget budgets events w w' (Rx core number packet floor) answer f log' limits' h = rx_deals limits budget budgets events w w' (Rx core number packet floor) answer f log' limits' core number packet floor refl h.version h.here.kept h.here.is_answer h.next
event_deals limits budget budgets events w w' event answer f log' limits' h = absurd h
