-- The decisions on a core's own requests, counted along its history.
use Rattle.std.proofs.Common.{◌≡◌, ◌+◌, ◌-◌, ◌++◌, ◌∙◌, ℕ, zero, suc, Bool, true, false, cond, Option, None, Some, List, [], ◌∷◌, length, refl, sym, ap, subst, arith, append_assoc}
use Rattle.std.specs.List.{list_all}
use Rattle.std.specs.Prelude.{slice_set}
use Rattle.std.proofs.lemmas.List.{length-append, append-nil}
use Rattle.filter_table.specs.declared.operation.Op.{Op}
use Rattle.filter_table.specs.Tables.{TableState, table, made}
use Rattle.filter_table.specs.declared.decision.Decision.{Decision}
use Rattle.filter_table.specs.declared.decision.Decision.TheVariants.{Committed, Refused}
use Rattle.filter_table.specs.declared.decision.Vote.{Vote}
use Rattle.monitor_messages.specs.declared.message.Message.{Message}
use Rattle.monitor_messages.specs.declared.message.Message.TheVariants as message
use Rattle.two_phase.specs.declared.step.Step.{Step}
use Rattle.two_phase.specs.Participants.{ParticipantPlace}
use Rattle.two_phase.specs.Coordinators.{CoordinatorPlace, Requests, Phase, Idle, Voting, Acking, Starts, refused, unstaged, alone, prepared, asker_after, veto_by, Tallies, waits, commits_all, aborts_all, requests_at, phase_with}
use Rattle.world_events.specs.declared.event.Event.{Event}
use Rattle.world_events.specs.declared.event.Event.TheVariants.{Start, Submit, StartFor, Take, Rx}
use Rattle.world_events.specs.declared.event.Answer.{Answer}
use Rattle.world_events.specs.declared.event.Answer.TheVariants.{TookVote}
use Rattle.world_model.specs.Cases.{Outgoing, Took, TakesUpAt, TakesDownAt, start_told}
use Rattle.world_histories.specs.declared.history.Stamped.{Stamped}
use Rattle.world_histories.specs.Histories.{Stamping, Sending, Core0State, core0_first, Does0, History0, OtherState, other_first, DoesOther, HistoryOther}
use Rattle.core_links.specs.Views.{LinkView}
use Rattle.core_loop.specs.declared.part.Part.{Part}
use Rattle.core_loop.specs.declared.part.Part.TheVariants as part
use Rattle.core_loop.specs.Cores.{begins, begun}
use Rattle.core_loop.specs.Keeping.{IsStanding}
use Rattle.core_loop.specs.Events.{Acts}
use Rattle.core_loop.specs.Answering.{is_own, own_decision, decisions_from, decisions, count_if, voted_on, AreDecided}
use Rattle.core_loop.specs.Owning.{by_itself, asks_itself, KnowsOwn}

-- What one event of core 0 keeps: it knows whose request is under way, each request of its own has its decision or is under way, and who asked
-- tells of a decision whose it is.
pub record KeepsOwn (own : Bool) (event : Event) (answer : Answer) (phase : Phase) (asker : Option ℕ) (phase' : Phase) (asker' : Option ℕ) : Type 0 where
  pub knows : KnowsOwn (is_own own event) phase' asker'
  pub counts : length (begins event) + voted_on phase asker ≡ length (own_decision own event answer) + voted_on phase' asker'
  pub tells : own_decision own event answer ≡ own_decision (by_itself asker') event answer

-- An idle core 0 begins a request of its own

starts : (own : Bool) (op : Op) (others : ℕ) (s : TableState) (budget : ℕ) (place place' : CoordinatorPlace) (committed : Option Op) (told : Step) (asker : Option ℕ) (answer : Answer)
    → place.phase ≡ Idle → asker ≡ None → Starts others s budget place op place' committed told → answer ≡ start_told told.txn told.decided
    → KeepsOwn own (Start op) answer place.phase asker place'.phase asker
starts own op others s budget place place' committed told asker answer idle none (refused fault f p c t) a = rw (a, t, p, idle, none) (record { knows = refl; counts = refl; tells = refl })
starts own op others s budget place place' committed told asker answer idle none (unstaged f p c t) a = rw (a, t, p, idle, none) (record { knows = refl; counts = refl; tells = refl })
starts own op others s budget place place' committed told asker answer idle none (alone f z p c t) a = rw (a, t, p, idle, none) (record { knows = refl; counts = refl; tells = refl })
starts own op others s budget place place' committed told asker answer idle none (prepared f z p c t) a = rw (a, t, p, idle, none) (record { knows = refl; counts = refl; tells = refl })

-- It begins the request of another core

starts_for : (own : Bool) (entry : ℕ) (op : Op) (others : ℕ) (s : TableState) (budget : ℕ) (place place' : CoordinatorPlace) (committed : Option Op) (begun told : Step) (asker : Option ℕ) (answer : Answer)
    → place.phase ≡ Idle → Starts others s budget place op place' committed begun → told.decided ≡ begun.decided → told.txn ≡ begun.txn → answer ≡ start_told told.txn told.decided
    → asker ≡ asker_after (suc entry) begun.decided → KeepsOwn own (StartFor (suc entry)) answer place.phase None place'.phase asker
starts_for own entry op others s budget place place' committed begun told asker answer idle (refused fault f p c t) d n a r = rw (a, d, n, r, t, p, idle) (record { knows = refl; counts = refl; tells = refl })
starts_for own entry op others s budget place place' committed begun told asker answer idle (unstaged f p c t) d n a r = rw (a, d, n, r, t, p, idle) (record { knows = refl; counts = refl; tells = refl })
starts_for own entry op others s budget place place' committed begun told asker answer idle (alone f z p c t) d n a r = rw (a, d, n, r, t, p, idle) (record { knows = refl; counts = refl; tells = refl })
starts_for own entry op others s budget place place' committed begun told asker answer idle (prepared f z p c t) d n a r = rw (a, d, n, r, t, p, idle) (record { knows = refl; counts = refl; tells = refl })

-- It takes a vote

votes_one : (own : Bool) (asker : Option ℕ) (from txn : ℕ) (v : Vote) (short : Bool) (votes : List (Option Vote)) (decision : Decision) → own ≡ by_itself asker
    → voted_on (Voting votes) asker ≡ length (own_decision own (Take 0 from short) (TookVote txn v (Some decision)))
votes_one true None from txn v short votes decision e = refl
votes_one false None from txn v short votes decision e = absurd (cc)
votes_one true (Some core) from txn v short votes decision e = absurd (cc)
votes_one false (Some core) from txn v short votes decision e = refl

votes_none : (own : Bool) (from txn : ℕ) (v : Vote) (short : Bool) → length (own_decision own (Take 0 from short) (TookVote txn v None)) ≡ 0
votes_none true from txn v short = refl
votes_none false from txn v short = refl

tells_one : (own : Bool) (asker : Option ℕ) (event : Event) (answer : Answer) → own ≡ by_itself asker → own_decision own event answer ≡ own_decision (by_itself asker) event answer
tells_one own asker event answer e = rw e refl

same_voting : (votes votes' : List (Option Vote)) (asker : Option ℕ) → voted_on (Voting votes) asker ≡ voted_on (Voting votes') asker
same_voting votes votes' None = refl
same_voting votes votes' (Some core) = refl

hears : (own : Bool) (from : ℕ) (short : Bool) (s : TableState) (txn : ℕ) (v : Vote) (op : Op) (before votes : List (Option Vote)) (place' : CoordinatorPlace) (committed : Option Op) (told : Step) (asker : Option ℕ) (answer : Answer)
    → own ≡ by_itself asker → Tallies s txn op votes place' committed told → answer ≡ TookVote txn v told.decided → KeepsOwn own (Take 0 from short) answer (Voting before) asker place'.phase asker
hears own from short s txn v op before votes place' committed told asker answer knows (waits i none p c t) a =
    rw (a, t, p) (record { knows = knows; counts = omega (arith, same_voting before votes asker, votes_none own from txn v short); tells = tells_one own asker (Take 0 from short) (TookVote txn v None) knows })
hears own from short s txn v op before votes place' committed told asker answer knows (commits_all all p c t) a =
    rw (a, t, p) (record { knows = knows; counts = omega (arith, votes_one own asker from txn v short before (Committed (s.version + 1) (made s op)) knows); tells = tells_one own asker (Take 0 from short) (TookVote txn v (Some (Committed (s.version + 1) (made s op)))) knows })
hears own from short s txn v op before votes place' committed told asker answer knows (aborts_all core against l all p c t) a =
    rw (a, t, p) (record { knows = knows; counts = omega (arith, votes_one own asker from txn v short before (Refused core (veto_by against)) knows); tells = tells_one own asker (Take 0 from short) (TookVote txn v (Some (Refused core (veto_by against)))) knows })

-- It takes an acknowledgement

acked : (own : Bool) (asker : Option ℕ) (acks : List Bool) (waiting : Requests) (last : Bool) → own ≡ by_itself asker → waiting.asker ≡ asker
    → KnowsOwn own (cond last Idle (Acking acks)) (requests_at (cond last Idle (Acking acks)) waiting).asker
acked own asker acks waiting true knows is = refl
acked own asker acks waiting false knows is = knows ∙ ap by_itself (sym is)

acked_none : (asker : Option ℕ) (acks : List Bool) (last : Bool) → voted_on (cond last Idle (Acking acks)) asker ≡ 0
acked_none asker acks true = refl
acked_none asker acks false = refl

takes : (own : Bool) (s : TableState) (place place' : CoordinatorPlace) (requests requests' : Requests) (entry : ℕ) (short : Bool) (m : Message) (committed : Option Op) (told : Step) (answer : Answer)
    → KnowsOwn own place.phase requests.asker → TakesUpAt s place requests entry m place' requests' committed told answer
    → KeepsOwn own (Take 0 (suc entry) short) answer place.phase requests.asker place'.phase requests'.asker
takes own s place place' requests requests' entry short (message.Vote txn v) committed told answer knows h =
    let e : requests'.asker ≡ requests.asker = ap (λ (r : Requests). r.asker) h.requests_next in
    rw (h.hears.voting, e) (hears own (suc entry) short s txn v h.hears.op h.hears.votes _ place' committed told requests.asker answer (subst (λ (p : Phase). KnowsOwn own p requests.asker) h.hears.voting knows) h.hears.tallies h.is_answer)
takes own s place place' requests requests' entry short (message.Ack txn) committed told answer knows h =
    let acks = slice_set h.hears.acks entry true in
    let e : requests'.asker ≡ (requests_at (phase_with acks) requests).asker = ap (λ (r : Requests). r.asker) h.hears.requests_next ∙ ap (λ (p : CoordinatorPlace). (requests_at p.phase requests).asker) h.hears.next in
    let f : place'.phase ≡ phase_with acks = ap (λ (p : CoordinatorPlace). p.phase) h.hears.next in
    rw (h.is_answer, h.hears.acking, f, e) (record {
      knows = acked own requests.asker acks requests (list_all (λ ack. ack) acks) (subst (λ (p : Phase). KnowsOwn own p requests.asker) h.hears.acking knows) refl;
      counts = omega (arith, acked_none (requests_at (phase_with acks) requests).asker acks (list_all (λ ack. ack) acks));
      tells = refl;
    })
takes own s place place' requests requests' entry short (message.Submit op) committed told answer knows h =
    let e : requests'.asker ≡ requests.asker = ap (λ (r : Requests). r.asker) h.requests_next in
    rw (h.is_answer, h.same_place, e) (record { knows = knows; counts = refl; tells = refl })
takes own s place place' requests requests' entry short m committed told answer knows h = absurd h

-- One event of core 0

step0 : (own : Bool) (others budget : ℕ) (c c' : Core0State) (stamp : ℕ) (event : Event) (m : Option Stamping) (answer : Answer) (out : Outgoing)
    → KnowsOwn own c.place.phase c.requests.asker → Does0 others budget c stamp event m c' answer out
    → KeepsOwn own event answer c.place.phase c.requests.asker c'.place.phase c'.requests.asker
step0 own others budget c c' stamp (Start op) None answer out knows h =
    let idle = h.here.can_start.0 in
    rw h.next (starts own op others (table c.limits c.log (length c.log)) budget c.place h.place h.committed h.told c.requests.asker answer idle (subst (λ (p : Phase). KnowsOwn own p c.requests.asker) idle knows) h.here.starts h.here.is_answer)
step0 own others budget c c' stamp (StartFor (suc entry)) None answer out knows h =
    let idle = h.here.can_start.0 in
    let none : c.requests.asker ≡ None = subst (λ (p : Phase). KnowsOwn own p c.requests.asker) idle knows in
    let for_it = h.here.starts in
    rw (h.next, none) (starts_for own entry for_it.op others (table c.limits c.log (length c.log)) budget c.place h.place h.committed for_it.begun h.told h.requests.asker answer idle for_it.starts
    (ap (λ (t : Step). t.decided) for_it.tells) (ap (λ (t : Step). t.txn) for_it.tells) h.here.is_answer (ap (λ (r : Requests). r.asker) for_it.next))
step0 own others budget c c' stamp (Take zero (suc entry) short) (Some m) answer out knows h =
    rw h.next (takes own (table c.limits c.log (length c.log)) c.place h.place c.requests h.requests entry short m.message h.committed h.told answer knows h.here)
step0 own others budget c c' stamp (Rx zero number packet floor) None answer out knows h =
    rw (h.here.is_answer, h.next) (record { knows = knows; counts = refl; tells = refl })
step0 own others budget c c' stamp event m answer out knows h = absurd h

-- All events of core 0

-- whether the last request that core 0 began in these events is its own
abbrev own_after : Bool → List Stamped → Bool
own_after own [] = own
own_after own (s ∷ later) = own_after (is_own own s.done.event) later

record KeptOwn (own : Bool) (history : List Stamped) (c c' : Core0State) : Type 0 where
  knows : KnowsOwn (own_after own history) c'.place.phase c'.requests.asker
  counts : length (begun history) + voted_on c.place.phase c.requests.asker ≡ length (decisions_from own history) + voted_on c'.place.phase c'.requests.asker

along0 : (own : Bool) (others budget : ℕ) (c c' : Core0State) (history : List Stamped) (sent : List Sending) (taken : List (ℕ × Stamping))
    → KnowsOwn own c.place.phase c.requests.asker → History0 others budget c history c' sent taken → KeptOwn own history c c'
along0 own others budget c c' [] sent taken knows h = rw h.0 (record { knows = knows; counts = refl })
along0 own others budget c c' (s ∷ later) sent taken knows h =
    let one = step0 own others budget c h.0 s.stamp s.done.event h.1 s.done.answer h.2 knows h.5.does in
    let rest = along0 (is_own own s.done.event) others budget h.0 c' later h.3 h.4 one.knows h.6 in record {
      knows = rest.knows;
      counts = omega (arith, one.counts, rest.counts, length-append (begins s.done.event) (begun later), length-append (own_decision own s.done.event s.done.answer) (decisions_from (is_own own s.done.event) later));
    }

-- The events of another core

-- what a message of core 0 does to what is under way
record KeepsOther (own : Bool) (event : Event) (answer : Answer) (out out' : Bool) : Type 0 where
  counts : length (begins event) + count_if out ≡ length (own_decision own event answer) + count_if out'
  tells : own_decision own event answer ≡ own_decision false event answer

answered : (own short : Bool) (to : ℕ) (m reply : Message) (out out' : Bool) (version : ℕ) (answer : Answer) → out' ≡ out → Took m reply version answer → KeepsOther own (Take to 0 short) answer out out'
answered own short to (message.Prepare txn op) (message.Vote txn' v) out out' version answer e h = rw (h, e) (record { counts = refl; tells = refl })
answered own short to (message.Commit txn) reply out out' version answer e h = rw (h, e) (record { counts = refl; tells = refl })
answered own short to (message.Abort txn) reply out out' version answer e h = rw (h, e) (record { counts = refl; tells = refl })
answered own short to m reply out out' version answer e h = absurd h

down : (own short : Bool) (to : ℕ) (s : TableState) (budget version : ℕ) (place place' : ParticipantPlace) (out out' : Bool) (m : Message) (committed : Option Op) (answer : Answer)
    → TakesDownAt short s budget version place out m place' out' committed answer → KeepsOther own (Take to 0 short) answer out out'
down own short to s budget version place place' out out' (message.Reply d) committed answer h = rw (h.was_outstanding, h.none_outstanding, h.is_answer) (record { counts = refl; tells = refl })
down own short to s budget version place place' out out' (message.Prepare txn op) committed answer h = answered own short to (message.Prepare txn op) h.reply out out' _ answer h.same_outstanding h.is_answer
down own short to s budget version place place' out out' (message.Commit txn) committed answer h = answered own short to (message.Commit txn) h.reply out out' _ answer h.same_outstanding h.is_answer
down own short to s budget version place place' out out' (message.Abort txn) committed answer h = answered own short to (message.Abort txn) h.reply out out' _ answer h.same_outstanding h.is_answer
down own short to s budget version place place' out out' (message.Vote txn v) committed answer h = absurd h.answers
down own short to s budget version place place' out out' (message.Ack txn) committed answer h = absurd h.answers
down own short to s budget version place place' out out' (message.Submit op) committed answer h = absurd h.answers

step_other : (own : Bool) (entry budget : ℕ) (c c' : OtherState) (stamp : ℕ) (event : Event) (m : Option Stamping) (answer : Answer)
    → DoesOther entry budget c stamp event m c' answer → KeepsOther own event answer c.outstanding c'.outstanding
step_other own entry budget c c' stamp (Submit (suc core) op) None answer h = rw (h.1.next, h.1.here.is_answer, h.1.here.none_outstanding, h.1.here.now_outstanding) (record { counts = refl; tells = refl })
step_other own entry budget c c' stamp (Take (suc to) zero short) (Some m) answer h =
    rw h.1.next (down own short (suc to) (table c.limits c.log (length c.log)) budget (length c.log) c.place h.1.place c.outstanding h.1.outstanding m.message h.1.committed answer h.1.here)
step_other own entry budget c c' stamp (Rx (suc core) number packet floor) None answer h = rw (h.1.next, h.1.here.is_answer) (record { counts = refl; tells = refl })
step_other own entry budget c c' stamp event m answer h = absurd h

along : (own : Bool) (entry budget : ℕ) (c c' : OtherState) (history : List Stamped) (taken : List Stamping)
    → HistoryOther entry budget c history c' taken → length (begun history) + count_if c.outstanding ≡ length (decisions_from own history) + count_if c'.outstanding
along own entry budget c c' [] taken h = rw h.0 refl
along own entry budget c c' (s ∷ later) taken h =
    let one = step_other own entry budget c h.0 s.stamp s.done.event h.1 s.done.answer h.3.does in
    let rest = along (is_own own s.done.event) entry budget h.0 c' later h.2 h.4 in
    omega (arith, one.counts, rest, length-append (begins s.done.event) (begun later), length-append (own_decision own s.done.event s.done.answer) (decisions_from (is_own own s.done.event) later))

-- A core that stands

pub decided : (x : Part) (number cores clock : ℕ) (history : List Stamped) (view : ℕ → LinkView) → IsStanding x number cores clock history view → AreDecided x history
decided (part.Core0 core) number cores clock history view st =
    let h = along0 false (cores - 1) core.replica.budget (core0_first core.replica.shown.limits (cores - 1)) st.0 history st.3.sent st.3.taken refl st.3.is_history in
    let phase : st.0.place.phase ≡ core.coordinator.phase = ap (λ (p : CoordinatorPlace). p.phase) st.2.place_is in
    let asker : st.0.requests.asker ≡ core.coordinator.requests.asker = ap (λ (r : Requests). r.asker) st.2.requests_are in
    let same : voted_on st.0.place.phase st.0.requests.asker ≡ voted_on core.coordinator.phase core.coordinator.requests.asker = rw (phase, asker) refl in
    omega (arith, h.counts, same)
decided (part.OtherCore core) number cores clock history view st =
    let h = along false st.0 core.replica.budget (other_first core.replica.shown.limits) st.1 history st.4.taken st.4.is_history in
    omega (arith, h, ap count_if st.3.outstanding_is)

-- the decisions of a longer history
pub more_from : (own : Bool) (history : List Stamped) (s : Stamped) → decisions_from own (history ++ s ∷ []) ≡ decisions_from own history ++ own_decision (own_after own history) s.done.event s.done.answer
more_from own [] s = append-nil (own_decision own s.done.event s.done.answer)
more_from own (x ∷ later) s = ap (λ (l : List Decision). own_decision own x.done.event x.done.answer ++ l) (more_from (is_own own x.done.event) later s) ∙ sym (append_assoc (own_decision own x.done.event x.done.answer) _ _)

told : (x y : Part) (number cores clock : ℕ) (history : List Stamped) (s : Stamped) (v seen w : ℕ → LinkView) → IsStanding x number cores clock history v → Acts number cores clock seen w x y s
    → own_decision (own_after false history) s.done.event s.done.answer ≡ own_decision (asks_itself y) s.done.event s.done.answer
told (part.Core0 core) (part.Core0 core') number cores clock history s v seen w st a =
    let l = a.leads st.0 st.2 in
    let knows = (along0 false (cores - 1) core.replica.budget (core0_first core.replica.shown.limits (cores - 1)) st.0 history st.3.sent st.3.taken refl st.3.is_history).knows in
    (step0 (own_after false history) (cores - 1) core.replica.budget st.0 l.after s.stamp s.done.event a.m s.done.answer a.out knows l.step.does).tells
    ∙ ap (λ (r : Requests). own_decision (by_itself r.asker) s.done.event s.done.answer) l.stands.requests_are
told (part.Core0 core) (part.OtherCore core') number cores clock history s v seen w st a = absurd a
told (part.OtherCore core) (part.Core0 core') number cores clock history s v seen w st a = absurd a
told (part.OtherCore core) (part.OtherCore core') number cores clock history s v seen w st a =
    let e : a.0 ≡ st.0 = omega (arith, a.1, st.2) in
    let l = a.2.leads st.1 st.3 in
    (step_other (own_after false history) a.0 core.replica.budget st.1 l.after s.stamp s.done.event a.2.m s.done.answer l.step.does).tells

-- the event that a core does has the decision that who asked tells of
pub decides_next : (x y : Part) (number cores clock : ℕ) (history : List Stamped) (s : Stamped) (v seen w : ℕ → LinkView) → IsStanding x number cores clock history v → Acts number cores clock seen w x y s
    → decisions (history ++ s ∷ []) ≡ decisions history ++ own_decision (asks_itself y) s.done.event s.done.answer
decides_next x y number cores clock history s v seen w st a = more_from false history s ∙ ap (λ (l : List Decision). decisions history ++ l) (told x y number cores clock history s v seen w st a)
