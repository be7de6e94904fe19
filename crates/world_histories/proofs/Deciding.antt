-- Core 0's decisions, read off the histories.
use Rattle.std.proofs.Common.{◌≡◌, ◌<◌, ◌⊎◌, ℕ, zero, suc, Bool, Some, None, List, [], ◌∷◌, ◌++◌, length, slice_get, refl, ap, sym, ◌∙◌, subst, arith, append_assoc}
use Rattle.std.proofs.lemmas.List.{map-append}
use mathlib.Core.List.{IsPrefix}
use Rattle.filter_table.specs.Limits.{TableLimits}
use Rattle.filter_table.specs.declared.operation.Op.{Op}
use Rattle.filter_table.specs.declared.operation.Made.{Made}
use Rattle.filter_table.specs.Tables.{TableState, after, made, table, instructions, Allowed}
use Rattle.filter_table.proofs.Tables.{table_front}
use Rattle.monitor_messages.specs.declared.message.Message.{Message}
use Rattle.monitor_messages.specs.declared.message.Message.TheVariants as message
use Rattle.filter_table.specs.declared.decision.Vote.{Vote}
use Rattle.filter_table.specs.declared.decision.Vote.TheVariants as vote
use Rattle.filter_table.specs.declared.decision.Veto.{Veto}
use Rattle.filter_table.specs.declared.decision.Veto.TheVariants as veto
use Rattle.filter_table.specs.declared.decision.Decision.{Decision}
use Rattle.filter_table.specs.declared.decision.Decision.TheVariants.{Committed, Refused}
use Rattle.world_events.specs.declared.event.Event.{Event}
use Rattle.world_events.specs.declared.event.Event.TheVariants.{Start, Submit, StartFor, Take, Rx}
use Rattle.world_events.specs.declared.event.Answer.{Answer}
use Rattle.world_events.specs.declared.event.Answer.TheVariants.{Prepared, Decided, TookPrepare, TookVote}
use Rattle.world_events.specs.declared.event.Done.{Done}
use Rattle.world_model.specs.Cases.{TakesUpAt, TakesDownAt, Took}
use Rattle.world_model.specs.Worlds.{Peer, World, boot, newest, budget_at, HappensUp, HappensDown, Happens, Run}
use Rattle.world_model.specs.Readings.{version_of, vote_of, Request, sent, request_of, Begins, Begun}
use Rattle.world_model.specs.Decisions.{HasReason, IsEntryAt, IsWaiting, VetoedBy, MakesChange, vote_by, VotesDecide, DecidesRightly}
use Rattle.world_model.proofs.Lists.{get_end}
use Rattle.world_model.proofs.Runs.{runs_split}
use Rattle.world_model.proofs.Known.{run_known}
use Rattle.world_model.proofs.Agreement.{of_core}
use Rattle.world_model.proofs.Decisions.{run_decides}
use Rattle.world_model.proofs.RunLaws.{run_grows, run_limits}
use Rattle.world_histories.specs.declared.history.Stamped.{Stamped}
use Rattle.world_histories.specs.Histories.{unstamped, Core0State, OtherState, Computation}
use Rattle.world_histories.specs.Merging.{core_of, part, as_short, listed, as_listed}
use Rattle.world_histories.specs.Answers.{requested, begun_for, InRun}
use Rattle.world_histories.specs.Decisions.{Asked, BegunIn, IsNew, voted, vote_in, DecidesBy, DecidesAs}
use Rattle.world_histories.proofs.Lists.{Found, found}
use Rattle.world_histories.proofs.Parts.{part_own, part-append, placed, front_of_each}
use Rattle.world_histories.proofs.Tells.{tells_of_cores}
use Rattle.world_histories.proofs.Votes.{voted_in}
use Rattle.world_histories.proofs.Requests.{Tracks, run_tracks}
use Rattle.world_histories.proofs.Replies.{begins_in, submits_in}
use Rattle.world_histories.proofs.Merge.{OneRun, one_run}
use Rattle.world_histories.proofs.Agreement.{in_the_run}
use Rattle.std.proofs.lemmas.Option.{slice_get_within}
use Rattle.filter_table.proofs.Positions.{get_front, get_at}

-- A front of the run

-- the run up to an event, with the event
record Until (limits : TableLimits) (budget : ℕ) (budgets : List ℕ) (front : List Stamped) (s : Stamped) : Type 0 where
  world : World
  world' : World
  run : Run limits budget budgets (as_listed front) world
  happens : Happens world (listed s).event world' s.done.answer

until : (limits : TableLimits) (budget : ℕ) (budgets : List ℕ) (front rest : List Stamped) (s : Stamped) (w : World) → Run limits budget budgets (as_listed (front ++ s ∷ rest)) w → Until limits budget budgets front s
until limits budget budgets front rest s w run =
    let r = runs_split (boot limits budget budgets) w (as_listed front) (listed s ∷ as_listed rest) (subst (λ (xs : List Done). Run limits budget budgets xs w) (map-append listed front (s ∷ rest)) run) in
    record { world = r.0; world' = r.2.0; run = r.1; happens = r.2.1 }

-- what core 0 begins for a core is what the core submitted last
asked_at : (limits : TableLimits) (budget : ℕ) (budgets : List ℕ) (core0 : List Stamped) (others : List (List Stamped)) (end : Core0State) (ends : List OtherState) (o : OneRun limits budget budgets core0 others end ends) (front rest before : List Stamped) (w : World) (entry : ℕ) (op : Op)
    → o.merged ≡ front ++ rest → Run limits budget budgets (as_listed front) w → entry < length others → length others ≡ length budgets → part 0 front ≡ before → request_of (suc entry) (as_listed front) ≡ sent op → Asked others before (StartFor (suc entry)) op
asked_at limits budget budgets core0 others end ends o front rest before w entry op e run lt long own is_sent =
    let h = get_at others entry lt in
    let t = tells_of_cores (boot limits budget budgets) w front run in
    let p = get_at w.peers entry (omega (arith, (run_known limits budget budgets (as_listed front) w run).cores, long, lt)) in
    let k : Tracks (suc entry) (as_listed front) (sent op) = subst (λ (r : Request). Tracks (suc entry) (as_listed front) r) is_sent (run_tracks limits budget budgets (as_listed front) w run entry p.0 p.1) in (
      h.0,
      part (suc entry) front,
      h.1,
      front_of_each (suc entry) o.merged front rest h.0 e (o.is_merged.of_each (suc entry) h.0 h.1),
      omega (arith, k.counted, submits_in entry front, begins_in entry front, ap (begun_for entry) own),
      sym (t.requests entry) ∙ ap requested is_sent,
    )

waiting_core : (limits : TableLimits) (budget : ℕ) (budgets : List ℕ) (others : List (List Stamped)) (events : List Done) (w : World) (entry : ℕ) (op : Op) → length others ≡ length budgets → Run limits budget budgets events w → slice_get w.requests.waiting entry ≡ Some (Some op) → entry < length others
waiting_core limits budget budgets others events w entry op long run at = omega (arith, long, (run_known limits budget budgets events w run).waiting_long, slice_get_within w.requests.waiting entry (Some op) at)

-- Numbers

no_number_up : (w : World) (i : ℕ) (w' : World) (txn : ℕ) → HappensUp w i w' (Prepared txn) → ⊥
no_number_up w i w' txn h = by_message h.m h.here
  where
    by_message : (m : Message) → TakesUpAt (newest w) w.place w.requests i m h.place h.requests h.committed h.told (Prepared txn) → ⊥
    by_message (message.Vote n v) here = let e = here.is_answer in cc
    by_message (message.Ack n) here = let e = here.is_answer in cc
    by_message (message.Submit op) here = let e = here.is_answer in cc
    by_message m here = here

no_number_took : (m reply : Message) (version txn : ℕ) → Took m reply version (Prepared txn) → ⊥
no_number_took (message.Prepare n op) (message.Vote n' v) version txn t = cc
no_number_took (message.Commit n) reply version txn t = cc
no_number_took (message.Abort n) reply version txn t = cc
no_number_took m reply version txn t = t

no_number_down : (w : World) (i : ℕ) (short : Bool) (w' : World) (txn : ℕ) → HappensDown w i short w' (Prepared txn) → ⊥
no_number_down w i short w' txn h = by_message h.m h.here
  where
    by_message : (m : Message) → TakesDownAt short (newest w) h.peer.budget h.peer.version h.peer.place h.peer.outstanding m h.place h.outstanding h.committed (Prepared txn) → ⊥
    by_message (message.Reply d) here = let e = here.is_answer in cc
    by_message (message.Prepare n op) here = no_number_took (message.Prepare n op) here.reply _ txn here.is_answer
    by_message (message.Commit n) here = no_number_took (message.Commit n) here.reply _ txn here.is_answer
    by_message (message.Abort n) here = no_number_took (message.Abort n) here.reply _ txn here.is_answer
    by_message (message.Vote n v) here = here.answers
    by_message (message.Ack n) here = here.answers
    by_message (message.Submit op) here = here.answers

-- an event that gives out a number begins an operation
begins_it : (limits : TableLimits) (budget : ℕ) (budgets : List ℕ) (events : List Done) (w w' : World) (event : Event) (txn : ℕ) → Run limits budget budgets events w → Happens w event w' (Prepared txn) → (core : ℕ) × (op : Op) × Begins events event core op
begins_it limits budget budgets events w w' (Start op) txn run h = (0, op, (refl, refl))
begins_it limits budget budgets events w w' (StartFor (suc i)) txn run h = let d = run_decides limits budget budgets events w w' (StartFor (suc i)) (Prepared txn) run h in (suc i, d.0, (refl, d.1.is_sent))
begins_it limits budget budgets events w w' (Submit (suc i) op) txn run h = absurd (let e = h.here.is_answer in cc)
begins_it limits budget budgets events w w' (Take zero (suc i) short) txn run h = absurd (no_number_up w i w' txn h)
begins_it limits budget budgets events w w' (Take (suc i) zero short) txn run h = absurd (no_number_down w i short w' txn h)
begins_it limits budget budgets events w w' (Rx i number packet floor) txn run h = absurd (let e = h.here.is_answer in cc)
begins_it limits budget budgets events w w' event txn run h = absurd h

-- an event that decides at once begins one too
abbrev Starting : Event → Type 0
Starting (Start op) = Unit {0}
Starting (StartFor core) = Unit {0}
Starting event = ⊥

none_at_once_up : (w : World) (i : ℕ) (w' : World) (d : Decision) → HappensUp w i w' (Decided d) → ⊥
none_at_once_up w i w' d h = by_message h.m h.here
  where
    by_message : (m : Message) → TakesUpAt (newest w) w.place w.requests i m h.place h.requests h.committed h.told (Decided d) → ⊥
    by_message (message.Vote n v) here = let e = here.is_answer in cc
    by_message (message.Ack n) here = let e = here.is_answer in cc
    by_message (message.Submit op) here = let e = here.is_answer in cc
    by_message m here = here

none_at_once_took : (m reply : Message) (version : ℕ) (d : Decision) → Took m reply version (Decided d) → ⊥
none_at_once_took (message.Prepare n op) (message.Vote n' v) version d t = cc
none_at_once_took (message.Commit n) reply version d t = cc
none_at_once_took (message.Abort n) reply version d t = cc
none_at_once_took m reply version d t = t

none_at_once_down : (w : World) (i : ℕ) (short : Bool) (w' : World) (d : Decision) → HappensDown w i short w' (Decided d) → ⊥
none_at_once_down w i short w' d h = by_message h.m h.here
  where
    by_message : (m : Message) → TakesDownAt short (newest w) h.peer.budget h.peer.version h.peer.place h.peer.outstanding m h.place h.outstanding h.committed (Decided d) → ⊥
    by_message (message.Reply r) here = let e = here.is_answer in cc
    by_message (message.Prepare n op) here = none_at_once_took (message.Prepare n op) here.reply _ d here.is_answer
    by_message (message.Commit n) here = none_at_once_took (message.Commit n) here.reply _ d here.is_answer
    by_message (message.Abort n) here = none_at_once_took (message.Abort n) here.reply _ d here.is_answer
    by_message (message.Vote n v) here = here.answers
    by_message (message.Ack n) here = here.answers
    by_message (message.Submit op) here = here.answers

starts_it : (w w' : World) (event : Event) (d : Decision) → Happens w event w' (Decided d) → Starting event
starts_it w w' (Start op) d h = tt
starts_it w w' (StartFor core) d h = tt
starts_it w w' (Submit (suc i) op) d h = absurd (let e = h.here.is_answer in cc)
starts_it w w' (Take zero (suc i) short) d h = absurd (none_at_once_up w i w' d h)
starts_it w w' (Take (suc i) zero short) d h = absurd (none_at_once_down w i short w' d h)
starts_it w w' (Rx i number packet floor) d h = absurd (let e = h.here.is_answer in cc)
starts_it w w' event d h = absurd h

begun_before : (front rest : List Stamped) (s : Stamped) (txn core : ℕ) (op : Op) → s.done.answer ≡ Prepared txn → Begins (as_listed front) (listed s).event core op → Begun (as_listed (front ++ s ∷ rest)) txn core op
begun_before front rest s txn core op e b = record {
  before = as_listed front;
  after = as_listed rest;
  event = (listed s).event;
  is_among = map-append listed front (s ∷ rest) ∙ ap (λ (a : Answer). as_listed front ++ record { event = (listed s).event; answer = a } ∷ as_listed rest) e;
  begins = b;
}

-- a number that no operation of the run had, no event of core 0 gave out
new_in : (limits : TableLimits) (budget : ℕ) (budgets : List ℕ) (earlier before : List Stamped) (w : World) (txn : ℕ) → Run limits budget budgets (as_listed earlier) w → part 0 earlier ≡ before → ((core : ℕ) (old : Op) → Begun (as_listed earlier) txn core old → ⊥) → IsNew before txn
new_in limits budget budgets earlier before w txn run own none front rest s e is =
    let p = placed 0 earlier front s rest (own ∙ e) in
    let u = until limits budget budgets p.earlier p.later s w (subst (λ (xs : List Stamped). Run limits budget budgets (as_listed xs) w) p.is_split run) in
    let b = begins_it limits budget budgets (as_listed p.earlier) u.world u.world' (listed s).event txn u.run (subst (λ (a : Answer). Happens u.world (listed s).event u.world' a) is u.happens) in
    none b.0 b.1 (subst (λ (xs : List Stamped). Begun (as_listed xs) txn b.0 b.1) (sym p.is_split) (begun_before p.earlier p.later s txn b.0 b.1 is b.2))

-- Where an operation was begun

short_prepared : (event : Event) (txn : ℕ) → as_short event (Prepared txn) ≡ event
short_prepared (Take to from short) txn = refl
short_prepared event txn = refl

begun_in : (limits : TableLimits) (budget : ℕ) (budgets : List ℕ) (core0 : List Stamped) (others : List (List Stamped)) (end : Core0State) (ends : List OtherState) (o : OneRun limits budget budgets core0 others end ends) (earlier rest before : List Stamped) (w : World) (txn core : ℕ) (op : Op)
    → length others ≡ length budgets → o.merged ≡ earlier ++ rest → part 0 earlier ≡ before → Run limits budget budgets (as_listed earlier) w → Begun (as_listed earlier) txn core op → BegunIn others before txn op
begun_in limits budget budgets core0 others end ends o earlier rest before w txn core op long e own run b = record {
  earlier = part 0 f.front;
  begins = f.item;
  rest = part 0 f.rest;
  is_among = sym own ∙ (ap (part 0) f.is_split ∙ (part-append 0 f.front (f.item ∷ f.rest) ∙ ap (λ (ys : List Stamped). part 0 f.front ++ ys) (part_own 0 f.item f.rest core_0)));
  numbered = numbered;
  asked = subst (λ (x : Event). Asked others (part 0 f.front) x op) (sym is_event) (by_event b.event refl b.begins);
}
  where
    f : Found listed earlier b.before (record { event = b.event; answer = Prepared txn }) b.after
    f = found listed earlier b.before b.after (record { event = b.event; answer = Prepared txn }) b.is_among

    numbered : f.item.done.answer ≡ Prepared txn
    numbered = ap (λ (d : Done). d.answer) f.is_item

    is_event : f.item.done.event ≡ b.event
    is_event = sym (short_prepared f.item.done.event txn) ∙ (ap (as_short f.item.done.event) (sym numbered) ∙ ap (λ (d : Done). d.event) f.is_item)

    u : Until limits budget budgets f.front f.item
    u = until limits budget budgets f.front f.rest f.item w (subst (λ (xs : List Stamped). Run limits budget budgets (as_listed xs) w) f.is_split run)

    merged_is : o.merged ≡ f.front ++ (f.item ∷ f.rest ++ rest)
    merged_is = e ∙ (ap (λ (ys : List Stamped). ys ++ rest) f.is_split ∙ append_assoc f.front (f.item ∷ f.rest) rest)

    core_of_begun : (event : Event) → Begins b.before event core op → core_of event ≡ 0
    core_of_begun (Start started) x = refl
    core_of_begun (StartFor from) x = refl
    core_of_begun event x = absurd x

    core_0 : core_of f.item.done.event ≡ 0
    core_0 = ap core_of is_event ∙ core_of_begun b.event b.begins

    -- the core that a request is begun for has it waiting
    begun_for : (from : ℕ) → b.event ≡ StartFor from → request_of from b.before ≡ sent op → Happens u.world (StartFor from) u.world' (Prepared txn) → Asked others (part 0 f.front) (StartFor from) op
    begun_for (suc entry) is sent_it h =
        asked_at limits budget budgets core0 others end ends o f.front (f.item ∷ f.rest ++ rest) (part 0 f.front) u.world entry op merged_is u.run
        (waiting_core limits budget budgets others (as_listed f.front) u.world entry h.here.starts.op long u.run h.here.starts.is_waiting) long refl
        (ap (request_of (suc entry)) f.is_front ∙ sent_it)
    begun_for zero is sent_it h = absurd h

    happened : Happens u.world b.event u.world' (Prepared txn)
    happened = subst (λ (d : Done). Happens u.world d.event u.world' d.answer) f.is_item u.happens

    by_event : (event : Event) → b.event ≡ event → Begins b.before event core op → Asked others (part 0 f.front) event op
    by_event (Start started) is x = x.1
    by_event (StartFor from) is x = begun_for from is (subst (λ (k : ℕ). request_of k b.before ≡ sent op) x.0 (subst (λ (k : ℕ). request_of k b.before ≡ sent op) (sym x.0) x.1)) (subst (λ (y : Event). Happens u.world y u.world' (Prepared txn)) is happened)
    by_event event is x = absurd x

-- Decisions

is_entry_at : (limits : TableLimits) (log : List Op) (w w' : World) (v : ℕ) (op : Op) (version : ℕ) (id : Made) → length w.log ≡ v → w'.limits ≡ w.limits → newest w ≡ table limits log v → IsPrefix w'.log log → w'.log ≡ w.log ++ op ∷ [] → IsEntryAt w'.limits w'.log (length w.log) op version id → IsEntryAt limits log v op version id
is_entry_at limits log w w' v op version id long lim same front next c = record {
  entry = rw (← long) (subst (λ (l : List Op). slice_get l (length w.log) ≡ Some op) (ap (λ (l : List Op). l ++ front.0) (sym next) ∙ front.1) (get_front (w.log ++ op ∷ []) front.0 (length w.log) op (get_end w.log op)));
  is_version = omega (arith, c.is_version, long);
  is_made = c.is_made ∙ ap (λ (s : TableState). made s op) (ap (λ (l : List Op). table w'.limits l (length w.log)) next ∙ ap (λ (m : TableLimits). table m (w.log ++ op ∷ []) (length w.log)) lim ∙ (table_front w.limits w.log (op ∷ []) (length w.log) (omega arith) ∙ same));
}

-- what is known of core 0's event
record Context (limits : TableLimits) (budget : ℕ) (budgets : List ℕ) (core0 : List Stamped) (others : List (List Stamped)) (end : Core0State) (ends : List OtherState) (before : List Stamped) (event : Event) (answer : Answer) : Type 0 where
  comp : Computation limits budget budgets core0 others end ends
  one : OneRun limits budget budgets core0 others end ends
  earlier : List Stamped
  rest : List Stamped
  is_split : one.merged ≡ earlier ++ rest
  own : part 0 earlier ≡ before
  world : World
  world' : World
  run : Run limits budget budgets (as_listed earlier) world
  happens : Happens world event world' answer
  long : length world.log ≡ version_of 0 (unstamped before)
  same_limits : world'.limits ≡ world.limits
  newest_is : newest world ≡ table limits end.log (version_of 0 (unstamped before))
  front' : IsPrefix world'.log end.log
  decides : DecidesRightly (as_listed earlier) world event world' answer

voted_by : (limits : TableLimits) (budget : ℕ) (budgets : List ℕ) (core0 : List Stamped) (others : List (List Stamped)) (end : Core0State) (ends : List OtherState) (before : List Stamped) (event : Event) (answer : Answer) (x : Context limits budget budgets core0 others end ends before event answer) (txn i : ℕ) (h : List Stamped) (v : Vote)
    → slice_get others i ≡ Some h → vote_of (suc i) txn (as_listed x.earlier) ≡ Some v → vote_of (suc i) txn (unstamped h) ≡ Some v
voted_by limits budget budgets core0 others end ends before event answer x txn i h v at e =
    let lt = slice_get_within others i h at in
    let b = get_at budgets i (omega (arith, lt, x.comp.cores)) in
    let d = get_at ends i (omega (arith, lt, x.comp.cores, x.comp.all_end)) in
    let t = x.comp.of_other i b.0 h d.0 b.1 at d.1 in
    let front = front_of_each (suc i) x.one.merged x.earlier x.rest h x.is_split (x.one.is_merged.of_each (suc i) h at) in
    let tells = tells_of_cores (boot limits budget budgets) x.world x.earlier x.run in
    voted_in limits (suc i) txn i b.0 d.0 h (part (suc i) x.earlier) t.taken v t.is_history front (sym (tells.votes (suc i) txn) ∙ e)

-- so it is with the vote of each other core
voted_in_others : (limits : TableLimits) (budget : ℕ) (budgets : List ℕ) (core0 : List Stamped) (others : List (List Stamped)) (end : Core0State) (ends : List OtherState) (before : List Stamped) (event : Event) (answer : Answer) (x : Context limits budget budgets core0 others end ends before event answer) (txn i : ℕ) (v : Vote)
    → i < length others → vote_by (as_listed x.earlier) txn i ≡ Some v → vote_in others txn i ≡ Some v
voted_in_others limits budget budgets core0 others end ends before event answer x txn i v lt e =
    let h = get_at others i lt in
    ap (voted (suc i) txn) h.1 ∙ voted_by limits budget budgets core0 others end ends before event answer x txn i h.0 v h.1 e

vetoed : (limits : TableLimits) (budget : ℕ) (budgets : List ℕ) (core0 : List Stamped) (others : List (List Stamped)) (end : Core0State) (ends : List OtherState) (before : List Stamped) (event : Event) (answer : Answer) (x : Context limits budget budgets core0 others end ends before event answer) (txn : ℕ) (op : Op) (core : ℕ) (why : Veto)
    → VetoedBy (vote_by (as_listed x.earlier) txn) (λ entry. budget_at x.world (suc entry)) (newest x.world) op core why → VetoedBy (vote_in others txn) (slice_get budgets) (table limits end.log (version_of 0 (unstamped before))) op core why
vetoed limits budget budgets core0 others end ends before event answer x txn op core why h =
    let known = run_known limits budget budgets (as_listed x.earlier) x.world x.run in
    let p = of_core (λ (q : Peer). q.budget) x.world.peers h.entry h.budget (slice_get x.world.peers h.entry) refl h.is_budget in
    let within : h.entry < length others = omega (arith, x.comp.cores, known.cores, slice_get_within x.world.peers h.entry p.0 p.1) in
    record {
      entry = h.entry;
      is_core = h.is_core;
      yes_before = λ i lt. voted_in_others limits budget budgets core0 others end ends before event answer x txn i vote.Yes (omega (arith, lt, within)) (h.yes_before i lt);
      against = h.against;
      voted = voted_in_others limits budget budgets core0 others end ends before event answer x txn h.entry h.against within h.voted;
      budget = h.budget;
      is_budget = known.budgets_are h.entry p.0 p.1 ∙ ap (λ (n : ℕ). Some n) p.2;
      reason = subst (λ (s : TableState). ((h.against ≡ vote.NoMemory) × (why ≡ veto.NoMemory) × Allowed s h.budget op None) ⊎ ((h.against ≡ vote.Budget) × (why ≡ veto.Budget) × (h.budget < instructions (after s op)))) x.newest_is h.reason;
    }

votes_decide : (limits : TableLimits) (budget : ℕ) (budgets : List ℕ) (core0 : List Stamped) (others : List (List Stamped)) (end : Core0State) (ends : List OtherState) (before : List Stamped) (event : Event) (answer : Answer) (x : Context limits budget budgets core0 others end ends before event answer) (txn : ℕ) (op : Op) (d : Decision)
    → MakesChange x.world op x.world' d → VotesDecide (length x.world.peers) (vote_by (as_listed x.earlier) txn) (λ entry. budget_at x.world (suc entry)) x.world'.limits x.world'.log (length x.world.log) op d
    → VotesDecide (length others) (vote_in others txn) (slice_get budgets) limits end.log (version_of 0 (unstamped before)) op d
votes_decide limits budget budgets core0 others end ends before event answer x txn op (Committed version id) change h =
    let known = run_known limits budget budgets (as_listed x.earlier) x.world x.run in (
      is_entry_at limits end.log x.world x.world' (version_of 0 (unstamped before)) op version id x.long x.same_limits x.newest_is x.front' change h.0,
      λ i lt. voted_in_others limits budget budgets core0 others end ends before event answer x txn i vote.Yes lt (h.1 i (omega (arith, known.cores, x.comp.cores, lt))),
    )
votes_decide limits budget budgets core0 others end ends before event answer x txn op (Refused core why) change h =
    vetoed limits budget budgets core0 others end ends before event answer x txn op core why
    (subst (λ (m : TableLimits). VetoedBy (vote_by (as_listed x.earlier) txn) (λ entry. budget_at x.world (suc entry)) (table m x.world.log (length x.world.log)) op core why) x.same_limits
    (subst (λ (l : List Op). VetoedBy (vote_by (as_listed x.earlier) txn) (λ entry. budget_at x.world (suc entry)) (table x.world'.limits l (length x.world.log)) op core why) change.0 h))

asked_for : (limits : TableLimits) (budget : ℕ) (budgets : List ℕ) (core0 : List Stamped) (others : List (List Stamped)) (end : Core0State) (ends : List OtherState) (before : List Stamped) (event : Event) (answer : Answer) (x : Context limits budget budgets core0 others end ends before event answer) (entry : ℕ) (op : Op)
    → IsWaiting (as_listed x.earlier) x.world entry op → Asked others before (StartFor (suc entry)) op
asked_for limits budget budgets core0 others end ends before event answer x entry op w =
    asked_at limits budget budgets core0 others end ends x.one x.earlier x.rest before x.world entry op x.is_split x.run (waiting_core limits budget budgets others (as_listed x.earlier) x.world entry op x.comp.cores x.run w.waits) x.comp.cores x.own w.is_sent

allowed_then : (limits : TableLimits) (budget : ℕ) (budgets : List ℕ) (core0 : List Stamped) (others : List (List Stamped)) (end : Core0State) (ends : List OtherState) (before : List Stamped) (event : Event) (answer : Answer) (x : Context limits budget budgets core0 others end ends before event answer) (op : Op)
    → Allowed (newest x.world) x.world.budget op None → Allowed (table limits end.log (version_of 0 (unstamped before))) budget op None
allowed_then limits budget budgets core0 others end ends before event answer x op a =
    subst (λ (b : ℕ). Allowed (table limits end.log (version_of 0 (unstamped before))) b op None) (run_known limits budget budgets (as_listed x.earlier) x.world x.run).budget_is
    (subst (λ (s : TableState). Allowed s x.world.budget op None) x.newest_is a)

none_else : (limits : TableLimits) (budget : ℕ) (budgets : List ℕ) (core0 : List Stamped) (others : List (List Stamped)) (end : Core0State) (ends : List OtherState) (before : List Stamped) (event : Event) (answer : Answer) (x : Context limits budget budgets core0 others end ends before event answer)
    → length x.world.peers ≡ 0 → length others ≡ 0
none_else limits budget budgets core0 others end ends before event answer x none =
    omega (arith, x.comp.cores, (run_known limits budget budgets (as_listed x.earlier) x.world x.run).cores, none)

reason_then : (limits : TableLimits) (budget : ℕ) (budgets : List ℕ) (core0 : List Stamped) (others : List (List Stamped)) (end : Core0State) (ends : List OtherState) (before : List Stamped) (event : Event) (answer : Answer) (x : Context limits budget budgets core0 others end ends before event answer) (op : Op) (why : Veto)
    → HasReason (newest x.world) x.world.budget op why → HasReason (table limits end.log (version_of 0 (unstamped before))) budget op why
reason_then limits budget budgets core0 others end ends before event answer x op why r =
    subst (λ (b : ℕ). HasReason (table limits end.log (version_of 0 (unstamped before))) b op why) (run_known limits budget budgets (as_listed x.earlier) x.world x.run).budget_is
    (subst (λ (s : TableState). HasReason s x.world.budget op why) x.newest_is r)

decides_by : (limits : TableLimits) (budget : ℕ) (budgets : List ℕ) (core0 : List Stamped) (others : List (List Stamped)) (end : Core0State) (ends : List OtherState) (before : List Stamped) (event : Event) (answer : Answer) → Context limits budget budgets core0 others end ends before event answer
    → DecidesBy limits budget budgets others end.log before (version_of 0 (unstamped before)) event answer
decides_by limits budget budgets core0 others end ends before (Start op) (Prepared txn) x = (op, refl, allowed_then limits budget budgets core0 others end ends before _ _ x op x.decides.allowed, new_in limits budget budgets x.earlier before x.world txn x.run x.own x.decides.new_number)
decides_by limits budget budgets core0 others end ends before (StartFor (suc i)) (Prepared txn) x =
    let d = x.decides in
    (d.0, asked_for limits budget budgets core0 others end ends before _ _ x i d.0 d.1, allowed_then limits budget budgets core0 others end ends before _ _ x d.0 d.2.allowed, new_in limits budget budgets x.earlier before x.world txn x.run x.own d.2.new_number)
decides_by limits budget budgets core0 others end ends before (Start op) (Decided (Committed version id)) x =
    (op, refl, (none_else limits budget budgets core0 others end ends before _ _ x x.decides.1.0, is_entry_at limits end.log x.world x.world' (version_of 0 (unstamped before)) op version id x.long x.same_limits x.newest_is x.front' x.decides.0 x.decides.1.1))
decides_by limits budget budgets core0 others end ends before (Start op) (Decided (Refused core why)) x =
    (op, refl, (x.decides.1.0, reason_then limits budget budgets core0 others end ends before _ _ x op why x.decides.1.1))
decides_by limits budget budgets core0 others end ends before (StartFor (suc i)) (Decided (Committed version id)) x = absurd x.decides.2
decides_by limits budget budgets core0 others end ends before (StartFor (suc i)) (Decided (Refused core why)) x =
    let d = x.decides in
    (d.0, asked_for limits budget budgets core0 others end ends before _ _ x i d.0 d.1, (d.2.0.0, reason_then limits budget budgets core0 others end ends before _ _ x d.0 why d.2.0.1))
decides_by limits budget budgets core0 others end ends before (StartFor zero) answer x = absurd x.happens
decides_by limits budget budgets core0 others end ends before event (TookVote txn v (Some d)) x =
    let h = x.decides in
    (h.1, begun_in limits budget budgets core0 others end ends x.one x.earlier x.rest before x.world txn h.0 h.1 x.comp.cores x.is_split x.own x.run h.2, votes_decide limits budget budgets core0 others end ends before _ _ x txn h.1 d h.3 h.4)
decides_by limits budget budgets core0 others end ends before event (Prepared txn) x = absurd (begins_it limits budget budgets (as_listed x.earlier) x.world x.world' event txn x.run x.happens).2
decides_by limits budget budgets core0 others end ends before event (Decided d) x = absurd (starts_it x.world x.world' event d x.happens)
decides_by limits budget budgets core0 others end ends before event answer x = tt

-- a decision is no vote, so the flag of a Take is as it was
short_decided : (limits : TableLimits) (budget : ℕ) (budgets : List ℕ) (others : List (List Stamped)) (log : List Op) (before : List Stamped) (v : ℕ) (event : Event) (answer : Answer) → DecidesBy limits budget budgets others log before v (as_short event answer) answer → DecidesBy limits budget budgets others log before v event answer
short_decided limits budget budgets others log before v (Take to from short) (TookPrepare txn vote.NoMemory) h = tt
short_decided limits budget budgets others log before v event answer h = h

pub decided : (limits : TableLimits) (budget : ℕ) (budgets : List ℕ) (core0 : List Stamped) (others : List (List Stamped)) (end : Core0State) (ends : List OtherState) → Computation limits budget budgets core0 others end ends
    → (before after : List Stamped) (s : Stamped) → core0 ≡ before ++ s ∷ after → DecidesAs limits budget budgets others end.log before s
decided limits budget budgets core0 others end ends c before after s e =
    short_decided limits budget budgets others end.log before (version_of 0 (unstamped before)) s.done.event s.done.answer
    (decides_by limits budget budgets core0 others end ends before (listed s).event s.done.answer (record {
      comp = c;
      one = o;
      earlier = r.earlier;
      rest = s ∷ r.later;
      is_split = r.is_split;
      own = r.own;
      world = r.world;
      world' = r.world';
      run = r.run;
      happens = r.happens;
      long = long;
      same_limits = (run_grows limits budget budgets (as_listed r.earlier) r.world r.world' (listed s).event s.done.answer r.run r.happens).limits;
      newest_is = ap (λ (m : TableLimits). table m r.world.log (length r.world.log)) (run_limits limits budget budgets (as_listed r.earlier) r.world r.run) ∙ sym (table_front limits r.world.log r.log_front.0 (length r.world.log) (omega arith)) ∙ (ap (λ (l : List Op). table limits l (length r.world.log)) r.log_front.1 ∙ ap (table limits end.log) long);
      front' = r.log_front';
      decides = run_decides limits budget budgets (as_listed r.earlier) r.world r.world' (listed s).event s.done.answer r.run r.happens;
    }))
  where
    o : OneRun limits budget budgets core0 others end ends
    o = one_run limits budget budgets core0 others end ends c

    r : InRun limits budget budgets core0 others end.log o.merged 0 before s
    r = in_the_run limits budget budgets core0 others end ends o 0 core0 before after s c.cores refl e

    long : length r.world.log ≡ version_of 0 (unstamped before)
    long = r.log_long ∙ ap (λ (xs : List Stamped). version_of 0 (unstamped xs)) r.own
