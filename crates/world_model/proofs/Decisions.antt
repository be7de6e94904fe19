-- Each decision of a run is right.
use Rattle.std.proofs.Common.{◌≡◌, ◌≢◌, ◌+◌, ◌<◌, ◌⊎◌, inl, inr, ℕ, zero, suc, Bool, Option, Some, None, List, [], ◌∷◌, length, map, slice_get, slice_set, refl, ap, sym, ◌∙◌, subst, arith, replicate}
use Rattle.std.specs.Prelude.{option_map}
use Rattle.filter_table.specs.Limits.{TableLimits}
use Rattle.filter_table.specs.declared.operation.Op.{Op}
use Rattle.filter_table.specs.Tables.{TableState, table, after, instructions, Allowed}
use Rattle.monitor_messages.specs.declared.message.Message.{Message}
use Rattle.monitor_messages.specs.declared.message.Message.TheVariants as message
use Rattle.filter_table.specs.declared.decision.Vote.{Vote}
use Rattle.filter_table.specs.declared.decision.Vote.TheVariants as vote
use Rattle.filter_table.specs.declared.decision.Veto.TheVariants as veto
use Rattle.two_phase.specs.declared.step.Step.{Step}
use Rattle.two_phase.specs.Participants.{ParticipantPlace, Casts}
use Rattle.two_phase.specs.Coordinators.{CoordinatorPlace, Requests, Voting, Acking, LeastNo, veto_by, asker_after, reply_to, Starts, refused, unstaged, alone, prepared, Tallies, waits, commits_all, aborts_all}
use Rattle.world_events.specs.declared.event.Event.{Event}
use Rattle.world_events.specs.declared.event.Event.TheVariants.{Start, Submit, StartFor, Take, Rx}
use Rattle.world_events.specs.declared.event.Answer.{Answer}
use Rattle.world_events.specs.declared.event.Answer.TheVariants.{TookVote}
use Rattle.world_events.specs.declared.event.Done.{Done}
use Rattle.world_model.specs.Cases.{to_all, outgoing, start_told, VoteAt, TakesUpAt, TakesDownAt, Took}
use Rattle.world_model.specs.Worlds.{Peer, World, newest, version_at, budget_at, send, core0_moves, HappensStart, HappensStartFor, HappensUp, HappensDown, gave, Happens, Run}
use Rattle.world_model.specs.Agreement.{commitments}
use Rattle.world_model.specs.Readings.{vote_of, sent, request_of, Begun}
use Rattle.world_model.specs.Decisions.{Prepares, VetoedBy, vote_by, DecidesRightly}
use Rattle.world_model.proofs.Lists.{get-set_same, get-set_other, length-slice_set, same_or_not}
use Rattle.world_model.proofs.Invariant.{Pair, at_rest, asked, voted, counted, to_commit, to_abort, acked, finished, Inv}
use Rattle.world_model.proofs.Steps.{on_vote, Polled, polled, voting_on}
use Rattle.world_model.proofs.Submissions.{Inv2}
use Rattle.world_model.proofs.Moves.{Matches, matches_set}
use Rattle.world_model.proofs.Known.{Known, was, run_known}
use Rattle.world_model.proofs.Followed.{waits_sent, next_entry, Numbered, run_numbered}
use Rattle.world_model.proofs.Agreement.{run_inv, run_stages}
use Rattle.std.proofs.lemmas.Option.{slice_get_within}
use Rattle.filter_table.proofs.Positions.{get_at}

-- what is known after a run
record After (limits : TableLimits) (budget : ℕ) (budgets : List ℕ) (events : List Done) (w : World) : Type 0 where
  inv : Inv w
  inv2 : Inv2 w (λ j. request_of (suc j) events)
  known : Known limits budget budgets events w
  numbers : Numbered events w

after_run : (limits : TableLimits) (budget : ℕ) (budgets : List ℕ) (events : List Done) (w : World) → Run limits budget budgets events w → After limits budget budgets events w
after_run limits budget budgets events w run = record {
  inv = run_inv limits budget budgets events w run;
  inv2 = run_stages limits budget budgets events w run;
  known = run_known limits budget budgets events w run;
  numbers = run_numbered limits budget budgets events w run;
}

-- every other core is asked under a new number
prepares : (events : List Done) (w : World) (op : Op) (requests : Requests) (w' : World) → Numbered events w → Allowed (newest w) w.budget op None
    → w' ≡ core0_moves w (record { last = w.place.last + 1; phase = Voting (replicate (length w.peers) None); staged = Some op }) requests None (to_all (message.Prepare (w.place.last + 1) op))
    → Prepares events w op requests w' (w.place.last + 1)
prepares events w op requests w' n allowed next = record {
  allowed = allowed;
  next_number = refl;
  new_number = λ core old b. omega (arith, n.given (w.place.last + 1) core old b);
  asked = next;
}

decides_start : (events : List Done) (w w' : World) (op : Op) (answer : Answer) → Numbered events w → HappensStart w op w' answer → DecidesRightly events w (Start op) w' answer
decides_start events w w' op answer n h = by_case h.here.starts
  where
    moves : (place : CoordinatorPlace) (committed : Option Op) (told : Step) → h.place ≡ place → h.committed ≡ committed → h.told ≡ told → w' ≡ core0_moves w place w.requests committed (outgoing told place)
    moves place committed told p c t = h.next ∙ rw (p, c, t) refl

    is : (told : Step) → h.told ≡ told → answer ≡ start_told told.txn told.decided
    is told t = h.here.is_answer ∙ ap (λ (s : Step). start_told s.txn s.decided) t

    by_case : Starts (length w.peers) (newest w) w.budget w.place op h.place h.committed h.told → DecidesRightly events w (Start op) w' answer
    by_case (refused fault a p c t) = rw (is _ t) (moves w.place None _ p c t, (refl, inr (fault, a, refl)))
    by_case (unstaged f p c t) = rw (is _ t) (moves w.place None _ p c t, (refl, inl (refl, f)))
    by_case (alone a m p c t) = rw (is _ t) (let next = ap (λ (x : World). x.log) (moves _ (Some op) _ p c t) in (next, (m, rw (ap (λ (x : World). x.limits) (moves _ (Some op) _ p c t)) (next_entry w.limits w.log w'.log op _ next refl))))
    by_case (prepared a m p c t) = rw (is _ t) (prepares events w op w.requests w' n a (moves _ None _ p c t))

begins : (events : List Done) (w w' : World) (entry : ℕ) (op : Op) (place : CoordinatorPlace) (requests' : Requests) (committed : Option Op) (begun : Step) (answer : Answer) → Numbered events w
    → slice_get w.requests.waiting entry ≡ Some (Some op) → request_of (suc entry) events ≡ sent op → length w.requests.waiting ≡ length w.peers
    → requests' ≡ record { waiting = slice_set w.requests.waiting entry None; asker = asker_after (suc entry) begun.decided; decided = None }
    → w' ≡ core0_moves w place requests' committed (outgoing (record begun { reply = reply_to (suc entry) begun.decided }) place) → answer ≡ start_told begun.txn begun.decided
    → Starts (length w.peers) (newest w) w.budget w.place op place committed begun → DecidesRightly events w (StartFor (suc entry)) w' answer
begins events w w' entry op place requests' committed begun answer n its is_sent long next moves a starts = by_case starts
  where
    is : (told : Step) → begun ≡ told → answer ≡ start_told told.txn told.decided
    is told t = a ∙ ap (λ (s : Step). start_told s.txn s.decided) t

    moved : (place' : CoordinatorPlace) (committed' : Option Op) (told : Step) → place ≡ place' → committed ≡ committed' → begun ≡ told
        → w' ≡ core0_moves w place' (record { waiting = slice_set w.requests.waiting entry None; asker = asker_after (suc entry) told.decided; decided = None }) committed' (outgoing (record told { reply = reply_to (suc entry) told.decided }) place')
    moved place' committed' told p c t = moves ∙ rw (next, p, c, t) refl

    by_case : Starts (length w.peers) (newest w) w.budget w.place op place committed begun → DecidesRightly events w (StartFor (suc entry)) w' answer
    by_case (refused fault al p c t) = rw (is _ t) (op, record { waits = its; is_sent = is_sent }, ((refl, inr (fault, al, refl)), moved _ None _ p c t))
    by_case (unstaged f p c t) = rw (is _ t) (op, record { waits = its; is_sent = is_sent }, ((refl, inl (refl, f)), moved _ None _ p c t))
    by_case (alone al m p c t) = absurd (omega (arith, m, long, slice_get_within w.requests.waiting entry (Some op) its))
    by_case (prepared al m p c t) = rw (is _ t) (op, record { waits = its; is_sent = is_sent }, prepares events w op _ w' n al (moved _ None _ p c t))

decides_start_for : (limits : TableLimits) (budget : ℕ) (budgets : List ℕ) (events : List Done) (w w' : World) (i : ℕ) (answer : Answer) → After limits budget budgets events w → HappensStartFor w i w' answer → DecidesRightly events w (StartFor (suc i)) w' answer
decides_start_for limits budget budgets events w w' i answer k h =
    let long : length w.requests.waiting ≡ length w.peers = k.known.waiting_long ∙ sym k.known.cores in
    begins events w w' i h.here.starts.op h.place h.requests h.committed h.here.starts.begun answer k.numbers h.here.starts.is_waiting
    (waits_sent w (λ j. request_of (suc j) events) i h.here.starts.op k.inv2 long h.here.starts.is_waiting) long h.here.starts.next
    (h.next ∙ rw h.here.starts.tells refl) (h.here.is_answer ∙ ap (λ (s : Step). start_told s.txn s.decided) h.here.starts.tells) h.here.starts.starts

-- the vote of a core that has voted was cast on the operation
record CastAt (limits : TableLimits) (log : List Op) (last : ℕ) (op : Op) (q : Peer) (v : Vote) : Type 0 where
  short : Bool
  casts : Casts short (table limits log (length log)) q.budget op v
  voted_is : q.place.voted ≡ Some v
  last_is : q.place.last ≡ last

cast_at : (limits : TableLimits) (log : List Op) (last : ℕ) (votes : List (Option Vote)) (op : Op) (i : ℕ) (q : Peer) (v : Vote) → slice_get votes i ≡ Some (Some v) → Pair limits log (voting_on last votes op) i q → CastAt limits log last op q v
unfolding voting_on
cast_at limits log last votes op i q v at (counted vs o v' short ph st at' c is) =
    let e : vs ≡ votes = cc in let eo : o ≡ op = cc in
    let ev : v' ≡ v = (let x : slice_get votes i ≡ Some (Some v') = rw (← e) at' in cc) in
    record { short = short; casts = subst (λ (x : Vote). Casts short (table limits log (length log)) q.budget op x) ev (subst (λ (x : Op). Casts short (table limits log (length log)) q.budget x v') eo c); voted_is = is.voted_is ∙ ap (λ (x : Vote). Some x) ev; last_is = is.last_is }
cast_at limits log last votes op i q v at (asked vs o l ph st at' le is) = absurd (let e : vs ≡ votes = cc in let x : slice_get votes i ≡ Some None = rw (← e) at' in cc)
cast_at limits log last votes op i q v at (voted vs o v' short ph st at' c is) = absurd (let e : vs ≡ votes = cc in let x : slice_get votes i ≡ Some None = rw (← e) at' in cc)
cast_at limits log last votes op i q v at (at_rest ph is) = absurd cc
cast_at limits log last votes op i q v at (to_commit acks o version ph at' le fits entry is) = absurd cc
cast_at limits log last votes op i q v at (to_abort acks v' st ph at' is) = absurd cc
cast_at limits log last votes op i q v at (acked acks ph at' is) = absurd cc
cast_at limits log last votes op i q v at (finished acks ph at' is) = absurd cc

veto_holds : (short : Bool) (s : TableState) (b : ℕ) (op : Op) (v : Vote) → v ≢ vote.Yes → Casts short s b op v
    → ((v ≡ vote.NoMemory) × (veto_by v ≡ veto.NoMemory) × Allowed s b op None) ⊎ ((v ≡ vote.Budget) × (veto_by v ≡ veto.Budget) × (b < instructions (after s op)))
veto_holds short s b op vote.Yes ne c = absurd (ne refl)
veto_holds short s b op vote.Budget ne c = inr (refl, refl, c.1)
veto_holds short s b op vote.NoMemory ne c = inl (refl, refl, c.0)

-- a core that gives up a message keeps its place, budget and version
abbrev Stands : ℕ → Peer → Peer → Type 0
Stands i p q = (q.place ≡ p.place) × (q.budget ≡ p.budget) × (q.version ≡ p.version)

stands_set : (peers : List Peer) (i : ℕ) (p : Peer) (rest : List Message) → slice_get peers i ≡ Some p → Matches Stands peers (slice_set peers i (record p { up = rest }))
stands_set peers i p rest at = matches_set Stands peers i p (record p { up = rest }) at (refl, refl, refl) (λ j q ne. (refl, refl, refl))

version-send : (m : Message) (ps : List Peer) (i : ℕ) → option_map (λ (p : Peer). p.version) (slice_get (map (send m) ps) i) ≡ option_map (λ (p : Peer). p.version) (slice_get ps i)
version-send m [] i = refl
version-send m (p ∷ ps) zero = refl
version-send m (p ∷ ps) (suc i) = version-send m ps i

version-set : (ps : List Peer) (i j : ℕ) (p : Peer) (rest : List Message) → slice_get ps i ≡ Some p → option_map (λ (x : Peer). x.version) (slice_get (slice_set ps i (record p { up = rest })) j) ≡ option_map (λ (x : Peer). x.version) (slice_get ps j)
version-set ps i j p rest at = by_place (same_or_not i j)
  where
    by_place : ((i ≡ j) ⊎ (i ≡ j → ⊥)) → option_map (λ (x : Peer). x.version) (slice_get (slice_set ps i (record p { up = rest })) j) ≡ option_map (λ (x : Peer). x.version) (slice_get ps j)
    by_place (inl e) =
        subst (λ (k : ℕ). option_map (λ (x : Peer). x.version) (slice_get (slice_set ps i (record p { up = rest })) k) ≡ option_map (λ (x : Peer). x.version) (slice_get ps k)) e
        (ap (option_map (λ (x : Peer). x.version)) (get-set_same ps i (record p { up = rest }) p at) ∙ sym (ap (option_map (λ (x : Peer). x.version)) at))
    by_place (inr ne) = ap (option_map (λ (x : Peer). x.version)) (get-set_other ps i j (record p { up = rest }) ne)

decides_vote : (limits : TableLimits) (budget : ℕ) (budgets : List ℕ) (events : List Done) (w w' : World) (i txn : ℕ) (v : Vote) (short : Bool) (answer : Answer) (h : HappensUp w i w' answer) → h.m ≡ message.Vote txn v
    → VoteAt (newest w) w.place w.requests i txn v h.place h.requests h.committed h.told answer → After limits budget budgets events w → DecidesRightly events w (Take 0 (suc i) short) w' answer
decides_vote limits budget budgets events w w' i txn v short answer h m here k = by_tally here.hears.tallies
  where
    g : List Peer
    g = slice_set w.peers i (record h.peer { up = h.rest })

    votes' : List (Option Vote)
    votes' = slice_set here.hears.votes i (Some v)

    moves : (place : CoordinatorPlace) (committed : Option Op) (told : Step) → h.place ≡ place → h.committed ≡ committed → h.told ≡ told
        → w' ≡ core0_moves (gave w i h.peer h.rest) place h.requests committed (outgoing told place)
    moves place committed told p c t = h.next ∙ rw (p, c, t) refl

    is : (told : Step) → h.told ≡ told → answer ≡ TookVote txn v told.decided
    is told t = here.is_answer ∙ ap (λ (s : Step). TookVote txn v s.decided) t

    ps : Polled w g (voting_on w.place.last votes' here.hears.op)
    ps = polled w i h.peer here.hears.votes here.hears.op txn v h.rest k.inv h.is_peer here.hears.voting here.hears.on_op here.hears.first_vote (ap commitments h.oldest ∙ rw m refl)

    long : length votes' ≡ length w.peers
    long = length-slice_set here.hears.votes i (Some v) ∙ (on_vote w here.hears.votes here.hears.op k.inv here.hears.voting here.hears.on_op).long

    -- the votes that core 0 has were cast, with the events before
    heard : (j : ℕ) (x : Vote) → slice_get votes' j ≡ Some (Some x) → vote_of (suc j) txn events ≡ Some x
    heard j x at =
        let q = get_at g j (omega (arith, long, length-slice_set w.peers i (record h.peer { up = h.rest }), slice_get_within votes' j (Some x) at)) in
        let c = cast_at w.limits w.log w.place.last votes' here.hears.op j q.0 x at (ps.pairs j q.0 q.1) in
        let p = was Stands w.peers g j q.0 (stands_set w.peers i h.peer h.rest h.is_peer) q.1 in
        let last : p.0.place.last ≡ txn = sym (ap (λ (y : ParticipantPlace). y.last) p.2.0) ∙ (c.last_is ∙ sym here.hears.number) in
        subst (λ (n : ℕ). vote_of (suc j) n events ≡ Some x) last (k.known.votes j p.0 x p.1 (sym (ap (λ (y : ParticipantPlace). y.voted) p.2.0) ∙ c.voted_is))

    begun : (op : Op) × (core : ℕ) × (w.place.staged ≡ Some op) × Begun events w.place.last core op
    begun = k.numbers.under_vote here.hears.votes here.hears.voting

    begun_op : begun.0 ≡ here.hears.op
    begun_op = let x = begun.2 in let y = here.hears.on_op in cc

    begun_here : Begun events txn begun.1 here.hears.op
    begun_here = subst (λ (o : Op). Begun events txn begun.1 o) begun_op (subst (λ (n : ℕ). Begun events n begun.1 begun.0) (sym here.hears.number) begun.3)

    veto_of_least : (core : ℕ) (against : Vote) → LeastNo votes' core against → VetoedBy (vote_by events txn) (λ entry. budget_at w (suc entry)) (newest w) here.hears.op core (veto_by against)
    veto_of_least core against least =
        let q = get_at g least.entry (omega (arith, long, length-slice_set w.peers i (record h.peer { up = h.rest }), slice_get_within votes' least.entry (Some against) least.said)) in
        let c = cast_at w.limits w.log w.place.last votes' here.hears.op least.entry q.0 against least.said (ps.pairs least.entry q.0 q.1) in
        let p = was Stands w.peers g least.entry q.0 (stands_set w.peers i h.peer h.rest h.is_peer) q.1 in
        record {
          entry = least.entry;
          is_core = least.is_core;
          yes_before = λ j lt. heard j vote.Yes (least.yes_before j lt);
          against = against;
          voted = heard least.entry against least.said;
          budget = q.0.budget;
          is_budget = ap (option_map (λ (x : Peer). x.budget)) p.1 ∙ ap (λ (n : ℕ). Some n) (sym p.2.1);
          reason = veto_holds c.short (newest w) q.0.budget here.hears.op against least.not_yes c.casts;
        }

    versions : (place : CoordinatorPlace) (x : Message) (c : ℕ) → version_at (core0_moves (gave w i h.peer h.rest) place h.requests None (to_all x)) c ≡ version_at w c
    versions place x zero = refl
    versions place x (suc c) = version-send x g c ∙ version-set w.peers i c h.peer h.rest h.is_peer

    by_tally : Tallies (newest w) txn here.hears.op votes' h.place h.committed h.told → DecidesRightly events w (Take 0 (suc i) short) w' answer
    by_tally (waits n none p c t) = rw (is _ t) (let x = moves _ None _ p c t in (record { votes = votes'; entry = n; voting = ap (λ (y : World). y.place.phase) x; missing = none }, ap (λ (y : World). y.log) x))
    by_tally (commits_all all p c t) = rw (is _ t) (
      begun.1,
      here.hears.op,
      begun_here,
      ap (λ (x : World). x.log) (moves _ (Some here.hears.op) _ p c t),
      (
        rw (ap (λ (x : World). x.limits) (moves _ (Some here.hears.op) _ p c t)) (next_entry w.limits w.log w'.log here.hears.op _ (ap (λ (x : World). x.log) (moves _ (Some here.hears.op) _ p c t)) refl),
        λ j lt. (let at = get_at votes' j (omega (arith, long, lt)) in heard j vote.Yes (at.1 ∙ ap (λ (x : Option Vote). Some x) (all j at.0 at.1))),
      ),
    )
    by_tally (aborts_all core against least all p c t) = rw (is _ t) (
      begun.1,
      here.hears.op,
      begun_here,
      (ap (λ (x : World). x.log) (moves _ None _ p c t), λ n. ap (λ (x : World). version_at x n) (moves _ None _ p c t) ∙ versions (record { last = txn; phase = Acking (replicate (length votes') Bool.false); staged = None }) (message.Abort txn) n),
      subst (λ (m : TableLimits). VetoedBy (vote_by events txn) (λ entry. budget_at w (suc entry)) (table m w'.log (length w.log)) here.hears.op core (veto_by against)) (sym (ap (λ (x : World). x.limits) (moves _ None _ p c t)))
          (subst (λ (l : List Op). VetoedBy (vote_by events txn) (λ entry. budget_at w (suc entry)) (table w.limits l (length w.log)) here.hears.op core (veto_by against)) (sym (ap (λ (x : World). x.log) (moves _ None _ p c t))) (veto_of_least core against least)),
    )

decides_up : (limits : TableLimits) (budget : ℕ) (budgets : List ℕ) (events : List Done) (w w' : World) (i : ℕ) (short : Bool) (answer : Answer) → After limits budget budgets events w → HappensUp w i w' answer → DecidesRightly events w (Take 0 (suc i) short) w' answer
decides_up limits budget budgets events w w' i short answer k h = by_message h.m refl h.here
  where
    by_message : (m : Message) → h.m ≡ m → TakesUpAt (newest w) w.place w.requests i m h.place h.requests h.committed h.told answer → DecidesRightly events w (Take 0 (suc i) short) w' answer
    by_message (message.Vote txn v) e here = decides_vote limits budget budgets events w w' i txn v short answer h e here k
    by_message (message.Ack txn) e here = rw here.is_answer tt
    by_message (message.Submit op) e here = rw here.is_answer tt
    by_message m e here = absurd here

took_decides : (events : List Done) (w w' : World) (i : ℕ) (short : Bool) (answer : Answer) (m reply : Message) (version : ℕ) → Took m reply version answer → DecidesRightly events w (Take (suc i) 0 short) w' answer
took_decides events w w' i short answer (message.Prepare txn op) (message.Vote txn' v) version t = rw t tt
took_decides events w w' i short answer (message.Commit txn) reply version t = rw t tt
took_decides events w w' i short answer (message.Abort txn) reply version t = rw t tt
took_decides events w w' i short answer m reply version t = absurd t

decides_down : (events : List Done) (w w' : World) (i : ℕ) (short : Bool) (answer : Answer) → HappensDown w i short w' answer → DecidesRightly events w (Take (suc i) 0 short) w' answer
decides_down events w w' i short answer h = by_message h.m h.here
  where
    by_message : (m : Message) → TakesDownAt short (newest w) h.peer.budget h.peer.version h.peer.place h.peer.outstanding m h.place h.outstanding h.committed answer → DecidesRightly events w (Take (suc i) 0 short) w' answer
    by_message (message.Reply d) here = rw here.is_answer tt
    by_message (message.Prepare txn op) here = took_decides events w w' i short answer (message.Prepare txn op) here.reply _ here.is_answer
    by_message (message.Commit txn) here = took_decides events w w' i short answer (message.Commit txn) here.reply _ here.is_answer
    by_message (message.Abort txn) here = took_decides events w w' i short answer (message.Abort txn) here.reply _ here.is_answer
    by_message (message.Vote txn v) here = absurd here.answers
    by_message (message.Ack txn) here = absurd here.answers
    by_message (message.Submit op) here = absurd here.answers

decides_rightly : (limits : TableLimits) (budget : ℕ) (budgets : List ℕ) (events : List Done) (w w' : World) (event : Event) (answer : Answer) → After limits budget budgets events w → Happens w event w' answer → DecidesRightly events w event w' answer
decides_rightly limits budget budgets events w w' (Start op) answer k h = decides_start events w w' op answer k.numbers h
decides_rightly limits budget budgets events w w' (StartFor (suc i)) answer k h = decides_start_for limits budget budgets events w w' i answer k h
decides_rightly limits budget budgets events w w' (Submit (suc i) op) answer k h = rw h.here.is_answer tt
decides_rightly limits budget budgets events w w' (Take zero (suc i) short) answer k h = decides_up limits budget budgets events w w' i short answer k h
decides_rightly limits budget budgets events w w' (Take (suc i) zero short) answer k h = decides_down events w w' i short answer h
decides_rightly limits budget budgets events w w' (Rx core number packet floor) answer k h = rw h.here.is_answer tt
decides_rightly limits budget budgets events w w' event answer k h = absurd h

pub run_decides : (limits : TableLimits) (budget : ℕ) (budgets : List ℕ) (events : List Done) (w w' : World) (event : Event) (answer : Answer) → Run limits budget budgets events w → Happens w event w' answer → DecidesRightly events w event w' answer
run_decides limits budget budgets events w w' event answer run h = decides_rightly limits budget budgets events w w' event answer (after_run limits budget budgets events w run) h
