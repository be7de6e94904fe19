-- The laws of runs follow from the invariant.
use Rattle.std.proofs.Common.{◌≡◌, ◌≢◌, ◌+◌, ◌⊎◌, inl, inr, ℕ, zero, suc, Bool, true, false, Option, Some, None, List, [], ◌∷◌, length, slice_get, refl, ap, sym, ◌∙◌, subst, arith}
use Rattle.std.specs.Prelude.{option_map}
use Rattle.filter_table.specs.Limits.{TableLimits}
use Rattle.filter_table.specs.declared.operation.Op.{Op}
use Rattle.filter_table.proofs.Tables.{allowed_elsewhere}
use Rattle.monitor_messages.specs.declared.message.Message.{Message}
use Rattle.monitor_messages.specs.declared.message.Message.TheVariants as message
use Rattle.filter_table.specs.declared.decision.Vote.{Vote}
use Rattle.two_phase.specs.Coordinators.{CoordinatorPlace, Phase, Idle, Voting, Acking}
use Rattle.world_events.specs.declared.event.Event.{Event}
use Rattle.world_events.specs.declared.event.Event.TheVariants.{Start, Submit, StartFor, Take, Rx}
use Rattle.world_events.specs.declared.event.Answer.{Answer}
use Rattle.world_events.specs.declared.event.Done.{Done}
use Rattle.world_model.specs.Worlds.{Peer, World, boot, newest, Happens, Runs, Run}
use Rattle.world_model.proofs.Invariant.{Pair, at_rest, asked, voted, counted, to_commit, to_abort, acked, finished, Alone, Inv, boot_inv}
use Rattle.world_model.specs.Agreement.{is_commitment, commitments, Expects, Awaits, NoStranger}
use Rattle.world_model.specs.Readings.{Request, unsent, followed, request_after, request_of}
use Rattle.world_model.proofs.Steps.{start_inv, start_for_inv, submit_inv, down_inv, up_inv}
use Rattle.world_model.proofs.Submissions.{Inv2, in_channel, taken, never_down, never_up, event_stages, boot_stages}
use Rattle.two_phase.specs.Participants.{Fits}
use Rattle.std.proofs.lemmas.Option.{slice_get_within}
use Rattle.filter_table.proofs.Positions.{get_at}

-- An event keeps the invariant

pub event_inv : (w w' : World) (event : Event) (answer : Answer) → Inv w → Happens w event w' answer → Inv w'
event_inv w w' (Start op) answer inv h = start_inv w w' op answer inv h
event_inv w w' (Submit (suc i) op) answer inv h = submit_inv w w' i op answer inv h
event_inv w w' (StartFor (suc i)) answer inv h = start_for_inv w w' i answer inv h
event_inv w w' (Take zero (suc i) short) answer inv h = up_inv w w' i answer inv h
event_inv w w' (Take (suc i) zero short) answer inv h = down_inv w w' i short answer inv h
event_inv w w' (Rx core number packet floor) answer inv h = rw h.next inv
event_inv w w' event answer inv h = absurd h

pub runs_inv : (w w' : World) (events : List Done) → Inv w → Runs w events w' → Inv w'
runs_inv w w' [] inv r = rw r inv
runs_inv w w' (d ∷ ds) inv r = runs_inv r.0 w' ds (event_inv w r.0 d.event d.answer inv r.1) r.2

pub run_inv : (limits : TableLimits) (budget : ℕ) (budgets : List ℕ) (events : List Done) (w : World) → Run limits budget budgets events w → Inv w
run_inv limits budget budgets events w r = runs_inv (boot limits budget budgets) w events (boot_inv limits budget budgets) r

-- What the invariant says of versions, budgets and rest

pub pair_version : (limits : TableLimits) (log : List Op) (place : CoordinatorPlace) (i : ℕ) (p : Peer) → Pair limits log place i p → (p.version ≡ length log) ⊎ (p.version + 1 ≡ length log)
pair_version limits log place i p (at_rest ph is) = inl is.version_is
pair_version limits log place i p (asked votes op last ph st at le is) = inl is.version_is
pair_version limits log place i p (voted votes op v short ph st at c is) = inl is.version_is
pair_version limits log place i p (counted votes op v short ph st at c is) = inl is.version_is
pair_version limits log place i p (to_commit acks op version ph at le fits entry is) = inr (omega (arith, is.version_is, le))
pair_version limits log place i p (to_abort acks v st ph at is) = inl is.version_is
pair_version limits log place i p (acked acks ph at is) = inl is.version_is
pair_version limits log place i p (finished acks ph at is) = inl is.version_is

-- what is read of a core is read of the core
pub of_core : {A : Type 0} (f : Peer → A) (peers : List Peer) (i : ℕ) (x : A) → (o : Option Peer) → slice_get peers i ≡ o → option_map f o ≡ Some x → (p : Peer) × (slice_get peers i ≡ Some p) × (f p ≡ x)
of_core f peers i x None at h = absurd cc
of_core f peers i x (Some p) at h = (p, at, cc)

-- a pair with nothing under way: core 0 is idle, or has the core's word
quiet : (limits : TableLimits) (log : List Op) (place : CoordinatorPlace) (i : ℕ) (p : Peer) → Pair limits log place i p → commitments p.down ≡ [] → commitments p.up ≡ []
    → (place.phase ≡ Idle) ⊎ (((votes : List (Option Vote)) → place.phase ≡ Voting votes → slice_get votes i ≢ Some None) × ((acks : List Bool) → place.phase ≡ Acking acks → slice_get acks i ≢ Some false))
quiet limits log place i p (at_rest ph is) d u = inl ph
quiet limits log place i p (asked votes op last ph st at le is) d u = absurd (cc (is.down_is))
quiet limits log place i p (voted votes op v short ph st at c is) d u = absurd (cc (is.up_is))
quiet limits log place i p (counted votes op v short ph st at c is) d u = inr (λ vs e none. (let same : vs ≡ votes = cc in let x : slice_get votes i ≡ Some None = rw (← same) none in cc), λ as' e none. cc)
quiet limits log place i p (to_commit acks op version ph at le fits entry is) d u = absurd (cc (is.down_is))
quiet limits log place i p (to_abort acks v st ph at is) d u = absurd (cc (is.down_is))
quiet limits log place i p (acked acks ph at is) d u = absurd (cc (is.up_is))
quiet limits log place i p (finished acks ph at is) d u = inr (λ vs e none. cc, λ as' e none. (let same : as' ≡ acks = cc in let x : slice_get acks i ≡ Some false = rw (← same) none in cc))

pub idle_if_quiet : (w : World) → Inv w → ((i : ℕ) (p : Peer) → slice_get w.peers i ≡ Some p → (commitments p.down ≡ []) × (commitments p.up ≡ [])) → w.place.phase ≡ Idle
idle_if_quiet w inv empty = by_phase w.place.phase refl
  where
    by_phase : (ph : Phase) → w.place.phase ≡ ph → w.place.phase ≡ Idle
    by_phase Idle e = e
    by_phase (Voting votes) e =
        let a = subst (λ (x : Phase). Alone (length w.peers) (newest w) w.budget x w.place.staged) e inv.alone_ok in
        let q = get_at w.peers a.1 (omega (arith, a.4, slice_get_within votes a.1 None a.5)) in
        let both = empty a.1 q.0 q.1 in
        from_quiet (quiet w.limits w.log w.place a.1 q.0 (inv.pairs a.1 q.0 q.1) both.0 both.1) (λ n. n.0 votes e a.5)
      where
        from_quiet : {B : Type 0} → (w.place.phase ≡ Idle) ⊎ B → (B → ⊥) → w.place.phase ≡ Idle
        from_quiet (inl i) no' = i
        from_quiet (inr n) no' = absurd (no' n)
    by_phase (Acking acks) e =
        let a = subst (λ (x : Phase). Alone (length w.peers) (newest w) w.budget x w.place.staged) e inv.alone_ok in
        let q = get_at w.peers a.0 (omega (arith, a.2, slice_get_within acks a.0 false a.3)) in
        let both = empty a.0 q.0 q.1 in
        from_quiet (quiet w.limits w.log w.place a.0 q.0 (inv.pairs a.0 q.0 q.1) both.0 both.1) (λ n. n.1 acks e a.3)
      where
        from_quiet : {B : Type 0} → (w.place.phase ≡ Idle) ⊎ B → (B → ⊥) → w.place.phase ≡ Idle
        from_quiet (inl i) no' = i
        from_quiet (inr n) no' = absurd (no' n)

-- No message is strange

fits_below : (w : World) (i : ℕ) (p : Peer) (m : Message) (rest : List Message) → Inv w → commitments p.down ≡ m ∷ rest → Pair w.limits w.log w.place i p → Fits (newest w) p.budget p.place m
fits_below w i p m rest inv d (asked votes op last ph st at le is) =
    let e : m ≡ message.Prepare w.place.last op = cc (d, is.down_is) in
    let a = subst (λ (o : Option Op). Alone (length w.peers) (newest w) w.budget (Voting votes) o) st (subst (λ (x : Phase). Alone (length w.peers) (newest w) w.budget x w.place.staged) ph inv.alone_ok) in
    let same : a.0 ≡ op = cc (a.2) in
    rw e (is.voted_is, omega (arith, le, is.last_is), λ fault. allowed_elsewhere (newest w) w.budget p.budget op fault (rw (← same) a.3))
fits_below w i p m rest inv d (to_commit acks op version ph at le fits entry is) =
    let e : m ≡ message.Commit w.place.last = cc (d, is.down_is) in rw e (is.voted_is, sym is.last_is)
fits_below w i p m rest inv d (to_abort acks v st ph at is) =
    let e : m ≡ message.Abort w.place.last = cc (d, is.down_is) in rw e (rw is.voted_is refl, sym is.last_is)
fits_below w i p m rest inv d (at_rest ph is) = absurd (cc (d, is.down_is))
fits_below w i p m rest inv d (voted votes op v short ph st at c is) = absurd (cc (d, is.down_is))
fits_below w i p m rest inv d (counted votes op v short ph st at c is) = absurd (cc (d, is.down_is))
fits_below w i p m rest inv d (acked acks ph at is) = absurd (cc (d, is.down_is))
fits_below w i p m rest inv d (finished acks ph at is) = absurd (cc (d, is.down_is))

expects_up : (w : World) (i : ℕ) (p : Peer) (m : Message) (rest : List Message) → commitments p.up ≡ m ∷ rest → Pair w.limits w.log w.place i p → Expects w.place w.requests i m
expects_up w i p m rest u (voted votes op v short ph st at c is) =
    let e : m ≡ message.Vote w.place.last v = cc (u, is.up_is) in rw e (votes, ph, refl, at)
expects_up w i p m rest u (acked acks ph at is) =
    let e : m ≡ message.Ack w.place.last = cc (u, is.up_is) in rw e (acks, ph, refl, at)
expects_up w i p m rest u (at_rest ph is) = absurd (cc (u, is.up_is))
expects_up w i p m rest u (asked votes op last ph st at le is) = absurd (cc (u, is.up_is))
expects_up w i p m rest u (counted votes op v short ph st at c is) = absurd (cc (u, is.up_is))
expects_up w i p m rest u (to_commit acks op version ph at le fits entry is) = absurd (cc (u, is.up_is))
expects_up w i p m rest u (to_abort acks v st ph at is) = absurd (cc (u, is.up_is))
expects_up w i p m rest u (finished acks ph at is) = absurd (cc (u, is.up_is))

-- the front of a channel, as a message of two-phase commit
front_of : (ms rest : List Message) (m : Message) → ms ≡ m ∷ rest → is_commitment m ≡ true → commitments ms ≡ m ∷ commitments rest
front_of ms rest m e known = ap commitments e ∙ rw known refl

awaits : (w : World) (r : ℕ → Request) (i : ℕ) (p : Peer) (m : Message) (rest : List Message) → Inv w → Inv2 w r → slice_get w.peers i ≡ Some p → p.down ≡ m ∷ rest → Awaits w p m
awaits w r i p (message.Reply d) rest inv inv2 at e = (taken w.place w.requests i p (r i) d rest e (inv2.stages i p at)).outstanding
awaits w r i p (message.Prepare txn op) rest inv inv2 at e = fits_below w i p (message.Prepare txn op) (commitments rest) inv (front_of p.down rest (message.Prepare txn op) e refl) (inv.pairs i p at)
awaits w r i p (message.Commit txn) rest inv inv2 at e = fits_below w i p (message.Commit txn) (commitments rest) inv (front_of p.down rest (message.Commit txn) e refl) (inv.pairs i p at)
awaits w r i p (message.Abort txn) rest inv inv2 at e = fits_below w i p (message.Abort txn) (commitments rest) inv (front_of p.down rest (message.Abort txn) e refl) (inv.pairs i p at)
awaits w r i p (message.Vote txn v) rest inv inv2 at e = fits_below w i p (message.Vote txn v) (commitments rest) inv (front_of p.down rest (message.Vote txn v) e refl) (inv.pairs i p at)
awaits w r i p (message.Ack txn) rest inv inv2 at e = fits_below w i p (message.Ack txn) (commitments rest) inv (front_of p.down rest (message.Ack txn) e refl) (inv.pairs i p at)
awaits w r i p (message.Submit op) rest inv inv2 at e = absurd (never_down w.place w.requests i p (r i) op rest e (inv2.stages i p at))

expects : (w : World) (r : ℕ → Request) (i : ℕ) (p : Peer) (m : Message) (rest : List Message) → Inv w → Inv2 w r → slice_get w.peers i ≡ Some p → p.up ≡ m ∷ rest → Expects w.place w.requests i m
expects w r i p (message.Submit op) rest inv inv2 at e = let c = in_channel w.place w.requests i p (r i) op rest e (inv2.stages i p at) in record { none_waiting = c.none_waiting; none_under_way = c.not_asking }
expects w r i p (message.Prepare txn op) rest inv inv2 at e = expects_up w i p (message.Prepare txn op) (commitments rest) (front_of p.up rest (message.Prepare txn op) e refl) (inv.pairs i p at)
expects w r i p (message.Commit txn) rest inv inv2 at e = expects_up w i p (message.Commit txn) (commitments rest) (front_of p.up rest (message.Commit txn) e refl) (inv.pairs i p at)
expects w r i p (message.Abort txn) rest inv inv2 at e = expects_up w i p (message.Abort txn) (commitments rest) (front_of p.up rest (message.Abort txn) e refl) (inv.pairs i p at)
expects w r i p (message.Vote txn v) rest inv inv2 at e = expects_up w i p (message.Vote txn v) (commitments rest) (front_of p.up rest (message.Vote txn v) e refl) (inv.pairs i p at)
expects w r i p (message.Ack txn) rest inv inv2 at e = expects_up w i p (message.Ack txn) (commitments rest) (front_of p.up rest (message.Ack txn) e refl) (inv.pairs i p at)
expects w r i p (message.Reply d) rest inv inv2 at e = absurd (never_up w.place w.requests i p (r i) d rest e (inv2.stages i p at))

pub inv_no_stranger : (w : World) (r : ℕ → Request) → Inv w → Inv2 w r → NoStranger w
inv_no_stranger w r inv inv2 = record {
  down = λ i p m rest at d. awaits w r i p m rest inv inv2 at d;
  up = λ i p m rest at u. expects w r i p m rest inv inv2 at u;
}

-- The requests of a run

runs_stages : (w w' : World) (r : ℕ → Request) (events : List Done) → Inv w → Inv2 w r → Runs w events w' → Inv2 w' (λ j. request_after (suc j) (r j) events)
runs_stages w w' r [] inv inv2 h = rw h inv2
runs_stages w w' r (d ∷ ds) inv inv2 h =
    runs_stages h.0 w' (λ j. followed (suc j) (r j) d.event d.answer) ds (event_inv w h.0 d.event d.answer inv h.1) (event_stages w h.0 r d.event d.answer inv inv2 h.1) h.2

pub run_stages : (limits : TableLimits) (budget : ℕ) (budgets : List ℕ) (events : List Done) (w : World) → Run limits budget budgets events w → Inv2 w (λ j. request_of (suc j) events)
run_stages limits budget budgets events w h = runs_stages (boot limits budget budgets) w (λ j. unsent) events (boot_inv limits budget budgets) (boot_stages limits budget budgets) h
