-- The laws of runs, from what every run keeps.
use Rattle.std.proofs.Common.{◌≡◌, ◌+◌, ◌≤◌, ◌⊎◌, inl, inr, ℕ, zero, suc, Some, List, [], ◌∷◌, ◌++◌, length, slice_get, refl, ap, sym, ◌∙◌, subst, arith, length-append, append_assoc}
use Rattle.std.specs.Prelude.{option_map}
use Rattle.std.proofs.lemmas.List.{append-nil}
use Rattle.filter_table.specs.Limits.{TableLimits}
use Rattle.filter_table.specs.declared.operation.Op.{Op}
use Rattle.filter_table.specs.declared.delivery.Kept.{Kept}
use Rattle.filter_table.specs.Tables.{table, Accepting}
use Rattle.filter_table.proofs.Tables.{table_front}
use Rattle.monitor_messages.specs.declared.message.Message.{Message}
use Rattle.monitor_messages.specs.declared.message.Message.TheVariants as message
use Rattle.filter_table.specs.declared.decision.Decision.{Decision}
use Rattle.world_events.specs.declared.event.Event.{Event}
use Rattle.world_events.specs.declared.event.Event.TheVariants.{Start, Submit, StartFor, Take, Rx}
use Rattle.world_events.specs.declared.event.Answer.{Answer}
use Rattle.world_events.specs.declared.event.Answer.TheVariants.{Delivered}
use Rattle.world_events.specs.declared.event.Done.{Done}
use Rattle.world_model.specs.Cases.{captured, TakesDownAt, Took}
use Rattle.world_model.specs.Worlds.{Peer, World, boot, version_at, newest, Happens, Runs, Run}
use Rattle.world_model.specs.Agreement.{Agrees, TellsVersions, Grows, NoStranger}
use Rattle.world_model.specs.Readings.{Request, settled, request_of}
use Rattle.world_model.specs.Decisions.{DeliversBy, Delivers, StandsAt, IsEntered, RepliesRightly, WaitsRightly}
use Rattle.world_model.proofs.Invariant.{Inv}
use Rattle.world_model.proofs.Submissions.{Inv2, taken}
use Rattle.world_model.proofs.Runs.{runs_split}
use Rattle.world_model.proofs.Moves.{event_moves}
use Rattle.world_model.proofs.Agreement.{event_inv, run_inv, run_stages, inv_no_stranger, of_core}
use Rattle.world_model.proofs.Known.{Known, run_known, known_agrees, moves_grow}
use Rattle.world_model.proofs.Followed.{waits_sent, Entered, run_entered}

pub run_agrees : (limits : TableLimits) (budget : ℕ) (budgets : List ℕ) (events : List Done) (w : World) → Run limits budget budgets events w → Agrees limits budget budgets w
run_agrees limits budget budgets events w r = known_agrees limits budget budgets events w (run_inv limits budget budgets events w r) (run_known limits budget budgets events w r)

pub run_no_stranger : (limits : TableLimits) (budget : ℕ) (budgets : List ℕ) (events : List Done) (w : World) → Run limits budget budgets events w → NoStranger w
run_no_stranger limits budget budgets events w r = inv_no_stranger w (λ j. request_of (suc j) events) (run_inv limits budget budgets events w r) (run_stages limits budget budgets events w r)

pub run_grows : (limits : TableLimits) (budget : ℕ) (budgets : List ℕ) (events : List Done) (w w' : World) (event : Event) (answer : Answer) → Run limits budget budgets events w → Happens w event w' answer → Grows w w'
run_grows limits budget budgets events w w' event answer r h = moves_grow w w' event answer (event_moves w w' event answer (run_inv limits budget budgets events w r) h)

-- Packets

runs_log : (w w' : World) (events : List Done) → Inv w → Runs w events w' → (more : List Op) × (w'.log ≡ w.log ++ more)
runs_log w w' [] inv r = ([], ap (λ (x : World). x.log) r ∙ sym (append-nil w.log))
runs_log w w' (d ∷ ds) inv r =
    let g = event_moves w r.0 d.event d.answer inv r.1 in
    let l = runs_log r.0 w' ds (event_inv w r.0 d.event d.answer inv r.1) r.2 in
    (g.log_is.0 ++ l.0, l.1 ∙ (ap (λ (x : List Op). x ++ l.0) g.log_is.1 ∙ append_assoc w.log g.log_is.0 l.0))

runs_limits : (w w' : World) (events : List Done) → Inv w → Runs w events w' → w'.limits ≡ w.limits
runs_limits w w' [] inv r = ap (λ (x : World). x.limits) r
runs_limits w w' (d ∷ ds) inv r = runs_limits r.0 w' ds (event_inv w r.0 d.event d.answer inv r.1) r.2 ∙ (event_moves w r.0 d.event d.answer inv r.1).same_limits

known_versions : (limits : TableLimits) (budget : ℕ) (budgets : List ℕ) (events : List Done) (w : World) → Known limits budget budgets events w → TellsVersions events w
known_versions limits budget budgets events w k zero v at = let e : w.version ≡ v = cc in sym e ∙ k.version0
known_versions limits budget budgets events w k (suc i) v at =
    let p = of_core (λ (p : Peer). p.version) w.peers i v (slice_get w.peers i) refl at in
    sym p.2 ∙ k.versions i p.0 p.1

pub run_limits : (limits : TableLimits) (budget : ℕ) (budgets : List ℕ) (events : List Done) (w : World) → Run limits budget budgets events w → w.limits ≡ limits
run_limits limits budget budgets events w run = (run_known limits budget budgets events w run).limits_is

pub run_versions : (limits : TableLimits) (budget : ℕ) (budgets : List ℕ) (events : List Done) (w : World) → Run limits budget budgets events w → TellsVersions events w
run_versions limits budget budgets events w run = known_versions limits budget budgets events w (run_known limits budget budgets events w run)

pub version_within : (limits : TableLimits) (budget : ℕ) (budgets : List ℕ) (w : World) (core v : ℕ) → Agrees limits budget budgets w → version_at w core ≡ Some v → v ≤ length w.log
version_within limits budget budgets w zero v a at = let e : w.version ≡ v = cc in omega (arith, a.core0)
version_within limits budget budgets w (suc i) v a at = le (a.others i v at)
  where
    le : (v ≡ length w.log) ⊎ (v + 1 ≡ length w.log) → v ≤ length w.log
    le (inl e) = omega arith
    le (inr e) = omega arith

delivers_at : (limits : TableLimits) (budget : ℕ) (budgets : List ℕ) (before : List Done) (w w' : World) (more : List Op) (event : Event) (answer : Answer) → Run limits budget budgets before w → Happens w event w' answer → DeliversBy w.limits (w.log ++ more) before event answer
delivers_at limits budget budgets before w w' more (Rx core number packet floor) answer run h =
    let v = run_versions limits budget budgets before w run core h.version h.is_version in
    let le = version_within limits budget budgets w core h.version (run_agrees limits budget budgets before w run) h.is_version in
    subst (λ (n : ℕ). (kept : List Kept) × (answer ≡ Delivered n kept) × (floor ≤ n) × (n ≤ length (w.log ++ more)) × Accepting (table w.limits (w.log ++ more) n) (captured packet) kept) v
    (h.here.kept, h.here.is_answer, h.here.above_floor, omega (arith, le, length-append w.log more), rw (table_front w.limits w.log more h.version le) h.here.accepting)
delivers_at limits budget budgets before w w' more event answer run h = tt

pub run_delivers : (limits : TableLimits) (budget : ℕ) (budgets : List ℕ) (events : List Done) (w : World) → Run limits budget budgets events w → Delivers w.limits w.log events
run_delivers limits budget budgets events w run before after done e =
    let s = runs_split (boot limits budget budgets) w before (done ∷ after) (subst (λ (xs : List Done). Run limits budget budgets xs w) e run) in
    let mid = s.2.0 in
    let inv = run_inv limits budget budgets before s.0 s.1 in
    let l = runs_log s.0 w (done ∷ after) inv s.2 in
    rw l.1 (subst (λ (m : TableLimits). DeliversBy m (s.0.log ++ l.0) before done.event done.answer) (sym (runs_limits s.0 w (done ∷ after) inv s.2)) (delivers_at limits budget budgets before s.0 mid l.0 done.event done.answer s.1 s.2.1))

-- Replies

-- a core that takes a Reply takes the decision of its one request, and stands at its version
took_reply : (w : World) (r : ℕ → Request) (i : ℕ) (p : Peer) (d : Decision) (rest : List Message) → Inv2 w r → Entered w r → slice_get w.peers i ≡ Some p → p.down ≡ message.Reply d ∷ rest
    → (op : Op) × (r i ≡ settled op d) × IsEntered w.limits w.log op d × ((version : ℕ) → version_at w (suc i) ≡ Some version → StandsAt version d)
took_reply w r i p d rest inv2 k at e =
    let t = taken w.place w.requests i p (r i) d rest e (inv2.stages i p at) in
    (t.op, t.is_settled, k.each i p t.op d at t.outstanding t.is_settled, λ version is. (let same : p.version ≡ version = (let x : Some p.version ≡ Some version = sym (ap (option_map (λ (x : Peer). x.version)) at) ∙ is in cc) in subst (λ (v : ℕ). StandsAt v d) same t.stands))

pub replies_rightly : (events : List Done) (w w' : World) (event : Event) (answer : Answer) → Inv2 w (λ j. request_of (suc j) events) → Entered w (λ j. request_of (suc j) events) → Happens w event w' answer → RepliesRightly events w event answer
replies_rightly events w w' (Take (suc i) zero short) answer inv2 k h = by_message h.m refl h.here
  where
    none : (m reply : Message) (version : ℕ) → Took m reply version answer → RepliesRightly events w (Take (suc i) zero short) answer
    none (message.Prepare txn op) (message.Vote txn' v) version t = rw t tt
    none (message.Commit txn) reply version t = rw t tt
    none (message.Abort txn) reply version t = rw t tt
    none m reply version t = absurd t

    by_message : (m : Message) → h.m ≡ m → TakesDownAt short (newest w) h.peer.budget h.peer.version h.peer.place h.peer.outstanding m h.place h.outstanding h.committed answer → RepliesRightly events w (Take (suc i) zero short) answer
    by_message (message.Reply d) e here = rw here.is_answer (took_reply w (λ j. request_of (suc j) events) i h.peer d h.rest inv2 k h.is_peer (h.oldest ∙ rw e refl))
    by_message (message.Prepare txn op) e here = none (message.Prepare txn op) here.reply _ here.is_answer
    by_message (message.Commit txn) e here = none (message.Commit txn) here.reply _ here.is_answer
    by_message (message.Abort txn) e here = none (message.Abort txn) here.reply _ here.is_answer
    by_message (message.Vote txn v) e here = absurd here.answers
    by_message (message.Ack txn) e here = absurd here.answers
    by_message (message.Submit op) e here = absurd here.answers
replies_rightly events w w' (Take (suc i) (suc j) short) answer inv2 k h = absurd h
replies_rightly events w w' (Take zero from short) answer inv2 k h = tt
replies_rightly events w w' (Start op) answer inv2 k h = tt
replies_rightly events w w' (Submit core op) answer inv2 k h = tt
replies_rightly events w w' (StartFor core) answer inv2 k h = tt
replies_rightly events w w' (Rx core number packet floor) answer inv2 k h = tt

pub run_replies : (limits : TableLimits) (budget : ℕ) (budgets : List ℕ) (events : List Done) (w w' : World) (event : Event) (answer : Answer) → Run limits budget budgets events w → Happens w event w' answer → RepliesRightly events w event answer
run_replies limits budget budgets events w w' event answer run h = replies_rightly events w w' event answer (run_stages limits budget budgets events w run) (run_entered limits budget budgets events w run) h

pub run_waits : (limits : TableLimits) (budget : ℕ) (budgets : List ℕ) (events : List Done) (w : World) → Run limits budget budgets events w → WaitsRightly events w
run_waits limits budget budgets events w run i op at = let k = run_known limits budget budgets events w run in waits_sent w (λ j. request_of (suc j) events) i op (run_stages limits budget budgets events w run) (k.waiting_long ∙ sym k.cores) at
