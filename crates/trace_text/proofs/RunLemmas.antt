-- Each event of a run of 64 cores at most can be drawn.
use Rattle.std.proofs.Common.{◌≡◌, ℕ, zero, suc, ◌<◌, Bool, Option, Some, None, List, [], ◌∷◌, ◌++◌, length, slice_get, Ok, refl, sym, ◌∙◌, subst, arith}
use Rattle.std.specs.Prelude.{map, option_map}
use Rattle.std.specs.List.{All, flat_map}
use Rattle.std.proofs.lemmas.List.Elements.{All-nil, All-cons, All-append}
use Rattle.std.proofs.lemmas.Option.{slice_get_within}
use Rattle.filter_table.specs.Limits.{TableLimits}
use Rattle.filter_table.specs.Tables.{TableState}
use Rattle.filter_table.specs.declared.operation.Op.{Op}
use Rattle.filter_table.specs.declared.decision.Decision.{Decision}
use Rattle.monitor_messages.specs.declared.message.Message.{Message}
use Rattle.monitor_messages.specs.declared.message.Message.TheVariants as message
use Rattle.two_phase.specs.declared.step.Step.{Step}
use Rattle.two_phase.specs.Participants.{ParticipantPlace}
use Rattle.two_phase.specs.Coordinators.{CoordinatorPlace, Requests}
use Rattle.world_events.specs.declared.event.Event.{Event}
use Rattle.world_events.specs.declared.event.Event.TheVariants.{Start, Submit, StartFor, Take, Rx}
use Rattle.world_events.specs.declared.event.Answer.{Answer}
use Rattle.world_events.specs.declared.event.Done.{Done}
use Rattle.world_model.specs.Cases.{start_told, raised, TakesUpAt, TakesDownAt, Took}
use Rattle.world_model.specs.Worlds.{Peer, World, newest, Happens, Run, version_at}
use Rattle.world_model.proofs.Runs.{run_keeps}
use Rattle.world_model.proofs.Known.{run_known}
use Rattle.sim_lines.specs.Events.{done_line, left_line}
use Rattle.trace_lines.specs.Traces as read
use Rattle.trace_text.specs.Reading.{IsAnswered, CanDraw, CanDrawDone, shown_done}
use Rattle.trace_text.proofs.PrintedLemmas.{events_drawn}

-- The answers

started : (op : Op) (txn : ℕ) (decided : Option Decision) → IsAnswered (Start op) (start_told txn decided)
started op txn None = tt
started op txn (Some decision) = tt

started_for : (core txn : ℕ) (decided : Option Decision) → IsAnswered (StartFor core) (start_told txn decided)
started_for core txn None = tt
started_for core txn (Some decision) = tt

took_up : (s : TableState) (place place' : CoordinatorPlace) (requests requests' : Requests) (entry from : ℕ) (short : Bool) (m : Message) (committed : Option Op) (told : Step) (answer : Answer)
    → TakesUpAt s place requests entry m place' requests' committed told answer → IsAnswered (Take zero from short) answer
took_up s place place' requests requests' entry from short (message.Vote txn v) committed told answer h = subst (IsAnswered (Take zero from short)) (sym h.is_answer) tt
took_up s place place' requests requests' entry from short (message.Ack txn) committed told answer h = subst (IsAnswered (Take zero from short)) (sym h.is_answer) tt
took_up s place place' requests requests' entry from short (message.Submit op) committed told answer h = subst (IsAnswered (Take zero from short)) (sym h.is_answer) tt
took_up s place place' requests requests' entry from short m committed told answer h = absurd h

took : (m reply : Message) (version entry from : ℕ) (short : Bool) (answer : Answer) → Took m reply version answer → IsAnswered (Take (suc entry) from short) answer
took (message.Prepare txn op) (message.Vote txn' v) version entry from short answer is = subst (IsAnswered (Take (suc entry) from short)) (sym is) tt
took (message.Commit txn) reply version entry from short answer is = subst (IsAnswered (Take (suc entry) from short)) (sym is) tt
took (message.Abort txn) reply version entry from short answer is = subst (IsAnswered (Take (suc entry) from short)) (sym is) tt
took m reply version entry from short answer is = absurd is

took_down : (s : TableState) (budget version entry from : ℕ) (short short' : Bool) (place place' : ParticipantPlace) (outstanding outstanding' : Bool) (m : Message) (committed : Option Op) (answer : Answer)
    → TakesDownAt short s budget version place outstanding m place' outstanding' committed answer → IsAnswered (Take (suc entry) from short') answer
took_down s budget version entry from short short' place place' outstanding outstanding' (message.Reply decision) committed answer h = subst (IsAnswered (Take (suc entry) from short')) (sym h.is_answer) tt
took_down s budget version entry from short short' place place' outstanding outstanding' m committed answer h = took m h.reply (raised version committed) entry from short' answer h.is_answer

-- The cores

mapped : (o : Option Peer) (version : ℕ) → option_map (λ (p : Peer). p.version) o ≡ Some version → (p : Peer) × (o ≡ Some p)
mapped None version e = absurd (cc)
mapped (Some p) version e = (p, refl)

pub at_version : (w : World) (core version : ℕ) → length w.peers < 64 → version_at w core ≡ Some version → core < 64
at_version w zero version few e = omega arith
at_version w (suc entry) version few e = let p = mapped (slice_get w.peers entry) version e in omega (arith, few, slice_get_within w.peers entry p.0 p.1)

pub can_draw : (w w' : World) (event : Event) (answer : Answer) → length w.peers < 64 → length w.requests.waiting ≡ length w.peers → Happens w event w' answer → CanDraw event (Ok answer)
can_draw w w' (Start op) answer few long h = (tt, subst (IsAnswered (Start op)) (sym h.here.is_answer) (started op h.told.txn h.told.decided))
can_draw w w' (Submit (suc entry) op) answer few long h =
    (omega (arith, few, slice_get_within w.peers entry h.peer h.is_peer), subst (IsAnswered (Submit (suc entry) op)) (sym h.here.is_answer) tt)
can_draw w w' (Submit zero op) answer few long h = absurd h
can_draw w w' (StartFor (suc entry)) answer few long h =
    (omega (arith, few, long, slice_get_within w.requests.waiting entry (Some h.here.starts.op) h.here.starts.is_waiting), subst (IsAnswered (StartFor (suc entry))) (sym h.here.is_answer) (started_for (suc entry) h.told.txn h.told.decided))
can_draw w w' (StartFor zero) answer few long h = absurd h
can_draw w w' (Take zero (suc entry) short) answer few long h =
    (omega (arith, few, slice_get_within w.peers entry h.peer h.is_peer), took_up (newest w) w.place h.place w.requests h.requests entry (suc entry) short h.m h.committed h.told answer h.here)
can_draw w w' (Take (suc entry) zero short) answer few long h =
    (omega (arith, few, slice_get_within w.peers entry h.peer h.is_peer), took_down (newest w) h.peer.budget h.peer.version entry zero short short h.peer.place h.place h.peer.outstanding h.outstanding h.m h.committed answer h.here)
can_draw w w' (Take to from short) answer few long h = absurd h
can_draw w w' (Rx core number packet floor) answer few long h = (at_version w core h.version few h.is_version, subst (IsAnswered (Rx core number packet floor)) (sym h.here.is_answer) tt)

all_can_draw : (limits : TableLimits) (budget : ℕ) (budgets : List ℕ) (events : List Done) (w : World) → length budgets < 64 → Run limits budget budgets events w → All CanDrawDone events
all_can_draw limits budget budgets events w few run = run_keeps limits budget budgets (λ events w. All CanDrawDone events) (All-nil CanDrawDone)
    (λ events w w' done run all h.
    let k = run_known limits budget budgets events w run in
    let can = can_draw w w' done.event done.answer (omega (arith, few, k.cores)) (k.waiting_long ∙ sym k.cores) h in
    All-append CanDrawDone events (done ∷ []) all (All-cons CanDrawDone done [] can (All-nil CanDrawDone)))
    events w run

pub run_drawn : (limits : TableLimits) (budget : ℕ) (budgets : List ℕ) (events : List Done) (left : List (ℕ × ℕ)) (w : World) → length budgets < 64 → Run limits budget budgets events w
    → read.trace_of (flat_map done_line events ++ flat_map (λ l. left_line l.0 l.1) left) ≡ Ok (map shown_done events)
run_drawn limits budget budgets events left w few run = events_drawn events left (all_can_draw limits budget budgets events w few run)
