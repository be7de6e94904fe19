-- What an answer to a turn says.
use Rattle.std.proofs.Common.{◌≡◌, ◌≢◌, ◌∙◌, inl, inr, false, Option, Some, List, [], ◌∷◌, ◌++◌, refl, sym, ap}
use Rattle.std.specs.Prelude.{IfSome, IfNone}
use Rattle.std.proofs.lemmas.Grind.{flat_map-append}
use Rattle.std.proofs.lemmas.List.{append-nil}
use Rattle.filter_table.specs.declared.decision.Decision.{Decision}
use Rattle.rx_queue.specs.declared.job.Job.{Job}
use Rattle.rx_queue.specs.Queue.{jobs_taken}
use Rattle.world_histories.specs.declared.history.Stamped.{Stamped}
use Rattle.core_links.specs.RingSlots.{ring_view, SameLinks}
use Rattle.core_loop.specs.declared.cause.Cause.{Cause}
use Rattle.core_loop.specs.declared.cause.Turn.{Turn}
use Rattle.core_loop.specs.declared.cause.Turn.TheVariants as turn
use Rattle.core_loop.specs.Receipts.{receives}
use Rattle.core_loop.specs.Cores.{SameCore, NothingDone, DidOne, receipts}
use Rattle.core_loop.specs.Turning.{IsSpent, LacksMemory}
use Rattle.core_machine.specs.declared.recorded.RecordedTurn.{RecordedTurn}
use Rattle.core_machine.specs.declared.recorded.RecordedTurn.TheVariants as recorded
use Rattle.core_machine.specs.Machines.{RingCore}
use Rattle.core_machine.specs.Ahead.{asked}
use Rattle.core_machine.specs.Rounds.{Keeps, Idled, GoesOn, Halts, halt_of, recorded_halt_of}

-- the clauses of a turn that receives no packet
pub record Answered (answer : Turn) (old new : RingCore) : Type 0 where
  pub core : SameCore SameLinks old new
  pub requests : asked new ≡ asked old
  pub did : (s : Stamped) (d : Option Decision) → answer ≡ turn.Did s d → DidOne ring_view old new s
  pub leave : (s : Stamped) (d : Option Decision) → answer ≡ turn.Did s d → receives s.done.event ≡ []
  pub other : ((s : Stamped) (d : Option Decision) → answer ≢ turn.Did s d) → NothingDone ring_view old new
  pub stopped : (cause : Cause) → answer ≡ turn.Stopped cause → new.stopped ≡ Some cause
  pub spent : answer ≡ turn.Spent → IsSpent old.cores old.clock old.part old.pending (ring_view new.links) false new.intake
  pub lacks : answer ≡ turn.NoMemory → LacksMemory old.cores old.clock old.part old.pending (ring_view new.links) false new.intake
  pub idles : answer ≡ turn.Idle → NothingDone ring_view old new → Idled old new

-- an event that receives nothing leaves the receipts as they were
receipts_more : (old new : RingCore) (s : Stamped) → new.history ≡ old.history ++ s ∷ [] → receives s.done.event ≡ [] → receipts new.history ≡ receipts old.history
receipts_more old new s is none =
    ap receipts is ∙ flat_map-append (λ (x : Stamped). receives x.done.event) old.history (s ∷ [])
    ∙ ap (λ (l : List Job). receipts old.history ++ l) (append-nil (receives s.done.event) ∙ none) ∙ append-nil (receipts old.history)

event_keeps : (old new : RingCore) (s : Stamped) → SameCore SameLinks old new → asked new ≡ asked old → DidOne ring_view old new s → receives s.done.event ≡ [] → Keeps old new
event_keeps old new s core requests e none = record {
  same = core;
  asked_same = requests;
  history = (s ∷ [], sym e.history);
  jobs = e.jobs ∙ (ap (λ (l : List Job). jobs_taken old.intake ++ l) none ∙ append-nil (jobs_taken old.intake));
  receipts_same = receipts_more old new s e.history none;
}

quiet_keeps : (old new : RingCore) → SameCore SameLinks old new → asked new ≡ asked old → NothingDone ring_view old new → Keeps old new
quiet_keeps old new core requests n = record { same = core; asked_same = requests; history = ([], append-nil old.history ∙ sym n.history); jobs = n.jobs; receipts_same = ap receipts n.history }

pub answered_keeps : (answer : Turn) (old new : RingCore) → Answered answer old new → Keeps old new
answered_keeps (turn.Did s d) old new a = event_keeps old new s a.core a.requests (a.did s d refl) (a.leave s d refl)
answered_keeps turn.Idle old new a = quiet_keeps old new a.core a.requests (a.other (λ s d e. cc))
answered_keeps (turn.Stopped cause) old new a = quiet_keeps old new a.core a.requests (a.other (λ s d e. cc))
answered_keeps turn.Spent old new a = quiet_keeps old new a.core a.requests (a.other (λ s d e. cc))
answered_keeps turn.NoMemory old new a = quiet_keeps old new a.core a.requests (a.other (λ s d e. cc))

pub answered_none : (answer : Turn) (old new : RingCore) → Answered answer old new → IfNone (halt_of answer) (GoesOn old new)
answered_none (turn.Did s d) old new a = record { keeps = answered_keeps (turn.Did s d) old new a; turned = inl (s, a.did s d refl, a.leave s d refl) }
answered_none turn.Idle old new a = record { keeps = answered_keeps turn.Idle old new a; turned = inr (a.idles refl (a.other (λ s d e. cc))) }
answered_none (turn.Stopped cause) old new a = tt
answered_none turn.Spent old new a = tt
answered_none turn.NoMemory old new a = tt

pub answered_some : (answer : Turn) (old new : RingCore) → Answered answer old new → IfSome (halt_of answer) (λ why. Halts ⊥ why new)
answered_some (turn.Did s d) old new a = tt
answered_some turn.Idle old new a = tt
answered_some (turn.Stopped cause) old new a = (cause, a.stopped cause refl)
answered_some turn.Spent old new a = let n = a.other (λ s d e. cc) in rw (n.clock, n.part, n.pending, a.core.cores) (a.spent refl)
answered_some turn.NoMemory old new a = let n = a.other (λ s d e. cc) in rw (n.clock, n.part, n.pending, a.core.cores) (a.lacks refl)

-- the clauses of such a turn of a core that keeps a list of its events
pub record Recounted (answer : RecordedTurn) (old new : RingCore) : Type 0 where
  pub core : SameCore SameLinks old new
  pub requests : asked new ≡ asked old
  pub did : answer ≡ recorded.Did → (s : Stamped) × DidOne ring_view old new s × (receives s.done.event ≡ [])
  pub other : answer ≢ recorded.Did → NothingDone ring_view old new
  pub stopped : (cause : Cause) → answer ≡ recorded.Stopped cause → new.stopped ≡ Some cause
  pub spent : answer ≡ recorded.Spent → IsSpent old.cores old.clock old.part old.pending (ring_view new.links) false new.intake
  pub lacks : answer ≡ recorded.NoMemory → LacksMemory old.cores old.clock old.part old.pending (ring_view new.links) false new.intake
  pub idles : answer ≡ recorded.Idle → NothingDone ring_view old new → Idled old new

pub recounted_keeps : (answer : RecordedTurn) (old new : RingCore) → Recounted answer old new → Keeps old new
recounted_keeps recorded.Did old new a = let e = a.did refl in event_keeps old new e.0 a.core a.requests e.1 e.2
recounted_keeps recorded.Idle old new a = quiet_keeps old new a.core a.requests (a.other (λ e. cc))
recounted_keeps (recorded.Stopped cause) old new a = quiet_keeps old new a.core a.requests (a.other (λ e. cc))
recounted_keeps recorded.Spent old new a = quiet_keeps old new a.core a.requests (a.other (λ e. cc))
recounted_keeps recorded.NoMemory old new a = quiet_keeps old new a.core a.requests (a.other (λ e. cc))
recounted_keeps recorded.NoRoom old new a = quiet_keeps old new a.core a.requests (a.other (λ e. cc))

pub recounted_none : (answer : RecordedTurn) (old new : RingCore) → Recounted answer old new → IfNone (recorded_halt_of answer) (GoesOn old new)
recounted_none recorded.Did old new a = record { keeps = recounted_keeps recorded.Did old new a; turned = inl (a.did refl) }
recounted_none recorded.Idle old new a = record { keeps = recounted_keeps recorded.Idle old new a; turned = inr (a.idles refl (a.other (λ e. cc))) }
recounted_none (recorded.Stopped cause) old new a = tt
recounted_none recorded.Spent old new a = tt
recounted_none recorded.NoMemory old new a = tt
recounted_none recorded.NoRoom old new a = tt

pub recounted_some : (answer : RecordedTurn) (old new : RingCore) → Recounted answer old new → IfSome (recorded_halt_of answer) (λ why. Halts (Unit {0}) why new)
recounted_some recorded.Did old new a = tt
recounted_some recorded.Idle old new a = tt
recounted_some (recorded.Stopped cause) old new a = (cause, a.stopped cause refl)
recounted_some recorded.Spent old new a = let n = a.other (λ e. cc) in rw (n.clock, n.part, n.pending, a.core.cores) (a.spent refl)
recounted_some recorded.NoMemory old new a = let n = a.other (λ e. cc) in rw (n.clock, n.part, n.pending, a.core.cores) (a.lacks refl)
recounted_some recorded.NoRoom old new a = tt
