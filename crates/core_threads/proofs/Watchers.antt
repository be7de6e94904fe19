-- What a watcher is asked and told.
use Rattle.std.proofs.Common.{◌≡◌, ◌≢◌, ◌⊎◌, inl, inr, ◌++◌, ◌∙◌, ℕ, Bool, false, true, List, [], ◌∷◌, refl, ap, subst}
use Rattle.std.proofs.lemmas.Grind.{flat_map-append}
use Rattle.std.proofs.lemmas.List.{append-nil}
use mathlib.Core.List.{IsPrefix}
use Rattle.rx_queue.specs.declared.job.Job.{Job}
use Rattle.rx_queue.specs.Queue.{jobs_seen, jobs_taken}
use Rattle.world_events.specs.declared.event.Event.{Event}
use Rattle.world_events.specs.declared.event.Event.TheVariants.{Start, Submit, StartFor, Take, Rx}
use Rattle.world_histories.specs.declared.history.Stamped.{Stamped}
use Rattle.core_links.specs.Views.{LinkView}
use Rattle.core_loop.specs.Receipts.{receives}
use Rattle.core_loop.specs.Cores.{CoreState, NothingDone, DidOne}
use Rattle.core_machine.specs.declared.recorded.RecordedTurn.{RecordedTurn}
use Rattle.core_machine.specs.declared.recorded.RecordedTurn.TheVariants.{Did, Idle, Stopped, Spent, NoMemory, NoRoom}
use Rattle.core_threads.specs.declared.watcher.Question.{Question}
use Rattle.core_threads.specs.Watchers.{receipt_of, receipts_of, AsksOfFront, TakesAsked}

-- an event that receives no job is no receipt
no_receipt : (e : Event) → receives e ≡ [] → receipt_of e ≡ []
no_receipt (Start op) none = refl
no_receipt (Submit core op) none = refl
no_receipt (StartFor core) none = refl
no_receipt (Take to from short) none = refl
no_receipt (Rx core number packet floor) none = absurd (cc)

pub receipts_more : (history : List Stamped) (s : Stamped) → receipts_of (history ++ s ∷ []) ≡ receipts_of history ++ receipt_of s.done.event
receipts_more history s = flat_map-append (λ s. receipt_of s.done.event) history (s ∷ []) ∙ ap (λ l. receipts_of history ++ l) (append-nil (receipt_of s.done.event))

pub none_received : (before : List Stamped) (s : Stamped) → receives s.done.event ≡ [] → receipts_of (before ++ s ∷ []) ≡ receipts_of before
none_received before s none = receipts_more before s ∙ ap (λ l. receipts_of before ++ l) (no_receipt s.done.event none) ∙ append-nil (receipts_of before)

-- where the answer was no, a turn receives nothing
pub obeyed : {L : Type 0} (view : L → ℕ → LinkView) (old seen new : CoreState L) (t : RecordedTurn) (rx : Bool) → seen.history ≡ old.history
    → (t ≡ Did → (s : Stamped) × DidOne view seen new s × (rx ≡ false → receives s.done.event ≡ [])) → (t ≢ Did → NothingDone view seen new)
    → rx ≡ false → receipts_of new.history ≡ receipts_of old.history
obeyed view old seen new Did rx same did other denied =
    let s = did refl in
    ap receipts_of s.1.history ∙ none_received seen.history s.0 (s.2 denied) ∙ ap receipts_of same
obeyed view old seen new Idle rx same did other denied = ap receipts_of ((other (λ is. absurd (cc))).history ∙ same)
obeyed view old seen new (Stopped cause) rx same did other denied = ap receipts_of ((other (λ is. absurd (cc))).history ∙ same)
obeyed view old seen new Spent rx same did other denied = ap receipts_of ((other (λ is. absurd (cc))).history ∙ same)
obeyed view old seen new NoMemory rx same did other denied = ap receipts_of ((other (λ is. absurd (cc))).history ∙ same)
obeyed view old seen new NoRoom rx same did other denied = ap receipts_of ((other (λ is. absurd (cc))).history ∙ same)

-- Where the answer was yes, a turn receives the job in front, or none

received : (e : Event) → (receives e ≡ []) ⊎ ((job : Job) × (receives e ≡ job ∷ []))
received (Start op) = inl refl
received (Submit core op) = inl refl
received (StartFor core) = inl refl
received (Take to from short) = inl refl
received (Rx core number packet floor) = inr (_, refl)

-- of jobs that were seen, the one that is taken is the first
front_taken : (core : ℕ) (seen rest : List Job) (job : Job) (rx : Bool) (asked now : List Question) → AsksOfFront core seen rx asked now → rx ≡ true → IsPrefix seen (job ∷ rest) → (later : List Job) × (seen ≡ job ∷ later)
front_taken core [] rest job rx asked now asks allowed first = absurd (let no = asks.1 in cc)
front_taken core (front ∷ later) rest job rx asked now asks allowed first =
    let same : (front ∷ later) ++ first.0 ≡ job ∷ rest = first.1 in
    (later, ap (λ (j : Job). j ∷ later) (let is : front ≡ job = cc in is))

yes_or_no : (rx : Bool) → (rx ≡ true) ⊎ (rx ≡ false)
yes_or_no true = inl refl
yes_or_no false = inr refl

takes_event : {L : Type 0} (view : L → ℕ → LinkView) (core : ℕ) (asked now : List Question) (seen new : CoreState L) (s : Stamped) (rx : Bool)
    → AsksOfFront core (jobs_seen seen.intake) rx asked now → DidOne view seen new s → (rx ≡ false → receives s.done.event ≡ [])
    → (receives s.done.event ≡ []) ⊎ ((job : Job) × (receives s.done.event ≡ job ∷ [])) → (rx ≡ true) ⊎ (rx ≡ false)
    → TakesAsked rx (jobs_seen seen.intake) (jobs_taken seen.intake) (jobs_taken new.intake)
takes_event view core asked now seen new s rx asks did leave (inl none) way = inl (did.jobs ∙ ap (λ l. jobs_taken seen.intake ++ l) none ∙ append-nil (jobs_taken seen.intake))
takes_event view core asked now seen new s rx asks did leave (inr one) (inr denied) = absurd (let none = leave denied in let is = one.1 in cc)
takes_event view core asked now seen new s rx asks did leave (inr one) (inl allowed) =
    let first = subst (λ (l : List Job). IsPrefix (jobs_seen seen.intake) (l ++ jobs_seen new.intake)) one.1 did.seen in
    let front = front_taken core (jobs_seen seen.intake) (jobs_seen new.intake) one.0 rx asked now asks allowed first in
    inr (one.0, front.0, allowed, front.1, did.jobs ∙ ap (λ l. jobs_taken seen.intake ++ l) one.1)

pub takes_asked : {L : Type 0} (view : L → ℕ → LinkView) (core : ℕ) (asked now : List Question) (old seen new : CoreState L) (t : RecordedTurn) (rx : Bool) → jobs_taken seen.intake ≡ jobs_taken old.intake
    → AsksOfFront core (jobs_seen seen.intake) rx asked now → (t ≡ Did → (s : Stamped) × DidOne view seen new s × (rx ≡ false → receives s.done.event ≡ [])) → (t ≢ Did → NothingDone view seen new)
    → TakesAsked rx (jobs_seen seen.intake) (jobs_taken old.intake) (jobs_taken new.intake)
takes_asked view core asked now old seen new Did rx same asks did other =
    let s = did refl in
    subst (λ (l : List Job). TakesAsked rx (jobs_seen seen.intake) l (jobs_taken new.intake)) same (takes_event view core asked now seen new s.0 rx asks s.1 s.2 (received s.0.done.event) (yes_or_no rx))
takes_asked view core asked now old seen new Idle rx same asks did other = inl ((other (λ is. absurd (cc))).jobs ∙ same)
takes_asked view core asked now old seen new (Stopped cause) rx same asks did other = inl ((other (λ is. absurd (cc))).jobs ∙ same)
takes_asked view core asked now old seen new Spent rx same asks did other = inl ((other (λ is. absurd (cc))).jobs ∙ same)
takes_asked view core asked now old seen new NoMemory rx same asks did other = inl ((other (λ is. absurd (cc))).jobs ∙ same)
takes_asked view core asked now old seen new NoRoom rx same asks did other = inl ((other (λ is. absurd (cc))).jobs ∙ same)
