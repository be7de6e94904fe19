-- What a watcher is asked, and what it is told.
-- No public clause cites these.
use Rattle.std.specs.Prelude.{◌≡◌, ◌⊎◌, ◌++◌, ℕ, Bool, false, true, List, [], ◌∷◌, flat_map}
use mathlib.Core.List.{IsPrefix}
use Rattle.rx_queue.specs.declared.job.Job.{Job}
use Rattle.rx_queue.specs.declared.intake.Intake.{Intake}
use Rattle.rx_queue.specs.Queue.{jobs_seen, jobs_taken, SameIntake}
use Rattle.world_events.specs.declared.event.Event.{Event}
use Rattle.world_events.specs.declared.event.Event.TheVariants.{Rx}
use Rattle.world_histories.specs.declared.history.Stamped.{Stamped}
use Rattle.core_loop.specs.Cores.{CoreState}
use Rattle.core_threads.specs.declared.watcher.Question.{Question}

-- the receipt that an event is, if it is one: its core, and the number of its job
abbrev pub receipt_of : Event → List (ℕ × ℕ)
receipt_of (Rx core number packet floor) = (core, number) ∷ []
receipt_of event = []

-- the receipts of a history, in order
abbrev pub receipts_of : List Stamped → List (ℕ × ℕ)
receipts_of history = flat_map (λ s. receipt_of s.done.event) history

-- the core looked at its queue, and took nothing
pub record HasLooked (old new : Intake) : Type 0 where
  pub queue : SameIntake old new
  pub taken : jobs_taken new ≡ jobs_taken old
  pub seen : IsPrefix (jobs_seen old) (jobs_seen new)

-- the watcher was asked of this core and the job in front, where there is one; where there is none, it wasn't asked, and the answer is no
abbrev pub AsksOfFront : ℕ → List Job → Bool → List Question → List Question → Type 0
AsksOfFront core [] answer old new = (new ≡ old) × (answer ≡ false)
AsksOfFront core (job ∷ later) answer old new = new ≡ old ++ (record { core = core; number = job.number; answer = answer }) ∷ []

-- no job was taken, or just the one in front, where the answer was yes
abbrev pub TakesAsked : Bool → List Job → List Job → List Job → Type 0
TakesAsked answer seen before after = (after ≡ before) ⊎ ((job : Job) × (later : List Job) × (answer ≡ true) × (seen ≡ job ∷ later) × (after ≡ before ++ job ∷ []))

-- Before its turn the core looked at its queue, and the watcher was asked of the job in front. Where the answer was no, the turn received nothing;
-- else it received that job, or none.
pub record AsksLeave {L : Type 0} (old new : CoreState L) (old_asked new_asked : List Question) : Type 0 where
  pub queue : Intake
  pub looked : HasLooked old.intake queue
  pub answer : Bool
  pub asked : AsksOfFront old.number (jobs_seen queue) answer old_asked new_asked
  pub obeys : answer ≡ false → receipts_of new.history ≡ receipts_of old.history
  pub takes : TakesAsked answer (jobs_seen queue) (jobs_taken old.intake) (jobs_taken new.intake)
